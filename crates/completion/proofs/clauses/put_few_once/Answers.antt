use Rattle.std.proofs.Common.{◌≡◌, ◌∙◌, sym, ap, subst, ◌<◌, ◌+◌, cond, [], ◌∷◌, ◌++◌, append_assoc, take, drop, arith, Vec, Global}
use Rattle.asp_base.specs.Literal.{Literal, atom_of}
use Rattle.completion.specs.Completion.{each_once}
use Rattle.std.specs.List.{AllByRecursion}
use Rattle.std.proofs.lemmas.List.{take-append-drop}
use Rattle.asp_base.proofs.Each.{each-front}
use Rattle.completion.proofs.EachOnce.{has, each_once-next, has-each_once, has-found_among}
use Rattle.std.proofs.lemmas.Bool.{cond-true, cond-false}
use Rattle.completion.proofs.clauses.put_few_once.Goals as goal
use Rattle.completion.proofs.clauses.put_few_once.Goals.{then-not-contains+in_ok-push, else-not-contains}

pub loop-i-preserved : goal.loop-i-preserved
loop-i-preserved c =
    let x = c.index-lits-i.result in
    let lits = c.args.lits.now in
    let i = c.loop-i.i in
    let once = each_once (take i lits) in
    let next : each_once (take (i + 1) lits) ≡ cond (has once x) once (once ++ (x ∷ [])) = each_once-next lits i x (omega arith) c.index-lits-i.is in
    let found : c.contains.result ≡ has once x =
    c.contains.ensures.value ∙ has-found_among (take i lits) x (each-front (λ l. 0 < atom_of l) (take i lits) (drop i lits) (subst (λ ls. AllByRecursion (λ l. 0 < atom_of l) ls) (sym (take-append-drop i lits)) c.requires)) ∙ sym (has-each_once (take i lits) x) in
    elim c.if-not-contains.branch [
      | then-not-contains+in_ok-push w ↦
          ap (λ (v : Vec Literal Global). v.items) w.clause-is
          ∙ w.in_ok-push.ensures.items
          ∙ ap (λ ys. ys ++ (x ∷ [])) c.loop-i.invariant
          ∙ append_assoc c.args.clause.now.items once (x ∷ [])
          ∙ ap (λ ys. c.args.clause.now.items ++ ys) (sym (next ∙ cond-false (has once x) _ _ (sym found ∙ w.if-not-contains.true)))
      | else-not-contains w ↦
          ap (λ (v : Vec Literal Global). v.items) w.clause-is
          ∙ c.loop-i.invariant
          ∙ ap (λ ys. c.args.clause.now.items ++ ys) (sym (next ∙ cond-true (has once x) _ _ (sym found ∙ w.if-not-contains.false)))
    ]
