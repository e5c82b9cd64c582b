use Rattle.std.proofs.Common.{◌≡◌, ◌∙◌, ap, sym, not, List, ℕ, Bool, ◌++◌, drop, [], arith}
use Rattle.std.specs.List.{filter}
use Rattle.std.proofs.lemmas.Result.{IfOk-weaker}
use Rattle.std.proofs.lemmas.List.{append-nil, drop_all}
use Rattle.rising_numbers.specs.Rising.{rising}
use Rattle.stable_check.specs.private.Parts.{flagged}
use Rattle.stable_check.proofs.VerdictLaws.{rising-filter}
use Rattle.stable_check.proofs.checking.not_flagged.Goals as goal

pub returns : goal.returns
returns c =
    let p : ℕ → Bool = λ a. not (flagged c.args.atoms.now c.args.flags.now a) in
    let rest : List ℕ = c.loop-atom.rest.items in
    let past : drop c.loop-atom.atom-index c.atoms-members.result.now ≡ [] = drop_all c.loop-atom.atom-index c.atoms-members.result.now (omega arith) in
    let all : rest ≡ filter p c.args.set.now =
    sym (append-nil rest) ∙ ap (λ xs. rest ++ filter p xs) (sym past) ∙ c.loop-atom.invariant ∙ ap (filter p) c.atoms-members.ensures.atoms in
    IfOk-weaker c.of_vec.result _ _
    (λ set e. e ∙ ap rising all ∙ rising-filter p c.args.set.now c.atoms-members.ensures.ascending)
    c.of_vec.ensures
