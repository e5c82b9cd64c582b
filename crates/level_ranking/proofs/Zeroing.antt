-- The loop over the digits that are to be 0: what is still to be done leads to the whole.
use Rattle.std.proofs.Common.{◌≡◌, sym, ◌∙◌, ap, subst, ℕ, suc, ◌≤◌, ◌<◌, List, [], ◌∷◌, ◌++◌, map, length, drop, get_or, Option, Some, None, append_assoc}
use Rattle.std.proofs.Math.Seq.{drop-cons}
use Rattle.std.proofs.lemmas.List.{drop_all, append-nil}
use Rattle.std.specs.List.{AllByRecursion}
use Rattle.asp_base.specs.Literal.{Literal, negation}
use Rattle.clause_store.specs.Facts.{IsOver}
use Rattle.clause_store.specs.Stored.{Stored, with_clause, with_clauses}
use Rattle.asp_base.proofs.Each.{each-get, each-append}
use Rattle.clause_store.proofs.GateLaws.{negation-over}
use Rattle.level_ranking.specs.Encoding.{body_list, negated_body}

abbrev pub zero_clause : Option Literal → Literal → List Literal
zero_clause body l = negated_body body ++ (negation l ∷ [])

pub record Zeroing (own : List Literal) (body : Option Literal) (first now : Stored) (i : ℕ) : Type 0 where
  pub store : with_clauses (map (zero_clause body) (drop i own)) now ≡ with_clauses (map (zero_clause body) (drop 1 own)) first
  pub vars : now.vars ≡ first.vars

pub zeroing-next : (own : List Literal) (body : Option Literal) (first now : Stored) (i j : ℕ) (l : Literal) → j ≡ suc i → i < length own → l ≡ get_or own i l → Zeroing own body first now i
    → Zeroing own body first (with_clause (zero_clause body l) now) j
zeroing-next own body first now i j l q h e z =
    let d : drop i own ≡ l ∷ drop (suc i) own = drop-cons own i l h ∙ ap (λ x. x ∷ drop (suc i) own) (sym e) in
    rw q (record {
      store = ap (λ cs. record now { hard = cs }) (append_assoc now.hard (zero_clause body l ∷ []) (map (zero_clause body) (drop (suc i) own)))
          ∙ (sym (ap (λ ls. with_clauses (map (zero_clause body) ls) now) d) ∙ z.store);
      vars = z.vars;
    })

pub zeroing-done : (own : List Literal) (body : Option Literal) (first now : Stored) (i : ℕ) → length own ≤ i → Zeroing own body first now i → now ≡ with_clauses (map (zero_clause body) (drop 1 own)) first
zeroing-done own body first now i h z =
    let d : drop i own ≡ [] = drop_all i own h in
    ap (λ cs. record now { hard = cs }) (sym (append-nil now.hard)) ∙ (ap (λ ls. with_clauses (map (zero_clause body) ls) now) (sym d) ∙ z.store)

pub negated-over : (n : ℕ) (body : Option Literal) → AllByRecursion (IsOver n) (body_list body) → AllByRecursion (IsOver n) (negated_body body)
negated-over n None o = tt
negated-over n (Some l) o = (negation-over l n o.0, tt)

pub zero_clause-over : (n m : ℕ) (own : List Literal) (body : Option Literal) (i : ℕ) (l : Literal) → m ≡ n → AllByRecursion (IsOver n) own → AllByRecursion (IsOver n) (body_list body) → i < length own → l ≡ get_or own i l
    → AllByRecursion (IsOver m) (zero_clause body l)
zero_clause-over n m own body i l e o b h r = rw e
    (each-append (IsOver n) (negated_body body) (negation l ∷ []) (negated-over n body b)
    (negation-over l n (subst (IsOver n) (sym r) (each-get (IsOver n) own i l h o)), tt))
