-- An assignment that makes every clause of a formula true, and whose edges have no cycle, is a model of it.
use Rattle.std.proofs.Common.{◌≡◌, refl, sym, ◌∙◌, ap, ℕ, zero, suc, ◌<◌, Bool, true, false, List, [], ◌∷◌, length, Option, None, Some, arith}
use Rattle.std.specs.Option.{option_map}
use Rattle.std.proofs.lemmas.Bool.{true≢false, and_from, cond-true, cond-false}
use Rattle.asp_base.specs.Literal.{Literal}
use Rattle.asp_base.specs.Sets.{Set}
use Rattle.asp_base.specs.Walks.{Acyclic}
use Rattle.clause_store.specs.Assigned.{true_in, value_at}
use Rattle.clause_store.specs.Clauses.{Clauses}
use Rattle.clause_store.specs.Models.{IsModel, IsAssignment, clause_true, clauses_true, first_false, linked}

all-true : (clauses : List (List Literal)) (A : Set) → first_false clauses A ≡ None → clauses_true clauses A ≡ true
all-true [] A h = refl
all-true (clause ∷ clauses) A h = by (clause_true clause A) refl (first_false clauses A) refl (λ none. all-true clauses A none)
  where
    by : (b : Bool) → clause_true clause A ≡ b → (more : Option ℕ) → first_false clauses A ≡ more → (first_false clauses A ≡ None → clauses_true clauses A ≡ true) → clauses_true (clause ∷ clauses) A ≡ true
    by false e more f rest = absurd (let one : Some 1 ≡ None = sym (cond-false (clause_true clause A) (option_map (λ n. suc n) (first_false clauses A)) (Some 1) e) ∙ h in cc)
    by true e None f rest = and_from _ _ e (rest f)
    by true e (Some n) f rest =
        absurd (let later : Some (suc n) ≡ None = sym (cond-true (clause_true clause A) (option_map (λ n. suc n) (first_false clauses A)) (Some 1) e ∙ ap (option_map (λ n. suc n)) f) ∙ h in cc)

within-values : (values : List Bool) (n : ℕ) → value_at values n ≡ true → n < length values
within-values [] n h = absurd (true≢false (sym h))
within-values (value ∷ values) zero h = omega arith
within-values (value ∷ values) (suc n) h = omega (arith, within-values values n h)

over-values : (values : List Bool) (vars : ℕ) → length values ≡ vars → IsAssignment vars (true_in values)
over-values values vars e zero h = absurd (true≢false (sym h))
over-values values vars e (suc n) h = (omega arith, omega (arith, e, within-values values n h))

pub IsModel-from_true : (F : Clauses) (values : List Bool) → length values ≡ F.vars → Acyclic (linked F.edges (true_in values)) → first_false F.hard (true_in values) ≡ None
    → IsModel F (true_in values)
IsModel-from_true F values vars acyclic h = record {
  over = over-values values F.vars vars;
  clauses = all-true F.hard (true_in values) h;
  acyclic = acyclic;
}
