-- Whether a set is a stable model of a program, and if not, why.
use Rattle.std.specs.Prelude.{◌≡◌, ◌≢◌, ℕ, suc, Bool, cond, not, List, [], ◌∷◌, Option, Some, None}
use Rattle.std.specs.List.{filter}
use Rattle.std.specs.Option.{option_map}
use Rattle.asp_base.specs.Literal.{literal_holds}
use Rattle.asp_base.specs.Sets.{Set, members}
use Rattle.asp_base.specs.Walks.{Acyclic}
use Rattle.graph_cycles.specs.Cycle.{IsCycle}
use Rattle.ground_program.specs.Broken.{breaks}
use Rattle.ground_program.specs.Ground.{Ground}
use Rattle.ground_program.specs.Stable.{least, joined}
use Rattle.stable_check.specs.declared.verdict.Verdict.{Verdict}
use Rattle.stable_check.specs.declared.verdict.Verdict.TheVariants as verdicts

-- the place of the first entry that passes, from 1
abbrev pub first_where : {A : Type 0} → (A → Bool) → List A → Option ℕ
first_where test [] = None
first_where test (x ∷ xs) = cond (test x) (Some 1) (option_map (λ n. suc n) (first_where test xs))

-- the first rule whose body holds at the set and whose head does not
abbrev pub first_broken : Ground → Set → Option ℕ
first_broken P M = first_where (λ rule. breaks rule M) P.rules

-- the first required literal that does not hold
abbrev pub first_failing : Ground → Set → Option ℕ
first_failing P M = first_where (λ l. not (literal_holds l M M)) P.required

-- the atoms of the set that are not in the least model of the reduct by it
abbrev pub unfounded : Ground → List ℕ → List ℕ
unfounded P atoms = filter (λ a. not (least P (members atoms) a)) atoms

-- no rule is broken, and no required literal fails
pub record IsKept (P : Ground) (M : Set) : Type 0 where
  pub rules : first_broken P M ≡ None
  pub required : first_failing P M ≡ None

-- that, and each atom of the set is in the least model
pub record IsFounded (P : Ground) (atoms : List ℕ) : Type 0 where
  pub kept : IsKept P (members atoms)
  pub none : unfounded P atoms ≡ []

-- The verdict on the set of these atoms: the first that applies.
abbrev pub VerdictIs : Ground → List ℕ → Verdict → Type 0
VerdictIs P atoms (verdicts.BrokenRule place) = first_broken P (members atoms) ≡ Some place
VerdictIs P atoms (verdicts.BrokenRequirement place) =
    (first_broken P (members atoms) ≡ None) × (first_failing P (members atoms) ≡ Some place)
VerdictIs P atoms (verdicts.Unfounded set) =
    IsKept P (members atoms) × (set ≡ unfounded P atoms) × (set ≢ [])
VerdictIs P atoms (verdicts.Cycle walk) =
    IsFounded P atoms × IsCycle (joined P.edges (members atoms)) walk
VerdictIs P atoms verdicts.Stable = IsFounded P atoms × Acyclic (joined P.edges (members atoms))
