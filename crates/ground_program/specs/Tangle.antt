-- How much there is to say of the positive recursion of a program: sums over its cyclic components.
use Rattle.std.specs.Prelude.{◌≡◌, ℕ, ◌+◌, ◌*◌, ◌==◌, Bool, true, false, not, ◌&&◌, ◌||◌, cond, List, length}
use Rattle.std.specs.List.{AllByRecursion, IsDistinct, list_any, list_all, flat_map, sum_by, filter}
use Rattle.asp_base.specs.Sets.{members}
use Rattle.asp_base.specs.Walks.{Reaches}
use Rattle.ground_program.specs.Dependencies.{depends, positives_of_body}
use Rattle.ground_program.specs.Occurrences.{atoms_of_head}
use Rattle.ground_program.specs.Room.{term}
use Rattle.ground_program.specs.declared.program.Head.{Head}
use Rattle.ground_program.specs.declared.program.Head.TheVariants.{Nothing, One, Choice}
use Rattle.ground_program.specs.declared.program.Body.{Body}
use Rattle.ground_program.specs.declared.program.Body.TheVariants.{All, Sum}
use Rattle.ground_program.specs.declared.program.Rule.{Rule}

-- ---- cyclic components

-- A strongly connected component that has a cycle: each of its atoms depends on each of them by a
-- walk of one step or more, and so do no other atoms with them.
pub record IsCyclicComponent (rules : List Rule) (atoms : List ℕ) : Type 0 where
  pub some : (a : ℕ) × (members atoms a ≡ true)
  pub connected : (a b : ℕ) → members atoms a ≡ true → members atoms b ≡ true
      → Reaches (depends rules) a b
  pub whole : (a b : ℕ) → members atoms a ≡ true
      → Reaches (depends rules) a b → Reaches (depends rules) b a → members atoms b ≡ true

-- All cyclic components, and no atom twice.
pub record AreCyclicComponents (rules : List Rule) (parts : List (List ℕ)) : Type 0 where
  pub each : AllByRecursion (IsCyclicComponent rules) parts
  pub all : (a : ℕ) → Reaches (depends rules) a a → list_any (λ part. members part a) parts ≡ true
  pub once : IsDistinct (λ a b. a == b) (flat_map (λ part. part) parts)

-- ---- their measures

-- a rule with a head in the component
abbrev pub enters : List ℕ → Rule → Bool
enters part rule = list_any (λ a. members part a) (atoms_of_head rule.head)

-- how many positive literals of the body are over the component
abbrev pub occurrences : List ℕ → Rule → ℕ
occurrences part rule = length (filter (λ a. members part a) (positives_of_body rule.body))

-- the rules of the component with their positive literals over it
abbrev pub links : List Rule → List ℕ → ℕ
links rules part = sum_by (λ rule. cond (enters part rule) (1 + occurrences part rule) 0) rules

abbrev pub part_pairs : List Rule → List ℕ → ℕ
part_pairs rules part = length part * (length part + links rules part)

-- pairs of an atom with an atom, a rule or a positive literal of its component
abbrev pub pairs : List Rule → List (List ℕ) → ℕ
pairs rules parts = sum_by (part_pairs rules) parts

abbrev pub is_one : Head → Bool
is_one Nothing = false
is_one (One a) = true
is_one (Choice as_) = false

abbrev pub is_all : Body → Bool
is_all (All lits) = true
is_all (Sum bound items) = false

-- one head atom, and all literals of the body asked
abbrev pub is_basic : Rule → Bool
is_basic rule = is_one rule.head && is_all rule.body

abbrev pub all_basic : List Rule → List ℕ → Bool
all_basic rules part = list_all (λ rule. not (enters part rule) || is_basic rule) rules

-- the atoms of a component and the room of its rules
abbrev pub part_room : List Rule → List ℕ → ℕ
part_room rules part = length part + sum_by (λ rule. cond (enters part rule) (term rule) 0) rules

abbrev pub part_tangle : List Rule → List ℕ → ℕ
part_tangle rules part =
    cond (all_basic rules part) (part_pairs rules part)
    (part_room rules part * part_room rules part)

-- what the pairs may be of a program of normal rules that stands for this one
abbrev pub tangle : List Rule → List (List ℕ) → ℕ
tangle rules parts = sum_by (part_tangle rules) parts
