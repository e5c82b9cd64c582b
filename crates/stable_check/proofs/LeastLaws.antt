-- The least model by the flags of a set, and by the set.
use Rattle.std.proofs.Common.{◌≡◌, ◌∙◌, ap, ℕ, ◌-◌, Bool, true, false, List, map, get_or}
use Rattle.std.specs.List.{AllByRecursion}
use Rattle.asp_base.specs.Sets.{Set, members, none}
use Rattle.ground_program.specs.Facts.{Among, RuleFits}
use Rattle.rising_numbers.specs.Rising.{RisesFrom}
use Rattle.rising_numbers.specs.Rising.{place}
use Rattle.ground_program.specs.Stable.{grown}
use Rattle.ground_program.specs.declared.program.Rule.{Rule}
use Rattle.stable_check.specs.private.Lack.{flag}
use Rattle.stable_check.proofs.BodyLaws.{grown-agrees}
use Rattle.asp_base.proofs.Each.{each, map-same}
use Rattle.stable_check.proofs.PlaceLaws.{get-at_place}

pub flag-is : (atoms : List ℕ) (flags : List Bool) (M : Set) → RisesFrom 0 atoms → flags ≡ map M atoms → (a : ℕ) → members atoms a ≡ true → flag atoms flags a ≡ M a
flag-is atoms flags M rise e a m = ap (λ fs. get_or fs (place atoms a - 1) false) e ∙ get-at_place 0 atoms M a false rise m

pub least-by_flags : (atoms : List ℕ) (rules : List Rule) (flags : List Bool) (M : Set) → RisesFrom 0 atoms → AllByRecursion (RuleFits (Among atoms)) rules → flags ≡ map M atoms →
    map (grown rules (flag atoms flags) none) atoms ≡ map (grown rules M none) atoms
least-by_flags atoms rules flags M rise fit e =
    map-same (grown rules (flag atoms flags) none) (grown rules M none) atoms
    (each _ (grown-agrees atoms (flag atoms flags) M (flag-is atoms flags M rise e) rules fit) atoms)
