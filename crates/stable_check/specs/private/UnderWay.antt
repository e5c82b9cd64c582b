-- What is true while the least model grows.
use Rattle.std.specs.Prelude.{◌≡◌, ◌⊎◌, ℕ, true, List, map, get_or}
use Rattle.std.specs.List.{AllByRecursion}
use Rattle.rising_numbers.specs.Rising.{RisesFrom}
use Rattle.asp_base.specs.Sets.{Set, members, none, Within}
use Rattle.ground_program.specs.Stable.{head_has, grown}
use Rattle.ground_program.specs.declared.program.Rule.{Rule}
use Rattle.stable_check.specs.private.Lack.{lack}
use Rattle.stable_check.specs.private.Growth.{Growing}

-- what the rule with this index may derive stands in the set
abbrev pub IsMet : List Rule → Set → Set → ℕ → Type 0
IsMet rules M X r = (rule : Rule) → rule ≡ get_or rules r rule → Within (head_has rule.head M) X

-- The atoms that were derived so far lie in the least model of the reduct by M. What the rules lack
-- is what they lack with them, and each rule that lacks nothing is met, or ready, or waits
-- otherwise.
pub record IsUnderWay (atoms : List ℕ) (rules : List Rule) (M : Set) (waits : ℕ → Type 0)
    (g : Growing) : Type 0 where
  pub rise : RisesFrom 0 atoms
  pub so_far : Set
  pub derived : g.derived ≡ map so_far atoms
  pub lacks : g.counts.lacks ≡ map (lack so_far M) rules
  pub met : (r : ℕ) → get_or g.counts.lacks r 1 ≡ 0 → (members g.counts.ready r ≡ true)
      ⊎ (waits r ⊎ IsMet rules M so_far r)
  pub ready : AllByRecursion (λ r. get_or g.counts.lacks r 1 ≡ 0) g.counts.ready
  pub sound : Within so_far (grown rules M none)
