-- Sets that rules close.
use Rattle.std.specs.Prelude.{pos, ◌≤ℤ◌, List}
use Rattle.std.specs.List.{AllByRecursion}
use Rattle.asp_base.specs.Sets.{Set, Within}
use Rattle.ground_program.specs.Stable.{step}
use Rattle.ground_program.specs.declared.program.Body.{Body}
use Rattle.ground_program.specs.declared.program.Body.TheVariants.{All, Sum}
use Rattle.ground_program.specs.declared.program.Rule.{Rule}

-- no weight is negative
abbrev pub HasWeights : Body → Type 0
HasWeights (All lits) = Unit {0}
HasWeights (Sum bound items) = AllByRecursion (λ item. pos 0 ≤ℤ item.1) items

abbrev pub Weighed : List Rule → Type 0
Weighed rules = AllByRecursion (λ rule. HasWeights rule.body) rules

-- what the rules derive from the set stands in it
abbrev pub Closed : List Rule → Set → Set → Type 0
Closed rules M X = Within (step rules M X) X
