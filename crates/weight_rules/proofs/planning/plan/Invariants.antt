use Rattle.std.proofs.Common.{◌-◌, ◌<◌, ◌≤◌, ◌++◌, ℤ, List}
use Rattle.ground_program.specs.Radix.{number_of}
use Rattle.weight_rules.specs.Plan.{Follows}
use Rattle.weight_rules.proofs.planning.plan.Given as goal

-- what follows from here on follows, behind what was found so far, from the start on
abbrev pub invariant-levels : goal.invariant-levels
invariant-levels l = record {
  base_least : 0 < l.base;
  base_most : l.base ≤ number_of l.bound;
  top_most : l.top ≤ number_of l.bound;
  rest : (radices tares : List ℤ) (top : ℤ)
      → Follows l.items (number_of l.bound) radices tares l.base l.top top
      → Follows l.items (number_of l.bound) (l.radices ++ radices) (l.tares ++ tares) 1
      (number_of l.bound) top;
}

abbrev pub decreases-levels : goal.decreases-levels
decreases-levels l = number_of l.bound - l.base
