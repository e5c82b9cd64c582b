-- The parts that a verdict is found by.
use Rattle.std.specs.Prelude.{ℕ, ℤ, Bool, ◌&&◌, List, map}
use Rattle.std.specs.List.{filter}
use Rattle.asp_base.specs.Literal.{all_hold}
use Rattle.asp_base.specs.Sets.{Set, members}
use Rattle.ground_program.specs.declared.program.Edge.{Edge}
use Rattle.stable_check.specs.private.Lack.{flag}

-- the ends of the edges whose condition holds
abbrev pub pairs : List Edge → Set → List (ℤ × ℤ)
pairs edges M =
    map (λ edge. (edge.from, edge.to)) (filter (λ edge. all_hold edge.condition M M) edges)

-- the atom is one of these, and its flag stands
abbrev pub flagged : List ℕ → List Bool → Set
flagged atoms flags a = members atoms a && flag atoms flags a
