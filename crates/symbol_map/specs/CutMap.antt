-- A map with the places of some atoms only: what stands for a program with more atoms, seen at
-- those of another one.
use Rattle.std.specs.Prelude.{◌≡◌, ℕ, List, map}
use Rattle.std.specs.List.{filter}
use Rattle.asp_base.specs.Sets.{members, Within}
use Rattle.ground_program.specs.Ground.{Ground}
use Rattle.rising_numbers.specs.Rising.{RisesFrom}
use Rattle.symbol_map.specs.Symbols.{Symbols}

abbrev pub cut_map : List ℕ → Symbols → Symbols
cut_map atoms m = record m { atoms = filter (λ place. members atoms place.atom) m.atoms }

-- Q has the atoms of P, and maybe more, and its priorities. Atoms rise, as in every program.
pub record KeepsAtoms (P Q : Ground) : Type 0 where
  pub rise : RisesFrom 0 P.atoms
  pub rise_too : RisesFrom 0 Q.atoms
  pub atoms : Within (members P.atoms) (members Q.atoms)
  pub priorities : map (λ level. level.priority) Q.levels ≡ map (λ level. level.priority) P.levels
