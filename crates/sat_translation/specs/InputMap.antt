-- The map of a formula over a program's atoms: variable i stands for the i-th atom.
use Rattle.std.specs.Prelude.{ℕ, List, map, ℤ}
use Rattle.asp_base.specs.Literal.{Literal, Pos}
use Rattle.rising_numbers.specs.Rising.{place}
use Rattle.ground_program.specs.Ground.{Ground}
use Rattle.ground_program.specs.Occurrences.{over_variables}
use Rattle.ground_program.specs.declared.program.Level.{Level}
use Rattle.ground_program.specs.declared.program.Show.{Show}
use Rattle.symbol_map.specs.declared.map.Form.TheVariants.{Cnf}
use Rattle.symbol_map.specs.declared.map.Place.{Place}
use Rattle.symbol_map.specs.Symbols.{Symbols}

-- an atom at the variable of its place among the atoms
abbrev pub placed : List ℕ → ℕ → Place
placed atoms a = record { atom = a; lit = Pos (place atoms a) }

abbrev pub literals_over : List ℕ → List Literal → List Literal
literals_over atoms lits = map (over_variables atoms) lits

abbrev pub show_over : List ℕ → Show → Show
show_over atoms show = record { name = show.name; condition = literals_over atoms show.condition }

abbrev pub items_over : List ℕ → List (Literal × ℤ) → List (Literal × ℤ)
items_over atoms items = map (λ item. (over_variables atoms item.0, item.1)) items

abbrev pub level_over : List ℕ → Level → Level
level_over atoms level = record { priority = level.priority; items = items_over atoms level.items }

-- with the places of these of the program's atoms, for a formula of so many variables
abbrev pub input_map : Ground → List ℕ → ℕ → Symbols
input_map P kept vars = record {
  form = Cnf;
  vars = vars;
  atoms = map (placed P.atoms) kept;
  shows = map (show_over P.atoms) P.shows;
  levels = map (level_over P.atoms) P.levels;
}
