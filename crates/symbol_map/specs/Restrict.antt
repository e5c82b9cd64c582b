-- What an assignment says of atoms, through a map.
use Rattle.std.specs.Prelude.{ℕ, ℤ, ◌&&◌, ◌==◌, List}
use Rattle.std.specs.List.{list_any}
use Rattle.asp_base.specs.Sets.{Set}
use Rattle.ground_program.specs.Stable.{names_of, costs_of}
use Rattle.clause_store.specs.Models.{is_true}
use Rattle.symbol_map.specs.declared.map.Place.{Place}
use Rattle.symbol_map.specs.Symbols.{Symbols}

-- the atoms whose literal is true
abbrev pub atoms_true : List Place → Set → Set
atoms_true places A a = list_any (λ place. (place.atom == a) && is_true place.lit A) places

abbrev pub restrict : Symbols → Set → Set
restrict m A = atoms_true m.atoms A

abbrev pub names : Symbols → Set → List (List ℕ)
names m A = names_of m.shows A

abbrev pub costs : Symbols → Set → List ℤ
costs m A = costs_of m.levels A
