-- What is true of every map.
use Rattle.std.specs.Prelude.{ℕ, pos, ◌<◌, ◌≤◌, ◌^◌, ◌-◌, List, [], ◌∷◌, ⊤}
use Rattle.std.specs.List.{AllByRecursion}
use Rattle.asp_base.specs.Literal.{atom_of}
use Rattle.ground_program.specs.Facts.{IsAtom, IsShort, IsPriority, FallsFrom, LevelFits, ShowFits}
use Rattle.symbol_map.specs.declared.map.Place.{Place}
use Rattle.symbol_map.specs.Symbols.{Symbols}

-- the atoms of places rise
abbrev pub PlacesRise : ℕ → List Place → Type 0
PlacesRise low [] = ⊤
PlacesRise low (place ∷ places) = (low < place.atom) × PlacesRise place.atom places

-- one of the variables 1 to n
abbrev pub IsVariable : ℕ → ℕ → Type 0
IsVariable n v = (0 < v) × (v ≤ n)

pub record IsMap (m : Symbols) : Type 0 where
  pub vars : m.vars ≤ 2 ^ 31 - 1
  pub atoms_rise : PlacesRise 0 m.atoms
  pub atoms : AllByRecursion
      (λ place. IsAtom place.atom × IsVariable m.vars (atom_of place.lit)) m.atoms
  pub shows : AllByRecursion (ShowFits (IsVariable m.vars)) m.shows
  pub levels : AllByRecursion
      (λ level. IsShort level.items × LevelFits (IsVariable m.vars) level) m.levels
  pub priorities : FallsFrom (pos (2 ^ 31)) m.levels
  pub priorities_fit : AllByRecursion (λ level. IsPriority level.priority) m.levels
