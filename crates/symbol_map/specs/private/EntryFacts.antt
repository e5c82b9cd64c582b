-- What is true of every entry of a map, and what an entry adds.
use Rattle.std.specs.Prelude.{ℕ, [], ◌∷◌, ◌++◌}
use Rattle.asp_base.specs.Literal.{atom_of}
use Rattle.ground_program.specs.Facts.{IsAtom, IsShort, IsPriority, LevelFits, ShowFits}
use Rattle.ground_program.specs.declared.program.Level.{Level}
use Rattle.symbol_map.specs.declared.entry.Entry.{Entry}
use Rattle.symbol_map.specs.declared.entry.Entry.TheVariants.{Atom, Shown, Leveled}
use Rattle.symbol_map.specs.declared.map.Place.{Place}
use Rattle.symbol_map.specs.IsMap.{IsVariable}
use Rattle.symbol_map.specs.Symbols.{Symbols}

abbrev pub PlaceFits : ℕ → Place → Type 0
PlaceFits vars place = IsAtom place.atom × IsVariable vars (atom_of place.lit)

-- the level's priority has 32 bits
abbrev pub LevelOver : ℕ → Level → Type 0
LevelOver vars level =
    IsPriority level.priority × (IsShort level.items × LevelFits (IsVariable vars) level)

abbrev pub EntryFits : ℕ → Entry → Type 0
EntryFits vars (Atom place) = PlaceFits vars place
EntryFits vars (Shown show) = ShowFits (IsVariable vars) show
EntryFits vars (Leveled level) = LevelOver vars level

-- the entry behind those of a map
abbrev pub put : Entry → Symbols → Symbols
put (Atom place) m = record m { atoms = m.atoms ++ (place ∷ []) }
put (Shown show) m = record m { shows = m.shows ++ (show ∷ []) }
put (Leveled level) m = record m { levels = m.levels ++ (level ∷ []) }
