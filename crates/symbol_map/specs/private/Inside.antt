-- What the fields of a map stand for.
use Rattle.symbol_map.specs.Symbols.{Symbols}
use Rattle.symbol_map.specs.declared.map.SymbolMap.TheInside.{Inside}

abbrev pub symbols_of : Inside → Symbols
symbols_of m =
    record { form = m.form; vars = m.vars; atoms = m.atoms; shows = m.shows; levels = m.levels }
