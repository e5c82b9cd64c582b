-- What the fields of a map's draft stand for.
use Rattle.symbol_map.specs.Symbols.{Symbols}
use Rattle.symbol_map.specs.declared.draft.Draft.TheInside.{Inside}

abbrev pub drafted : Inside → Symbols
drafted d =
    record { form = d.form; vars = d.vars; atoms = d.atoms; shows = d.shows; levels = d.levels }
