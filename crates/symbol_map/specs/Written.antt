-- The text of a map: a header, a line for each place, show and level, and the end.
use Rattle.std.specs.Prelude.{ℕ, List, [], ◌∷◌, ◌++◌, length, codes}
use Rattle.std.specs.List.{flat_map}
use Rattle.std.specs.Fmt.{decimal, signed_decimal}
use Rattle.asp_scan.specs.Words.{line_of}
use Rattle.statement_fields.specs.FieldWords.{literal_word, literal_words, item_words}
use Rattle.ground_program.specs.declared.program.Level.{Level}
use Rattle.ground_program.specs.declared.program.Show.{Show}
use Rattle.symbol_map.specs.declared.map.Form.{Form}
use Rattle.symbol_map.specs.declared.map.Form.TheVariants.{Cnf, Ecnf, Wcnf}
use Rattle.symbol_map.specs.declared.map.Place.{Place}
use Rattle.symbol_map.specs.Symbols.{Symbols}

abbrev pub form_word : Form → List ℕ
form_word Cnf = codes "cnf"
form_word Ecnf = codes "ecnf"
form_word Wcnf = codes "wcnf"

abbrev pub header_line : Symbols → List ℕ
header_line m = line_of (codes "map" ∷ codes "1" ∷ form_word m.form ∷ decimal m.vars ∷ [])

abbrev pub place_line : Place → List ℕ
place_line place = line_of (codes "atom" ∷ decimal place.atom ∷ literal_word place.lit ∷ [])

-- the name may have blanks, so its length comes first
abbrev pub show_line : Show → List ℕ
show_line show =
    line_of (codes "show" ∷ decimal (length show.name) ∷ show.name ∷ literal_words show.condition)

abbrev pub level_line : Level → List ℕ
level_line level = line_of (codes "level" ∷ signed_decimal level.priority ∷ item_words level.items)

abbrev pub map_text : Symbols → List ℕ
map_text m =
    header_line m
    ++ (flat_map place_line m.atoms
    ++ (flat_map show_line m.shows
    ++ (flat_map level_line m.levels
    ++ line_of (codes "end" ∷ []))))
