-- The statements for the parts of a program, in two lists.
use Rattle.std.specs.Prelude.{ℕ, List, [], ◌∷◌, ◌++◌, codes}
use Rattle.std.specs.List.{flat_map}
use Rattle.asp_scan.specs.Words.{line_of}
use Rattle.ground_program.specs.Ground.{Ground}
use Rattle.aspif_format.specs.Written.{rule_line, level_lines, show_line, edge_line, required_lines}

abbrev pub last_parts_text : Ground → List ℕ
last_parts_text P =
    flat_map show_line P.shows ++ (flat_map edge_line P.edges ++ required_lines P.required)

-- the header, and the statements for all parts
abbrev pub parts_text : Ground → List ℕ
parts_text P =
    line_of (codes "asp" ∷ codes "1" ∷ codes "0" ∷ codes "0" ∷ [])
    ++ (flat_map rule_line P.rules ++ (flat_map level_lines P.levels ++ last_parts_text P))
