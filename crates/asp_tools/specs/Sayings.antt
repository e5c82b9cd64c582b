-- What a run says on standard output. Each line has words with one space between them.
use Rattle.std.specs.Prelude.{ℕ, ℤ, List, [], ◌∷◌, ◌++◌, map, codes}
use Rattle.std.specs.List.{flat_map}
use Rattle.std.specs.Fmt.{decimal, signed_decimal}
use Rattle.asp_scan.specs.Words.{line_of}

-- a name, as it is
abbrev pub show_line : List ℕ → List ℕ
show_line name = line_of (codes "show" ∷ name ∷ [])

-- the costs, where there is a level
abbrev pub cost_lines : List ℤ → List ℕ
cost_lines [] = []
cost_lines (cost ∷ costs) = line_of (codes "cost" ∷ map signed_decimal (cost ∷ costs))

-- the names that are shown and the costs
abbrev pub seen_lines : List (List ℕ) → List ℤ → List ℕ
seen_lines names costs = flat_map show_line names ++ cost_lines costs

abbrev pub accepted_text : List (List ℕ) → List ℤ → List ℕ
accepted_text names costs = line_of (codes "accepted" ∷ []) ++ seen_lines names costs

abbrev pub rejected_clause_text : ℕ → List ℕ
rejected_clause_text place = line_of (codes "rejected" ∷ codes "clause" ∷ decimal place ∷ [])

abbrev pub rejected_cycle_text : List ℤ → List ℕ
rejected_cycle_text nodes =
    line_of (codes "rejected" ∷ codes "cycle" ∷ map signed_decimal nodes)

abbrev pub no_model_text : List ℕ
no_model_text = line_of (codes "no" ∷ codes "model" ∷ codes "given" ∷ [])

abbrev pub stable_text : List (List ℕ) → List ℤ → List ℕ
stable_text names costs = line_of (codes "stable" ∷ []) ++ seen_lines names costs

abbrev pub broken_rule_text : ℕ → List ℕ
broken_rule_text place = line_of (codes "broken" ∷ codes "rule" ∷ decimal place ∷ [])

abbrev pub broken_requirement_text : ℕ → List ℕ
broken_requirement_text place = line_of (codes "broken" ∷ codes "requirement" ∷ decimal place ∷ [])

abbrev pub unfounded_text : List ℕ → List ℕ
unfounded_text atoms = line_of (codes "unfounded" ∷ map decimal atoms)

abbrev pub cycle_text : List ℤ → List ℕ
cycle_text nodes = line_of (codes "cycle" ∷ map signed_decimal nodes)
