-- The aspif text of a program.
use Rattle.std.specs.Prelude.{ℕ, zero, suc, ◌^◌, nat_le, ℤ, cond, not, List, [], ◌∷◌, ◌++◌, length, take, drop, codes}
use Rattle.std.specs.List.{flat_map, filter}
use Rattle.std.specs.Fmt.{decimal, signed_decimal}
use Rattle.asp_base.specs.Literal.{Literal}
use Rattle.asp_base.specs.Sets.{members}
use Rattle.asp_scan.specs.Words.{line_of}
use Rattle.statement_fields.specs.FieldWords.{literal_words, item_words, atom_words}
use Rattle.ground_program.specs.Ground.{Ground}
use Rattle.ground_program.specs.Occurrences.{atoms_of_parts}
use Rattle.ground_program.specs.declared.program.Head.{Head}
use Rattle.ground_program.specs.declared.program.Head.TheVariants.{Nothing, One, Choice}
use Rattle.ground_program.specs.declared.program.Body.{Body}
use Rattle.ground_program.specs.declared.program.Body.TheVariants.{All, Sum}
use Rattle.ground_program.specs.declared.program.Rule.{Rule}
use Rattle.ground_program.specs.declared.program.Edge.{Edge}
use Rattle.ground_program.specs.declared.program.Level.{Level}
use Rattle.ground_program.specs.declared.program.Show.{Show}

-- ---- rules

abbrev pub head_words : Head → List (List ℕ)
head_words Nothing = codes "0" ∷ codes "0" ∷ []
head_words (One a) = codes "0" ∷ codes "1" ∷ decimal a ∷ []
head_words (Choice as_) = codes "1" ∷ atom_words as_

abbrev pub body_words : Body → List (List ℕ)
body_words (All lits) = codes "0" ∷ literal_words lits
body_words (Sum bound items) = codes "1" ∷ signed_decimal bound ∷ item_words items

abbrev pub rule_line : Rule → List ℕ
rule_line rule = line_of (codes "1" ∷ (head_words rule.head ++ body_words rule.body))

-- ---- lists that one statement cannot hold

-- parts of so many entries, the last one of as many or fewer
abbrev pub parts_within : {A : Type 0} → ℕ → ℕ → List A → List (List A)
parts_within zero most xs = []
parts_within (suc more) most xs =
    let rest : List (List _) = parts_within more most (drop most xs) in
    cond (nat_le (length xs) most) (xs ∷ []) (take most xs ∷ rest)

-- as many entries as a statement may have, in each part; an empty list is one part
abbrev pub parts : {A : Type 0} → List A → List (List A)
parts xs = parts_within (suc (length xs)) (2 ^ 24) xs

-- ---- the other statements

abbrev pub level_line : ℤ → List (Literal × ℤ) → List ℕ
level_line priority items = line_of (codes "2" ∷ signed_decimal priority ∷ item_words items)

abbrev pub level_lines : Level → List ℕ
level_lines level = flat_map (level_line level.priority) (parts level.items)

-- the name may have blanks, so its length comes first
abbrev pub show_line : Show → List ℕ
show_line show =
    line_of (codes "4" ∷ decimal (length show.name) ∷ show.name ∷ literal_words show.condition)

abbrev pub edge_line : Edge → List ℕ
edge_line edge =
    line_of
    (codes "8" ∷ signed_decimal edge.from ∷ signed_decimal edge.to ∷ literal_words edge.condition)

abbrev pub required_line : List Literal → List ℕ
required_line lits = line_of (codes "6" ∷ literal_words lits)

-- no statement where nothing is required
abbrev pub required_lines : List Literal → List ℕ
required_lines [] = []
required_lines (l ∷ lits) = flat_map required_line (parts (l ∷ lits))

-- an atom that occurs nowhere else is external and false
abbrev pub external_line : ℕ → List ℕ
external_line a = line_of (codes "5" ∷ decimal a ∷ codes "2" ∷ [])

-- the atoms that occur in no part of the program
abbrev pub idle_atoms : Ground → List ℕ
idle_atoms P = filter (λ a. not (members (atoms_of_parts P) a)) P.atoms

-- ---- the text

abbrev pub aspif_text : Ground → List ℕ
aspif_text P =
    line_of (codes "asp" ∷ codes "1" ∷ codes "0" ∷ codes "0" ∷ [])
    ++ (flat_map rule_line P.rules
    ++ (flat_map level_lines P.levels
    ++ (flat_map show_line P.shows
    ++ (flat_map edge_line P.edges
    ++ (required_lines P.required
    ++ (flat_map external_line (idle_atoms P)
    ++ line_of (codes "0" ∷ [])))))))
