-- Fields as they are written: each number is a word.
use Rattle.std.specs.Prelude.{ℕ, ℤ, List, [], ◌∷◌, map, length}
use Rattle.std.specs.List.{flat_map}
use Rattle.std.specs.Fmt.{decimal, signed_decimal}
use Rattle.asp_base.specs.Literal.{Literal, integer_of}

abbrev pub literal_word : Literal → List ℕ
literal_word l = signed_decimal (integer_of l)

-- how many literals, and they
abbrev pub literal_words : List Literal → List (List ℕ)
literal_words lits = decimal (length lits) ∷ map literal_word lits

-- how many items, and each literal with its weight
abbrev pub item_words : List (Literal × ℤ) → List (List ℕ)
item_words items =
    decimal (length items)
    ∷ flat_map (λ item. literal_word item.0 ∷ signed_decimal item.1 ∷ []) items

-- how many atoms, and they
abbrev pub atom_words : List ℕ → List (List ℕ)
atom_words atoms = decimal (length atoms) ∷ map decimal atoms

-- each word behind a blank
abbrev pub spaced_before : List (List ℕ) → List ℕ
spaced_before words = flat_map (λ word. 32 ∷ word) words
