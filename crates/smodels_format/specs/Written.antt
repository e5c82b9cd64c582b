-- The smodels text of a program.
use Rattle.std.specs.Prelude.{ℕ, ℤ, not, List, [], ◌∷◌, ◌++◌, map, length, codes}
use Rattle.std.specs.List.{flat_map, filter}
use Rattle.std.specs.Fmt.{decimal, signed_decimal}
use Rattle.asp_base.specs.Literal.{Literal, is_positive, atom_of}
use Rattle.asp_scan.specs.Words.{line_of}
use Rattle.statement_fields.specs.FieldWords.{atom_words}
use Rattle.ground_program.specs.Ground.{Ground}
use Rattle.ground_program.specs.declared.program.Head.{Head}
use Rattle.ground_program.specs.declared.program.Head.TheVariants.{Nothing, One, Choice}
use Rattle.ground_program.specs.declared.program.Body.{Body}
use Rattle.ground_program.specs.declared.program.Body.TheVariants.{All, Sum}
use Rattle.ground_program.specs.declared.program.Rule.{Rule}
use Rattle.smodels_format.specs.Parts.{Parts}
use Rattle.smodels_format.specs.Lowering.{parts_of}

-- how many literals, how many of them are negative
abbrev pub count_words : List Literal → List (List ℕ)
count_words lits =
    decimal (length lits) ∷ decimal (length (filter (λ l. not (is_positive l)) lits)) ∷ []

-- their atoms, in order: the negative ones stand first
abbrev pub plain_words : List Literal → List (List ℕ)
plain_words lits = map (λ l. decimal (atom_of l)) lits

abbrev pub literals_of : List (Literal × ℤ) → List Literal
literals_of items = map (λ item. item.0) items

-- the literals, and then their weights
abbrev pub item_words : List (Literal × ℤ) → List (List ℕ)
item_words items =
    count_words (literals_of items)
    ++ (plain_words (literals_of items) ++ map (λ item. signed_decimal item.1) items)

abbrev pub body_words : List Literal → List (List ℕ)
body_words lits = count_words lits ++ plain_words lits

-- a basic rule, a weight rule, a choice; a program in the form of this text has no other
abbrev pub rule_words : Head → Body → List (List ℕ)
rule_words (One a) (All lits) = codes "1" ∷ decimal a ∷ body_words lits
rule_words (One a) (Sum bound items) =
    codes "5" ∷ decimal a ∷ signed_decimal bound ∷ item_words items
rule_words (Choice as_) (All lits) = codes "3" ∷ (atom_words as_ ++ body_words lits)
rule_words (Choice as_) (Sum bound items) = []
rule_words Nothing body = []

abbrev pub rule_line : Rule → List ℕ
rule_line rule = line_of (rule_words rule.head rule.body)

abbrev pub sum_line : List (Literal × ℤ) → List ℕ
sum_line items = line_of (codes "6" ∷ codes "0" ∷ item_words items)

abbrev pub symbol_line : ℕ × List ℕ → List ℕ
symbol_line symbol = line_of (decimal symbol.0 ∷ symbol.1 ∷ [])

abbrev pub atom_line : ℕ → List ℕ
atom_line a = line_of (decimal a ∷ [])

abbrev pub word_line : List ℕ → List ℕ
word_line word = line_of (word ∷ [])

abbrev pub text_of_parts : Parts → List ℕ
text_of_parts parts =
    flat_map rule_line parts.rules
    ++ (flat_map sum_line parts.sums
    ++ (word_line (codes "0")
    ++ (flat_map symbol_line parts.symbols
    ++ (word_line (codes "0")
    ++ (word_line (codes "B+")
    ++ (flat_map atom_line parts.plus
    ++ (word_line (codes "0")
    ++ (word_line (codes "B-")
    ++ (flat_map atom_line parts.minus
    ++ (word_line (codes "0")
    ++ word_line (codes "1")))))))))))

abbrev pub smodels_text : Ground → List ℕ
smodels_text P = text_of_parts (parts_of P)
