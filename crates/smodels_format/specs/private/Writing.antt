-- The parts of an smodels text as they are written, one behind another.
use Rattle.std.specs.Prelude.{ℕ, suc, ℤ, Bool, not, cond, if◌then◌else◌, List, [], ◌∷◌, ◌++◌, Option, None, Some, codes}
use Rattle.std.specs.List.{list_any, flat_map}
use Rattle.std.specs.Fmt.{decimal, signed_decimal}
use Rattle.asp_base.specs.Literal.{Literal, is_positive, atom_of}
use Rattle.ground_program.specs.Ground.{Ground}
use Rattle.ground_program.specs.Stable.{is_headless}
use Rattle.ground_program.specs.declared.program.Head.TheVariants.{One}
use Rattle.ground_program.specs.declared.program.Body.TheVariants.{All}
use Rattle.ground_program.specs.declared.program.Rule.{Rule}
use Rattle.ground_program.specs.declared.program.Show.{Show}
use Rattle.smodels_format.specs.declared.sign.Sign.{Sign}
use Rattle.smodels_format.specs.declared.sign.Sign.TheVariants.{Negative, Positive}
use Rattle.smodels_format.specs.Lowering.{is_single, single_atom, body_in_order, after_rules, rules_lowered}
use Rattle.smodels_format.specs.Written.{rule_line, symbol_line, atom_line, word_line}

-- the atoms of a program, and how many new atoms were drawn
pub record Drawing : Type 0 where
  pub atoms : List ℕ
  pub drawn : ℕ

abbrev pub has_sign : Sign → Literal → Bool
has_sign Negative l = not (is_positive l)
has_sign Positive l = is_positive l

-- what stands for a literal among the atoms of the literals of a sign, and for an item among their
-- weights
abbrev pub atom_piece : Sign → Literal → List ℕ
atom_piece sign l = cond (has_sign sign l) (32 ∷ decimal (atom_of l)) []

abbrev pub weight_piece : Sign → Literal × ℤ → List ℕ
weight_piece sign item = cond (has_sign sign item.0) (32 ∷ signed_decimal item.1) []

-- the atoms that stand for the conditions of shows: one for each
abbrev pub symbol_atoms : (ℕ → ℕ) → ℕ → List Show → List ℕ
symbol_atoms new n [] = []
symbol_atoms new n (show ∷ shows) =
    if is_single show.condition
    then (single_atom show.condition ∷ symbol_atoms new n shows)
    else (new n ∷ symbol_atoms new (suc n) shows)

-- the index of the next new atom behind the shows
abbrev pub after_shows : ℕ → List Show → ℕ
after_shows n [] = n
after_shows n (show ∷ shows) = after_shows (cond (is_single show.condition) n (suc n)) shows

-- the atoms with the names of the shows for which they stand
abbrev pub with_names : List ℕ → List Show → List (ℕ × List ℕ)
with_names (a ∷ atoms) (show ∷ shows) = (a, show.name) ∷ with_names atoms shows
with_names _ _ = []

-- the rule of an atom that stands for a condition
abbrev pub condition_rule : ℕ → Show → List Rule
condition_rule a show =
    cond (is_single show.condition) []
    (record { head = One a; body = body_in_order (All show.condition) } ∷ [])

abbrev pub condition_rules : List ℕ → List Show → List Rule
condition_rules (a ∷ atoms) (show ∷ shows) = condition_rule a show ++ condition_rules atoms shows
condition_rules _ _ = []

-- what stands for a required literal among those of a sign
abbrev pub required_line : Sign → Literal → List ℕ
required_line sign l = cond (has_sign sign l) (atom_line (atom_of l)) []

-- ---- parts of the text

-- the new atom that is the head of the rules without head, where there is one
abbrev pub refuted_atom : (ℕ → ℕ) → ℕ → List Rule → Option ℕ
refuted_atom new n rules = cond (list_any (λ rule. is_headless rule.head) rules) (Some (new n)) None

-- the index of the next new atom behind it
abbrev pub after_refuted : ℕ → List Rule → ℕ
after_refuted n rules = cond (list_any (λ rule. is_headless rule.head) rules) (suc n) n

abbrev pub refuted_line : Option ℕ → List ℕ
refuted_line None = []
refuted_line (Some a) = atom_line a

abbrev pub rule_part : (ℕ → ℕ) → ℕ → ℕ → Ground → List ℕ
rule_part new refuted n P =
    flat_map rule_line (rules_lowered new refuted n P.rules)
    ++ flat_map rule_line
    (condition_rules (symbol_atoms new (after_rules n P.rules) P.shows) P.shows)

-- the symbol table between the ends of the rules and of its own
abbrev pub symbol_part : List (ℕ × List ℕ) → List ℕ
symbol_part symbols =
    word_line (codes "0") ++ (flat_map symbol_line symbols ++ word_line (codes "0"))

-- the required literals of both signs
abbrev pub required_part : List Literal → Option ℕ → List ℕ
required_part lits refuted =
    word_line (codes "B+")
    ++ (flat_map (λ l. required_line Positive l) lits
    ++ (word_line (codes "0")
    ++ (word_line (codes "B-")
    ++ (flat_map (λ l. required_line Negative l) lits
    ++ (refuted_line refuted
    ++ word_line (codes "0"))))))
