-- A program in the form that smodels text has: a rule without head gets an atom that is required to
-- be false, a choice over a weight body gets an atom for the body, and a name that is not shown by
-- one atom gets one.
use Rattle.std.specs.Prelude.{ℕ, suc, ◌+◌, ℤ, pos, int_lt, Bool, true, false, not, cond, if◌then◌else◌, List, [], ◌∷◌, ◌++◌, map, reverse}
use Rattle.std.specs.List.{list_any, filter}
use Rattle.asp_base.specs.Literal.{Literal, Pos, is_positive, atom_of}
use Rattle.ground_program.specs.Fresh.{new_atom}
use Rattle.ground_program.specs.Ground.{Ground}
use Rattle.ground_program.specs.Stable.{is_headless}
use Rattle.ground_program.specs.declared.program.Head.{Head}
use Rattle.ground_program.specs.declared.program.Head.TheVariants.{Nothing, One, Choice}
use Rattle.ground_program.specs.declared.program.Body.{Body}
use Rattle.ground_program.specs.declared.program.Body.TheVariants.{All, Sum}
use Rattle.ground_program.specs.declared.program.Rule.{Rule}
use Rattle.ground_program.specs.declared.program.Show.{Show}
use Rattle.smodels_format.specs.Parts.{Parts, program_of_parts}

-- ---- bodies: the negative literals first

abbrev pub negatives_first : List Literal → List Literal
negatives_first lits = filter (λ l. not (is_positive l)) lits ++ filter is_positive lits

abbrev pub items_negatives_first : List (Literal × ℤ) → List (Literal × ℤ)
items_negatives_first items =
    filter (λ item. not (is_positive item.0)) items ++ filter (λ item. is_positive item.0) items

-- a bound below 0 is written as 0
abbrev pub at_least_zero : ℤ → ℤ
at_least_zero bound = cond (int_lt bound (pos 0)) (pos 0) bound

abbrev pub body_in_order : Body → Body
body_in_order (All lits) = All (negatives_first lits)
body_in_order (Sum bound items) = Sum (at_least_zero bound) (items_negatives_first items)

-- ---- what needs a new atom

abbrev pub body_draws : Body → ℕ
body_draws (All lits) = 0
body_draws (Sum bound items) = 1

-- how many new atoms a rule needs: a choice over a weight body needs one
abbrev pub rule_draws : Head → Body → ℕ
rule_draws Nothing body = 0
rule_draws (One a) body = 0
rule_draws (Choice as_) body = body_draws body

-- the index of the next new atom behind the rules
abbrev pub after_rules : ℕ → List Rule → ℕ
after_rules n [] = n
after_rules n (rule ∷ rules) = after_rules (n + rule_draws rule.head rule.body) rules

-- a condition that is one positive literal, and its atom
abbrev pub is_single : List Literal → Bool
is_single (Pos a ∷ []) = true
is_single _ = false

abbrev pub single_atom : List Literal → ℕ
single_atom (Pos a ∷ []) = a
single_atom _ = 0

-- ---- rules and shows, with the new atoms by their index, and the one that is the head of the
-- rules without head

module _ (new : ℕ → ℕ) (refuted : ℕ) where
  -- a choice; over a weight body, the rule of a new atom, and the choice over this atom
  abbrev pub choice_lowered : ℕ → List ℕ → Body → List Rule
  choice_lowered n as_ (All lits) =
      record { head = Choice as_; body = body_in_order (All lits) } ∷ []
  choice_lowered n as_ (Sum bound items) =
      record { head = One (new n); body = body_in_order (Sum bound items) }
      ∷ record { head = Choice as_; body = All (Pos (new n) ∷ []) }
      ∷ []

  abbrev pub rule_lowered : ℕ → Head → Body → List Rule
  rule_lowered n Nothing body = record { head = One refuted; body = body_in_order body } ∷ []
  rule_lowered n (One a) body = record { head = One a; body = body_in_order body } ∷ []
  rule_lowered n (Choice as_) body = choice_lowered n as_ body

  abbrev pub rules_lowered : ℕ → List Rule → List Rule
  rules_lowered n [] = []
  rules_lowered n (rule ∷ rules) =
      rule_lowered n rule.head rule.body ++ rules_lowered (n + rule_draws rule.head rule.body) rules

module _ (new : ℕ → ℕ) where
  -- the atoms that stand for the conditions of shows, with the names
  abbrev pub symbols_from : ℕ → List Show → List (ℕ × List ℕ)
  symbols_from n [] = []
  symbols_from n (show ∷ shows) =
      if is_single show.condition
      then ((single_atom show.condition, show.name) ∷ symbols_from n shows)
      else ((new n, show.name) ∷ symbols_from (suc n) shows)

  -- the rules of the new ones among them
  abbrev pub show_rules : ℕ → List Show → List Rule
  show_rules n [] = []
  show_rules n (show ∷ shows) =
      if is_single show.condition
      then show_rules n shows
      else (record { head = One (new n); body = body_in_order (All show.condition) }
      ∷ show_rules (suc n) shows)

-- ---- the parts

abbrev pub has_headless : Ground → Bool
has_headless P = list_any (λ rule. is_headless rule.head) P.rules

-- the first new atom is drawn for the rules without head, where there is one
abbrev pub first_index : Ground → ℕ
first_index P = cond (has_headless P) 1 0

abbrev pub atoms_required : (Literal → Bool) → List Literal → List ℕ
atoms_required test lits = map atom_of (filter test lits)

abbrev pub parts_of : Ground → Parts
parts_of P =
    let new : ℕ → ℕ = new_atom P.atoms in
    let start : ℕ = first_index P in
    let behind : ℕ = after_rules start P.rules in
    record {
      rules = rules_lowered new (new 0) start P.rules ++ show_rules new behind P.shows;
      sums = map (λ level. items_negatives_first level.items) (reverse P.levels);
      symbols = symbols_from new behind P.shows;
      plus = atoms_required is_positive P.required;
      minus =
          atoms_required (λ l. not (is_positive l)) P.required
          ++ cond (has_headless P) (new 0 ∷ []) [];
    }

-- the program that stands for P in smodels text
abbrev pub lowered : Ground → Ground
lowered P = program_of_parts (parts_of P)
