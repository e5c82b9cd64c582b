-- Strong level rankings as clauses: binary digits for each atom of a cyclic component, and gates
-- that compare them (T. Janhunen and I. Niemelä, Compact translations of non-disjunctive answer set
-- programs to propositional clauses, 2011).
use Rattle.std.specs.Prelude.{ℕ, ◌+◌, Bool, false, cond, ◌==◌, List, [], ◌∷◌, ◌++◌, map, length, drop, Option, Some, None}
use Rattle.std.specs.List.{list_any, filter}
use Rattle.asp_base.specs.Literal.{Literal, Pos, Neg, negation}
use Rattle.asp_base.specs.Sets.{Set, members, once}
use Rattle.rising_numbers.specs.Rising.{place}
use Rattle.ground_program.specs.Digits.{digits}
use Rattle.ground_program.specs.Ground.{Ground}
use Rattle.ground_program.specs.declared.program.Body.{Body}
use Rattle.ground_program.specs.declared.program.Body.TheVariants.{All, Sum}
use Rattle.ground_program.specs.declared.program.Head.{Head}
use Rattle.ground_program.specs.declared.program.Head.TheVariants.{Nothing, One, Choice}
use Rattle.ground_program.specs.declared.program.Rule.{Rule}
use Rattle.clause_store.specs.Stored.{Stored, with_clause, with_clauses, conjunction, after_conjunction}
use Rattle.completion.specs.Completion.{is_empty, body_literals, completed}
use Rattle.digit_gates.specs.DigitGates.{with_variables, variables_from, after_predecessor, predecessor_digits, after_less, less_output}
use Rattle.level_ranking.specs.Components.{atoms_of_part, component}

-- ---- digits

-- the digits of an atom that is false are 0, and those of one that is true are not
abbrev pub digit_clauses : ℕ → List Literal → List (List Literal)
digit_clauses v own = map (λ l. Pos v ∷ negation l ∷ []) own ++ ((Neg v ∷ own) ∷ [])

abbrev pub after_atom_digits : ℕ → ℕ → Stored → Stored
after_atom_digits v w s =
    with_clauses (digit_clauses v (variables_from w s.vars)) (with_variables w s)

-- so many digits as its width for each of the atoms, whose variables are given
abbrev pub after_digits : (ℕ → ℕ) → (ℕ → ℕ) → List ℕ → Stored → Stored
after_digits var width [] s = s
after_digits var width (a ∷ atoms) s =
    after_digits var width atoms (after_atom_digits (var a) (width a) s)

-- the digits of an atom b of these, of which the first has the variable after n
abbrev pub digits_of : (ℕ → ℕ) → List ℕ → ℕ → ℕ → List Literal
digits_of width [] n b = []
digits_of width (a ∷ atoms) n b =
    cond (a == b) (variables_from (width a) n) (digits_of width atoms (n + width a) b)

-- ---- the rules of an atom

-- the positive atoms of a body in the component
abbrev pub positive_in : Set → List Literal → List ℕ
positive_in S [] = []
positive_in S (Pos b ∷ lits) = cond (S b) (b ∷ positive_in S lits) (positive_in S lits)
positive_in S (Neg b ∷ lits) = positive_in S lits

abbrev pub body_in : Set → Body → List ℕ
body_in S (All lits) = positive_in S lits
body_in S (Sum bound items) = []

-- the positive atoms of a rule's body in the component, each once
abbrev pub inside : Set → Rule → List ℕ
inside S rule = once (body_in S rule.body)

-- the literal of a rule's body, none where it is empty, and its atoms inside
pub record Row : Type 0 where
  pub body : Option Literal
  pub inside : List ℕ

abbrev pub is_head : ℕ → Head → Bool
is_head a Nothing = false
is_head a (One b) = b == a
is_head a (Choice bs) = false

abbrev pub rows_of : Set → ℕ → List Rule → List (Option Literal) → List Row
rows_of S a [] bodies = []
rows_of S a (rule ∷ rules) [] = []
rows_of S a (rule ∷ rules) (body ∷ bodies) =
    cond (is_head a rule.head)
    (record { body = body; inside = inside S rule } ∷ rows_of S a rules bodies)
    (rows_of S a rules bodies)

abbrev pub body_list : Option Literal → List Literal
body_list None = []
body_list (Some l) = l ∷ []

abbrev pub negated_body : Option Literal → List Literal
negated_body None = []
negated_body (Some l) = negation l ∷ []

-- ---- comparisons: for each pair a literal that its first number is not below its second

abbrev pub after_compared : List (List Literal × List Literal) → Stored → Stored
after_compared [] s = s
after_compared (pair ∷ pairs) s = after_compared pairs (after_less pair.0 pair.1 s)

abbrev pub compared : List (List Literal × List Literal) → Stored → List Literal
compared [] s = []
compared (pair ∷ pairs) s =
    negation (less_output pair.0 pair.1 s) ∷ compared pairs (after_less pair.0 pair.1 s)

-- ---- a rule supports the atom: its body holds, and the numbers of its atoms inside are at most
-- the atom's number less 1, whose digits are p

module _ (p : List Literal) (number : ℕ → List Literal) where
  abbrev pub pairs_below : List ℕ → List (List Literal × List Literal)
  pairs_below atoms = map (λ b. (p, number b)) atoms

  abbrev pub support_inputs : Row → Stored → List Literal
  support_inputs row s = body_list row.body ++ compared (pairs_below row.inside) s

  abbrev pub after_support : Row → Stored → Stored
  after_support row s =
      after_conjunction (support_inputs row s) (after_compared (pairs_below row.inside) s)

  abbrev pub support : Row → Stored → Literal
  support row s = conjunction (support_inputs row s) (after_compared (pairs_below row.inside) s)

  abbrev pub after_supports : List Row → Stored → Stored
  after_supports [] s = s
  after_supports (row ∷ rows) s = after_supports rows (after_support row s)

  abbrev pub supports_in : List Row → Stored → List Literal
  supports_in [] s = []
  supports_in (row ∷ rows) s = support row s ∷ supports_in rows (after_support row s)

-- an atom that is true has a support, asked where no rule of it has an empty body
abbrev pub after_supported
    : ℕ → List Literal → (ℕ → List Literal) → List Row → Stored → Stored
after_supported v p number rows s =
    cond (list_any (λ row. is_empty row.body) rows) s
    (with_clause (Neg v ∷ supports_in p number rows s) (after_supports p number rows s))

-- ---- no rule would do with a smaller number: where its body holds, the number of one of its atoms
-- inside is not below p, and without such atoms the atom's digits r from the second on are 0

abbrev pub pairs_near
    : List Literal → (ℕ → List Literal) → List ℕ → List (List Literal × List Literal)
pairs_near p number atoms = map (λ b. (number b, p)) atoms

module _ (r p : List Literal) (number : ℕ → List Literal) where
  abbrev pub after_near : Option Literal → List ℕ → Stored → Stored
  after_near body [] s =
      with_clauses (map (λ l. negated_body body ++ (negation l ∷ [])) (drop 1 r)) s
  after_near body (b ∷ bs) s =
      with_clause (negated_body body ++ compared (pairs_near p number (b ∷ bs)) s)
      (after_compared (pairs_near p number (b ∷ bs)) s)

  abbrev pub after_nears : List Row → Stored → Stored
  after_nears [] s = s
  after_nears (row ∷ rows) s = after_nears rows (after_near row.body row.inside s)

-- ---- atoms and components

abbrev pub after_atom : ℕ → List Literal → (ℕ → List Literal) → List Row → Stored → Stored
after_atom v r number rows s =
    after_nears r (predecessor_digits r s) number rows
    (after_supported v (predecessor_digits r s) number rows (after_predecessor r s))

abbrev pub after_atoms
    : (ℕ → ℕ) → (ℕ → List Literal) → (ℕ → List Row) → List ℕ → Stored → Stored
after_atoms var number rows [] s = s
after_atoms var number rows (a ∷ atoms) s =
    after_atoms var number rows atoms (after_atom (var a) (number a) number (rows a) s)

-- with the numbers of the components, and those of the cyclic ones in order
module _ (P : Ground) (part : ℕ → ℕ) (parts : List ℕ) where
  -- how many digits the numbers of a component's atoms have
  abbrev pub part_width : ℕ → ℕ
  part_width c = digits (length (atoms_of_part part c P.atoms))

  abbrev pub width_of : ℕ → ℕ
  width_of a = part_width (part a)

  -- the atoms of cyclic components, ascending
  abbrev pub ranked_atoms : List ℕ
  ranked_atoms = filter (λ a. members parts (part a)) P.atoms

  -- the digits of an atom: those of all atoms come first behind the completion's variables
  abbrev pub digits_at : ℕ → List Literal
  digits_at a = digits_of width_of ranked_atoms (completed P).vars a

  abbrev pub with_digits : Stored
  with_digits = after_digits (place P.atoms) width_of ranked_atoms (completed P)

  abbrev pub rows_at : ℕ → ℕ → List Row
  rows_at c a = rows_of (component P part c) a P.rules (body_literals P)

  abbrev pub after_parts : List ℕ → Stored → Stored
  after_parts [] s = s
  after_parts (c ∷ cs) s =
      after_parts cs
      (after_atoms (place P.atoms) digits_at (rows_at c) (atoms_of_part part c P.atoms) s)

  -- what the rankings leave in the store of the completion
  abbrev pub with_rankings : Stored
  with_rankings = after_parts parts with_digits
