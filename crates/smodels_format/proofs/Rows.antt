-- Small texts with their programs and first faults, by computation.
use Rattle.std.proofs.Common.{◌≡◌, refl, ℕ, List, [], ◌∷◌, Ok, codes}
use Rattle.std.specs.Prelude.{pos}
use Rattle.asp_base.specs.Literal.{Literal, Pos, Neg}
use Rattle.ground_program.specs.Ground.{Ground}
use Rattle.ground_program.specs.declared.program.Head.TheVariants.{Nothing, One, Choice}
use Rattle.ground_program.specs.declared.program.Body.TheVariants.{All, Sum}
use Rattle.ground_program.specs.declared.program.Level.{Level}
use Rattle.ground_program.specs.declared.program.Show.{Show}
use Rattle.ground_program.specs.declared.reading.ReadKind.TheVariants as kinds
use Rattle.ground_program.proofs.Rows.{normal, of_rules, at}
use Rattle.smodels_format.specs.Read.{smodels_of}

abbrev of_levels : List ℕ → List Level → Ground
of_levels atoms levels = record { atoms = atoms; rules = []; required = []; edges = []; levels = levels; shows = [] }

abbrev of_shows : List ℕ → List Show → Ground
of_shows atoms shows = record { atoms = atoms; rules = []; required = []; edges = []; levels = []; shows = shows }

abbrev of_required : List ℕ → List Literal → Ground
of_required atoms lits = record { atoms = atoms; rules = []; required = lits; edges = []; levels = []; shows = [] }

abbrev shown : ℕ → List ℕ → Show
shown a name = record { name = name; condition = Pos a ∷ [] }

-- a choice, a rule with a bound, and their names
whole : smodels_of (codes "3 3 1 2 3 0 0\n2 4 3 0 2 1 2 3\n0\n1 a\n2 b\n3 c\n4 d\n0\nB+\n0\nB-\n0\n1\n") ≡ Ok (record {
  atoms = 1 ∷ 2 ∷ 3 ∷ 4 ∷ [];
  rules = record { head = Choice (1 ∷ 2 ∷ 3 ∷ []); body = All [] }
      ∷ record { head = One 4; body = Sum (pos 2) ((Pos 1, pos 1) ∷ (Pos 2, pos 1) ∷ (Pos 3, pos 1) ∷ []) }
      ∷ [];
  required = [];
  edges = [];
  levels = [];
  shows = shown 1 (codes "a") ∷ shown 2 (codes "b") ∷ shown 3 (codes "c") ∷ shown 4 (codes "d") ∷ [];
})
whole = refl

-- blanks, blank lines, line ends and leading zeros, and no number of models
loose : smodels_of (codes "\n \t1 01  1 \t1 02 \r\n\n1 2 1 1 1\n0\n0\nB+ \r\n0\n\tB-\n0\n \n") ≡ Ok (of_rules (1 ∷ 2 ∷ []) (normal 1 (Neg 2 ∷ []) ∷ normal 2 (Neg 1 ∷ []) ∷ []))
loose = refl

-- the first literals of a body are negative
negative_first : smodels_of (codes "1 1 3 2 4 2 3\n0\n0\nB+\n0\nB-\n0\n") ≡ Ok (of_rules (1 ∷ 2 ∷ 3 ∷ 4 ∷ []) (normal 1 (Neg 4 ∷ Neg 2 ∷ Pos 3 ∷ []) ∷ []))
negative_first = refl

weights : smodels_of (codes "5 1 4 2 1 3 2 1 5\n0\n0\nB+\n0\nB-\n0\n1\n")
    ≡ Ok (of_rules (1 ∷ 2 ∷ 3 ∷ []) (record { head = One 1; body = Sum (pos 4) ((Neg 3, pos 1) ∷ (Pos 2, pos 5) ∷ []) } ∷ []))
weights = refl

minimized : smodels_of (codes "6 0 2 1 7 8 3 5\n0\n0\nB+\n0\nB-\n0\n1\n")
    ≡ Ok (of_levels (7 ∷ 8 ∷ []) (record { priority = pos 0; items = (Neg 7, pos 3) ∷ (Pos 8, pos 5) ∷ [] } ∷ []))
minimized = refl

-- later levels count more, and stand first
two_minimized : smodels_of (codes "6 0 1 0 7 3\n6 0 1 1 8 5\n0\n0\nB+\n0\nB-\n0\n1\n")
    ≡ Ok (of_levels (7 ∷ 8 ∷ []) (record { priority = pos 1; items = (Neg 8, pos 5) ∷ [] } ∷ record { priority = pos 0; items = (Pos 7, pos 3) ∷ [] } ∷ []))
two_minimized = refl

no_head : smodels_of (codes "8 0 1 0 5\n8 1 6 0 0\n0\n0\nB+\n0\nB-\n0\n1\n")
    ≡ Ok (of_rules (5 ∷ 6 ∷ []) (record { head = Nothing; body = All (Pos 5 ∷ []) } ∷ normal 6 [] ∷ []))
no_head = refl

-- the blanks in a name and behind it are the name's
blank_name : smodels_of (codes "0\n7  a b)\tc  \n0\nB+\n0\nB-\n0\n1\n") ≡ Ok (of_shows (7 ∷ []) (shown 7 (codes "a b)\tc  ") ∷ []))
blank_name = refl

required : smodels_of (codes "0\n0\nB+\n3\n4\n0\nB-\n5\n0\n1\n") ≡ Ok (of_required (3 ∷ 4 ∷ 5 ∷ []) (Pos 3 ∷ Pos 4 ∷ Neg 5 ∷ []))
required = refl

nothing : smodels_of (codes "0\n0\nB+\n0\nB-\n0\n") ≡ Ok (of_rules [] [])
nothing = refl

no_name : smodels_of (codes "0\n7\n0\nB+\n0\nB-\n0\n1\n") ≡ at 2 kinds.Missing
no_name = refl

blank_only : smodels_of (codes "0\n7 \n0\nB+\n0\nB-\n0\n1\n") ≡ at 2 kinds.BadName
blank_only = refl

disjunction : smodels_of (codes "8 2 1 2 0 0\n0\n0\nB+\n0\nB-\n0\n1\n") ≡ at 1 kinds.Disjunction
disjunction = refl

unknown : smodels_of (codes "4 1 0 0\n0\n0\nB+\n0\nB-\n0\n1\n") ≡ at 1 kinds.UnknownStatement
unknown = refl

negative_type : smodels_of (codes "-1 1 0 0\n") ≡ at 1 kinds.UnknownStatement
negative_type = refl

heading_and_more : smodels_of (codes "0\n0\nB+ x\n0\nB-\n0\n1\n") ≡ at 3 kinds.BadHeader
heading_and_more = refl

other_heading : smodels_of (codes "0\n0\nB-\n0\nB+\n0\n1\n") ≡ at 3 kinds.BadHeader
other_heading = refl

no_heading : smodels_of (codes "0\n0\n\n") ≡ at 3 kinds.NoEnd
no_heading = refl

no_end : smodels_of (codes "0\n0\nB+\n0\nB-\n5\n") ≡ at 6 kinds.NoEnd
no_end = refl

empty : smodels_of [] ≡ at 1 kinds.NoEnd
empty = refl

negative_models : smodels_of (codes "0\n0\nB+\n0\nB-\n0\n-1\n") ≡ at 7 kinds.BadNumber
negative_models = refl

all_models : smodels_of (codes "0\n0\nB+\n0\nB-\n0\n0\n") ≡ Ok (of_rules [] [])
all_models = refl

trailing : smodels_of (codes "0\n0\nB+\n0\nB-\n0\n1\n\n1\n") ≡ at 9 kinds.TrailingText
trailing = refl

trailing_in_line : smodels_of (codes "0\n0\nB+\n0\nB-\n0\n1 1\n") ≡ at 7 kinds.TrailingText
trailing_in_line = refl

-- more negative literals than literals
more_negative : smodels_of (codes "1 1 1 2 2 3\n0\n0\nB+\n0\nB-\n0\n1\n") ≡ at 1 kinds.BadNumber
more_negative = refl

-- the 0 of the statement itself, not of the part
not_zero : smodels_of (codes "6 1 0 0\n0\n0\nB+\n0\nB-\n0\n1\n") ≡ at 1 kinds.BadNumber
not_zero = refl

negative_weight : smodels_of (codes "5 1 4 1 0 2 -1\n0\n0\nB+\n0\nB-\n0\n1\n") ≡ at 1 kinds.NegativeWeight
negative_weight = refl

short : smodels_of (codes "5 1 4 2 1 3 2 1\n0\n0\nB+\n0\nB-\n0\n1\n") ≡ at 1 kinds.Missing
short = refl

zero_atom : smodels_of (codes "1 0 0 0\n0\n0\nB+\n0\nB-\n0\n1\n") ≡ at 1 kinds.ZeroAtom
zero_atom = refl

negative_atom : smodels_of (codes "0\n0\nB+\n-3\n0\nB-\n0\n1\n") ≡ at 4 kinds.BadNumber
negative_atom = refl

-- numbers of another size than what follows them
most_atoms : smodels_of (codes "3 16777216 1") ≡ at 1 kinds.Missing
most_atoms = refl

too_many : smodels_of (codes "1 1 16777217 0 1") ≡ at 1 kinds.TooManyLiterals
too_many = refl
