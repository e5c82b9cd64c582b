-- Small texts with their programs and first faults, by computation.
use Rattle.std.proofs.Common.{◌≡◌, refl, [], ◌∷◌, Ok, codes}
use Rattle.asp_base.specs.Literal.{Pos, Neg}
use Rattle.ground_program.specs.declared.program.Head.TheVariants.{One, Choice}
use Rattle.ground_program.specs.declared.program.Body.TheVariants.{All}
use Rattle.ground_program.specs.declared.reading.ReadKind.TheVariants as kinds
use Rattle.ground_program.proofs.Rows.{normal, of_rules, at}
use Rattle.aspif_format.specs.Read.{aspif_of}

even : aspif_of (codes "asp 1 0 0\n1 0 1 1 0 1 -2\n1 0 1 2 0 1 -1\n0\n") ≡ Ok (of_rules (1 ∷ 2 ∷ []) (normal 1 (Neg 2 ∷ []) ∷ normal 2 (Neg 1 ∷ []) ∷ []))
even = refl

-- blanks, blank lines, line ends and leading zeros
loose : aspif_of (codes "\n \tasp 1 0 0\r\n\n1  0 01 1 0 \t1 -02 \r\n1 0 1 2 0 1 -1\n\n0\n \n") ≡ Ok (of_rules (1 ∷ 2 ∷ []) (normal 1 (Neg 2 ∷ []) ∷ normal 2 (Neg 1 ∷ []) ∷ []))
loose = refl

one_show : aspif_of (codes "asp 1 0 0\n4 5 a b)c 1 1\n0\n")
    ≡ Ok (record { atoms = 1 ∷ []; rules = []; required = []; edges = []; levels = []; shows = record { name = codes "a b)c"; condition = Pos 1 ∷ [] } ∷ [] })
one_show = refl

short_name : aspif_of (codes "asp 1 0 0\n4 9 a b)c\n0\n") ≡ at 2 kinds.Missing
short_name = refl

long_name : aspif_of (codes "asp 1 0 0\n4 9 a b)c 1 1\n0\n") ≡ at 2 kinds.Missing
long_name = refl

cut_name : aspif_of (codes "asp 1 0 0\n4 1 ab 0\n0\n") ≡ at 2 kinds.BadName
cut_name = refl

too_large : aspif_of (codes "asp 1 0 0\n1 0 1 7 0 1 -1073741825\n0\n") ≡ at 2 kinds.AtomTooLarge
too_large = refl

disjunction : aspif_of (codes "asp 1 0 0\n1 0 2 1 2 0 0\n0\n") ≡ at 2 kinds.Disjunction
disjunction = refl

theory : aspif_of (codes "asp 1 0 0\n9 0 1 5\n0\n") ≡ at 2 kinds.Theory
theory = refl

incremental : aspif_of (codes "asp 1 0 0 incremental\n0\n") ≡ at 1 kinds.Incremental
incremental = refl

no_end : aspif_of (codes "asp 1 0 0\n1 0 1 1 0 0\n") ≡ at 2 kinds.NoEnd
no_end = refl

trailing : aspif_of (codes "asp 1 0 0\n0\n0\n") ≡ at 3 kinds.TrailingText
trailing = refl

negative : aspif_of (codes "asp 1 0 0\n1 0 1 1 1 1 1 2 -1\n0\n") ≡ at 2 kinds.NegativeWeight
negative = refl

zero_atom : aspif_of (codes "asp 1 0 0\n1 0 1 0 0 0\n0\n") ≡ at 2 kinds.ZeroAtom
zero_atom = refl

empty : aspif_of [] ≡ at 1 kinds.BadHeader
empty = refl

externals : aspif_of (codes "asp 1 0 0\n5 1 0\n5 2 2\n5 2 1\n5 3 2\n0\n")
    ≡ Ok (of_rules (1 ∷ 2 ∷ 3 ∷ []) (record { head = Choice (1 ∷ []); body = All [] } ∷ record { head = One 2; body = All [] } ∷ []))
externals = refl

no_rules : aspif_of (codes "asp 1 0 0\n0\n") ≡ Ok (of_rules [] [])
no_rules = refl

greatest : aspif_of (codes "asp 1 0 0\n1 0 1 7 0 1 -1073741824\n0\n") ≡ Ok (of_rules (7 ∷ 1073741824 ∷ []) (normal 7 (Neg 1073741824 ∷ []) ∷ []))
greatest = refl

-- a choice without atoms is a choice
no_choice : aspif_of (codes "asp 1 0 0\n1 1 0 0 0\n0\n") ≡ Ok (of_rules [] (record { head = Choice []; body = All [] } ∷ []))
no_choice = refl

-- numbers of another size than what follows them
most_atoms : aspif_of (codes "asp 1 0 0\n1 1 16777216 1\n0\n") ≡ at 2 kinds.Missing
most_atoms = refl

too_many : aspif_of (codes "asp 1 0 0\n1 1 16777217 1\n0\n") ≡ at 2 kinds.TooManyLiterals
too_many = refl

too_wide : aspif_of (codes "asp 1 0 0\n1 0 1 123456789012345678901234567890\n0\n") ≡ at 2 kinds.TooWide
too_wide = refl

longest_name : aspif_of (codes "asp 1 0 0\n4 1000000000 a 0\n0\n") ≡ at 2 kinds.Missing
longest_name = refl
