-- The texts of small programs, by computation.
use Rattle.std.proofs.Common.{◌≡◌, refl, pos, negsuc, true, false, [], ◌∷◌, codes}
use Rattle.std.specs.Fmt.{digits}
use Rattle.asp_base.specs.Literal.{Pos, Neg}
use Rattle.ground_program.specs.Ground.{Ground}
use Rattle.ground_program.specs.declared.program.Head.TheVariants.{Nothing, One, Choice}
use Rattle.ground_program.specs.declared.program.Body.TheVariants.{All, Sum}
use Rattle.smodels_format.specs.Written.{smodels_text}
use Rattle.smodels_format.specs.Writable.{is_writable}

-- two atoms, each of which holds where the other does not, and a name that is always shown
two : Ground
two = record {
  atoms = 1 ∷ 2 ∷ [];
  rules = record { head = One 1; body = All (Neg 2 ∷ []) } ∷ record { head = One 2; body = All (Neg 1 ∷ []) } ∷ [];
  required = [];
  edges = [];
  levels = [];
  shows = record { name = codes "a"; condition = Pos 1 ∷ [] } ∷ record { name = codes "fact"; condition = [] } ∷ [];
}

two_text : smodels_text two ≡ codes "1 1 1 1 2\n1 2 1 1 1\n1 3 0 0\n0\n1 a\n3 fact\n0\nB+\n0\nB-\n0\n1\n"
unfolding digits two
two_text = refl

-- a bound below 0, a rule without head, levels and required literals
whole : Ground
whole = record {
  atoms = 1 ∷ 2 ∷ 3 ∷ [];
  rules = record { head = Choice (3 ∷ []); body = Sum (negsuc 1) ((Pos 1, pos 3) ∷ (Neg 2, pos 5) ∷ []) } ∷ record { head = Nothing; body = All (Pos 1 ∷ []) } ∷ [];
  required = Neg 2 ∷ Pos 1 ∷ [];
  edges = [];
  levels = record { priority = pos 5; items = (Neg 2, pos 7) ∷ [] } ∷ record { priority = negsuc 0; items = (Pos 1, pos 8) ∷ [] } ∷ [];
  shows = [];
}

whole_text : smodels_text whole ≡ codes "5 5 0 2 1 2 1 5 3\n3 1 3 1 0 5\n1 4 1 0 1\n6 0 1 0 1 8\n6 0 1 1 2 7\n0\n0\nB+\n1\n0\nB-\n2\n4\n0\n1\n"
unfolding digits whole
whole_text = refl

-- ---- what can be said

none : Ground
none = record { atoms = []; rules = []; required = []; edges = []; levels = []; shows = [] }

writable_whole : is_writable whole ≡ true
unfolding digits whole
writable_whole = refl

edge_refused : is_writable (record none { edges = record { from = pos 1; to = pos 2; condition = [] } ∷ [] }) ≡ false
unfolding none
edge_refused = refl

weight_refused : is_writable (record none { levels = record { priority = pos 0; items = (Pos 1, negsuc 0) ∷ [] } ∷ [] }) ≡ false
unfolding none
weight_refused = refl

blank_refused : is_writable (record none { shows = record { name = codes " a"; condition = [] } ∷ [] }) ≡ false
unfolding none
blank_refused = refl

return_refused : is_writable (record none { shows = record { name = codes "a\r"; condition = [] } ∷ [] }) ≡ false
unfolding none
return_refused = refl
