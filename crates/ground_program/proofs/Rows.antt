-- Small programs with their founded sets, costs and names, by computation.
use Rattle.std.proofs.Common.{◌≡◌, refl, sym, ℕ, ℤ, pos, negsuc, List, [], ◌∷◌, Result, Err, arith}
use Rattle.std.specs.Prelude.{Some, None}
use Rattle.std.proofs.lemmas.Bool.{true≢false}
use Rattle.asp_base.specs.Literal.{Literal, Pos, Neg}
use Rattle.asp_base.specs.Sets.{Set, members}
use Rattle.asp_base.specs.Faults.{Fault}
use Rattle.ground_program.specs.Facts.{IsProgram}
use Rattle.ground_program.specs.Digits.{digits}
use Rattle.ground_program.specs.Ground.{Ground}
use Rattle.ground_program.specs.Radix.{tare_of, radix}
use Rattle.ground_program.specs.Room.{room}
use Rattle.ground_program.specs.Stable.{cost, visible, Founded, Stable}
use Rattle.ground_program.specs.declared.program.Head.TheVariants.{Nothing, One, Choice}
use Rattle.ground_program.specs.declared.program.Body.TheVariants.{All, Sum}
use Rattle.ground_program.specs.declared.program.Rule.{Rule}
use Rattle.ground_program.specs.declared.reading.ReadKind.{ReadKind}
use Rattle.ground_program.proofs.Plain.{founded_sets, founded_sets-has}

abbrev pub normal : ℕ → List Literal → Rule
normal a lits = record { head = One a; body = All lits }

abbrev choice : List ℕ → Rule
choice as_ = record { head = Choice as_; body = All [] }

abbrev pub constraint : List Literal → Rule
constraint lits = record { head = Nothing; body = All lits }

abbrev pub of_rules : List ℕ → List Rule → Ground
of_rules atoms rules = record { atoms = atoms; rules = rules; required = []; edges = []; levels = []; shows = [] }

-- a refusal of a text
abbrev pub at : ℕ → ReadKind → Result Ground (Fault ReadKind)
at line kind = Err (record { line = line; kind = kind })

-- a :- not b. b :- not a.
abbrev even_loop : Ground
even_loop = of_rules (1 ∷ 2 ∷ []) (normal 1 (Neg 2 ∷ []) ∷ normal 2 (Neg 1 ∷ []) ∷ [])

even_loop_sets : founded_sets even_loop ≡ (2 ∷ []) ∷ (1 ∷ []) ∷ []
even_loop_sets = refl

-- a :- not a.
abbrev odd_loop : Ground
odd_loop = of_rules (1 ∷ []) (normal 1 (Neg 1 ∷ []) ∷ [])

odd_loop_sets : founded_sets odd_loop ≡ []
odd_loop_sets = refl

odd_loop_is_program : IsProgram odd_loop
odd_loop_is_program = record {
  atoms_rise = (omega arith, tt);
  atoms_fit = (omega arith, tt);
  rules = ((refl, (omega arith, (refl, tt))), tt);
  required = tt;
  edges = tt;
  levels = tt;
  priorities = tt;
  priorities_fit = tt;
  nodes = tt;
  shows = tt;
}

odd_loop_has_none : (M : Set) → Founded odd_loop M → ⊥
odd_loop_has_none M s = true≢false (sym (founded_sets-has odd_loop M odd_loop_is_program s))

-- a :- a.
abbrev self_support : Ground
self_support = of_rules (1 ∷ []) (normal 1 (Pos 1 ∷ []) ∷ [])

self_support_sets : founded_sets self_support ≡ [] ∷ []
self_support_sets = refl

-- {c}. a :- c. a :- b. b :- a.
abbrev positive_loop : Ground
positive_loop = of_rules (1 ∷ 2 ∷ 3 ∷ []) (choice (3 ∷ []) ∷ normal 1 (Pos 3 ∷ []) ∷ normal 1 (Pos 2 ∷ []) ∷ normal 2 (Pos 1 ∷ []) ∷ [])

positive_loop_sets : founded_sets positive_loop ≡ [] ∷ (1 ∷ 2 ∷ 3 ∷ []) ∷ []
positive_loop_sets = refl

-- {a; b}. :- a, b. with a required
abbrev with_constraint : Ground
with_constraint = record (of_rules (1 ∷ 2 ∷ []) (choice (1 ∷ 2 ∷ []) ∷ constraint (Pos 1 ∷ Pos 2 ∷ []) ∷ [])) { required = Pos 1 ∷ [] }

with_constraint_sets : founded_sets with_constraint ≡ (1 ∷ []) ∷ []
with_constraint_sets = refl

-- {a}. d where the weights 2 and 1 of a, which stands there twice, reach the bound
abbrev twice : ℤ → Ground
twice bound = of_rules (1 ∷ 4 ∷ []) (choice (1 ∷ []) ∷ record { head = One 4; body = Sum bound ((Pos 1, pos 2) ∷ (Pos 1, pos 1) ∷ []) } ∷ [])

twice_3_sets : founded_sets (twice (pos 3)) ≡ [] ∷ (1 ∷ 4 ∷ []) ∷ []
twice_3_sets = refl

twice_4_sets : founded_sets (twice (pos 4)) ≡ [] ∷ (1 ∷ []) ∷ []
twice_4_sets = refl

-- a weight of 2 for a twice at one level, at the next -3 where b is false and 1 for a
abbrev with_costs : Ground
with_costs = record (of_rules (1 ∷ 2 ∷ []) (choice (1 ∷ 2 ∷ []) ∷ [])) {
  levels = record { priority = pos 1; items = (Pos 1, pos 2) ∷ (Pos 1, pos 2) ∷ [] }
      ∷ record { priority = pos 0; items = (Neg 2, negsuc 2) ∷ (Pos 1, pos 1) ∷ [] } ∷ [];
}

cost_of_a : cost with_costs (members (1 ∷ [])) ≡ pos 4 ∷ negsuc 1 ∷ []
cost_of_a = refl

cost_of_b : cost with_costs (members (2 ∷ [])) ≡ pos 0 ∷ pos 0 ∷ []
cost_of_b = refl

-- the name "y" where a holds, "x" where b does, and "y" again where b does
abbrev with_names : Ground
with_names = record (of_rules (1 ∷ 2 ∷ []) (choice (1 ∷ 2 ∷ []) ∷ [])) {
  shows = record { name = 121 ∷ []; condition = Pos 1 ∷ [] }
      ∷ record { name = 120 ∷ []; condition = Pos 2 ∷ [] }
      ∷ record { name = 121 ∷ []; condition = Pos 2 ∷ [] } ∷ [];
}

names_of_both : visible with_names (members (1 ∷ 2 ∷ [])) ≡ (121 ∷ []) ∷ (120 ∷ []) ∷ []
names_of_both = refl

names_of_b : visible with_names (members (2 ∷ [])) ≡ (120 ∷ []) ∷ (121 ∷ []) ∷ []
names_of_b = refl

-- {a}. with an edge from 1 to 2, and one from 2 to 1 where a holds
abbrev with_edges : Ground
with_edges = record (of_rules (1 ∷ []) (choice (1 ∷ []) ∷ [])) {
  edges = record { from = pos 1; to = pos 2; condition = [] } ∷ record { from = pos 2; to = pos 1; condition = Pos 1 ∷ [] } ∷ [];
}

edges_close : Stable with_edges (members (1 ∷ [])) → ⊥
edges_close s = s.acyclic (pos 1) (pos 2 ∷ []) (refl, refl)

-- ---- rooms and radices

-- {1; 2; 3}. 4 :- 16 <= #sum { 6 : 1; 10 : 2; 15 : 3 }.
abbrev weights : List (Literal × ℤ)
weights = (Pos 1, pos 6) ∷ (Pos 2, pos 10) ∷ (Pos 3, pos 15) ∷ []

abbrev weighed : Ground
weighed =
    of_rules (1 ∷ 2 ∷ 3 ∷ 4 ∷ [])
    (choice (1 ∷ 2 ∷ 3 ∷ []) ∷ record { head = One 4; body = Sum (pos 16) weights } ∷ [])

weighed_radix : radix weights (pos 16) (pos 1) ≡ Some (pos 5)
weighed_radix = refl

weighed_tare : tare_of 16 5 ≡ 4
weighed_tare = refl

weighed_top : radix weights (pos 16) (pos 5) ≡ None
weighed_top = refl

weighed_room : room weighed ≡ 602
unfolding digits
weighed_room = refl

-- {1; 2; 3}. 4 :- 2 <= #count { 1; 2; 3 }, as a weight rule
abbrev counted : Ground
counted =
    of_rules (1 ∷ 2 ∷ 3 ∷ 4 ∷ [])
    (choice (1 ∷ 2 ∷ 3 ∷ [])
    ∷ record { head = One 4; body = Sum (pos 2) ((Pos 1, pos 1) ∷ (Pos 2, pos 1) ∷ (Pos 3, pos 1) ∷ []) }
    ∷ [])

counted_room : room counted ≡ 50
unfolding digits
counted_room = refl
