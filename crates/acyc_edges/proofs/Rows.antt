-- Both encodings of the program of one rule, 1 :- 1.
use Rattle.std.proofs.Common.{◌≡◌, refl, pos, [], ◌∷◌}
use Rattle.asp_base.specs.Literal.{Pos, Neg}
use Rattle.ground_program.specs.Ground.{Ground}
use Rattle.ground_program.specs.Tangle.{pairs}
use Rattle.ground_program.proofs.Rows.{normal, constraint, of_rules}
use Rattle.acyc_edges.specs.Encoding.{plain, unique}

abbrev loop : Ground
loop = of_rules (1 ∷ []) (normal 1 (Pos 1 ∷ []) ∷ [])

-- 2 is the complement of 1, 3 that the body holds, 4 that the edge is chosen, 5 that it is not, 6 that 1 is backed
plain_rules : (plain loop (λ a. 1) (1 ∷ [])).rules
    ≡ normal 1 (Neg 2 ∷ []) ∷ normal 2 (Neg 1 ∷ []) ∷ normal 3 (Pos 1 ∷ []) ∷ constraint (Pos 3 ∷ Neg 1 ∷ [])
    ∷ normal 4 (Pos 1 ∷ Pos 1 ∷ Neg 5 ∷ []) ∷ normal 5 (Neg 4 ∷ []) ∷ normal 6 (Pos 3 ∷ Pos 4 ∷ []) ∷ constraint (Pos 1 ∷ Neg 6 ∷ []) ∷ []
plain_rules = refl

plain_edges : (plain loop (λ a. 1) (1 ∷ [])).edges ≡ record { from = pos 0; to = pos 0; condition = Pos 4 ∷ [] } ∷ []
plain_edges = refl

plain_atoms : (plain loop (λ a. 1) (1 ∷ [])).atoms ≡ 1 ∷ 2 ∷ 3 ∷ 4 ∷ 5 ∷ 6 ∷ []
plain_atoms = refl

-- 4 is that 1 comes no later than itself, 5 that the rule backs it
unique_rules : (unique loop (λ a. 1) (1 ∷ [])).rules
    ≡ normal 1 (Neg 2 ∷ []) ∷ normal 2 (Neg 1 ∷ []) ∷ normal 3 (Pos 1 ∷ []) ∷ constraint (Pos 3 ∷ Neg 1 ∷ [])
    ∷ normal 4 (Pos 5 ∷ []) ∷ constraint (Pos 1 ∷ Neg 4 ∷ []) ∷ normal 5 (Pos 3 ∷ Neg 4 ∷ []) ∷ []
unique_rules = refl

unique_edges : (unique loop (λ a. 1) (1 ∷ [])).edges ≡ record { from = pos 0; to = pos 0; condition = Pos 5 ∷ [] } ∷ []
unique_edges = refl

loop_pairs : pairs loop.rules ((1 ∷ []) ∷ []) ≡ 3
loop_pairs = refl
