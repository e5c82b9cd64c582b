-- Rankings of small programs, by computation.
use Rattle.std.proofs.Common.{◌≡◌, refl, true, false, [], ◌∷◌, filter, cond, ◌==◌}
use Rattle.gate_tables.specs.Rows.{all_values}
use Rattle.clause_store.specs.Assigned.{true_in}
use Rattle.clause_store.specs.Models.{clauses_true}
use Rattle.asp_base.specs.Literal.{Pos, Neg}
use Rattle.asp_base.specs.Sets.{members}
use Rattle.ground_program.specs.Ground.{Ground}
use Rattle.ground_program.proofs.Rows.{of_rules, normal}
use Rattle.level_ranking.specs.Ranking.{rank}
use Rattle.ground_program.specs.Digits.{digits}
use Rattle.level_ranking.specs.Encoding.{digits_at, with_rankings}

-- a :- a. With the digit 2, the comparisons 3 and 5 and the support 4
self_loop : (with_rankings (of_rules (1 ∷ []) (normal 1 (Pos 1 ∷ []) ∷ [])) (λ a. 1) (1 ∷ [])).hard
    ≡ (Neg 1 ∷ Pos 1 ∷ []) ∷ (Pos 1 ∷ Neg 1 ∷ [])
    ∷ (Pos 1 ∷ Neg 2 ∷ []) ∷ (Neg 1 ∷ Pos 2 ∷ [])
    ∷ (Pos 2 ∷ Neg 3 ∷ []) ∷ (Pos 2 ∷ Neg 3 ∷ []) ∷ (Neg 2 ∷ Neg 2 ∷ Pos 3 ∷ [])
    ∷ (Neg 4 ∷ Pos 1 ∷ []) ∷ (Neg 4 ∷ Neg 3 ∷ []) ∷ (Pos 4 ∷ Neg 1 ∷ Pos 3 ∷ [])
    ∷ (Neg 1 ∷ Pos 4 ∷ [])
    ∷ (Neg 2 ∷ Neg 5 ∷ []) ∷ (Neg 2 ∷ Neg 5 ∷ []) ∷ (Pos 2 ∷ Pos 2 ∷ Pos 5 ∷ [])
    ∷ (Neg 1 ∷ Neg 5 ∷ []) ∷ []
unfolding digits
self_loop = refl

-- in its one model a is false, since {a} is supported, but not founded
self_loop-models : filter (λ values. clauses_true (with_rankings (of_rules (1 ∷ []) (normal 1 (Pos 1 ∷ []) ∷ [])) (λ a. 1) (1 ∷ [])).hard (true_in values)) (all_values 5)
    ≡ (false ∷ false ∷ false ∷ false ∷ true ∷ []) ∷ []
unfolding digits
self_loop-models = refl

-- a :- c. a :- b. b :- a. with a choice of c by its complement d
abbrev pair : Ground
pair = of_rules (1 ∷ 2 ∷ 3 ∷ 4 ∷ []) (normal 3 (Neg 4 ∷ []) ∷ normal 4 (Neg 3 ∷ []) ∷ normal 1 (Pos 3 ∷ []) ∷ normal 1 (Pos 2 ∷ []) ∷ normal 2 (Pos 1 ∷ []) ∷ [])

pair-first : rank (1 ∷ 2 ∷ []) pair.rules (members (1 ∷ 2 ∷ 3 ∷ [])) 1 ≡ 1
pair-first = refl

pair-second : rank (1 ∷ 2 ∷ []) pair.rules (members (1 ∷ 2 ∷ 3 ∷ [])) 2 ≡ 2
pair-second = refl

-- a cycle of four with one way in
abbrev four : Ground
four = of_rules (1 ∷ 2 ∷ 3 ∷ 4 ∷ 5 ∷ []) (normal 5 [] ∷ normal 1 (Pos 5 ∷ []) ∷ normal 1 (Pos 4 ∷ []) ∷ normal 2 (Pos 1 ∷ []) ∷ normal 3 (Pos 2 ∷ []) ∷ normal 4 (Pos 3 ∷ []) ∷ [])

four-last : rank (1 ∷ 2 ∷ 3 ∷ 4 ∷ []) four.rules (members (1 ∷ 2 ∷ 3 ∷ 4 ∷ 5 ∷ [])) 4 ≡ 4
four-last = refl

-- three digits for each
four-digits : digits_at four (λ a. cond (a == 5) 1 2) (2 ∷ []) 2 ≡ Pos 9 ∷ Pos 10 ∷ Pos 11 ∷ []
unfolding digits
four-digits = refl
