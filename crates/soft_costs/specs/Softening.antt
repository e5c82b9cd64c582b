-- The levels of a program as soft clauses. A level of a higher priority counts more than all those
-- below it together, so that the one sum orders models as the levels do in turn. Levels stand by
-- falling priority, and soft clauses by rising priority.
use Rattle.std.specs.Prelude.{ℕ, zero, suc, ◌*◌, ◌-◌, ◌^◌, nat_lt, ℤ, pos, negsuc, cond, List, [], ◌∷◌, ◌++◌, map, Option, Some, None}
use Rattle.asp_base.specs.Literal.{Literal, negation}
use Rattle.symbol_map.specs.Scale.{scale_of, offset_of}
use Rattle.ground_program.specs.declared.program.Level.{Level}
use Rattle.clause_store.specs.declared.formula.SoftClause.{SoftClause}

-- An item of positive weight costs it where the literal is true. One of negative weight costs its
-- magnitude where the literal is false, above the least that its level may cost.
abbrev pub soft_of_item : ℕ → Literal → ℤ → List SoftClause
soft_of_item factor l (pos zero) = []
soft_of_item factor l (pos (suc n)) =
    record { weight = factor * suc n; lits = negation l ∷ [] } ∷ []
soft_of_item factor l (negsuc n) = record { weight = factor * suc n; lits = l ∷ [] } ∷ []

abbrev pub soft_of_items : ℕ → List (Literal × ℤ) → List SoftClause
soft_of_items factor [] = []
soft_of_items factor (item ∷ items) =
    soft_of_item factor item.0 item.1 ++ soft_of_items factor items

-- the factor of a level is the scale after the levels below it
abbrev pub soft_of : List Level → List SoftClause
soft_of [] = []
soft_of (level ∷ lower) = soft_of lower ++ soft_of_items (scale_of lower) level.items

abbrev pub factors_of : List Level → List ℕ
factors_of [] = []
factors_of (level ∷ lower) = scale_of lower ∷ factors_of lower

abbrev pub offsets_of : List Level → List ℤ
offsets_of levels = map (λ level. offset_of level.items) levels

abbrev pub if_too_large : List Level → ℤ → Option ℤ → Option ℤ
if_too_large levels priority (Some p) = Some p
if_too_large levels priority None =
    cond (nat_lt (2 ^ 63 - 1) (scale_of levels)) (Some priority) None

-- the priority of the level, of the lowest on, at which the scale first passes 63 bits
abbrev pub too_large_at : List Level → Option ℤ
too_large_at [] = None
too_large_at (level ∷ lower) = if_too_large (level ∷ lower) level.priority (too_large_at lower)
