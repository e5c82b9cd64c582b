-- What a call that adds the soft clauses of levels answers and leaves.
use Rattle.std.specs.Prelude.{◌≡◌, ◌<◌, ◌^◌, ℕ, pos, map, List, Some, None, Result, Ok, Err}
use Rattle.symbol_map.specs.Scale.{scale_of}
use Rattle.ground_program.specs.declared.program.Level.{Level}
use Rattle.std.specs.List.{AllByRecursion}
use Rattle.clause_store.specs.Facts.{IsOver}
use Rattle.clause_store.specs.Soft.{with_soft}
use Rattle.clause_store.specs.Stored.{Stored}
use Rattle.clause_store.specs.declared.formula.SoftClause.{SoftClause}
use Rattle.soft_costs.specs.Softening.{soft_of, factors_of, offsets_of, too_large_at}
use Rattle.soft_costs.specs.declared.scale.Scale.{Scale}
use Rattle.soft_costs.specs.declared.scale.ScaleRefusal.{ScaleRefusal}
use Rattle.soft_costs.specs.declared.scale.ScaleRefusal.TheVariants as refusals

-- levels over the variables 1 to n
abbrev pub AreOver : ℕ → List Level → Type 0
AreOver n levels =
    AllByRecursion (λ level. AllByRecursion (λ item. IsOver n item.0) level.items) levels

-- the scale of levels: factors and offsets stand by falling priority, as costs do
pub record IsScale (levels : List Level) (scale : Scale) : Type 0 where
  pub factors : scale.factors ≡ map (λ n. pos n) (factors_of levels)
  pub offsets : scale.offsets ≡ offsets_of levels
  pub top : scale.top ≡ scale_of levels
  pub below : scale_of levels < 2 ^ 63

-- further soft clauses stand behind those of the store, and nothing else has changed
abbrev pub AddsSoft : Stored → Stored → Type 0
AddsSoft old new = (clauses : List SoftClause) × (new ≡ with_soft clauses old)

-- The soft clauses stand behind the others, or the scale passes 63 bits at a level and the store is
-- unchanged. Where memory ran out some of the clauses may stand there.
abbrev pub Softened : List Level → Stored → Stored → Result Scale ScaleRefusal → Type 0
Softened levels old new (Ok scale) =
    IsScale levels scale × (too_large_at levels ≡ None) × (new ≡ with_soft (soft_of levels) old)
Softened levels old new (Err (refusals.SumTooLarge priority)) =
    (too_large_at levels ≡ Some priority) × (new ≡ old)
Softened levels old new (Err refusals.Memory) = AddsSoft old new
