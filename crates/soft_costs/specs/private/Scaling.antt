-- What a call that scales levels answers.
use Rattle.std.specs.Prelude.{◌≡◌, ◌<◌, ◌^◌, ⊤, List, Some, None, Result, Ok, Err}
use Rattle.symbol_map.specs.Scale.{scale_of}
use Rattle.ground_program.specs.declared.program.Level.{Level}
use Rattle.soft_costs.specs.Softening.{factors_of, too_large_at}
use Rattle.soft_costs.specs.declared.scale.Scaled.{Scaled}
use Rattle.soft_costs.specs.declared.scale.ScaleRefusal.{ScaleRefusal}
use Rattle.soft_costs.specs.declared.scale.ScaleRefusal.TheVariants as refusals

-- the factors and the scale of levels whose scale has 63 bits
pub record AreFactors (levels : List Level) (f : Scaled) : Type 0 where
  pub factors : f.factors.items ≡ factors_of levels
  pub top : f.top ≡ scale_of levels
  pub below : scale_of levels < 2 ^ 63
  pub fits : too_large_at levels ≡ None

abbrev pub ScalingGives : List Level → Result Scaled ScaleRefusal → Type 0
ScalingGives levels (Ok f) = AreFactors levels f
ScalingGives levels (Err (refusals.SumTooLarge priority)) = too_large_at levels ≡ Some priority
ScalingGives levels (Err refusals.Memory) = ⊤
