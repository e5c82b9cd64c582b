-- Why a program whose levels are scaled is not translated.
use Rattle.std.specs.Prelude.{◌≡◌, List, Some, ⊤}
use Rattle.ground_program.specs.declared.program.Level.{Level}
use Rattle.soft_costs.specs.Softening.{too_large_at}
use Rattle.soft_costs.specs.declared.scale.ScaleRefusal.{ScaleRefusal}
use Rattle.soft_costs.specs.declared.scale.ScaleRefusal.TheVariants as scales
use Rattle.sat_translation.specs.declared.softened.SoftRefusal.{SoftRefusal}
use Rattle.sat_translation.specs.declared.softened.SoftRefusal.TheVariants as refusals

abbrev pub soft_refusal : ScaleRefusal → SoftRefusal
soft_refusal (scales.SumTooLarge priority) = refusals.SumTooLarge priority
soft_refusal scales.Memory = refusals.Memory

-- the scale passes at the level that is told, or memory ran out
abbrev pub PassesAs : List Level → SoftRefusal → Type 0
PassesAs levels refusals.Edges = ⊥
PassesAs levels (refusals.TooLarge number) = ⊥
PassesAs levels (refusals.SumTooLarge priority) = too_large_at levels ≡ Some priority
PassesAs levels refusals.Memory = ⊤
