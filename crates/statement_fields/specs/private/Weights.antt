-- The two kinds of weights that items have.
use Rattle.std.specs.Prelude.{ℕ, ℤ, List}
use Rattle.asp_base.specs.Literal.{Literal, atom_of}
use Rattle.ground_program.specs.Facts.{IsAtom, FitsWeight, FitsBodyWeight}
use Rattle.statement_fields.specs.Fields.{Reading, weight, body_weight}
use Rattle.statement_fields.specs.declared.lists.Weights.{Weights}
use Rattle.statement_fields.specs.declared.lists.Weights.TheVariants.{OfBody, OfLevel}

abbrev pub weight_field : Weights → List ℕ → Reading ℤ
weight_field OfBody = body_weight
weight_field OfLevel = weight

abbrev pub WeightFits : Weights → ℤ → Type 0
WeightFits OfBody w = FitsBodyWeight w
WeightFits OfLevel w = FitsWeight w

abbrev pub ItemFits : Weights → Literal × ℤ → Type 0
ItemFits weights item = IsAtom (atom_of item.0) × WeightFits weights item.1
