-- Stable models are supported, and without positive body literals and edges they are the same.
use Rattle.ground_program.proofs.Negative.{Supported-from_Stable, Stable-iff_Supported}
use Rattle.ground_program.proofs.laws.stable_models_are_supported.Goals as goal

pub returns-clause-supported : goal.returns-clause-supported
returns-clause-supported c = Supported-from_Stable

pub returns-clause-same : goal.returns-clause-same
returns-clause-same c = Stable-iff_Supported
