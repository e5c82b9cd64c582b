-- What is kept of each component is what the measure takes.
use Rattle.std.proofs.Common.{◌∙◌}
use Rattle.components.proofs.SumLaws.{tangle-are}
use Rattle.components.proofs.parts.tangle.Goals as goal

pub returns : goal.returns
returns c = c.tangle_in_all.ensures ∙ tangle-are c.args.program.now.rules c.args.parts.now c.requires.sums
