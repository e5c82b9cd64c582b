-- What is kept of each component is what the measure takes.
use Rattle.std.proofs.Common.{◌∙◌}
use Rattle.components.proofs.SumLaws.{pairs-are}
use Rattle.components.proofs.parts.pairs.Goals as goal

pub returns : goal.returns
returns c = c.pairs_in_all.ensures ∙ pairs-are c.args.program.now.rules c.args.parts.now c.requires.sums
