-- A square saturates as its root does.
use Rattle.std.proofs.Common.{arith, ◌∙◌}
use Rattle.components.proofs.SumLaws.{squares-alike}
use Rattle.components.proofs.parts.squared.Goals as goal

pub returns : goal.returns
returns c = λ x is. c.scaled.ensures ∙ squares-alike c.args.number x (omega arith)
