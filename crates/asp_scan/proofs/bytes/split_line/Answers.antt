use Rattle.std.proofs.Common.{sym, ◌∙◌}
use Rattle.asp_scan.proofs.Pieces.{pieces_of-found, pieces_of-none}
use Rattle.asp_scan.proofs.bytes.split_line.Goals as goal

pub returns-in-Some-clause-line : goal.returns-in-Some-clause-line
returns-in-Some-clause-line c = pieces_of-found c.args.text.now c.in-Some.end c.in-Some.ensures.0 c.in-Some.ensures.1

pub returns-in-None-clause-line : goal.returns-in-None-clause-line
returns-in-None-clause-line c = pieces_of-none c.args.text.now (sym c.is_empty.ensures ∙ c.if-is_empty.false) c.in-None.ensures
