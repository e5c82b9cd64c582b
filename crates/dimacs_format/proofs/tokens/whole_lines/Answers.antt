-- Where the line has no token left, whole lines follow.
use Rattle.dimacs_format.proofs.Behind.{whole-left}
use Rattle.dimacs_format.proofs.tokens.whole_lines.Goals as goal

pub returns-then-end_of_line-clause-ok : goal.returns-then-end_of_line-clause-ok
returns-then-end_of_line-clause-ok c = whole-left c.args.scan.now c.if-end_of_line.ensures
