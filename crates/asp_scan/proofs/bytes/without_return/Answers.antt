use Rattle.std.proofs.Common.{◌-◌, length, arith, eq-eqb}
use Rattle.std.proofs.lemmas.Bool.{ne_eqb}
use Rattle.asp_scan.proofs.Pieces.{without_return-cut, without_return-whole}
use Rattle.asp_scan.proofs.bytes.without_return.Goals as goal

pub returns-then-last-eq13 : goal.returns-then-last-eq13
returns-then-last-eq13 c = without_return-cut c.args.line.now (length c.args.line.now - 1) (omega arith) (eq-eqb _ 13 c.if-last-eq13.true)

pub returns-else-last-eq13 : goal.returns-else-last-eq13
returns-else-last-eq13 c = without_return-whole c.args.line.now (length c.args.line.now - 1) (omega arith) (ne_eqb _ 13 c.if-last-eq13.false)
