-- The token is a number, or none.
use Rattle.std.proofs.Common.{◌≡◌, to_z, of_z, w64, arith}
use Rattle.std.proofs.lemmas.Int.{to_z-of_z}
use Rattle.dimacs_format.proofs.FieldTokens.{numeral-some, numeral-none}
use Rattle.dimacs_format.proofs.fields.numeral.Goals as goal

pub returns-in-Ok-clause-ok : goal.returns-in-Ok-clause-ok
returns-in-Ok-clause-ok c = numeral-some c.args.bad c.args.scan.now.left c.in-Ok.n c.next_number.new.self.left c.in-Ok.ensures.ok _ (let passed : to_z w64 (of_z w64 c.in-Ok.n) ≡ c.in-Ok.n = grind (arith, to_z-of_z) in passed)

pub returns-in-Err-clause-err : goal.returns-in-Err-clause-err
returns-in-Err-clause-err c = numeral-none c.args.bad c.args.scan.now.left c.in-Err.field-0 c.in-Err.ensures.err
