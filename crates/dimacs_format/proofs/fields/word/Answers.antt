-- The token is the first of the line's.
use Rattle.dimacs_format.proofs.FieldTokens.{word-some}
use Rattle.dimacs_format.proofs.fields.word.Goals as goal

pub returns-in-Some-clause-ok : goal.returns-in-Some-clause-ok
returns-in-Some-clause-ok c = word-some c.args.bad c.args.scan.now.left c.in-Some.text.now c.next_word.new.self.left c.in-Some.ensures.word
