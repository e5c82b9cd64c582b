use Rattle.std.proofs.lemmas.Bool.{eqb-true}
use Rattle.rising_numbers.proofs.IndexLaws.{counts}
use Rattle.rising_numbers.proofs.index.counts_from_one.Goals as goal

pub returns-then-numbers-eq1 : goal.returns-then-numbers-eq1
returns-then-numbers-eq1 c e = counts c.args.numbers.now c.requires c.if-numbers-eq1.true (eqb-true _ _ e)
