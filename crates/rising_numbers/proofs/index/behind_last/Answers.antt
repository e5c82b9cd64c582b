use Rattle.rising_numbers.proofs.IndexLaws.{behind-last}
use Rattle.rising_numbers.proofs.index.behind_last.Goals as goal

pub returns-in-Some : goal.returns-in-Some
returns-in-Some c = behind-last c.args.numbers.now c.in-Some.last.now c.requires c.in-Some.ensures.item.3.0 (c.in-Some.ensures.item.3.1 0)
