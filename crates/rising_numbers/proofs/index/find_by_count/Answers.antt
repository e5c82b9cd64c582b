use Rattle.std.proofs.Common.{arith}
use Rattle.rising_numbers.proofs.IndexLaws.{not_counted}
use Rattle.rising_numbers.proofs.index.find_by_count.Goals as goal

pub returns-else-place-gt0 : goal.returns-else-place-gt0
returns-else-place-gt0 c = not_counted c.args.numbers.now c.args.number c.requires (λ some. grind arith)
