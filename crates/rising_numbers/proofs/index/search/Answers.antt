use Rattle.rising_numbers.proofs.PlaceLaws.{not_found}
use Rattle.rising_numbers.proofs.index.search.Goals as goal

pub returns-in-Err : goal.returns-in-Err
returns-in-Err c = not_found c.args.numbers.now c.args.number c.in-Err.field-0 c.in-Err.ensures.position c.requires
