use Rattle.std.proofs.Common.{arith}
use Rattle.ground_program.proofs.RadixLaws.{best-radix, best_radix_low, best_radix_high, tare-below, tare-divides}
use Rattle.ground_program.proofs.laws.radix_leaves_least_over.Goals as goal

pub returns-clause-range : goal.returns-clause-range
returns-clause-range c = λ items. (best_radix_low items, best_radix_high items)

pub returns-clause-least : goal.returns-clause-least
returns-clause-least c = λ items d l h. (best-radix items).least d l (omega arith)

pub returns-clause-largest : goal.returns-clause-largest
returns-clause-largest c = λ items d l h. (best-radix items).largest d l (omega arith)

pub returns-clause-tare : goal.returns-clause-tare
returns-clause-tare c = λ bound b o. (tare-below bound b o, tare-divides bound b o)
