-- What is left to show of `pairs_are_at_most_the_square_of_the_size`.
use Rattle.std.proofs.Common.{◌*◌, ◌≤◌, sym, subst}
use Rattle.graph_parts.specs.Divided.{is_cyclic_at}
use Rattle.components.specs.Divided.{cyclic_numbers, part_of}
use Rattle.ground_program.specs.Size.{size}
use Rattle.acyc_edges.proofs.CyclicLaws.{rises-parts}
use Rattle.acyc_edges.proofs.PairLaws.{pairs-most}
use Rattle.acyc_edges.proofs.TangleLaws.{pairs-of}
use Rattle.acyc_edges.proofs.laws.pairs_are_at_most_the_square_of_the_size.Goals as goal

pub returns : goal.returns
returns c P d program normal are = subst (λ n. n ≤ size P * size P) (sym (pairs-of P program normal d are)) (pairs-most P program normal (part_of d) (cyclic_numbers d) (rises-parts (is_cyclic_at d.cyclic) d.count))
