-- What is left to show of `cyclic_atoms`.
use Rattle.std.proofs.Common.{ap, ◌∙◌}
use Rattle.rising_numbers.specs.Rising.{rising}
use Rattle.rising_numbers.proofs.RisingLaws.{rises-filter}
use Rattle.components.specs.Divided.{cyclic_numbers, part_of}
use Rattle.acyc_edges.specs.Encoding.{is_cyclic}
use Rattle.acyc_edges.proofs.NodeLaws.{rising-kept}
use Rattle.acyc_edges.proofs.nodes.cyclic_atoms.Goals as goal

pub returns : goal.returns
returns c =
    c.in_ok-cyclic.ensures
    ∙ (ap rising c.in_ok-list.ensures
    ∙ rising-kept _ (rises-filter (is_cyclic c.args.program.now (part_of c.args.parts.now) (cyclic_numbers c.args.parts.now)) 0 c.args.program.now.atoms c.known.ensures.facts.atoms_rise))
