-- What is left to show of `nodes_for`.
use Rattle.std.proofs.Common.{ap, length, arith}
use Rattle.components.specs.Divided.{cyclic_numbers, part_of}
use Rattle.acyc_edges.specs.Encoding.{is_cyclic}
use Rattle.acyc_edges.proofs.NodeLaws.{given-few}
use Rattle.acyc_edges.proofs.Totals.{length-part}
use Rattle.acyc_edges.proofs.nodes.nodes_for.Goals as goal

pub returns : goal.returns
returns c = record {
  given = c.in_ok-given.ensures;
  few = given-few c.args.program.now c.in_ok-given.given c.in_ok-given.ensures c.requires.small;
  cyclic = c.in_ok-cyclic.ensures;
  cyclic_few = let part = length-part (is_cyclic c.args.program.now (part_of c.args.parts.now) (cyclic_numbers c.args.parts.now)) c.args.program.now.atoms in
      let same = ap length c.in_ok-cyclic.ensures in
      let few = c.known.ensures.few in
      omega arith;
}
