-- The nodes, the literal and the end are the line of the edge.
use Rattle.std.proofs.Common.{◌≡◌, ◌++◌, rules}
use Rattle.dimacs_format.specs.Written.{literal_word}
use Rattle.dimacs_format.proofs.WrittenLines.{edge_pieces}
use Rattle.dimacs_format.proofs.ecnf_writer.push_edge.Goals as goal

pub returns-clause-ok : goal.returns-clause-ok
returns-clause-ok c =
    let lit : c.push_number.new.out.items ≡ c.push_nodes.new.out.items ++ literal_word c.args.edge.now.lit = search rules in
    edge_pieces c.args.out.now.items c.push_nodes.new.out.items c.push_number.new.out.items _ c.args.edge.now c.in_ok-push_nodes.ensures.ok lit c.in_ok-push.ensures.items
