-- What stood in front stays there where memory ran out.
use Rattle.asp_scan.proofs.Appends.{front_kept, on_err}
use Rattle.dimacs_format.proofs.ecnf_writer.push_edges.Goals as goal

pub returns-in_err-push_edge-clause-err : goal.returns-in_err-push_edge-clause-err
returns-in_err-push_edge-clause-err c =
    on_err _ _ (front_kept c.args.out.now.items c.loop-edge.out.items _ c.push_edge.new.out.items c.loop-edge.invariant.lines c.in_err-push_edge.ensures.err)
