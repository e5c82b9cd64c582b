-- A further line is an edge, or has a fault.
use Rattle.std.proofs.Common.{◌∙◌, sym, ap}
use Rattle.asp_scan.specs.Scanning.{Scanning}
use Rattle.dimacs_format.specs.Read.{content_of, edges}
use Rattle.dimacs_format.specs.private.Walks.{onto}
use Rattle.std.proofs.Common.{[], ◌∷◌}
use Rattle.dimacs_format.proofs.EdgeSteps.{no_edge, edge_step, bad_edge}
use Rattle.dimacs_format.proofs.Refused.{refuses-at}
use Rattle.dimacs_format.proofs.edges.next_edge.Goals as goal

pub returns-then-not-next_content-clause-err : goal.returns-then-not-next_content-clause-err
returns-then-not-next_content-clause-err c = λ n.
    refuses-at _ c.fault_at.result c.args.scan.now.last _ _ c.fault_at.ensures c.if-not-next_content.ensures.end (no_edge c.args.scan.now.last c.args.vars n (content_of c.args.scan.now.ahead) c.if-not-next_content.ensures.none)

pub returns-in-Ok-clause-ok : goal.returns-in-Ok-clause-ok
returns-in-Ok-clause-ok c = λ n.
    edge_step c.args.scan.now.last c.args.vars (content_of c.args.scan.now.ahead) c.next_content.new.scan.line (content_of c.next_content.new.scan.ahead) c.next_content.new.scan.left
    c.if-not-next_content.ensures.more c.if-not-next_content.ensures.front n c.in-Ok.edge c.in-Ok.ensures.ok
    ∙ ap (λ (s : Scanning). onto (c.in-Ok.edge ∷ []) (edges c.args.scan.now.last c.args.vars n (content_of s.ahead))) (sym c.in-Ok.ensures.rest)

pub returns-in-Err-clause-err : goal.returns-in-Err-clause-err
returns-in-Err-clause-err c = λ n.
    refuses-at _ c.fault_at-in-Err.result c.next_content.new.scan.line.number _ _ c.fault_at-in-Err.ensures (ap (λ (s : Scanning). s.line.number) c.in-Err.ensures.rest)
    (bad_edge c.args.scan.now.last c.args.vars (content_of c.args.scan.now.ahead) c.next_content.new.scan.line (content_of c.next_content.new.scan.ahead) c.next_content.new.scan.left
    c.if-not-next_content.ensures.more c.if-not-next_content.ensures.front n c.in-Err.kind c.in-Err.ensures.err)
