use Rattle.asp_scan.proofs.Appends.{on_ok-same}
use Rattle.aspif_format.proofs.PartSteps.{required_lines-some}
use Rattle.aspif_format.proofs.writing.push_required.Goals as goal

pub returns-clause-ok : goal.returns-clause-ok
returns-clause-ok c =
    on_ok-same c.push_required_parts.result c.args.out.now.items _ _ _ (required_lines-some c.args.lits.now c.if-is_empty.ensures) c.push_required_parts.ensures.ok
