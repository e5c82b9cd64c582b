use Rattle.std.proofs.Common.{◌≡◌, ◌++◌, rules}
use Rattle.std.specs.List.{flat_map}
use Rattle.aspif_format.specs.Written.{required_line, parts}
use Rattle.aspif_format.proofs.PartSteps.{part-pushed, front-grows}
use Rattle.aspif_format.proofs.writing.push_required_parts.Goals as goal

pub loop-rest-preserved : goal.loop-rest-preserved
loop-rest-preserved c =
    let now = c.loop-rest.out.items in
    let pushed : c.push_required_part.new.out.items ≡ now ++ required_line c.split_at.result.0.now = c.in_ok-push_required_part.ensures.ok in
    record {
      whole = part-pushed required_line now _ c.loop-rest.rest.now _ _ (c.args.out.now.items ++ flat_map required_line (parts c.args.lits.now)) (search rules) c.split_at.ensures.front c.split_at.ensures.back pushed c.loop-rest.invariant.whole;
      front = front-grows c.args.out.now.items now _ _ c.loop-rest.invariant.front pushed;
    }
