use Rattle.std.proofs.Common.{◌≡◌, ap, ◌++◌, rules}
use Rattle.std.specs.List.{flat_map}
use Rattle.std.proofs.Math.Seq.{take-length}
use Rattle.aspif_format.specs.Written.{level_line, level_lines, parts}
use Rattle.aspif_format.proofs.PartSteps.{part-pushed, front-grows}
use Rattle.aspif_format.proofs.writing.push_level.Goals as goal

pub loop-rest-init : goal.loop-rest-init
loop-rest-init c =
    let old = c.args.out.now.items in
    let items : c.as_slice-rest.result.now ≡ c.args.level.now.items = c.as_slice-rest.ensures in
    record {
      whole = ap (λ xs. old ++ flat_map (level_line c.args.level.now.priority) (parts xs)) items;
      front = take-length old;
    }

pub loop-rest-preserved : goal.loop-rest-preserved
loop-rest-preserved c =
    let now = c.loop-rest.out.items in
    let line = level_line c.args.level.now.priority in
    let pushed : c.push_level_part.new.out.items ≡ now ++ line c.split_at.result.0.now = c.in_ok-push_level_part.ensures.ok in
    record {
      whole = part-pushed line now _ c.loop-rest.rest.now _ _ (c.args.out.now.items ++ level_lines c.args.level.now) (search rules) c.split_at.ensures.front c.split_at.ensures.back pushed c.loop-rest.invariant.whole;
      front = front-grows c.args.out.now.items now _ _ c.loop-rest.invariant.front pushed;
    }
