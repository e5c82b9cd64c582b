use Rattle.std.proofs.Common.{arith}
use Rattle.asp_tools.proofs.NameLaws.{names-grow}
use Rattle.asp_tools.proofs.job.names_behind.Goals as goal

pub loop-place-preserved : goal.loop-place-preserved
loop-place-preserved c = (
  omega arith,
  omega arith,
  names-grow c.args.read c.loop-place.place c.args.words.now _ c.loop-place.names.items c.push.new.self.items c.in_ok-word.field-0
      c.loop-place.invariant.0 c.loop-place.invariant.2 c.push.ensures.items c.in_ok-word.ensures.rest,
)
