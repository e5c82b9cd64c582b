-- The cyclic components so far lead to all of them.
use Rattle.level_ranking.proofs.PartLoops.{Parts}
use Rattle.level_ranking.proofs.ranking.add_components.Given as goal

abbrev pub invariant-loop-i : goal.invariant-loop-i
invariant-loop-i l = Parts l.sources.given.program.now l.sources.given.parts.now l.fn.store l.store l.i
