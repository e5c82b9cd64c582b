-- What is left of the comparisons leads to the whole.
use Rattle.std.proofs.Common.{length}
use Rattle.level_ranking.specs.private.Pairs.{paired}
use Rattle.level_ranking.proofs.Pushed.{Pushing}
use Rattle.level_ranking.proofs.comparisons.push_not_below.Given as goal

abbrev pub invariant-loop-place : goal.invariant-loop-place
invariant-loop-place l = Pushing (length l.x) (paired l.first l.x l.digits l.places) l.fn.store l.store l.fn.out.items l.out.items l.place-index
