use Rattle.std.proofs.Common.{◌≡◌, ◌≤◌, length, reverse, get_or, []}
use Rattle.stable_check.specs.private.Growth.{take_off_all}
use Rattle.stable_check.specs.private.Links.{chain}
use Rattle.stable_check.proofs.occurrences.Occurrences.take_off.Given as goal

abbrev pub invariant-loop-at : goal.invariant-loop-at
invariant-loop-at l = record {
  within : l.at ≤ length l.self-inside.links.items;
  same : l.self-inside.rules ≡ length l.counters.lacks;
  rest : take_off_all (chain (reverse l.self-inside.links.items) l.at) l.counters
      ≡ take_off_all (get_or l.self.rows l.index []) l.initial.counters;
}

abbrev pub decreases-loop-at : goal.decreases-loop-at
decreases-loop-at l = l.at
