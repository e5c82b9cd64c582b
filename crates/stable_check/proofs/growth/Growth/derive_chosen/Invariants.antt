use Rattle.std.proofs.Common.{◌≡◌, drop, length}
use Rattle.stable_check.specs.private.Growth.{derive_chosen}
use Rattle.stable_check.proofs.growth.Growth.derive_chosen.Given as goal

abbrev pub invariant-loop-head : goal.invariant-loop-head
invariant-loop-head l = record {
  derived : length l.self.derived ≡ length l.atoms;
  lacks : l.table.rules ≡ length l.self.counts.lacks;
  rest : derive_chosen l.atoms l.set l.table.rows (drop l.head-index l.heads) l.self ≡ derive_chosen l.atoms l.set l.table.rows l.heads l.initial.self;
}
