use Rattle.std.proofs.Common.{◌≡◌, drop, length, replicate, []}
use Rattle.stable_check.specs.private.Links.{with_rules}
use Rattle.stable_check.proofs.table.occurrences.Given as goal

abbrev pub invariant-loop-n : goal.invariant-loop-n
invariant-loop-n l = record {
  rules : l.table.rules ≡ length l.rules;
  same : length l.table.rows ≡ length l.atoms;
  rest : with_rules l.atoms l.n (drop l.n l.rules) l.table.rows ≡ with_rules l.atoms 0 l.rules (replicate (length l.atoms) []);
}
