use Rattle.std.proofs.Common.{◌≡◌, ◌++◌, drop}
use Rattle.weight_rules.specs.private.Levels.{picked}
use Rattle.weight_rules.proofs.lists.carries_of.Given as goal

abbrev pub invariant-loop-lit : goal.invariant-loop-lit
invariant-loop-lit l =
    l.carries ++ picked l.radix l.left (drop l.lit-index l.list) ≡ picked l.radix l.skip l.list
