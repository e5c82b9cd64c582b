-- The new atom has a rule for each literal so far.
use Rattle.std.proofs.Common.{◌≡◌, take}
use Rattle.asp_base.specs.Literal.{Pos}
use Rattle.rule_network.specs.Block.{next_atom, with_atom, with_rules}
use Rattle.rule_network.proofs.CellLaws.{singles}
use Rattle.rule_network.proofs.cells.any_of.Given as goal

abbrev pub invariant-loop-lit : goal.invariant-loop-lit
invariant-loop-lit l =
    (l.head ≡ Pos (next_atom l.fn.net))
    × (l.net ≡ with_rules (next_atom l.fn.net) (singles (take l.lit-index l.lits))
    (with_atom (next_atom l.fn.net) l.fn.net))
