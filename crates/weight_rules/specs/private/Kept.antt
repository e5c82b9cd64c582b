-- Items whose literals are known to a block.
use Rattle.std.specs.Prelude.{ℕ, List}
use Rattle.std.specs.List.{AllByRecursion}
use Rattle.asp_base.specs.Literal.{Literal}
use Rattle.rule_network.specs.Block.{Block, Known}

abbrev pub ItemsKnown : Block → List (Literal × ℕ) → Type 0
ItemsKnown net items = AllByRecursion (λ item. Known net item.0) items
