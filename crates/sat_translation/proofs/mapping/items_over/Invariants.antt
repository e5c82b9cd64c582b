use Rattle.std.proofs.Common.{◌≡◌, take, drop}
use Rattle.std.specs.List.{AllByRecursion}
use Rattle.asp_base.specs.Literal.{atom_of}
use Rattle.ground_program.specs.Facts.{Among, FitsWeight}
use Rattle.sat_translation.specs.InputMap.{items_over}
use Rattle.sat_translation.proofs.mapping.items_over.Given as goal

abbrev pub invariant-loop-lit : goal.invariant-loop-lit
invariant-loop-lit l = record {
  made : l.renamed.items ≡ items_over l.atoms (take l.lit-index l.items);
  fit : AllByRecursion (λ item. Among l.atoms (atom_of item.0) × FitsWeight item.1) (drop l.lit-index l.items);
}
