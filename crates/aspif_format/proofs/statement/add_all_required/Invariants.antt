use Rattle.std.proofs.Common.{◌≡◌, take, drop}
use Rattle.ground_program.specs.Draft.{with_required}
use Rattle.ground_program.specs.Facts.{IsAtom, LiteralsFit}
use Rattle.aspif_format.proofs.statement.add_all_required.Given as goal

abbrev pub invariant-loop-lit : goal.invariant-loop-lit
invariant-loop-lit l = record {
  added : l.builder ≡ with_required (take l.lit-index l.lits) l.initial.builder;
  fit : LiteralsFit IsAtom (drop l.lit-index l.lits);
}
