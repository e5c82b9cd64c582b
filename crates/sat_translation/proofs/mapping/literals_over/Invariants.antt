use Rattle.std.proofs.Common.{◌≡◌, take, drop}
use Rattle.ground_program.specs.Facts.{Among, LiteralsFit}
use Rattle.sat_translation.specs.InputMap.{literals_over}
use Rattle.sat_translation.proofs.mapping.literals_over.Given as goal

abbrev pub invariant-loop-lit : goal.invariant-loop-lit
invariant-loop-lit l = record {
  made : l.renamed ≡ literals_over l.atoms (take l.lit-index l.lits);
  fit : LiteralsFit (Among l.atoms) (drop l.lit-index l.lits);
}
