-- The atoms so far lead to all atoms of the component.
use Rattle.level_ranking.proofs.PartLoops.{Atoms}
use Rattle.level_ranking.specs.private.Sources.{atoms_in}
use Rattle.level_ranking.proofs.ranking.add_component.Given as goal

abbrev pub invariant-loop-atom : goal.invariant-loop-atom
invariant-loop-atom l = Atoms l.sources.given.program.now l.sources.given.parts.now l.part l.fn.store l.store (atoms_in l.sources.given.program.now l.sources.given.parts.now l.part) l.atom-index
