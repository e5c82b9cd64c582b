-- The edges so far, and those of the atoms that are left.
use Rattle.std.proofs.Common.{◌≡◌, ◌++◌, drop}
use Rattle.std.specs.List.{AllByRecursion}
use Rattle.ground_program.specs.Facts.{Among}
use Rattle.components.specs.private.Links.{edges_into}
use Rattle.components.proofs.links.push_atoms.Given as goal

abbrev pub invariant-loop-atom : goal.invariant-loop-atom
invariant-loop-atom l = record {
  pushed : l.out.items ++ edges_into l.atoms l.node (drop l.atom-index l.heads) ≡ l.initial.out.items ++ edges_into l.atoms l.node l.heads;
  fit : AllByRecursion (Among l.atoms) (drop l.atom-index l.heads);
}
