use Rattle.std.proofs.Common.{◌≡◌, length}
use Rattle.asp_scan.specs.Tokens.{tokens}
use Rattle.stable_check.specs.AtomsText.{atoms_of_tokens}
use Rattle.stable_check.specs.private.Gathering.{onto}
use Rattle.stable_check.proofs.atoms_text.push_line.Given as goal

abbrev pub invariant-atoms : goal.invariant-atoms
invariant-atoms l = record {
  same : onto l.atoms.items (atoms_of_tokens (tokens l.scan.left)) ≡ onto l.initial.atoms.items (atoms_of_tokens (tokens l.initial.scan.left));
  rest : l.scan ≡ record l.initial.scan { left = l.scan.left };
}

abbrev pub decreases-atoms : goal.decreases-atoms
decreases-atoms l = length l.scan.left
