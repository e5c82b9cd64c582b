use Rattle.std.proofs.Common.{◌≡◌, length}
use Rattle.asp_scan.specs.Lines.{lines_of}
use Rattle.stable_check.specs.AtomsText.{atoms_of_lines}
use Rattle.stable_check.specs.private.Gathering.{onto}
use Rattle.stable_check.proofs.atoms_text.read_atoms.Given as goal

abbrev pub invariant-lines : goal.invariant-lines
invariant-lines l = onto l.atoms.items (atoms_of_lines l.scan.ahead) ≡ atoms_of_lines (lines_of l.text)

abbrev pub decreases-lines : goal.decreases-lines
decreases-lines l = length l.scan.ahead
