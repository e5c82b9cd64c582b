-- So many shows were copied.
use Rattle.std.proofs.Common.{◌≡◌, take}
use Rattle.ground_program.proofs.copies.copied_shows.Given as goal

abbrev pub invariant-loop-show : goal.invariant-loop-show
invariant-loop-show l = l.copy ≡ take l.show-index l.shows
