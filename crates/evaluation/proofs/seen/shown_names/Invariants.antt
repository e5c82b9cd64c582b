use Rattle.std.proofs.Common.{◌≡◌, take}
use Rattle.ground_program.specs.Stable.{names_of}
use Rattle.evaluation.proofs.seen.shown_names.Given as goal

abbrev pub invariant-loop-show : goal.invariant-loop-show
invariant-loop-show g l = l.names ≡ names_of (take l.show-index l.shows) (g.I.Interpretation.truth l.truth)
