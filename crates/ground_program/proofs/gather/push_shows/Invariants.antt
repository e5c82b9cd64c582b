use Rattle.std.proofs.Common.{◌≡◌, ◌++◌, drop}
use Rattle.std.specs.List.{flat_map}
use Rattle.ground_program.specs.Occurrences.{atoms_of_literals}
use Rattle.ground_program.proofs.gather.push_shows.Given as goal

abbrev pub invariant-loop-show : goal.invariant-loop-show
invariant-loop-show l = l.out.items ++ flat_map (λ show. atoms_of_literals show.condition) (drop l.show-index l.shows) ≡ l.initial.out.items ++ flat_map (λ show. atoms_of_literals show.condition) l.shows
