-- The atoms so far, behind their numbers.
use Rattle.std.proofs.Common.{◌≡◌, map, get_or}
use Rattle.std.specs.List.{range_with_len}
use Rattle.components.proofs.finding.behind_numbers.Given as goal

abbrev pub invariant-loop-place : goal.invariant-loop-place
invariant-loop-place l = l.pairs.items ≡ map (λ j. (get_or l.parts.numbers j 0, get_or l.atoms j 0)) (range_with_len 0 l.place)
