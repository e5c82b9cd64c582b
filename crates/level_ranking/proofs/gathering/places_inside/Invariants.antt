-- The atoms so far, each once, with their places.
use Rattle.std.proofs.Common.{◌≡◌, ◌-◌, map, take}
use Rattle.asp_base.specs.Sets.{members, once}
use Rattle.rising_numbers.specs.Rising.{place}
use Rattle.level_ranking.specs.Encoding.{positive_in}
use Rattle.level_ranking.specs.Components.{atoms_of_part}
use Rattle.components.specs.Divided.{part_of}
use Rattle.level_ranking.proofs.gathering.places_inside.Given as goal

abbrev pub invariant-loop-lit : goal.invariant-loop-lit
invariant-loop-lit l = record {
  seen : l.seen.keys ≡ once (positive_in (members (atoms_of_part (part_of l.parts) l.part l.atoms)) (take l.lit-index l.lits));
  places : l.places.items ≡ map (λ b. place l.atoms b - 1) l.seen.keys;
}
