use Rattle.std.proofs.Common.{◌≡◌, ◌^◌, min, take, drop}
use Rattle.std.specs.Bool.{⊤}
use Rattle.std.specs.List.{sum_by, AllByRecursion}
use Rattle.ground_program.specs.Facts.{BodyFits}
use Rattle.ground_program.specs.Room.{term}
use Rattle.ground_program.proofs.rooms.rules_room.Given as goal

abbrev pub invariant-loop-rule : goal.invariant-loop-rule
invariant-loop-rule l =
    (l.total ≡ min (sum_by term (take l.rule-index l.rules)) (2 ^ 63))
    × AllByRecursion (λ rule. BodyFits (λ a. ⊤) rule.body) (drop l.rule-index l.rules)
