use Rattle.std.proofs.Common.{rules, arith, ◌≡◌, ◌^◌, List, [], ◌∷◌}
use Rattle.std.specs.Prelude.{pos, ◌<ℤ◌}
use Rattle.std.specs.Vec.Iter.{into_iter_items}
use Rattle.std.proofs.lemmas.Int.{ints}
use Rattle.ground_program.specs.Draft.{levels_onto}
use Rattle.ground_program.specs.declared.program.Level.{Level}
use Rattle.ground_program.proofs.LevelLaws.{merge-step}
use Rattle.ground_program.proofs.levels.merge_neighbours.Goals as goal
use mir.Syntax.{w32}
use mir.Val.{SFits}

pub loop-level-preserved : goal.loop-level-preserved
loop-level-preserved c =
    let rest : List Level = into_iter_items c.next.new.self in
    let steps : into_iter_items c.loop-level.level-iterator ≡ c.in-Some.level ∷ rest = search rules in
    let fits : SFits w32 c.in-Some.level.priority = search rules in
    let below : c.in-Some.level.priority <ℤ pos (2 ^ 31) = omega (arith, ints) in
    merge-step (pos (2 ^ 31)) c.in-Some.level c.loop-level.merged.items c.add_behind.new.levels.items rest (levels_onto [] c.args.sorted.items) below
    (rw steps at c.loop-level.invariant) c.in_ok-add_behind.ensures
