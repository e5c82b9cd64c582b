use Rattle.std.proofs.Common.{arith, ◌^◌, ◌∙◌, get_or}
use Rattle.std.specs.Prelude.{pos, ◌<ℤ◌}
use Rattle.std.specs.List.{AllByRecursion, All}
use Rattle.std.proofs.lemmas.Int.{ints}
use Rattle.std.proofs.lemmas.List.Elements.{All-from_recursion, recursion_from_All}
use Rattle.std.proofs.lemmas.List.Sorted.{All-permutation}
use Rattle.std.proofs.lemmas.Result.{IfOk-weaker}
use Rattle.ground_program.specs.declared.program.Level.{Level}
use Rattle.ground_program.proofs.LevelLaws.{NoneRises-from_sorted, levels_onto-sorted}
use Rattle.ground_program.proofs.levels.merge_levels.Goals as goal

pub merge_neighbours-requires : goal.merge_neighbours-requires
merge_neighbours-requires c =
    let below : All (λ (level : Level). level.priority <ℤ pos (2 ^ 31)) c.sort_levels.new.levels.items =
    All-permutation (λ (level : Level). level.priority <ℤ pos (2 ^ 31)) c.args.levels.items c.sort_levels.new.levels.items c.in_ok-sort_levels.ensures.permutation
    (All-from_recursion (λ (level : Level). level.priority <ℤ pos (2 ^ 31)) c.args.levels.items c.requires) in
    NoneRises-from_sorted (pos (2 ^ 31)) c.sort_levels.new.levels.items c.in_ok-sort_levels.ensures.sorted
    (λ d some. let first : (get_or c.sort_levels.new.levels.items 0 d).priority <ℤ pos (2 ^ 31) = below 0 d some in omega (arith, ints))

pub returns : goal.returns
returns c =
    let below : AllByRecursion (λ (level : Level). level.priority <ℤ pos (2 ^ 31)) c.sort_levels.new.levels.items =
    recursion_from_All (λ (level : Level). level.priority <ℤ pos (2 ^ 31)) c.sort_levels.new.levels.items
    (All-permutation (λ (level : Level). level.priority <ℤ pos (2 ^ 31)) c.args.levels.items c.sort_levels.new.levels.items c.in_ok-sort_levels.ensures.permutation
    (All-from_recursion (λ (level : Level). level.priority <ℤ pos (2 ^ 31)) c.args.levels.items c.requires)) in
    IfOk-weaker c.merge_neighbours.result _ _ (λ merged e. e ∙ levels_onto-sorted (pos (2 ^ 31)) c.args.levels.items c.sort_levels.new.levels.items c.in_ok-sort_levels.ensures.stable c.requires below)
    c.merge_neighbours.ensures
