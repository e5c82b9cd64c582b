use Rattle.std.proofs.Common.{rules, arith, ap, sym, ◌∙◌, ◌≡◌, ◌-◌, ◌^◌, ◌<◌, ◌++◌, length, set}
use Rattle.std.specs.Prelude.{pos}
use Rattle.std.proofs.lemmas.Int.{ints}
use Rattle.std.proofs.lemmas.List.{get_or_default}
use Rattle.std.proofs.lemmas.Result.{on_ok_weaker}
use Rattle.ground_program.specs.declared.program.Level.{Level}
use Rattle.ground_program.proofs.LevelLaws.{goes-behind, is-joined, goes-first}
use Rattle.ground_program.proofs.levels.add_behind.Goals as goal
use Rattle.ground_program.proofs.levels.add_behind.Goals.{else-count-gt0-via-then-count-gt0+else-index-level, else-count-gt0-via-else-count-gt0}
use mir.Syntax.{w32}
use mir.Val.{of_z}

pub returns : goal.returns
returns c = rw c.in_ok-push.ensures.items (elim c.else-count-gt0.branch [
  | else-count-gt0-via-then-count-gt0+else-index-level w ↦ goes-behind (pos (2 ^ 31)) c.args.level c.args.levels.now.items c.len-count.result w.index.result.now c.requires.falls c.requires.below
      (omega arith) (search rules) w.index.ensures (λ e. w.if-index-level.false (ap (of_z w32) e))
  | else-count-gt0-via-else-count-gt0 w ↦ goes-first c.args.level c.args.levels.now.items (omega arith)
])

pub returns-then-index-level : goal.returns-then-index-level
returns-then-index-level c =
    let items = c.args.levels.now.items in
    let count = c.len-count.result in
    let some : 0 < count = omega arith in
    let is : count ≡ length items = search rules in
    let read : c.index_mut.result.now ≡ c.index.result.now =
    c.index_mut.ensures.value ∙ get_or_default items (count - 1) c.index_mut.result.now c.index.result.now (omega arith) ∙ sym c.index.ensures in
    let even : c.index.result.now.priority ≡ c.args.level.priority = omega (arith, ints) in
    let joined = is-joined (pos (2 ^ 31)) c.args.level items count c.index_mut.result.now c.requires.falls some is c.index_mut.ensures.value
    (ap (λ (l : Level). l.priority) read ∙ even) in
    on_ok_weaker c.extend_level.result
    (λ (h : c.extend_level.new.level ≡ record { priority = c.index_mut.result.now.priority; items = c.index_mut.result.now.items ++ c.args.level.items }).
    ap (set items (count - 1)) h ∙ joined)
    c.extend_level.ensures
