-- A row from its first cell, its pairs and its last cell.
use Rattle.std.proofs.Common.{◌∙◌, ℕ, ◌+◌, ◌-◌, List, cond, min, length, ap, arith}
use Rattle.std.proofs.lemmas.List.{length-map}
use Rattle.asp_base.specs.Literal.{Literal}
use Rattle.asp_base.specs.Sets.{none}
use Rattle.rule_network.specs.Block.{Block, HasRoom, value, values}
use Rattle.rule_network.proofs.GrowthLaws.{all_known-kept, Grew-trans}
use Rattle.counting_grid.proofs.RowLaws.{room-behind, length-first, length-pairs, row-from}
use Rattle.counting_grid.proofs.cells.next_row.Goals as goal

pub push_pairs-requires-clause-room : goal.push_pairs-requires-clause-room
push_pairs-requires-clause-room c =
    let old : Block = c.args.net.now in
    let before : List Literal = c.args.before.now in
    let rest : ℕ = length before - 1 + cond c.args.last (min 1 (length before)) 0 in
    let room : HasRoom rest c.push_first.new.net =
    room-behind (cond c.args.first 1 0) rest old c.push_first.new.net c.new-row.result
    c.push_first.new.row _ c.in_ok-push_first.ensures
    (length-first c.args.first (values old none none before) (value old none none c.args.lit))
    (omega (arith, c.requires.room)) in
    omega arith

pub push_pairs-requires-clause-before : goal.push_pairs-requires-clause-before
push_pairs-requires-clause-before c =
    all_known-kept c.args.net.now c.push_first.new.net c.in_ok-push_first.ensures.grew
    c.args.before.now c.requires.before

pub push_last-requires-clause-room : goal.push_last-requires-clause-room
push_last-requires-clause-room c =
    let old : Block = c.args.net.now in
    let mid : Block = c.push_first.new.net in
    let before : List Literal = c.args.before.now in
    let last : ℕ = cond c.args.last (min 1 (length before)) 0 in
    let room : HasRoom (length before - 1 + last) mid =
    room-behind (cond c.args.first 1 0) (length before - 1 + last) old mid c.new-row.result
    c.push_first.new.row _ c.in_ok-push_first.ensures
    (length-first c.args.first (values old none none before) (value old none none c.args.lit))
    (omega (arith, c.requires.room)) in
    room-behind (length before - 1) last mid c.push_pairs.new.net c.push_first.new.row
    c.push_pairs.new.row _ c.in_ok-push_pairs.ensures
    (length-pairs (values mid none none before) (value mid none none c.args.lit)
    ∙ ap (λ n. n - 1) (length-map before (value mid none none)))
    room

pub push_last-requires-clause-before : goal.push_last-requires-clause-before
push_last-requires-clause-before c =
    all_known-kept c.args.net.now c.push_pairs.new.net
    (Grew-trans c.args.net.now c.push_first.new.net c.push_pairs.new.net
    c.in_ok-push_first.ensures.grew c.in_ok-push_pairs.ensures.grew)
    c.args.before.now c.requires.before

pub returns : goal.returns
returns c = record {
  row = row-from c.args.net.now c.push_first.new.net c.push_pairs.new.net c.push_last.new.net
      c.new-row.result c.push_first.new.row c.push_pairs.new.row c.push_last.new.row
      c.args.before.now c.args.lit c.args.first c.args.last c.new-row.ensures c.requires.before
      c.requires.lit c.in_ok-push_first.ensures c.in_ok-push_pairs.ensures
      c.in_ok-push_last.ensures;
}
