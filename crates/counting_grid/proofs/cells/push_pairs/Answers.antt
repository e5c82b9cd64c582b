-- One cell after another, from two neighbours of the row before.
use Rattle.std.proofs.Common.{ℕ, ◌+◌, List, sym, subst, arith}
use Rattle.asp_base.specs.Literal.{Literal}
use Rattle.rule_network.specs.Block.{Block, Known}
use Rattle.rule_network.proofs.CellLaws.{adds-same}
use Rattle.rule_network.proofs.EntryLaws.{each-entry}
use Rattle.counting_grid.proofs.PairLaws.{RowPairs, pairs-more, pairs-all}
use Rattle.counting_grid.proofs.cells.push_pairs.Goals as goal

pub loop-i-preserved : goal.loop-i-preserved
loop-i-preserved c =
    let old : Block = c.args.net.now in
    let new : Block = c.one_or_all.new.net in
    let before : List Literal = c.args.before.now in
    let i : ℕ = c.loop-i.i in
    let b : Literal = c.index-before-i-in-loop-i.result in
    let above : Literal = c.index-before-i.result in
    let kb : Known old b =
    each-entry (Known old) before i b c.index-before-i-in-loop-i.is (omega arith)
    c.requires.before in
    let ka : Known old above =
    each-entry (Known old) before (i + 1) above c.index-before-i.is (omega arith)
    c.requires.before in
    subst (λ row. RowPairs old new c.args.row.now row before c.args.lit (i + 1))
    (sym c.in_ok-push.ensures.ok)
    (pairs-more old c.loop-i.net new c.args.row.now c.loop-i.row before c.args.lit b above
    c.in_ok-cell.cell i c.loop-i.invariant (omega arith) c.index-before-i-in-loop-i.is
    c.index-before-i.is kb ka c.requires.lit c.in_ok-cell.ensures.defines
    (adds-same 1 1 (4 + 2) 6 c.loop-i.net new (omega arith) (omega arith)
    c.in_ok-cell.ensures.adds))

pub returns : goal.returns
returns c =
    pairs-all c.args.net.now c.loop-i.net c.args.row.now c.loop-i.row c.args.before.now c.args.lit
    c.loop-i.i c.loop-i.invariant (omega arith) (omega arith)
