-- Row by row to the last one, which has one cell.
use Rattle.std.proofs.Common.{◌≡◌, ◌∙◌, ◌+◌, ◌-◌, ℕ, List, [], ltb, length, ap, sym, subst, get_or, arith}
use Rattle.asp_base.specs.Literal.{Literal}
use Rattle.rule_network.specs.Block.{Block, HasRoom}
use Rattle.counting_grid.specs.private.Rows.{next_says, next_length, Appends}
use Rattle.counting_grid.proofs.GridRows.{row-more, room-next, row-some, row-defines, row-adds}
use Rattle.counting_grid.proofs.counting.grid.Goals as goal

pub next_row-requires-clause-room : goal.next_row-requires-clause-room
next_row-requires-clause-room c =
    let lits : List Literal = c.args.lits.now in
    let k : ℕ = c.args.k in
    let w : ℕ = length lits - k + 1 in
    let i : ℕ = c.loop-i.i in
    subst (λ row. HasRoom (next_length (ltb i w) (ltb i k) (length row)) c.loop-i.net)
    (sym c.as_slice.ensures)
    (room-next c.args.net.now c.loop-i.net lits c.loop-i.row k w i c.loop-i.invariant
    c.requires.least (omega arith) (omega arith) (omega arith) c.requires.room)

pub loop-i-preserved : goal.loop-i-preserved
loop-i-preserved c =
    let lits : List Literal = c.args.lits.now in
    let k : ℕ = c.args.k in
    let w : ℕ = length lits - k + 1 in
    let i : ℕ = c.loop-i.i in
    let now : Block = c.loop-i.net in
    let new : Block = c.next_row.new.net in
    let lit : Literal = c.index-lits-i.result in
    row-more c.args.net.now now lits c.loop-i.row k w i c.loop-i.invariant c.requires.least
    (omega arith) (omega arith) (omega arith) new lit c.in_ok-next.next c.requires.known
    c.index-lits-i.is
    (subst
    (λ row. Appends now new [] c.in_ok-next.next (next_says now row lit (ltb i w) (ltb i k)))
    c.as_slice.ensures c.in_ok-next.ensures.row)

pub bounds-cells-0 : goal.bounds-cells-0
bounds-cells-0 c =
    let lits : List Literal = c.args.lits.now in
    let w : ℕ = length lits - c.args.k + 1 in
    let one : length c.loop-i.row ≡ 1 =
    row-some c.args.net.now c.loop-i.net lits c.loop-i.row c.args.k w c.loop-i.i
    c.loop-i.invariant c.requires.least (omega arith) (omega arith) (omega arith) in
    let same : length c.as_slice-cells.result.now ≡ length c.loop-i.row =
    ap length c.as_slice-cells.ensures in
    omega arith

pub returns-clause-defines : goal.returns-clause-defines
returns-clause-defines c =
    let w : ℕ = length c.args.lits.now - c.args.k + 1 in
    row-defines c.args.net.now c.loop-i.net c.args.lits.now c.loop-i.row c.args.k w c.loop-i.i
    c.loop-i.invariant c.requires.least (omega arith) (omega arith) (omega arith)
    c.index-cells-0.result
    (c.index-cells-0.is
    ∙ ap (λ row. get_or row 0 c.index-cells-0.result) c.as_slice-cells.ensures)

pub returns-clause-adds : goal.returns-clause-adds
returns-clause-adds c =
    let w : ℕ = length c.args.lits.now - c.args.k + 1 in
    row-adds c.args.net.now c.loop-i.net c.args.lits.now c.loop-i.row c.args.k w c.loop-i.i
    c.loop-i.invariant c.requires.least (omega arith) (omega arith) (omega arith)
