-- The cell with none above it is put behind the others.
use Rattle.std.proofs.Common.{◌≡◌, ◌++◌, ◌∷◌, [], ◌-◌, ◌+◌, ◌<◌, suc, List, Bool, sym, subst, length, arith}
use Rattle.std.proofs.lemmas.Bool.{cond-true}
use Rattle.std.proofs.lemmas.Result.{on_ok_weaker}
use Rattle.asp_base.specs.Literal.{Literal}
use Rattle.asp_base.specs.Sets.{Set}
use Rattle.rule_network.specs.Block.{Block, Adds, DefinesAll, value, values}
use Rattle.rule_network.proofs.CellLaws.{adds-same}
use Rattle.rule_network.proofs.EntryLaws.{some_entries}
use Rattle.counting_grid.specs.private.Rows.{last_value, last_says, Appends}
use Rattle.counting_grid.proofs.RowLaws.{appends-one, appends-same, last-defines}
use Rattle.counting_grid.proofs.cells.push_last.Goals as goal

pub returns : goal.returns
returns c =
    let old : Block = c.args.net.now in
    let new : Block = c.all_of.new.net in
    let row : List Literal = c.args.row.now in
    let before : List Literal = c.args.before.now in
    let cell : Literal = c.in_ok-cell.cell in
    let says : Set → Set → List Bool =
    λ X M. last_value (values old X M before) (value old X M c.args.lit) in
    let wanted : Set → Set → List Bool = last_says old before c.args.lit c.args.wanted in
    let some : 0 < length before =
    some_entries (length before) c.is_empty.result c.is_empty.ensures c.if-is_empty.false in
    let many : length before ≡ suc (length before - 1) = omega arith in
    let defines : DefinesAll old new (cell ∷ []) says =
    last-defines old new before c.args.lit c.index-before-before.result cell (length before - 1)
    many c.index-before-before.is c.in_ok-cell.ensures.defines in
    let adds : Adds 1 6 old new =
    adds-same 1 1 (2 + 2) 6 old new (omega arith) (omega arith) c.in_ok-cell.ensures.adds in
    on_ok_weaker {P = c.push.new.self ≡ row ++ (cell ∷ [])}
    {Q = Appends old new row c.push.new.self wanted} c.push.result
    (λ e. subst (λ grown. Appends old new row grown wanted) (sym e)
    (appends-same old new row (row ++ (cell ∷ [])) says wanted
    (λ X M. sym (cond-true c.args.wanted (says X M) [] c.if-not-wanted.false))
    (appends-one old new row cell says c.requires.row defines adds)))
    c.push.ensures.ok
