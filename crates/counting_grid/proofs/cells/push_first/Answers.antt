-- The cell of at least one is put behind the others.
use Rattle.std.proofs.Common.{◌≡◌, ◌++◌, ◌∷◌, [], List, Bool, sym, subst}
use Rattle.std.proofs.lemmas.Bool.{cond-true}
use Rattle.std.proofs.lemmas.Result.{on_ok_weaker}
use Rattle.asp_base.specs.Literal.{Literal}
use Rattle.asp_base.specs.Sets.{Set}
use Rattle.rule_network.specs.Block.{Block, value, values}
use Rattle.counting_grid.specs.private.Rows.{first_value, first_says, Appends}
use Rattle.counting_grid.proofs.RowLaws.{appends-one, appends-same}
use Rattle.counting_grid.proofs.cells.push_first.Goals as goal

pub returns : goal.returns
returns c =
    let old : Block = c.args.net.now in
    let new : Block = c.first_cell.new.net in
    let row : List Literal = c.args.row.now in
    let before : List Literal = c.args.before.now in
    let cell : Literal = c.in_ok-cell.cell in
    let says : Set → Set → List Bool =
    λ X M. first_value (values old X M before) (value old X M c.args.lit) in
    let wanted : Set → Set → List Bool = first_says old before c.args.lit c.args.wanted in
    on_ok_weaker {P = c.push.new.self ≡ row ++ (cell ∷ [])}
    {Q = Appends old new row c.push.new.self wanted} c.push.result
    (λ e. subst (λ grown. Appends old new row grown wanted) (sym e)
    (appends-same old new row (row ++ (cell ∷ [])) says wanted
    (λ X M. sym (cond-true c.args.wanted (says X M) [] c.if-not-wanted.false))
    (appends-one old new row cell says c.requires.row c.in_ok-cell.ensures.defines
    c.in_ok-cell.ensures.adds)))
    c.push.ensures.ok
