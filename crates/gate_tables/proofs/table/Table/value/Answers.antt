-- The value is the one output that the rows take.
use Rattle.std.proofs.Common.{rules, ◌≡◌, length}
use Rattle.gate_tables.proofs.TableLaws.{value-taken, value-only}
use Rattle.gate_tables.proofs.table.Table.value.Goals as goal

pub returns-clause-taken : goal.returns-clause-taken
returns-clause-taken g c =
    let count : length c.args.inputs ≡ g.row.K = search rules in
    rw (c.are_rows_true.ensures, ← c.self.view_is) (value-taken g.row.K c.self.inside.rows c.self.invariant c.args.inputs count)

pub returns-clause-only : goal.returns-clause-only
returns-clause-only g c =
    let count : length c.args.inputs ≡ g.row.K = search rules in
    rw (c.are_rows_true.ensures, ← c.self.view_is) (value-only g.row.K c.self.inside.rows c.self.invariant c.args.inputs count)
