-- What is left to show of `new`.
use Rattle.std.proofs.Common.{◌≤◌, length, arith}
use Rattle.ground_program.specs.Size.{size}
use Rattle.acyc_edges.proofs.FitLaws.{rules-few}
use Rattle.acyc_edges.proofs.setting.Setting.new.Goals as goal

pub tables_of-requires-clause-few : goal.tables_of-requires-clause-few
tables_of-requires-clause-few c =
    let few : length c.args.program.now.rules ≤ size c.args.program.now = rules-few c.args.program.now in
    let small = c.requires.small in
    omega arith
