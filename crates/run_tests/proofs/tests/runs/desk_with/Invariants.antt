use Rattle.std.proofs.Common.{◌≡◌, None}
use Rattle.asp_base.specs.Mem.{mem_state}
use Rattle.run_tests.proofs.tests.runs.desk_with.Given as goal

abbrev pub invariant-loop-name : goal.invariant-loop-name
invariant-loop-name l = (mem_state l.desk).writing ≡ None
