use Rattle.std.proofs.Common.{◌≡◌, drop}
use Rattle.std.specs.List.{list_all}
use Rattle.asp_tools.specs.Job.{is_name}
use Rattle.asp_tools.proofs.job.all_names.Given as goal

abbrev pub invariant-loop-name : goal.invariant-loop-name
invariant-loop-name l = list_all (λ name. is_name name.now) (drop l.name-index l.names) ≡ list_all (λ name. is_name name.now) l.names
