use Rattle.std.proofs.Common.{◌≡◌, drop, not}
use Rattle.std.specs.List.{list_all}
use Rattle.std.specs.Str.{bytes_eq}
use Rattle.asp_tools.proofs.job.differs.Given as goal

abbrev pub invariant-loop-other : goal.invariant-loop-other
invariant-loop-other l = list_all (λ other. not (bytes_eq l.name other.now)) (drop l.other-index l.others) ≡ list_all (λ other. not (bytes_eq l.name other.now)) l.others
