use Rattle.std.proofs.Common.{◌≡◌, ◌++◌, not, take}
use Rattle.std.specs.List.{flat_map, filter}
use Rattle.asp_base.specs.Sets.{members}
use Rattle.aspif_format.specs.Written.{external_line}
use Rattle.aspif_format.proofs.writing.push_idle.Given as goal

abbrev pub invariant-loop-atom : goal.invariant-loop-atom
invariant-loop-atom l = l.out.items ≡ l.fn.out.items ++ flat_map external_line (filter (λ a. not (members l.fn.occurring a)) (take l.atom-index l.atoms))
