-- The literals so far are written.
use Rattle.std.proofs.Common.{◌≡◌, ◌++◌, take}
use Rattle.std.specs.List.{flat_map}
use Rattle.smodels_format.specs.private.Writing.{required_line}
use Rattle.smodels_format.proofs.push_shows.push_required.Given as goal

abbrev pub invariant-loop-lit : goal.invariant-loop-lit
invariant-loop-lit l = l.out.items ≡ l.fn.out.items ++ flat_map (λ lit. required_line l.sign lit) (take l.lit-index l.lits)
