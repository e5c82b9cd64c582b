use Rattle.std.proofs.Common.{◌≡◌, ◌++◌, length, take}
use Rattle.std.specs.List.{flat_map}
use Rattle.aspif_format.specs.Written.{required_line, parts}
use Rattle.aspif_format.proofs.writing.push_required_parts.Given as goal

abbrev pub invariant-loop-rest : goal.invariant-loop-rest
invariant-loop-rest l = record {
  whole : l.out.items ++ flat_map required_line (parts l.rest) ≡ l.fn.out.items ++ flat_map required_line (parts l.fn.lits);
  front : take (length l.fn.out.items) l.out.items ≡ l.fn.out.items;
}

abbrev pub decreases-loop-rest : goal.decreases-loop-rest
decreases-loop-rest l = length l.rest
