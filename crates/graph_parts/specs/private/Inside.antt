-- What the fields of parts stand for, and what parts keep: a mark for each number.
use Rattle.std.specs.Prelude.{◌≡◌, ◌+◌, length}
use Rattle.graph_parts.specs.Divided.{Divided}
use Rattle.graph_parts.specs.declared.parts.Parts.TheInside.{Inside}

abbrev pub divided_of : Inside → Divided
divided_of p = record { numbers = p.numbers.items; count = p.count; cyclic = p.cyclic.items }

abbrev pub HasMarks : Inside → Type 0
HasMarks p = length p.cyclic.items ≡ p.count + 1
