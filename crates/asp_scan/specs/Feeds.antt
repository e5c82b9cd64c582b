-- Bytes of a line: no line feed is among them.
use Rattle.std.specs.Prelude.{◌≢◌, ℕ, List}
use Rattle.std.specs.List.{AllByRecursion}
use Rattle.asp_scan.specs.Lines.{Line}

abbrev pub HasNoFeed : List ℕ → Type 0
HasNoFeed bytes = AllByRecursion (λ byte. byte ≢ 10) bytes

abbrev pub HaveNoFeed : List Line → Type 0
HaveNoFeed lines = AllByRecursion (λ line. HasNoFeed line.bytes) lines
