-- Numbers of any length, in a u64.
use Rattle.std.specs.Prelude.{ℕ, ◌-◌, ◌^◌, min, List, Option, Some, None}

-- a number, or the greatest u64 where it is larger, and the text behind it
abbrev pub cut_at_most : Option ℕ → List ℕ → Option (ℕ × List ℕ)
cut_at_most None rest = None
cut_at_most (Some n) rest = Some (min n (2 ^ 64 - 1), rest)
