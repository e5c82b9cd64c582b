use Rattle.std.proofs.Common.{◌≡◌, drop}
use Rattle.std.specs.List.{list_all}
use Rattle.aspif_format.specs.private.Digits.{is_digit_to}
use Rattle.aspif_format.proofs.header.are_digits_to.Given as goal

abbrev pub invariant-loop-byte : goal.invariant-loop-byte
invariant-loop-byte l = list_all (is_digit_to l.last) (drop l.byte-index l.bytes) ≡ list_all (is_digit_to l.last) l.bytes
