-- What tests of integers say.
use Rattle.std.proofs.Common.{◌≡◌, ℤ, int_lt, ◌<ℤ◌, ◌≤ℤ◌, true, false, arith}
use Rattle.std.proofs.lemmas.Int.{ints}

pub lt-from_test : (a b : ℤ) → int_lt a b ≡ true → a <ℤ b
lt-from_test a b e = grind (arith, ints)

pub le-from_test : (a b : ℤ) → int_lt a b ≡ false → b ≤ℤ a
le-from_test a b e = grind (arith, ints)

pub test-from_lt : (a b : ℤ) → a <ℤ b → int_lt a b ≡ true
test-from_lt a b h = grind (arith, ints)
