-- What an item adds to the cost of a level.
use Rattle.std.proofs.Common.{◌≡◌, ap, ℕ, ◌<◌, ◌+◌, ℤ, pos, ◌+ℤ◌, Bool, true, false, cond, List, length, drop, get_or, arith}
use Rattle.std.proofs.lemmas.Int.{ints}
use Rattle.std.proofs.lemmas.List.{drop_more}
use Rattle.asp_base.specs.Literal.{Literal, literal_holds}
use Rattle.asp_base.specs.Sets.{Set}
use Rattle.ground_program.specs.Facts.{FitsWeight}
use Rattle.ground_program.specs.Stable.{weight_of}

pub cond-fits : (b : Bool) (w : ℤ) → FitsWeight w → FitsWeight (cond b w (pos 0))
cond-fits true w fits = fits
cond-fits false w fits = (omega (arith, ints), omega (arith, ints))

pub weigh-next : (items : List (Literal × ℤ)) (i : ℕ) (d : Literal × ℤ) (A : Set) → i < length items →
    weight_of (drop i items) A A ≡ cond (literal_holds (get_or items i d).0 A A) (get_or items i d).1 (pos 0) +ℤ weight_of (drop (i + 1) items) A A
weigh-next items i d A h = ap (λ xs. weight_of xs A A) (drop_more items i d h)
