-- What one item adds to the sums of its level.
use Rattle.std.proofs.Common.{◌≡◌, ap, ℕ, zero, suc, ◌+◌, ◌<◌, ◌≤◌, ℤ, pos, ◌+ℤ◌, cond, List, [], ◌∷◌, length, drop, get_or, arith}
use Rattle.std.specs.Prelude.{int_lt, nat_abs}
use Rattle.std.proofs.lemmas.List.{drop_more}
use Rattle.asp_base.specs.Literal.{Literal}
use Rattle.symbol_map.specs.Scale.{total, offset_of}

pub offset-next : (items : List (Literal × ℤ)) (i : ℕ) (d : Literal × ℤ) → i < length items
    → offset_of (drop i items) ≡ cond (int_lt (get_or items i d).1 (pos 0)) (get_or items i d).1 (pos 0) +ℤ offset_of (drop (i + 1) items)
offset-next items i d h = ap offset_of (drop_more items i d h)

-- no magnitude is above their sum
pub total-item : (items : List (Literal × ℤ)) (i : ℕ) (d : Literal × ℤ) → i < length items → nat_abs (get_or items i d).1 ≤ total items
total-item [] i d h = absurd (omega arith)
total-item (item ∷ items) zero d h = omega arith
total-item (item ∷ items) (suc i) d h = let k : nat_abs (get_or items i d).1 ≤ total items = total-item items i d (omega arith) in omega arith
