-- A list whose elements are renamed in place, from the first on.
use Rattle.std.proofs.Common.{◌≡◌, refl, ap, ℕ, zero, suc, ◌<◌, List, [], ◌∷◌, ◌++◌, length, map, set, take, drop, get_or, arith}

module _ {X : Type 0} (f : X → X) where
  -- the elements before this index are renamed
  abbrev pub renamed_to : ℕ → List X → List X
  renamed_to i xs = map f (take i xs) ++ drop i xs

  pub renamed-length : (xs : List X) (i : ℕ) → length (renamed_to i xs) ≡ length xs
  renamed-length [] zero = refl
  renamed-length [] (suc i) = refl
  renamed-length (x ∷ xs) zero = refl
  renamed-length (x ∷ xs) (suc i) = ap suc (renamed-length xs i)

  pub renamed-here : (xs : List X) (i : ℕ) (d : X) → i < length xs → get_or (renamed_to i xs) i d ≡ get_or xs i d
  renamed-here [] i d below = absurd (omega arith)
  renamed-here (x ∷ xs) zero d below = refl
  renamed-here (x ∷ xs) (suc i) d below = renamed-here xs i d (omega arith)

  pub renamed-next : (xs : List X) (i : ℕ) (d y : X) → i < length xs → y ≡ f (get_or xs i d) → set (renamed_to i xs) i y ≡ renamed_to (suc i) xs
  renamed-next [] i d y below e = absurd (omega arith)
  renamed-next (x ∷ xs) zero d y below e = ap (λ z. z ∷ xs) e
  renamed-next (x ∷ xs) (suc i) d y below e = ap (λ zs. f x ∷ zs) (renamed-next xs i d y (omega arith) e)
