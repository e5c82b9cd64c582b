-- Why a call fails that may be made to fail.
use Rattle.std.proofs.Common.{◌≡◌, ◌⊎◌, ◌↔◌, inl, inr, Bool, true, false, IsTrue, subst}
use Rattle.std.proofs.lemmas.Bool.{false≢true}

-- A call that was not made to fail fails for its own cause alone.
pub own_cause : {S P R : Type 0} (Cause : S → Type 0) (must : Bool) (mid old : S)
    → mid ≡ old → (IsTrue must ↔ P) → must ≡ false → (R ↔ Cause mid) → R ↔ (P ⊎ Cause old)
own_cause {S} {P} {R} Cause true mid old same is off own = cc
own_cause {S} {P} {R} Cause false mid old same is off own = (λ failed. inr (at_old.0 failed), from)
  where
    at_old : R ↔ Cause old
    at_old = subst (λ s. R ↔ Cause s) same own

    from : P ⊎ Cause old → R
    from (inl p) = absurd (false≢true (is.1 p))
    from (inr q) = at_old.1 q
