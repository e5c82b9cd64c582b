-- The look-up of a complement in the entries of a map.
use Rattle.std.proofs.Common.{◌≡◌, refl, sym, ◌∙◌, subst, ⊎_elim, ℕ, ◌==◌, Bool, true, false, cond, List, [], ◌∷◌, Option, Some, None, IfSome, IfNone, inl, inr}
use Rattle.std.specs.Map.{lookup}
use Rattle.std.proofs.lemmas.Bool.{eq-eqb, eqb-true, true≢false}
use Rattle.normalize.specs.private.Stage.{Listed, IsUnlisted}

-- what is found is listed
pub lookup-listed : (a : ℕ) (entries : List (ℕ × ℕ))
    → IfSome (lookup (λ k. a == k) entries) (λ x. Listed entries a x)
lookup-listed a [] = tt
lookup-listed a (entry ∷ entries) =
    go (a == entry.0) refl (lookup (λ k. a == k) entries) (lookup-listed a entries)
  where
    go : (b : Bool) → (a == entry.0) ≡ b → (rest : Option ℕ) → IfSome rest (λ x. Listed entries a x)
        → IfSome (cond b (Some entry.1) rest) (λ x. Listed (entry ∷ entries) a x)
    go true e rest h = inl (sym (eqb-true a entry.0 e), refl)
    go false e None h = tt
    go false e (Some x) h = inr h

-- where nothing is found, nothing is
pub lookup-unlisted : (a : ℕ) (entries : List (ℕ × ℕ))
    → IfNone (lookup (λ k. a == k) entries) (IsUnlisted entries a)
lookup-unlisted a [] = tt
lookup-unlisted a (entry ∷ entries) =
    go (a == entry.0) refl (lookup (λ k. a == k) entries) (lookup-unlisted a entries)
  where
    go : (b : Bool) → (a == entry.0) ≡ b → (rest : Option ℕ) → IfNone rest (IsUnlisted entries a)
        → IfNone (cond b (Some entry.1) rest) (IsUnlisted (entry ∷ entries) a)
    go true e rest h = tt
    go false e None h = (e, h)
    go false e (Some x) h = tt

pub unlisted-lookup : (a : ℕ) (entries : List (ℕ × ℕ)) → IsUnlisted entries a
    → lookup (λ k. a == k) entries ≡ None
unlisted-lookup a [] h = refl
unlisted-lookup a (entry ∷ entries) h =
    subst (λ b. cond b (Some entry.1) (lookup (λ k. a == k) entries) ≡ None) (sym h.0)
    (unlisted-lookup a entries h.1)

pub unlisted-listed : (pairs : List (ℕ × ℕ)) (a x : ℕ) → IsUnlisted pairs a → Listed pairs a x → ⊥
unlisted-listed [] a x u h = h
unlisted-listed (pair ∷ pairs) a x u h = ⊎_elim
    (λ k. true≢false (sym (eq-eqb a pair.0 (sym k.0)) ∙ u.0))
    (λ k. unlisted-listed pairs a x u.1 k)
    h
