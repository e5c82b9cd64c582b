-- Atoms of cyclic components and their places.
use Rattle.std.proofs.Common.{◌≡◌, refl, sym, ◌∙◌, ap, subst, ℕ, zero, suc, ◌+◌, ◌-◌, ◌<◌, ◌≤◌, Bool, true, false, cond, ◌==◌, List, [], ◌∷◌, filter, ⊎_elim, ◌⊎◌, inl, inr, arith}
use Rattle.std.specs.List.{range_with_len}
use Rattle.std.proofs.lemmas.Bool.{cond-true, cond-false, or_cases, eqb-true, eq-eqb, true≢false}
use Rattle.asp_base.specs.Sets.{members, In}
use Rattle.rising_numbers.specs.Rising.{RisesFrom}
use Rattle.rising_numbers.specs.Rising.{place}
use Rattle.rising_numbers.proofs.RisingLaws.{rises-filter}
use Rattle.acyc_edges.specs.Names.{index_by}
use Rattle.acyc_edges.proofs.Inside.{in-filter, filter-in, in-member, member-in, false-from, not-both}

in-range : (a k d : ℕ) → d < k → In (a + d) (range_with_len a k)
in-range a zero d h = absurd (omega arith)
in-range a (suc k) zero h = inl (let e : a ≡ a + 0 = omega arith in e)
in-range a (suc k) (suc d) h = inr (subst (λ x. In x (range_with_len (a + 1) k)) (let e : a + 1 + d ≡ a + suc d = omega arith in e) (in-range (a + 1) k d (omega arith)))

-- a number of the list is one that passes the test
pub member-test : (p : ℕ → Bool) (count n : ℕ) → 1 ≤ n → n ≤ count → members (filter p (range_with_len 1 count)) n ≡ p n
member-test p count n low high = go (p n) refl
  where
    there : In n (range_with_len 1 count)
    there = subst (λ x. In x (range_with_len 1 count)) (let e : 1 + (n - 1) ≡ n = omega arith in e) (in-range 1 count (n - 1) (omega arith))

    go : (b : Bool) → p n ≡ b → members (filter p (range_with_len 1 count)) n ≡ b
    go true e = in-member (filter p (range_with_len 1 count)) n (in-filter p (range_with_len 1 count) n there e)
    go false e = false-from (members (filter p (range_with_len 1 count)) n) (λ t. not-both (p n) ((filter-in p (range_with_len 1 count) n (member-in (filter p (range_with_len 1 count)) n t)).1) e)

rises-range : (p : ℕ → Bool) (low a k : ℕ) → low < a → RisesFrom low (range_with_len a k)
rises-range p low a zero h = tt
rises-range p low a (suc k) h = (h, rises-range p a (a + 1) k (omega arith))

pub rises-parts : (p : ℕ → Bool) (count : ℕ) → RisesFrom 0 (filter p (range_with_len 1 count))
rises-parts p count = rises-filter p 0 (range_with_len 1 count) (rises-range p 0 1 count (omega arith))

pub place-index : (xs : List ℕ) (a : ℕ) → members xs a ≡ true → place xs a ≡ suc (index_by ◌==◌ xs a)
place-index [] a h = absurd (true≢false (sym h))
place-index (x ∷ xs) a h = go (x == a) refl (or_cases (x == a) (members xs a) h) (λ k. place-index xs a k)
  where
    go : (b : Bool) → (x == a) ≡ b → ((x == a) ≡ true) ⊎ (members xs a ≡ true) → (members xs a ≡ true → place xs a ≡ suc (index_by ◌==◌ xs a)) → cond (x == a) 1 (cond (members xs a) (suc (place xs a)) 0) ≡ suc (cond (a == x) 0 (suc (index_by ◌==◌ xs a)))
    go true e m rest = cond-true (x == a) _ _ e ∙ ap suc (sym (cond-true (a == x) _ _ (eq-eqb a x (sym (eqb-true x a e)))))
    go false e m rest =
        let d : (a == x) ≡ false = false-from (a == x) (λ t. not-both (x == a) (eq-eqb x a (sym (eqb-true a x t))) e) in
        let k : members xs a ≡ true = ⊎_elim (λ t. absurd (not-both (x == a) t e)) (λ t. t) m in
        cond-false (x == a) _ _ e ∙ (cond-true (members xs a) _ _ k ∙ ap suc (rest k ∙ sym (cond-false (a == x) _ _ d)))
