-- Numbers meet the conditions of a component just where they are a ranking of it.
use Rattle.std.proofs.Common.{◌≡◌, refl, sym, ◌∙◌, ap, ap₂, ℕ, zero, suc, ◌≤◌, ◌<◌, ◌^◌, ◌==◌, Bool, true, false, cond, not, ◌&&◌, ◌||◌, ltb, leb, List, [], ◌∷◌, filter, ⊎_elim, arith}
use Rattle.std.specs.List.{list_any, list_all}
use Rattle.std.proofs.lemmas.Bool.{and_parts, and_from, or_left, or_right, true≢false, ltb-true, ltb-false, lt-ltb, le-ltb, leb-true, le-leb, cases_Bool, eqb-true}
use Rattle.asp_base.specs.Sets.{Set, once}
use Rattle.ground_program.specs.Closed.{Closed}
use Rattle.ground_program.specs.Stable.{holds, head_has, step}
use Rattle.ground_program.specs.declared.program.Body.{Body}
use Rattle.ground_program.specs.declared.program.Body.TheVariants.{All, Sum}
use Rattle.ground_program.specs.declared.program.Rule.{Rule}
use Rattle.ground_program.proofs.Passing.{list_any-weaker}
use Rattle.asp_base.proofs.Each.{each}
use Rattle.digit_gates.specs.Digits.{predecessor}
use Rattle.level_ranking.specs.Encoding.{body_in, inside}
use Rattle.asp_base.proofs.Bools.{same_test}
use Rattle.level_ranking.proofs.Equations.{gives, is_below, near_one, is_near, IsRanking}
use Rattle.level_ranking.proofs.Conditions.{goes_below, comes_near, is_empty_body, is_given, supports, near_one_of, keeps_near, Meets}

-- ---- tests over the elements of a list, each once

dropped_all : (p : ℕ → Bool) (x : ℕ) (xs : List ℕ) → p x ≡ true → list_all p (filter (λ y. not (x == y)) xs) ≡ list_all p xs
dropped_all p x [] h = refl
dropped_all p x (y ∷ xs) h = go (x == y) refl (dropped_all p x xs h)
  where
    go : (b : Bool) → (x == y) ≡ b → list_all p (filter (λ z. not (x == z)) xs) ≡ list_all p xs
        → list_all p (cond (not b) (y ∷ filter (λ z. not (x == z)) xs) (filter (λ z. not (x == z)) xs)) ≡ (p y && list_all p xs)
    go false e r = ap (λ b. p y && b) r
    go true e r = r ∙ ap (λ b. b && list_all p xs) (sym (ap p (sym (eqb-true x y e)) ∙ h))

pub list_all-once : (p : ℕ → Bool) (xs : List ℕ) → list_all p (once xs) ≡ list_all p xs
list_all-once p [] = refl
list_all-once p (x ∷ xs) = go (p x) refl (list_all-once p xs)
  where
    go : (b : Bool) → p x ≡ b → list_all p (once xs) ≡ list_all p xs → (p x && list_all p (filter (λ y. not (x == y)) (once xs))) ≡ (p x && list_all p xs)
    go true e r = ap (λ b. p x && b) (dropped_all p x (once xs) e ∙ r)
    go false e r = ap (λ b. b && list_all p (filter (λ y. not (x == y)) (once xs))) e ∙ sym (ap (λ b. b && list_all p xs) e)

dropped_any : (p : ℕ → Bool) (x : ℕ) (xs : List ℕ) → p x ≡ false → list_any p (filter (λ y. not (x == y)) xs) ≡ list_any p xs
dropped_any p x [] h = refl
dropped_any p x (y ∷ xs) h = go (x == y) refl (dropped_any p x xs h)
  where
    go : (b : Bool) → (x == y) ≡ b → list_any p (filter (λ z. not (x == z)) xs) ≡ list_any p xs
        → list_any p (cond (not b) (y ∷ filter (λ z. not (x == z)) xs) (filter (λ z. not (x == z)) xs)) ≡ (p y || list_any p xs)
    go false e r = ap (λ b. p y || b) r
    go true e r = r ∙ ap (λ b. b || list_any p xs) (sym (ap p (sym (eqb-true x y e)) ∙ h))

list_any-once : (p : ℕ → Bool) (xs : List ℕ) → list_any p (once xs) ≡ list_any p xs
list_any-once p [] = refl
list_any-once p (x ∷ xs) = go (p x) refl (list_any-once p xs)
  where
    go : (b : Bool) → p x ≡ b → list_any p (once xs) ≡ list_any p xs → (p x || list_any p (filter (λ y. not (x == y)) (once xs))) ≡ (p x || list_any p xs)
    go false e r = ap (λ b. p x || b) (dropped_any p x (once xs) e ∙ r)
    go true e r = ap (λ b. b || list_any p (filter (λ y. not (x == y)) (once xs))) e ∙ sym (ap (λ b. b || list_any p xs) e)

-- ---- one pair of numbers

not_ltb : (m n : ℕ) → not (ltb m n) ≡ leb n m
not_ltb m n = same_test _ _ (λ h. le-leb n m (ltb-false m n (off (ltb m n) h))) (λ h. ap not (le-ltb m n (leb-true n m h)))
  where
    off : (b : Bool) → not b ≡ true → b ≡ false
    off true h = sym h
    off false h = refl

below-is : (w m n : ℕ) → 0 < m → not (ltb (predecessor w m) n) ≡ ltb n m
below-is w zero n h = absurd (omega arith)
below-is w (suc m) n h = not_ltb m n ∙ same_test _ _ (λ k. lt-ltb n (suc m) (let j : n ≤ m = leb-true n m k in omega arith)) (λ k. le-leb n m (let j : n < suc m = ltb-true n (suc m) k in omega arith))

near-is : (w m n : ℕ) → 0 < m → not (ltb n (predecessor w m)) ≡ leb m (suc n)
near-is w zero n h = absurd (omega arith)
near-is w (suc m) n h = not_ltb n m ∙ same_test _ _ (λ k. le-leb (suc m) (suc n) (let j : m ≤ n = leb-true m n k in omega arith)) (λ k. le-leb m n (let j : suc m ≤ suc n = leb-true (suc m) (suc n) k in omega arith))

pub list_all-same : {A : Type 0} (p q : A → Bool) → ((x : A) → p x ≡ q x) → (xs : List A) → list_all p xs ≡ list_all q xs
list_all-same p q h [] = refl
list_all-same p q h (x ∷ xs) = ap₂ ◌&&◌ (h x) (list_all-same p q h xs)

pub list_any-same : {A : Type 0} (p q : A → Bool) → ((x : A) → p x ≡ q x) → (xs : List A) → list_any p xs ≡ list_any q xs
list_any-same p q h [] = refl
list_any-same p q h (x ∷ xs) = ap₂ ◌||◌ (h x) (list_any-same p q h xs)

module _ (S : Set) (w : ℕ) (rules : List Rule) (M : Set) (r : ℕ → ℕ) where
  all_below-is : (a : ℕ) (rule : Rule) → 0 < r a → list_all (goes_below w r a) (inside S rule) ≡ is_below S r a rule
  all_below-is a rule h =
      list_all-once (goes_below w r a) (body_in S rule.body) ∙ list_all-same _ (λ b. ltb (r b) (r a)) (λ b. below-is w (r a) (r b) h) (body_in S rule.body)

  one_near-is : (a : ℕ) (rule : Rule) → 0 < r a → near_one_of w r a (inside S rule) ≡ is_near S r a rule
  one_near-is a rule h = go (body_in S rule.body)
    where
      go : (bs : List ℕ) → near_one_of w r a (once bs) ≡ near_one r a bs
      go [] = refl
      go (b ∷ bs) = list_any-once (comes_near w r a) (b ∷ bs) ∙ list_any-same _ (λ c. leb (r a) (suc (r c))) (λ c. near-is w (r a) (r c) h) (b ∷ bs)

  -- an empty body holds, and has no atoms
  empty_gives : (a : ℕ) (rule : Rule) → (head_has rule.head M a && is_empty_body rule.body) ≡ true → (gives M a rule && is_below S r a rule) ≡ true
  empty_gives a rule h = let k : (head_has rule.head M a ≡ true) × (is_empty_body rule.body ≡ true) = and_parts _ _ h in go rule.body k.1 k.0
    where
      go : (body : Body) → is_empty_body body ≡ true → head_has rule.head M a ≡ true → ((head_has rule.head M a && holds body M M) && list_all (λ b. ltb (r b) (r a)) (body_in S body)) ≡ true
      go (All []) e k = and_from _ _ (and_from _ _ k refl) refl
      go (All (l ∷ lits)) e k = absurd (true≢false (sym e))
      go (Sum bound items) e k = absurd (true≢false (sym e))

  near-split : (h b n q : Bool) → (n ≡ q) → (not h || (not b || n)) ≡ (not (h && b) || q)
  near-split true b n q e = ap (λ t. not b || t) e
  near-split false b n q e = refl

  near-same : (a : ℕ) → 0 < r a → (xs : List Rule) → list_all (λ rule. not (head_has rule.head M a) || keeps_near S w M r a rule) xs ≡ list_all (λ rule. not (gives M a rule) || is_near S r a rule) xs
  near-same a h [] = refl
  near-same a h (rule ∷ xs) = ap₂ ◌&&◌ (near-split (head_has rule.head M a) (holds rule.body M M) _ _ (one_near-is a rule h)) (near-same a h xs)

  supported-same : (a : ℕ) → 0 < r a → (xs : List Rule) → list_any (λ rule. head_has rule.head M a && supports S w M r a rule) xs ≡ list_any (λ rule. gives M a rule && is_below S r a rule) xs
  supported-same a h [] = refl
  supported-same a h (rule ∷ xs) = ap₂ ◌||◌ (ap (λ b. head_has rule.head M a && (holds rule.body M M && b)) (all_below-is a rule h) ∙ regroup (head_has rule.head M a) (holds rule.body M M) (is_below S r a rule)) (supported-same a h xs)
    where
      regroup : (x y z : Bool) → (x && (y && z)) ≡ ((x && y) && z)
      regroup true y z = refl
      regroup false y z = refl

  -- numbers that meet the conditions are a ranking
  pub ranking-from_conditions : Meets S w rules M r → IsRanking S rules M r
  ranking-from_conditions m = record {
    out = m.zero_outside;
    from_one = m.from_one;
    below = λ a s h. go a s h (is_given rules M a) refl;
    near = λ a s h. sym (near-same a (m.from_one a s h) rules) ∙ m.near a s;
  }
    where
      go : (a : ℕ) → S a ≡ true → M a ≡ true → (g : Bool) → is_given rules M a ≡ g → list_any (λ rule. gives M a rule && is_below S r a rule) rules ≡ true
      go a s h true e = list_any-weaker (λ rule. head_has rule.head M a && is_empty_body rule.body) _ rules (each _ (λ rule. empty_gives a rule) rules) e
      go a s h false e = sym (supported-same a (m.from_one a s h) rules) ∙ m.supported a s e h

  -- where the atom does not hold, no body of its rules does
  no_body : Closed rules M M → (a : ℕ) → M a ≡ false → list_all (λ rule. not (head_has rule.head M a) || keeps_near S w M r a rule) rules ≡ true
  no_body c a n = each_near rules (λ h. true≢false (sym (c a h) ∙ n))
    where
      each_near : (xs : List Rule) → (step xs M M a ≡ true → ⊥) → list_all (λ rule. not (head_has rule.head M a) || keeps_near S w M r a rule) xs ≡ true
      each_near [] h = refl
      each_near (rule ∷ xs) h = and_from _ _ (here (head_has rule.head M a) refl (holds rule.body M M) refl) (each_near xs (λ k. h (or_right _ _ k)))
        where
          here : (x : Bool) → head_has rule.head M a ≡ x → (y : Bool) → holds rule.body M M ≡ y → (not x || (not y || near_one_of w r a (inside S rule))) ≡ true
          here false e y f = refl
          here true e false f = refl
          here true e true f = absurd (h (or_left _ _ (and_from _ _ e f)))

  -- a ranking by numbers of w digits meets the conditions
  pub conditions-from_ranking : Closed rules M M → ((a : ℕ) → S a ≡ true → r a < 2 ^ w) → IsRanking S rules M r → Meets S w rules M r
  conditions-from_ranking c fits i = record {
    fits = fits;
    zero_outside = i.out;
    from_one = i.from_one;
    supported = λ a s g h. supported-same a (i.from_one a s h) rules ∙ i.below a s h;
    near = λ a s. ⊎_elim (λ h. near-same a (i.from_one a s h) rules ∙ i.near a s h) (λ h. no_body c a h) (cases_Bool (M a));
  }
