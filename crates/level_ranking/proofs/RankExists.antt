-- The atoms of a founded set have ranks, no more than the component has atoms, and these meet the equations.
use Rattle.std.proofs.Common.{◌≡◌, refl, sym, ◌∙◌, ap, subst, ℕ, zero, suc, ◌+◌, ◌-◌, ◌≤◌, ◌<◌, Bool, true, false, cond, not, ◌&&◌, ◌||◌, ltb, leb, List, [], ◌∷◌, length, ⊎_elim, inl, inr, ◌⊎◌, arith}
use Rattle.std.specs.List.{list_any, list_all, AllByRecursion}
use Rattle.std.proofs.lemmas.Bool.{and_parts, and_from, or_cases, or_left, or_right, or_parts, true≢false, ltb-true, lt-ltb, leb-false, cases_Bool, cases_lt, cond-true, cond-false}
use Rattle.asp_base.specs.Sets.{Set, none, members, Within}
use Rattle.ground_program.specs.Closed.{HasWeights, Weighed, Closed}
use Rattle.ground_program.specs.Stable.{holds, head_has, derives, step, grown}
use Rattle.ground_program.specs.declared.program.Body.{Body}
use Rattle.ground_program.specs.declared.program.Body.TheVariants.{All, Sum}
use Rattle.ground_program.specs.declared.program.Rule.{Rule}
use Rattle.ground_program.proofs.Passing.{list_any-weaker, passing, passing_le-length, passing-same}
use Rattle.asp_base.proofs.Each.{each, each-weaker, each-member}
use Rattle.ground_program.proofs.Least.{step-mono, closed-next, holds-mono, grown-smallest}
use Rattle.ground_program.proofs.Plain.{at_member}
use Rattle.ground_program.proofs.FactLaws.{normal-weighed}
use Rattle.ground_program.specs.Normal.{IsNormalHead, IsNormalBody, AreNormal}
use Rattle.level_ranking.specs.Ranking.{is_head_in, inner, ranked, first_below, rank}
use Rattle.level_ranking.specs.Encoding.{body_in}
use Rattle.level_ranking.proofs.Equations.{gives, is_below, near_one, is_near, IsRanking}
use Rattle.level_ranking.proofs.RankLaws.{any_with_each, list_any-filter, inner-weighed, body-holds, body-in, head-inner, inner-head, ranked-outside, ranked-within}

-- ---- the first number that passes

pub first_below-le : (n : ℕ) (p : ℕ → Bool) → first_below n p ≤ n
first_below-le zero p = omega arith
first_below-le (suc n) p = go (p 0) (first_below-le n (λ k. p (suc k)))
  where
    go : (b : Bool) → first_below n (λ k. p (suc k)) ≤ n → cond b 0 (suc (first_below n (λ k. p (suc k)))) ≤ suc n
    go true h = omega arith
    go false h = omega arith

pub first_below-true : (n : ℕ) (p : ℕ → Bool) → p n ≡ true → p (first_below n p) ≡ true
first_below-true zero p h = h
first_below-true (suc n) p h = go (p 0) refl (first_below-true n (λ k. p (suc k)) h)
  where
    go : (b : Bool) → p 0 ≡ b → p (suc (first_below n (λ k. p (suc k)))) ≡ true → p (cond b 0 (suc (first_below n (λ k. p (suc k))))) ≡ true
    go true e k = e
    go false e k = k

pub first_below-least : (n : ℕ) (p : ℕ → Bool) (k : ℕ) → p k ≡ true → first_below n p ≤ k
first_below-least zero p k h = omega arith
first_below-least (suc n) p zero h = go (p 0) h
  where
    go : (b : Bool) → b ≡ true → cond b 0 (suc (first_below n (λ k. p (suc k)))) ≤ 0
    go true e = omega arith
    go false e = absurd (true≢false (sym e))
first_below-least (suc n) p (suc k) h = go (p 0) (first_below-least n (λ j. p (suc j)) k h)
  where
    go : (b : Bool) → first_below n (λ j. p (suc j)) ≤ k → cond b 0 (suc (first_below n (λ j. p (suc j)))) ≤ suc k
    go true e = omega arith
    go false e = omega arith

-- ---- the rounds of a component

ranked-up : (S : Set) (rules : List Rule) (M : Set) (a j n : ℕ) → ranked S rules M j a ≡ true → ranked S rules M (n + j) a ≡ true
ranked-up S rules M a j zero h = subst (λ k. ranked S rules M k a ≡ true) (let e : j ≡ 0 + j = omega arith in e) h
ranked-up S rules M a j (suc n) h =
    let e : suc (n + j) ≡ suc n + j = omega arith in
    subst (λ k. ranked S rules M k a ≡ true) e (or_left _ _ (ranked-up S rules M a j n h))

-- a later round has what an earlier one has
pub ranked-later : (S : Set) (rules : List Rule) (M : Set) (a j k : ℕ) → j ≤ k → ranked S rules M j a ≡ true → ranked S rules M k a ≡ true
ranked-later S rules M a j k h e =
    let s : (k - j) + j ≡ k = omega arith in subst (λ i. ranked S rules M i a ≡ true) s (ranked-up S rules M a j (k - j) e)

pub inner-step-in : (S : Set) (rules : List Rule) (M X : Set) (a : ℕ) → step (inner S rules) M X a ≡ true → S a ≡ true
inner-step-in S rules M X a e =
    any_with_each (λ rule. is_head_in S rule.head && derives rule M X a) (λ rule. Unit {0}) rules (S a ≡ true)
    (sym (list_any-filter (λ rule. is_head_in S rule.head) (λ rule. derives rule M X a) rules) ∙ e) (each _ (λ rule. tt) rules)
    (λ rule d u. let k : (is_head_in S rule.head ≡ true) × (derives rule M X a ≡ true) = and_parts _ _ d in inner-head S M rule.head a k.0 ((and_parts _ _ k.1).0))

passing-all : {A : Type 0} (p : A → Bool) (xs : List A) → length xs ≤ passing p xs → list_all p xs ≡ true
passing-all p [] h = refl
passing-all p (x ∷ xs) h = go (p x) h (λ k. passing-all p xs k) (passing_le-length p xs)
  where
    go : (b : Bool) → suc (length xs) ≤ cond b (suc (passing p xs)) (passing p xs) → (length xs ≤ passing p xs → list_all p xs ≡ true) → passing p xs ≤ length xs → (b && list_all p xs) ≡ true
    go true k rest m = rest (omega arith)
    go false k rest m = absurd (omega arith)

module _ (atoms : List ℕ) (rules : List Rule) (M : Set) (normal : AreNormal rules) where
  -- each round has one atom more, until nothing more comes
  growing : (n : ℕ) → Closed (inner (members atoms) rules) M (ranked (members atoms) rules M n) ⊎ (n ≤ passing (ranked (members atoms) rules M n) atoms)
  growing zero = inr (omega arith)
  growing (suc n) =
      let S : Set = members atoms in
      let w : Weighed (inner S rules) = inner-weighed S rules normal in
      let next : Closed (inner S rules) M (ranked S rules M n) → Closed (inner S rules) M (ranked S rules M (suc n)) = λ c. closed-next (inner S rules) M (ranked S rules M n) w c in
      ⊎_elim (λ c. inl (next c))
      (λ p. ⊎_elim (λ q. inr (omega arith))
      (λ q. inl (next (λ a e.
      let back : AllByRecursion (λ x. ranked S rules M (suc n) x ≡ true → ranked S rules M n x ≡ true) atoms =
      passing-same (ranked S rules M n) (ranked S rules M (suc n)) atoms (each _ (λ x h. or_left _ _ h) atoms) q in
      each-member (λ x. ranked S rules M (suc n) x ≡ true → ranked S rules M n x ≡ true) atoms a back (inner-step-in S rules M (ranked S rules M n) a e) (or_right _ _ e))))
      (cases_lt (passing (ranked S rules M n) atoms) (passing (ranked S rules M (suc n)) atoms)))
      (growing n)

  -- as many rounds as there are atoms reach the end
  pub ranked-closed : Closed (inner (members atoms) rules) M (ranked (members atoms) rules M (length atoms))
  ranked-closed = ⊎_elim (λ c. c)
      (λ p a e. at_member (ranked (members atoms) rules M (length atoms)) atoms a (passing-all _ atoms p) (inner-step-in (members atoms) rules M (ranked (members atoms) rules M (length atoms)) a e))
      (growing (length atoms))

  -- what is founded is reached
  module _ (closed : Closed rules M M) (founded : Within M (grown rules M none)) where
    all-closed : Closed rules M (ranked (members atoms) rules M (length atoms))
    all-closed a e =
        let S : Set = members atoms in
        let X : Set = ranked S rules M (length atoms) in
        let within : Within X M = ranked-within S rules M normal closed (length atoms) in
        ⊎_elim
        (λ s. ranked-closed a (list_any-filter (λ rule. is_head_in S rule.head) (λ rule. derives rule M X a) rules
        ∙ list_any-weaker _ _ rules (each-weaker _ _ (λ rule h d. and_from _ _ (head-inner S M rule.head a h.0 s ((and_parts _ _ d).0)) d) rules normal) e))
        (λ s. ranked-outside S rules M (length atoms) a s (closed a (step-mono rules M X M (normal-weighed rules normal) within a e)))
        (cases_Bool (members atoms a))

    reached : (a : ℕ) → M a ≡ true → ranked (members atoms) rules M (length atoms) a ≡ true
    reached a m = grown-smallest rules M none (ranked (members atoms) rules M (length atoms)) (normal-weighed rules normal) (λ b e. absurd (true≢false (sym e))) all-closed a (founded a m)

    rank-is : (a : ℕ) → M a ≡ true → rank atoms rules M a ≡ first_below (length atoms) (λ k. ranked (members atoms) rules M k a)
    rank-is a m = cond-true (M a) _ 0 m

    rank-reached : (a : ℕ) → M a ≡ true → ranked (members atoms) rules M (rank atoms rules M a) a ≡ true
    rank-reached a m = subst (λ k. ranked (members atoms) rules M k a ≡ true) (sym (rank-is a m)) (first_below-true (length atoms) (λ k. ranked (members atoms) rules M k a) (reached a m))

    rank-least : (a k : ℕ) → M a ≡ true → ranked (members atoms) rules M k a ≡ true → rank atoms rules M a ≤ k
    rank-least a k m e = subst (λ r. r ≤ k) (sym (rank-is a m)) (first_below-least (length atoms) (λ j. ranked (members atoms) rules M j a) k e)

    pub rank-bound : (a : ℕ) → M a ≡ true → rank atoms rules M a ≤ length atoms
    rank-bound a m = subst (λ r. r ≤ length atoms) (sym (rank-is a m)) (first_below-le (length atoms) (λ j. ranked (members atoms) rules M j a))

    rank-from_one : (a : ℕ) → members atoms a ≡ true → M a ≡ true → 0 < rank atoms rules M a
    rank-from_one a s m = go (rank atoms rules M a) refl
      where
        go : (k : ℕ) → rank atoms rules M a ≡ k → 0 < k
        go zero e = absurd (true≢false (sym ((and_parts _ _ (subst (λ k. ranked (members atoms) rules M k a ≡ true) e (rank-reached a m))).1) ∙ ap not s))
        go (suc k) e = omega arith

    rank-below : (a : ℕ) → members atoms a ≡ true → M a ≡ true → list_any (λ rule. gives M a rule && is_below (members atoms) (rank atoms rules M) a rule) rules ≡ true
    rank-below a s m = go (rank atoms rules M a) refl (rank-from_one a s m) (rank-reached a m)
      where
        S : Set
        S = members atoms

        r : ℕ → ℕ
        r = rank atoms rules M

        go : (k : ℕ) → rank atoms rules M a ≡ k → 0 < k → ranked (members atoms) rules M k a ≡ true → list_any (λ rule. gives M a rule && is_below (members atoms) (rank atoms rules M) a rule) rules ≡ true
        go zero e h t = absurd (omega arith)
        go (suc j) e h t =
            let inside : Within (ranked (members atoms) rules M j) M = ranked-within (members atoms) rules M normal closed j in
            let less : (b : ℕ) → ranked (members atoms) rules M j b ≡ true → rank atoms rules M b < rank atoms rules M a =
            λ b xb. (let q : rank atoms rules M b ≤ j = rank-least b j (inside b xb) xb in omega arith) in
            ⊎_elim (λ p. absurd (let q : rank atoms rules M a ≤ j = rank-least a j m p in omega arith))
            (λ p. list_any-weaker (λ rule. is_head_in (members atoms) rule.head && derives rule M (ranked (members atoms) rules M j) a) _ rules
            (each-weaker _ _ (λ rule n d.
            let one : (head_has rule.head M a ≡ true) × (holds rule.body (ranked (members atoms) rules M j) M ≡ true) = and_parts _ _ ((and_parts _ _ d).1) in
            and_from _ _ (and_from _ _ one.0 (holds-mono rule.body (ranked (members atoms) rules M j) M M (weighed rule.body n.1) inside one.1))
            (body-in (members atoms) M (ranked (members atoms) rules M j) (λ b. ltb (rank atoms rules M b) (rank atoms rules M a)) rule.body one.1
            (λ b sb xb. lt-ltb (rank atoms rules M b) (rank atoms rules M a) (less b xb)))) rules normal)
            (sym (list_any-filter (λ rule. is_head_in (members atoms) rule.head) (λ rule. derives rule M (ranked (members atoms) rules M j) a) rules) ∙ p))
            (or_cases _ _ t)
          where
            weighed : (body : Body) → IsNormalBody body → HasWeights body
            weighed (All lits) h = tt
            weighed (Sum bound items) h = absurd h

    none_near : (r : ℕ → ℕ) (a : ℕ) (bs : List ℕ) → list_any (λ c. leb (r a) (suc (r c))) bs ≡ false → list_all (λ b. ltb (suc (r b)) (r a)) bs ≡ true
    none_near r a [] e = refl
    none_near r a (b ∷ bs) e =
        let k : (leb (r a) (suc (r b)) ≡ false) × (list_any (λ c. leb (r a) (suc (r c))) bs ≡ false) = or_parts _ _ e in
        and_from _ _ (lt-ltb _ _ (leb-false _ _ k.0)) (none_near r a bs k.1)

    far : (r : ℕ → ℕ) (a : ℕ) (bs : List ℕ) → near_one r a bs ≡ false → (1 < r a) × (list_all (λ b. ltb (suc (r b)) (r a)) bs ≡ true)
    far r a [] e = (leb-false _ _ e, refl)
    far r a (b ∷ bs) e =
        let k : (leb (r a) (suc (r b)) ≡ false) × (list_any (λ c. leb (r a) (suc (r c))) bs ≡ false) = or_parts _ _ e in
        (let j : suc (r b) < r a = leb-false _ _ k.0 in omega arith, none_near r a (b ∷ bs) e)

    -- a rule whose body holds at a round gives its head by the next one
    gives-next : (k a : ℕ) (xs : List Rule) → AreNormal xs → members atoms a ≡ true
        → AllByRecursion (λ rule. head_has rule.head M a ≡ true → holds rule.body (ranked (members atoms) rules M k) M ≡ true → step (inner (members atoms) xs) M (ranked (members atoms) rules M k) a ≡ true) xs
    gives-next k a [] n s = tt
    gives-next k a (x ∷ xs) n s =
        let S : Set = members atoms in
        let X : Set = ranked S rules M k in
        let more : (rule : Rule) → step (inner S xs) M X a ≡ true → step (inner S (x ∷ xs)) M X a ≡ true = λ rule e.
        list_any-filter (λ r. is_head_in S r.head) (λ r. derives r M X a) (x ∷ xs)
        ∙ or_right _ _ (sym (list_any-filter (λ r. is_head_in S r.head) (λ r. derives r M X a) xs) ∙ e) in (
          λ h b. list_any-filter (λ r. is_head_in S r.head) (λ r. derives r M X a) (x ∷ xs) ∙ or_left _ _ (and_from _ _ (head-inner S M x.head a n.0.0 s h) (and_from _ _ h b)),
          each-weaker _ _ (λ rule f h b. more rule (f h b)) xs (gives-next k a xs n.1 s),
        )

    two_up : (k : ℕ) → 1 < k → (n : ℕ) × (k ≡ suc (suc n))
    two_up zero h = absurd (omega arith)
    two_up (suc zero) h = absurd (omega arith)
    two_up (suc (suc n)) h = (n, refl)

    near-here : (a : ℕ) → members atoms a ≡ true → M a ≡ true → (rule : Rule) → IsNormalHead rule.head × IsNormalBody rule.body
        → ((k : ℕ) → head_has rule.head M a ≡ true → holds rule.body (ranked (members atoms) rules M k) M ≡ true → step (inner (members atoms) rules) M (ranked (members atoms) rules M k) a ≡ true)
        → (not (gives M a rule) || is_near (members atoms) (rank atoms rules M) a rule) ≡ true
    near-here a s m rule n next = go (gives M a rule) refl (is_near (members atoms) (rank atoms rules M) a rule) refl
      where
        go : (g : Bool) → gives M a rule ≡ g → (q : Bool) → is_near (members atoms) (rank atoms rules M) a rule ≡ q → (not g || q) ≡ true
        go false e q f = refl
        go true e true f = refl
        go true e false f =
            let r : ℕ → ℕ = rank atoms rules M in
            let apart : (1 < rank atoms rules M a) × (list_all (λ b. ltb (suc (rank atoms rules M b)) (rank atoms rules M a)) (body_in (members atoms) rule.body) ≡ true) = far (rank atoms rules M) a (body_in (members atoms) rule.body) f in
            let up : (k : ℕ) × (rank atoms rules M a ≡ suc (suc k)) = two_up (rank atoms rules M a) apart.0 in
            let given : (head_has rule.head M a ≡ true) × (holds rule.body M M ≡ true) = and_parts _ _ e in
            let here : holds rule.body (ranked (members atoms) rules M up.0) M ≡ true =
            body-holds (members atoms) M (ranked (members atoms) rules M up.0) (λ b. ltb (suc (rank atoms rules M b)) (rank atoms rules M a)) rule.body n.1 given.1 apart.1
            (λ b sb mb lb. ranked-later (members atoms) rules M b (rank atoms rules M b) up.0 (let j : suc (rank atoms rules M b) < rank atoms rules M a = ltb-true _ _ lb in let i : rank atoms rules M a ≡ suc (suc up.0) = up.1 in omega arith) (rank-reached b mb))
            (λ b sb mb. ranked-outside (members atoms) rules M up.0 b sb mb) in
            absurd (let j : rank atoms rules M a ≤ suc up.0 = rank-least a (suc up.0) m (or_right _ _ (next up.0 given.0 here)) in let i : rank atoms rules M a ≡ suc (suc up.0) = up.1 in omega arith)

    near-all : (a : ℕ) → members atoms a ≡ true → M a ≡ true → (xs : List Rule) → AreNormal xs
        → AllByRecursion (λ rule. (k : ℕ) → head_has rule.head M a ≡ true → holds rule.body (ranked (members atoms) rules M k) M ≡ true → step (inner (members atoms) rules) M (ranked (members atoms) rules M k) a ≡ true) xs
        → list_all (λ rule. not (gives M a rule) || is_near (members atoms) (rank atoms rules M) a rule) xs ≡ true
    near-all a s m [] n f = refl
    near-all a s m (x ∷ xs) n f = and_from _ _ (near-here a s m x n.0 f.0) (near-all a s m xs n.1 f.1)

    swapped : (a : ℕ) (xs : List Rule) → ((k : ℕ) → AllByRecursion (λ rule. head_has rule.head M a ≡ true → holds rule.body (ranked (members atoms) rules M k) M ≡ true → step (inner (members atoms) rules) M (ranked (members atoms) rules M k) a ≡ true) xs)
        → AllByRecursion (λ rule. (k : ℕ) → head_has rule.head M a ≡ true → holds rule.body (ranked (members atoms) rules M k) M ≡ true → step (inner (members atoms) rules) M (ranked (members atoms) rules M k) a ≡ true) xs
    swapped a [] f = tt
    swapped a (x ∷ xs) f = (λ k. (f k).0, swapped a xs (λ k. (f k).1))

    pub rank-is_ranking : IsRanking (members atoms) rules M (rank atoms rules M)
    rank-is_ranking = record {
      out = λ a s m. cond-false (M a) _ 0 m;
      from_one = rank-from_one;
      below = rank-below;
      near = λ a s m. near-all a s m rules normal (swapped a rules (λ k. gives-next k a rules normal s));
    }
