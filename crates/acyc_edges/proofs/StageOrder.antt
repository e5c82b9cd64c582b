-- The stages at which the atoms of a component are derived from the rest of the set, as rounds of the one-step operator: which
-- atom comes no later than which, that the rules say so, and that nothing else meets what they say (Gebser et al. 2014).
use Rattle.std.proofs.Common.{◌≡◌, refl, sym, ◌∙◌, ap, subst, ℕ, zero, suc, ◌≤◌, ◌<◌, ◌-◌, ◌+◌, Bool, true, false, not, ◌&&◌, ◌||◌, List, [], ◌∷◌, filter, length, ⊎_elim, arith}
use Rattle.std.proofs.lemmas.Bool.{and_parts, and_from, or_cases, or_left, or_right, true≢false, eqb-true, cases_Bool, cases_lt, not-true}
use Rattle.asp_base.specs.Sets.{Set, none, Within, In}
use Rattle.asp_base.specs.Walks.{IsWalk, Acyclic}
use Rattle.ground_program.specs.Closed.{Closed}
use Rattle.ground_program.specs.Stable.{holds, head_has, derives, step, rounds, grown}
use Rattle.ground_program.specs.declared.program.Head.{Head}
use Rattle.ground_program.specs.declared.program.Head.TheVariants.{Nothing, One, Choice}
use Rattle.ground_program.specs.declared.program.Rule.{Rule}
use Rattle.ground_program.proofs.Least.{grown-closed, grown-smallest, rounds-within, step-mono, holds-mono}
use Rattle.ground_program.specs.Dependencies.{positives_of_body}
use Rattle.acyc_edges.specs.Encoding.{has_head_in}
use Rattle.ground_program.specs.Normal.{IsNormalHead, IsNormalBody, AreNormal}
use Rattle.ground_program.proofs.FactLaws.{normal-weighed}
use Rattle.acyc_edges.proofs.Inside.{any-in, in-any, each-in, in-each, in-filter, filter-in, not-both, false-from}
use Rattle.acyc_edges.proofs.Founding.{body-weighed, body-positive, body-hold}

-- a rule of the atom whose body holds in the set, and of whose positive atoms in S the claim is true
pub record Gives (rules : List Rule) (S M : Set) (Claim : ℕ → Type 0) (a : ℕ) : Type 0 where
  pub rule : Rule
  pub there : In rule rules
  pub head : head_has rule.head M a ≡ true
  pub body : holds rule.body M M ≡ true
  pub each : (b : ℕ) → In b (positives_of_body rule.body) → S b ≡ true → Claim b

head-in : (S : Set) (head : Head) (M : Set) (a : ℕ) → IsNormalHead head → head_has head M a ≡ true → has_head_in S head ≡ S a
head-in S Nothing M a n h = absurd (true≢false (sym h))
head-in S (One b) M a n h = ap S (eqb-true b a h)
head-in S (Choice as_) M a n h = absurd n

module _ (rules : List Rule) (normal : AreNormal rules) (S M : Set) (closed : Closed rules M M) (founded : Within M (grown rules M none)) where
  -- the rules with a head in the component
  abbrev pub inner : List Rule
  inner = filter (λ rule. has_head_in S rule.head) rules

  abbrev pub outer : Set
  outer a = M a && not (S a)

  abbrev pub stage : ℕ → Set
  stage k = rounds k inner M outer

  -- after so many rounds nothing comes
  abbrev pub last : ℕ
  last = length inner

  inner-normal : AreNormal inner
  inner-normal = in-each _ inner (λ rule i. each-in _ rules rule normal ((filter-in (λ r. has_head_in S r.head) rules rule i).0))

  inner-step : (X : Set) (a : ℕ) → step inner M X a ≡ true → (rule : Rule) × In rule rules × (has_head_in S rule.head ≡ true) × (derives rule M X a ≡ true)
  inner-step X a h =
      let k : (rule : Rule) × In rule inner × (derives rule M X a ≡ true) = any-in (λ rule. derives rule M X a) inner h in
      let j : In k.0 rules × (has_head_in S k.0.head ≡ true) = filter-in (λ r. has_head_in S r.head) rules k.0 k.1 in
      (k.0, j.0, j.1, k.2)

  inner-in : (X : Set) (a : ℕ) → step inner M X a ≡ true → S a ≡ true
  inner-in X a h =
      let k : (rule : Rule) × In rule rules × (has_head_in S rule.head ≡ true) × (derives rule M X a ≡ true) = inner-step X a h in
      let n : IsNormalHead k.0.head × IsNormalBody k.0.body = each-in _ rules k.0 normal k.1 in
      sym (head-in S k.0.head M a n.0 ((and_parts _ _ k.3).0)) ∙ k.2

  step-in : (X : Set) (a : ℕ) → S a ≡ true → (rule : Rule) → In rule rules → derives rule M X a ≡ true → step inner M X a ≡ true
  step-in X a s rule i d =
      let n : IsNormalHead rule.head × IsNormalBody rule.body = each-in _ rules rule normal i in
      in-any (λ r. derives r M X a) inner rule (in-filter (λ r. has_head_in S r.head) rules rule i (head-in S rule.head M a n.0 ((and_parts _ _ d).0) ∙ s)) d

  -- ---- the rounds

  outer-within : Within outer M
  outer-within a h = (and_parts _ _ h).0

  inner-closed : Closed inner M M
  inner-closed a h = let k : (rule : Rule) × In rule rules × (has_head_in S rule.head ≡ true) × (derives rule M M a ≡ true) = inner-step M a h in closed a (in-any (λ r. derives r M M a) rules k.0 k.1 k.3)

  pub stage-within : (k : ℕ) → Within (stage k) M
  stage-within k = rounds-within k inner M outer M (normal-weighed inner inner-normal) outer-within inner-closed

  pub stage-first : (a : ℕ) → S a ≡ true → stage 0 a ≡ false
  stage-first a s = go (M a) (S a) s
    where
      go : (x y : Bool) → y ≡ true → (x && not y) ≡ false
      go true true e = refl
      go true false e = absurd (true≢false (sym e))
      go false y e = refl

  stage-up : (n j a : ℕ) → stage j a ≡ true → stage (n + j) a ≡ true
  stage-up zero j a h = subst (λ k. stage k a ≡ true) (let e : j ≡ 0 + j = omega arith in e) h
  stage-up (suc n) j a h = subst (λ k. stage k a ≡ true) (let e : suc (n + j) ≡ suc n + j = omega arith in e) (or_left _ _ (stage-up n j a h))

  pub stage-later : (j k a : ℕ) → j ≤ k → stage j a ≡ true → stage k a ≡ true
  stage-later j k a h e = subst (λ i. stage i a ≡ true) (let s : (k - j) + j ≡ k = omega arith in s) (stage-up (k - j) j a e)

  stage-before : (j k a : ℕ) → j ≤ k → stage k a ≡ false → stage j a ≡ false
  stage-before j k a h e = false-from (stage j a) (λ t. not-both (stage k a) (stage-later j k a h t) e)

  stage-outer : (k a : ℕ) → M a ≡ true → S a ≡ false → stage k a ≡ true
  stage-outer k a m s = stage-later 0 k a (omega arith) (and_from _ _ m (ap not s))

  last-closed : Closed rules M (stage last)
  last-closed a h =
      let k : (rule : Rule) × In rule rules × (derives rule M (stage last) a ≡ true) = any-in (λ r. derives r M (stage last) a) rules h in
      ⊎_elim
      (λ s. grown-closed inner M outer (normal-weighed inner inner-normal) a (step-in (stage last) a s k.0 k.1 k.2))
      (λ s. stage-outer last a (closed a (step-mono rules M (stage last) M (normal-weighed rules normal) (stage-within last) a h)) s)
      (cases_Bool (S a))

  -- the last round has the whole set
  pub stage-last : Within M (stage last)
  stage-last a m = grown-smallest rules M none (stage last) (normal-weighed rules normal) (λ b e. absurd (true≢false (sym e))) last-closed a (founded a m)

  -- the round before which an atom of the component comes
  first-of : (k a : ℕ) → S a ≡ true → stage k a ≡ true → (j : ℕ) × (j < k) × (stage j a ≡ false) × (step inner M (stage j) a ≡ true)
  first-of zero a s h = absurd (not-both (stage 0 a) h (stage-first a s))
  first-of (suc k) a s h = go (stage k a) refl (λ e. first-of k a s e)
    where
      go : (b : Bool) → stage k a ≡ b → (stage k a ≡ true → (j : ℕ) × (j < k) × (stage j a ≡ false) × (step inner M (stage j) a ≡ true))
          → (j : ℕ) × (j < suc k) × (stage j a ≡ false) × (step inner M (stage j) a ≡ true)
      go true e rest = let r : (j : ℕ) × (j < k) × (stage j a ≡ false) × (step inner M (stage j) a ≡ true) = rest e in (r.0, (let l : r.0 < k = r.1 in omega arith), r.2, r.3)
      go false e rest = (k, omega arith, e, ⊎_elim (λ t. absurd (not-both (stage k a) t e)) (λ t. t) (or_cases (stage k a) (step inner M (stage k) a) h))

  stage-next : (k a : ℕ) → step inner M (stage k) a ≡ true → stage (suc k) a ≡ true
  stage-next k a h = or_right (stage k a) _ h

  -- a rule derives its head in a round where its body holds in the set and the round has its atoms in the component
  fires-at : (k a : ℕ) → S a ≡ true → (rule : Rule) → In rule rules → head_has rule.head M a ≡ true → holds rule.body M M ≡ true
      → ((b : ℕ) → In b (positives_of_body rule.body) → S b ≡ true → stage k b ≡ true) → step inner M (stage k) a ≡ true
  fires-at k a s rule i h e f =
      let n : IsNormalHead rule.head × IsNormalBody rule.body = each-in _ rules rule normal i in
      step-in (stage k) a s rule i (and_from _ _ h (body-hold rule.body M (stage k) M n.1 e
      (λ b j. ⊎_elim (λ t. f b j t) (λ t. stage-outer k b (body-positive rule.body M M b n.1 e j) t) (cases_Bool (S b)))))

  -- what a round derives, a rule gives with its atoms in the round
  gives-at : (k a : ℕ) → step inner M (stage k) a ≡ true → Gives rules S M (λ b. stage k b ≡ true) a
  gives-at k a h =
      let r : (rule : Rule) × In rule rules × (has_head_in S rule.head ≡ true) × (derives rule M (stage k) a ≡ true) = inner-step (stage k) a h in
      let n : IsNormalHead r.0.head × IsNormalBody r.0.body = each-in _ rules r.0 normal r.1 in
      let d : (head_has r.0.head M a ≡ true) × (holds r.0.body (stage k) M ≡ true) = and_parts _ _ r.3 in
      record {
        rule = r.0;
        there = r.1;
        head = d.0;
        body = holds-mono r.0.body (stage k) M M (body-weighed r.0.body n.1) (stage-within k) d.1;
        each = λ b i s. body-positive r.0.body (stage k) M b n.1 d.1 i;
      }

  -- ---- which atom comes no later than which

  abbrev pub later : ℕ → ℕ → ℕ → Bool
  later zero a c = false
  later (suc k) a c = (stage (suc k) a && not (stage k c)) || later k a c

  -- a is derived, and no later than c
  abbrev pub no_later : ℕ → ℕ → Bool
  no_later a c = later last a c

  later-from : (k j a c : ℕ) → j < k → stage (suc j) a ≡ true → stage j c ≡ false → later k a c ≡ true
  later-from zero j a c l h e = absurd (omega arith)
  later-from (suc k) j a c l h e = ⊎_elim (λ d. or_right _ _ (later-from k j a c d h e))
      (λ d. let s : j ≡ k = omega arith in or_left _ _ (subst (λ i. (stage (suc i) a && not (stage i c)) ≡ true) s (and_from _ _ h (ap not e)))) (cases_lt j k)

  later-has : (k a c : ℕ) → later k a c ≡ true → (j : ℕ) × (j < k) × (stage (suc j) a ≡ true) × (stage j c ≡ false)
  later-has zero a c h = absurd (true≢false (sym h))
  later-has (suc k) a c h = ⊎_elim
      (λ d. let p : (stage (suc k) a ≡ true) × (not (stage k c) ≡ true) = and_parts _ _ d in (k, omega arith, p.0, not-true (stage k c) p.1))
      (λ d. let r : (j : ℕ) × (j < k) × (stage (suc j) a ≡ true) × (stage j c ≡ false) = later-has k a c d in (r.0, (let l : r.0 < k = r.1 in omega arith), r.2, r.3))
      (or_cases (stage (suc k) a && not (stage k c)) (later k a c) h)

  -- what is not no later has come before
  before : (m a c : ℕ) → m < last → no_later a c ≡ false → stage (suc m) a ≡ true → stage m c ≡ true
  before m a c l e h = ⊎_elim (λ t. t) (λ t. absurd (not-both (no_later a c) (later-from last m a c l h t) e)) (cases_Bool (stage m c))

  pub no_later-in : (a c : ℕ) → no_later a c ≡ true → M a ≡ true
  no_later-in a c h = let r : (j : ℕ) × (j < last) × (stage (suc j) a ≡ true) × (stage j c ≡ false) = later-has last a c h in stage-within (suc r.0) a r.2

  pub no_later-self : (a : ℕ) → S a ≡ true → M a ≡ true → no_later a a ≡ true
  no_later-self a s m =
      let r : (j : ℕ) × (j < last) × (stage j a ≡ false) × (step inner M (stage j) a ≡ true) = first-of last a s (stage-last a m) in
      later-from last r.0 a a r.1 (stage-next r.0 a r.3) r.2

  -- the rules say so: one way
  pub no_later-gives : (a c : ℕ) → S a ≡ true → no_later a c ≡ true → Gives rules S M (λ b. no_later c b ≡ false) a
  no_later-gives a c s h =
      let r : (j : ℕ) × (j < last) × (stage (suc j) a ≡ true) × (stage j c ≡ false) = later-has last a c h in
      let f : (i : ℕ) × (i < suc r.0) × (stage i a ≡ false) × (step inner M (stage i) a ≡ true) = first-of (suc r.0) a s r.2 in
      let le : f.0 ≤ r.0 = (let l : f.0 < suc r.0 = f.1 in omega arith) in
      let out : stage f.0 c ≡ false = stage-before f.0 r.0 c le r.3 in
      let g : Gives rules S M (λ b. stage f.0 b ≡ true) a = gives-at f.0 a f.3 in
      record {
        rule = g.rule;
        there = g.there;
        head = g.head;
        body = g.body;
        each = λ b i t. false-from (no_later c b) (λ e.
            let q : (j : ℕ) × (j < last) × (stage (suc j) c ≡ true) × (stage j b ≡ false) = later-has last c b e in
            ⊎_elim (λ l. not-both (stage f.0 c) (stage-later (suc q.0) f.0 c (omega arith) q.2) out)
            (λ l. not-both (stage q.0 b) (stage-later f.0 q.0 b l (g.each b i t)) q.3) (cases_lt q.0 f.0));
      }

  -- and the other
  pub gives-no_later : (a c : ℕ) → S a ≡ true → S c ≡ true → Gives rules S M (λ b. no_later c b ≡ false) a → no_later a c ≡ true
  gives-no_later a c s t g = ⊎_elim
      (λ d.
      let r : (j : ℕ) × (j < last) × (stage j c ≡ false) × (step inner M (stage j) c ≡ true) = first-of last c t d in
      later-from last r.0 a c r.1
      (stage-next r.0 a (fires-at r.0 a s g.rule g.there g.head g.body (λ b i u. before r.0 c b r.1 (g.each b i u) (stage-next r.0 c r.3)))) r.2)
      (λ d.
      let m : M a ≡ true = closed a (in-any (λ rule. derives rule M M a) rules g.rule g.there (and_from _ _ g.head g.body)) in
      let r : (j : ℕ) × (j < last) × (stage j a ≡ false) × (step inner M (stage j) a ≡ true) = first-of last a s (stage-last a m) in
      later-from last r.0 a c r.1 (stage-next r.0 a r.3) (stage-before r.0 last c (let l : r.0 < last = r.1 in omega arith) d))
      (cases_Bool (stage last c))

  -- steps to what comes before have no cycle
  abbrev pub earlier : ℕ → ℕ → Bool
  earlier a b = M a && (S a && (S b && not (no_later a b)))

  walk-earlier : (by : List ℕ) (m a z : ℕ) → m < last → stage (suc m) a ≡ true → IsWalk earlier a by z → stage m z ≡ true
  walk-earlier [] m a z l h w = let k : (M a ≡ true) × ((S a && (S z && not (no_later a z))) ≡ true) = and_parts _ _ w in
      before m a z l (not-true (no_later a z) ((and_parts _ _ ((and_parts _ _ k.1).1)).1)) h
  walk-earlier (n ∷ by) zero a z l h w =
      let k : (M a ≡ true) × ((S a && (S n && not (no_later a n))) ≡ true) = and_parts _ _ w.0 in
      let j : (S n ≡ true) × (not (no_later a n) ≡ true) = and_parts _ _ ((and_parts _ _ k.1).1) in
      absurd (not-both (stage 0 n) (before 0 a n l (not-true (no_later a n) j.1) h) (stage-first n j.0))
  walk-earlier (n ∷ by) (suc m) a z l h w =
      let k : (M a ≡ true) × ((S a && (S n && not (no_later a n))) ≡ true) = and_parts _ _ w.0 in
      let j : (S n ≡ true) × (not (no_later a n) ≡ true) = and_parts _ _ ((and_parts _ _ k.1).1) in
      stage-later m (suc m) z (omega arith) (walk-earlier by m n z (omega arith) (before (suc m) a n l (not-true (no_later a n) j.1) h) w.1)

  starts : (a : ℕ) (by : List ℕ) (z : ℕ) → IsWalk earlier a by z → (M a ≡ true) × (S a ≡ true)
  starts a [] z w = let k : (M a ≡ true) × ((S a && (S z && not (no_later a z))) ≡ true) = and_parts _ _ w in (k.0, (and_parts _ _ k.1).0)
  starts a (n ∷ by) z w = let k : (M a ≡ true) × ((S a && (S n && not (no_later a n))) ≡ true) = and_parts _ _ w.0 in (k.0, (and_parts _ _ k.1).0)

  pub earlier-acyclic : Acyclic earlier
  earlier-acyclic a by w =
      let k : (M a ≡ true) × (S a ≡ true) = starts a by a w in
      let r : (j : ℕ) × (j < last) × (stage j a ≡ false) × (step inner M (stage j) a ≡ true) = first-of last a k.1 (stage-last a k.0) in
      not-both (stage r.0 a) (walk-earlier by r.0 a a r.1 (stage-next r.0 a r.3) w) r.2

  -- ---- the equations have one solution

  module _ (le : ℕ → ℕ → Bool)
      (up : (a c : ℕ) → S a ≡ true → S c ≡ true → Gives rules S M (λ b. le c b ≡ false) a → le a c ≡ true)
      (down : (a c : ℕ) → S a ≡ true → S c ≡ true → le a c ≡ true → Gives rules S M (λ b. le c b ≡ false) a) where
    abbrev Early : ℕ → Type 0
    Early k = (a c : ℕ) → S a ≡ true → S c ≡ true → stage (suc k) a ≡ true → stage k c ≡ false → le a c ≡ true

    abbrev Late : ℕ → Type 0
    Late k = (a c : ℕ) → S a ≡ true → S c ≡ true → stage k c ≡ true → stage k a ≡ false → le a c ≡ false

    -- what this round derives
    derived : (k : ℕ) → Late k → (a c : ℕ) → S a ≡ true → S c ≡ true → step inner M (stage k) a ≡ true → stage k c ≡ false → le a c ≡ true
    derived k late a c s t h e =
        let g : Gives rules S M (λ b. stage k b ≡ true) a = gives-at k a h in
        up a c s t (record { rule = g.rule; there = g.there; head = g.head; body = g.body; each = λ b i u. late c b t u (g.each b i u) e })

    early-zero : Late zero → Early zero
    early-zero late a c s t h e = ⊎_elim (λ d. absurd (not-both (stage 0 a) d (stage-first a s))) (λ d. derived 0 late a c s t d e) (or_cases _ _ h)

    early-suc : (k : ℕ) → Early k → Late (suc k) → Early (suc k)
    early-suc k early late a c s t h e = ⊎_elim (λ d. early a c s t d (stage-before k (suc k) c (omega arith) e)) (λ d. derived (suc k) late a c s t d e) (or_cases _ _ h)

    late-zero : Late zero
    late-zero a c s t h e = absurd (not-both (stage 0 c) h (stage-first c t))

    late-suc : (k : ℕ) → Early k → Late (suc k)
    late-suc k early a c s t h e = false-from (le a c) (λ d.
        let g : Gives rules S M (λ b. le c b ≡ false) a = down a c s t d in
        not-both (stage (suc k) a) (stage-next k a (fires-at k a s g.rule g.there g.head g.body
        (λ b i u. ⊎_elim (λ x. x) (λ x. absurd (not-both (le c b) (early c b t u h x) (g.each b i u))) (cases_Bool (stage k b))))) e)

    both : (k : ℕ) → Early k × Late k
    both zero = (early-zero late-zero, late-zero)
    both (suc k) = let r : Early k × Late k = both k in let l : Late (suc k) = late-suc k r.0 in (early-suc k r.0 l, l)

    pub no_later-only : (a c : ℕ) → S a ≡ true → S c ≡ true → le a c ≡ no_later a c
    no_later-only a c s t = ⊎_elim
        (λ e. let r : (j : ℕ) × (j < last) × (stage (suc j) a ≡ true) × (stage j c ≡ false) = later-has last a c e in (both r.0).0 a c s t r.2 r.3 ∙ sym e)
        (λ e. false-from (le a c) (λ d.
        let g : Gives rules S M (λ b. le c b ≡ false) a = down a c s t d in
        let m : M a ≡ true = closed a (in-any (λ rule. derives rule M M a) rules g.rule g.there (and_from _ _ g.head g.body)) in
        let r : (j : ℕ) × (j < last) × (stage j a ≡ false) × (step inner M (stage j) a ≡ true) = first-of last a s (stage-last a m) in
        not-both (le a c) d ((both r.0).1 a c s t (before r.0 a c r.1 e (stage-next r.0 a r.3)) r.2)) ∙ sym e)
        (cases_Bool (no_later a c))
