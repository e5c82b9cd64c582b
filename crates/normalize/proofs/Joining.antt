-- Where rules stand for others, and more rules behind them for more others, all together stand for
-- all others.
use Rattle.std.proofs.Common.{◌≡◌, refl, sym, ◌∙◌, ap, ap₂, ℕ, Bool, true, false, ◌||◌, List, ◌++◌, ⊎_elim}
use Rattle.std.proofs.lemmas.Bool.{false_from_ne_true, or_cases, or_left, or_right, or_parts, or_from, true≢false, cases_Bool}
use Rattle.asp_base.specs.Sets.{Set, union}
use Rattle.ground_program.specs.Stable.{step}
use Rattle.ground_program.specs.declared.program.Rule.{Rule}
use Rattle.ground_program.proofs.Least.{step-append}
use Rattle.asp_base.proofs.Bools.{or_false}
use Rattle.asp_base.proofs.Each.{each-append}
use Rattle.normalize.specs.private.Replacement.{Near, RulesIn, headless_holds, Respects, Replaces}
use Rattle.normalize.proofs.Reading.{headless-append, Closed-first, Closed-second, step-near, headless-near, step-none, rules-wider}

-- tests on variables
first_wider : (f g k : Bool) → (f || k) ≡ true → ((f || g) || k) ≡ true
first_wider true g k h = refl
first_wider false true k h = refl
first_wider false false k h = h

heads_wider : (f g k : Bool) → (g || k) ≡ true → ((f || g) || k) ≡ true
heads_wider true g k h = refl
heads_wider false g k h = h

second_wider : (f g k : Bool) → (g || (f || k)) ≡ true → ((f || g) || k) ≡ true
second_wider true g k h = refl
second_wider false true k h = refl
second_wider false false k h = h

or_second : (x y : Bool) → (x || y) ≡ true → x ≡ false → y ≡ true
or_second true y h e = absurd (true≢false e)
or_second false y h e = h

module _ (atoms known F G : Set) (before mid after : List (ℕ × ℕ))
    (old1 new1 old2 between new2 : List Rule) (E1 E2 : Set → Set → Set)
    (p : Replaces atoms known F before mid old1 new1 E1)
    (q : Replaces atoms (union F known) G mid after between new2 E2)
    (through : (X N : Set) → Respects after N → (a : ℕ) → F a ≡ false
    → step between N (E1 X N) a ≡ step old2 N X a)
    (says : (X N : Set) → Respects after N → headless_holds between (E1 X N) N ≡ headless_holds old2
    X N) where
  abbrev both : Set → Set → Set
  both X N = E2 (E1 X N) N

  new-off : (a : ℕ) → union F known a ≡ true → G a ≡ false
  new-off a h = false_from_ne_true (G a) (λ g. true≢false (sym h ∙ q.apart a g))

  clear : (a : ℕ) → F a ≡ true → G a ≡ false
  clear a f = new-off a (or_left (F a) (known a) f)

  atoms-off : (a : ℕ) → known a ≡ false → atoms a ≡ false
  atoms-off a k = false_from_ne_true (atoms a) (λ h. true≢false (sym (p.within a h) ∙ k))

  -- the first rules derive no atom that is new to the second ones, nor these one that is new to
  -- the first
  first-none : (N X : Set) (a : ℕ) → G a ≡ true → step new1 N X a ≡ false
  first-none N X a g =
      let k : (F a ≡ false) × (known a ≡ false) = or_parts (F a) (known a) (q.apart a g) in
      step-none (union F atoms) (union F known) new1 N X p.rules a
      (or_from (F a) (atoms a) k.0 (atoms-off a k.1))

  second-none : (N X : Set) (a : ℕ) → F a ≡ true → step new2 N X a ≡ false
  second-none N X a f =
      step-none (union G atoms) (union G (union F known)) new2 N X q.rules a
      (or_from (G a) (atoms a) (clear a f) (atoms-off a (p.apart a f)))

  stays : (Y N : Set) → Near (union F known) (E2 Y N) Y
  stays Y N a h = q.outside Y N a (new-off a h)

  first-stays : (Y N : Set) (a : ℕ) → step new1 N (E2 Y N) a ≡ step new1 N Y a
  first-stays Y N a =
      step-near (union F atoms) (union F known) (E2 Y N) Y N N (stays Y N) (λ b e. refl)
      (λ b e. refl) new1 p.rules a

  first-near : (X Y N M : Set) → Near known X Y → Near (union F known) N M
      → Near (union F known) (E1 X N) (E1 Y M)
  first-near X Y N M x n b h = ⊎_elim (λ f. p.near X Y N M x n b f)
      (λ f. p.outside X N b f ∙ (x b (or_second (F b) (known b) h f) ∙ sym (p.outside Y M b f)))
      (cases_Bool (F b))

  rules-both : RulesIn (union (union F G) atoms) (union (union F G) known) (new1 ++ new2)
  rules-both = each-append _ new1 new2
      (rules-wider (union F atoms) (union (union F G) atoms) (union F known)
      (union (union F G) known) (λ a h. first_wider (F a) (G a) (atoms a) h)
      (λ a h. first_wider (F a) (G a) (known a) h) new1 p.rules)
      (rules-wider (union G atoms) (union (union F G) atoms) (union G (union F known))
      (union (union F G) known) (λ a h. heads_wider (F a) (G a) (atoms a) h)
      (λ a h. second_wider (F a) (G a) (known a) h) new2 q.rules)

  inside-both : (X N : Set) → Respects after N → (a : ℕ) → union F G a ≡ true
      → step (new1 ++ new2) N (both X N) a ≡ both X N a
  inside-both X N r a e = step-append new1 new2 N (both X N) a ∙ ⊎_elim
      (λ f. ap₂ ◌||◌ (first-stays (E1 X N) N a ∙ p.inside X N (q.grows N r) a f)
      (second-none N (both X N) a f)
      ∙ (or_false (E1 X N a) ∙ sym (q.outside (E1 X N) N a (clear a f))))
      (λ g. ap (λ s. s || step new2 N (both X N) a) (first-none N (both X N) a g)
      ∙ q.inside (E1 X N) N r a g)
      (or_cases (F a) (G a) e)

  derives-both : (X N : Set) → Respects after N → (a : ℕ) → union F G a ≡ false
      → step (new1 ++ new2) N (both X N) a ≡ step (old1 ++ old2) N X a
  derives-both X N r a e =
      let k : (F a ≡ false) × (G a ≡ false) = or_parts (F a) (G a) e in
      step-append new1 new2 N (both X N) a
      ∙ (ap₂ ◌||◌ (first-stays (E1 X N) N a ∙ p.derives X N (q.grows N r) a k.0)
      (q.derives (E1 X N) N r a k.1 ∙ through X N r a k.0)
      ∙ sym (step-append old1 old2 N X a))

  headless-both : (X N : Set) → Respects after N
      → headless_holds (new1 ++ new2) (both X N) N ≡ headless_holds (old1 ++ old2) X N
  headless-both X N r =
      headless-append new1 new2 (both X N) N
      ∙ (ap₂ ◌||◌ (headless-near (union F known) (both X N) (E1 X N) N N (stays (E1 X N) N)
      (λ b e. refl) (union F atoms) new1 p.rules ∙ p.headless X N (q.grows N r))
      (q.headless (E1 X N) N r ∙ says X N r)
      ∙ sym (headless-append old1 old2 X N))

  near-both : (X Y N M : Set) → Near known X Y → Near (union (union F G) known) N M → (a : ℕ)
      → union F G a ≡ true → both X N a ≡ both Y M a
  near-both X Y N M x n a e =
      let nf : Near (union F known) N M = λ b h. n b (first_wider (F b) (G b) (known b) h) in
      ⊎_elim
      (λ f. q.outside (E1 X N) N a (clear a f)
      ∙ (p.near X Y N M x nf a f ∙ sym (q.outside (E1 Y M) M a (clear a f))))
      (λ g. q.near (E1 X N) (E1 Y M) N M (first-near X Y N M x nf)
      (λ b h. n b (second_wider (F b) (G b) (known b) h)) a g)
      (or_cases (F a) (G a) e)

  unique-both : (X Y N M : Set) → Near known X Y → Near known N M → Near (union F G) N (both X N)
      → Near (union F G) M (both Y M) → Near (union F G) N M
  unique-both X Y N M x n u v a e =
      let nf : Near F N M = p.unique X Y N M x n
      (λ b f. u b (or_left (F b) (G b) f) ∙ q.outside (E1 X N) N b (clear b f))
      (λ b f. v b (or_left (F b) (G b) f) ∙ q.outside (E1 Y M) M b (clear b f)) in
      let nk : Near (union F known) N M =
      λ b h. ⊎_elim (λ f. nf b f) (λ k. n b k) (or_cases (F b) (known b) h) in
      ⊎_elim (λ f. nf a f)
      (λ g. q.unique (E1 X N) (E1 Y M) N M (first-near X Y N M x nk) nk
      (λ b k. u b (or_right (F b) (G b) k)) (λ b k. v b (or_right (F b) (G b) k)) a g)
      (or_cases (F a) (G a) e)

  settles-both : (M : Set) → Respects before M → (N : Set)
      × ((a : ℕ) → union F G a ≡ false → N a ≡ M a) × Respects after N
      × Near (union F G) N (both M N)
  settles-both M r =
      let s : (N : Set) × ((a : ℕ) → F a ≡ false → N a ≡ M a) × Respects mid N × Near F N (E1 M N) =
      p.settles M r in
      let t : (N : Set) × ((a : ℕ) → G a ≡ false → N a ≡ s.0 a) × Respects after N
      × Near G N (E2 s.0 N) = q.settles s.0 s.2 in
      let now : Near (union F known) t.0 s.0 = λ b h. t.1 b (new-off b h) in
      let same : (b : ℕ) → E1 M t.0 b ≡ s.0 b =
      λ b. ⊎_elim (λ f. p.near M M t.0 s.0 (λ c e. refl) now b f ∙ sym (s.3 b f))
      (λ f. p.outside M t.0 b f ∙ sym (s.1 b f)) (cases_Bool (F b)) in (
        t.0,
        λ a e. let k : (F a ≡ false) × (G a ≡ false) = or_parts (F a) (G a) e in
            t.1 a k.1 ∙ s.1 a k.0,
        t.2,
        λ a e. ⊎_elim
            (λ f. t.1 a (clear a f) ∙ (sym (same a) ∙ sym (q.outside (E1 M t.0) t.0 a (clear a f))))
            (λ g. t.3 a g ∙ q.near s.0 (E1 M t.0) t.0 t.0 (λ b h. sym (same b)) (λ b h. refl) a g)
            (or_cases (F a) (G a) e),
      )

  refutes-both : (N : Set) → Respects before N → Near (union F G) N (step (new1 ++ new2) N N)
      → Respects after N
  refutes-both N r h =
      q.refutes N
      (p.refutes N r
      (λ a f. h a (or_left (F a) (G a) f)
      ∙ (step-append new1 new2 N N a
      ∙ (ap (λ s. step new1 N N a || s) (second-none N N a f) ∙ or_false (step new1 N N a)))))
      (λ a g. h a (or_right (F a) (G a) g)
      ∙ (step-append new1 new2 N N a ∙ ap (λ s. s || step new2 N N a) (first-none N N a g)))

  pub Replaces-then : Replaces atoms known (union F G) before after (old1 ++ old2) (new1 ++ new2)
      (λ X N. E2 (E1 X N) N)
  Replaces-then = record {
    rules = rules-both;
    within = p.within;
    apart =
        λ a e. ⊎_elim (λ f. p.apart a f) (λ g. (or_parts (F a) (known a) (q.apart a g)).1)
        (or_cases (F a) (G a) e);
    outside = λ X N a e. let k : (F a ≡ false) × (G a ≡ false) = or_parts (F a) (G a) e in
        q.outside (E1 X N) N a k.1 ∙ p.outside X N a k.0;
    inside = inside-both;
    least =
        λ X N Z h c. q.least (E1 X N) N Z (p.least X N Z h (Closed-first new1 new2 N Z c))
        (Closed-second new1 new2 N Z c);
    derives = derives-both;
    headless = headless-both;
    near = near-both;
    unique = unique-both;
    settles = settles-both;
    grows = λ N r. p.grows N (q.grows N r);
    refutes = refutes-both;
  }
