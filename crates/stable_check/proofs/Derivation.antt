-- The least model grows to its end: each step keeps what is true under way, and where no rule is ready all is derived.
use Rattle.std.proofs.Common.{◌≡◌, refl, sym, ◌∙◌, ap, subst, ℕ, zero, suc, ◌+◌, ◌-◌, ◌<◌, ◌==◌, Bool, true, false, cond, ◌&&◌, List, [], ◌∷◌, ◌++◌, length, map, set, get_or, replicate, ⊎_elim, inl, inr, ◌⊎◌, arith}
use Rattle.std.specs.List.{list_any, AllByRecursion}
use Rattle.std.proofs.lemmas.Bool.{and_parts, and_from, or_cases, or_left, or_right, true≢false, cond_both, cond-true, cond-false, eqb-true, eq-eqb, ne_eqb, cases_Bool, cases_lt, cases_eq}
use Rattle.std.proofs.lemmas.List.{get_or_default, get_or-map, get_or_past, length-map}
use Rattle.asp_base.specs.Sets.{Set, members, none, Within}
use Rattle.ground_program.specs.Closed.{HasWeights, Weighed, Closed}
use Rattle.ground_program.specs.Facts.{Among, RuleFits, HeadFits}
use Rattle.rising_numbers.specs.Rising.{RisesFrom}
use Rattle.rising_numbers.specs.Rising.{place}
use Rattle.ground_program.specs.Stable.{holds, head_has, derives, grown}
use Rattle.ground_program.specs.declared.program.Head.{Head}
use Rattle.ground_program.specs.declared.program.Head.TheVariants.{Nothing, One, Choice}
use Rattle.ground_program.specs.declared.program.Rule.{Rule}
use Rattle.ground_program.proofs.Least.{grown-closed, grown-smallest, holds-mono, same_within}
use Rattle.stable_check.specs.private.Lack.{lack, flag, zeros}
use Rattle.stable_check.specs.private.Links.{Entry, with_rules}
use Rattle.stable_check.specs.private.Growth.{Counts, take_off_all, Growing, derive, derive_if_chosen, derive_chosen, derive_head}
use Rattle.stable_check.specs.private.UnderWay.{IsMet, IsUnderWay}
use Rattle.asp_base.proofs.Each.{each, map-same, each-get}
use Rattle.stable_check.proofs.BodyLaws.{holds-from_lack, lack-from_holds, weighed-rules}
use Rattle.stable_check.proofs.CountLaws.{Lacks, Covers, covers-take_off_all, ready-take_off_all}
use Rattle.stable_check.proofs.PlaceLaws.{get-at_place, set-at_place}
use Rattle.stable_check.proofs.RowLaws.{row_of, insert, lacks-lower, lower, lower-insert, with_rules-map, replicate-map}

flip-eq : (a b : ℕ) → (a == b) ≡ (b == a)
flip-eq a b = ⊎_elim (λ e. eq-eqb a b e ∙ sym (eq-eqb b a (sym e))) (λ n. ne_eqb a b n ∙ sym (ne_eqb b a (λ e. n (sym e)))) (cases_eq a b)

-- the indices of elements that pass
pub passes-at : {A : Type 0} (p : A → Bool) (xs : List A) (i : ℕ) (x : A) → i < length xs → x ≡ get_or xs i x → p x ≡ true → list_any p xs ≡ true
passes-at p [] i x h is e = absurd (omega arith)
passes-at p (y ∷ xs) zero x h is e = or_left _ _ (ap p (sym is) ∙ e)
passes-at p (y ∷ xs) (suc i) x h is e = or_right _ _ (passes-at p xs i x (omega arith) is e)

record Passing {A : Type 0} (p : A → Bool) (xs : List A) : Type 0 where
  pub index : ℕ
  pub element : A
  pub within : index < length xs
  pub is : element ≡ get_or xs index element
  pub passes : p element ≡ true

some-passes : {A : Type 0} (p : A → Bool) (xs : List A) → list_any p xs ≡ true → Passing p xs
some-passes p [] e = absurd (true≢false (sym e))
some-passes p (x ∷ xs) e = ⊎_elim
    (λ here. record { index = 0; element = x; within = omega arith; is = refl; passes = here })
    (λ later. let k : Passing p xs = some-passes p xs later in record { index = suc k.index; element = k.element; within = let h : k.index < length xs = k.within in omega arith; is = k.is; passes = k.passes })
    (or_cases _ _ e)

insert-keeps : (a : ℕ) (X : Set) → Within X (insert a X)
insert-keeps a X b e = cond_both (a == b) true (X b) (λ t. t ≡ true) (λ h. refl) (λ h. e)

insert-has : (a : ℕ) (X : Set) → Within (λ b. a == b) (insert a X)
insert-has a X b e = cond-true (a == b) true (X b) e

insert-within : (a : ℕ) (X Y : Set) → Y a ≡ true → Within X Y → Within (insert a X) Y
insert-within a X Y y h b e = ⊎_elim (λ t. subst (λ c. Y c ≡ true) (eqb-true a b t) y) (λ f. h b (sym (cond-false (a == b) true (X b) f) ∙ e)) (cases_Bool (a == b))

module _ (atoms : List ℕ) (rules : List Rule) (chosen : List Bool) (rise : RisesFrom 0 atoms) (fit : AllByRecursion (RuleFits (Among atoms)) rules) where
  abbrev M : Set
  M = flag atoms chosen

  abbrev top : Set
  top = grown rules M none

  abbrev table : List (List Entry)
  table = with_rules atoms 0 rules (replicate (length atoms) [])

  table-is : table ≡ map (λ x. row_of x 0 rules []) atoms
  table-is = ap (with_rules atoms 0 rules) (replicate-map atoms []) ∙ with_rules-map 0 atoms 0 rules (λ x. []) rise fit

  -- more was derived, and these heads
  record Grew (waits : ℕ → Type 0) (g : Growing) (old heads : Set) : Type 0 where
    pub state : IsUnderWay atoms rules M waits g
    pub more : Within old state.so_far
    pub has : Within heads state.so_far

  met-more : (waits : ℕ → Type 0) (X Y : Set) → Within X Y → (c : Counts) → Covers (λ r. waits r ⊎ IsMet rules M X r) c → Covers (λ r. waits r ⊎ IsMet rules M Y r) c
  met-more waits X Y h c met r lacking =
      ⊎_elim (λ m. inl m) (λ q. inr (⊎_elim (λ w. inl w) (λ k. inr (λ rule is b e. h b (k rule is b e))) q)) (met r lacking)

  derive-new : (waits : ℕ → Type 0) (g : Growing) (s : IsUnderWay atoms rules M waits g) (a : ℕ) → Among atoms a → top a ≡ true → s.so_far a ≡ false →
      Grew waits (record { derived = set g.derived (place atoms a - 1) true; counts = take_off_all (get_or table (place atoms a - 1) []) g.counts }) s.so_far (λ b. a == b)
  derive-new waits g s a among lies out =
      let i : ℕ = place atoms a - 1 in
      let row : get_or table i [] ≡ row_of a 0 rules [] = ap (λ rows. get_or rows i []) table-is ∙ get-at_place 0 atoms (λ x. row_of x 0 rules []) a [] rise among in
      record {
        state = record {
          rise = rise;
          so_far = insert a s.so_far;
          derived = ap (λ ds. set ds i true) s.derived ∙ set-at_place 0 atoms s.so_far a true rise among
              ∙ map-same (λ x. cond (x == a) true (s.so_far x)) (insert a s.so_far) atoms (each _ (λ x. ap (λ b. cond b true (s.so_far x)) (flip-eq x a)) atoms);
          lacks = lacks-lower (get_or table i []) g.counts ∙ ap (λ entries. lower entries g.counts.lacks) row ∙ ap (lower (row_of a 0 rules [])) s.lacks
              ∙ lower-insert a rules s.so_far M out;
          met = covers-take_off_all _ (get_or table i []) g.counts (met-more waits s.so_far (insert a s.so_far) (insert-keeps a s.so_far) g.counts s.met);
          ready = ready-take_off_all (get_or table i []) g.counts s.ready;
          sound = insert-within a s.so_far top lies s.sound;
        };
        more = insert-keeps a s.so_far;
        has = insert-has a s.so_far;
      }

  derive-grows : (waits : ℕ → Type 0) (g : Growing) (s : IsUnderWay atoms rules M waits g) (a : ℕ) → Among atoms a → top a ≡ true →
      Grew waits (derive table (place atoms a - 1) g) s.so_far (λ b. a == b)
  derive-grows waits g s a among lies =
      let i : ℕ = place atoms a - 1 in
      let read : get_or g.derived i false ≡ s.so_far a = ap (λ ds. get_or ds i false) s.derived ∙ get-at_place 0 atoms s.so_far a false rise among in
      let new : Growing = record { derived = set g.derived i true; counts = take_off_all (get_or table i []) g.counts } in
      cond_both (get_or g.derived i false) g new (λ h. Grew waits h s.so_far (λ b. a == b))
      (λ e. record { state = s; more = λ b k. k; has = λ b k. subst (λ c. s.so_far c ≡ true) (eqb-true a b k) (sym read ∙ e) })
      (λ e. derive-new waits g s a among lies (sym read ∙ e))

  derive_if_chosen-grows : (waits : ℕ → Type 0) (g : Growing) (s : IsUnderWay atoms rules M waits g) (a : ℕ) → Among atoms a → (M a ≡ true → top a ≡ true) →
      Grew waits (derive_if_chosen atoms chosen table a g) s.so_far (λ b. (a == b) && M b)
  derive_if_chosen-grows waits g s a among lies =
      cond_both (M a) (derive table (place atoms a - 1) g) g (λ h. Grew waits h s.so_far (λ b. (a == b) && M b))
      (λ e. let k : Grew waits (derive table (place atoms a - 1) g) s.so_far (λ b. a == b) = derive-grows waits g s a among (lies e) in
      record { state = k.state; more = k.more; has = λ b h. k.has b ((and_parts _ _ h).0) })
      (λ e. record {
        state = s;
        more = λ b k. k;
        has = λ b h. let p : ((a == b) ≡ true) × (M b ≡ true) = and_parts _ _ h in
            absurd (true≢false (sym p.1 ∙ ap M (sym (eqb-true a b p.0)) ∙ e));
      })

  derive_chosen-grows : (waits : ℕ → Type 0) (as_ : List ℕ) (g : Growing) (s : IsUnderWay atoms rules M waits g) → AllByRecursion (Among atoms) as_ →
      Within (λ b. members as_ b && M b) top → Grew waits (derive_chosen atoms chosen table as_ g) s.so_far (λ b. members as_ b && M b)
  derive_chosen-grows waits [] g s among lies = record { state = s; more = λ b k. k; has = λ b k. absurd (true≢false (sym k)) }
  derive_chosen-grows waits (a ∷ as_) g s among lies =
      let first : Grew waits (derive_if_chosen atoms chosen table a g) s.so_far (λ b. (a == b) && M b) =
      derive_if_chosen-grows waits g s a among.0 (λ e. lies a (and_from _ _ (or_left _ _ (eq-eqb a a refl)) e)) in
      let rest : Grew waits (derive_chosen atoms chosen table as_ (derive_if_chosen atoms chosen table a g)) first.state.so_far (λ b. members as_ b && M b) =
      derive_chosen-grows waits as_ (derive_if_chosen atoms chosen table a g) first.state among.1
      (λ b e. let p : (members as_ b ≡ true) × (M b ≡ true) = and_parts _ _ e in lies b (and_from _ _ (or_right _ _ p.0) p.1)) in
      record {
        state = rest.state;
        more = λ b k. rest.more b (first.more b k);
        has = λ b e. let p : (members (a ∷ as_) b ≡ true) × (M b ≡ true) = and_parts _ _ e in
            ⊎_elim (λ here. rest.more b (first.has b (and_from _ _ here p.1))) (λ later. rest.has b (and_from _ _ later p.1)) (or_cases _ _ p.0);
      }

  derive_head-grows : (waits : ℕ → Type 0) (head : Head) (g : Growing) (s : IsUnderWay atoms rules M waits g) → HeadFits (Among atoms) head →
      Within (head_has head M) top → Grew waits (derive_head atoms chosen table head g) s.so_far (head_has head M)
  derive_head-grows waits Nothing g s fits lies = record { state = s; more = λ b k. k; has = λ b k. absurd (true≢false (sym k)) }
  derive_head-grows waits (One a) g s fits lies = derive-grows waits g s a fits (lies a (eq-eqb a a refl))
  derive_head-grows waits (Choice as_) g s fits lies = derive_chosen-grows waits as_ g s fits.1 lies

  -- the rule with this index lacks nothing, so its body holds, and the least model has its heads
  lacks-at : (X : Set) (c : Counts) (r : ℕ) (rule : Rule) → c.lacks ≡ map (lack X M) rules → r < length rules → rule ≡ get_or rules r rule → get_or c.lacks r 1 ≡ lack X M rule
  lacks-at X c r rule lacks h is = ap (λ ns. get_or ns r 1) lacks ∙ get_or-map (lack X M) rules r rule 1 h ∙ ap (lack X M) (sym is)

  pub lacks-within : (waits : ℕ → Type 0) (g : Growing) → IsUnderWay atoms rules M waits g → (r : ℕ) → Lacks g.counts r → r < length rules
  lacks-within waits g s r lacking =
      let same : length g.counts.lacks ≡ length rules = ap length s.lacks ∙ length-map rules (lack s.so_far M) in
      ⊎_elim (λ l. l) (λ l. let past : get_or g.counts.lacks r 1 ≡ 1 = get_or_past g.counts.lacks r 1 (omega arith) in absurd (omega arith)) (cases_lt r (length rules))

  heads-lie : (waits : ℕ → Type 0) (g : Growing) (s : IsUnderWay atoms rules M waits g) (r : ℕ) (rule : Rule) → rule ≡ get_or rules r rule → Lacks g.counts r → Within (head_has rule.head M) top
  heads-lie waits g s r rule is lacking a e =
      let weights : Weighed rules = weighed-rules atoms rules fit in
      let within : r < length rules = lacks-within waits g s r lacking in
      let weight = subst (λ (rule : Rule). HasWeights rule.body) (sym is) (each-get _ rules r rule within weights) in
      let body : holds rule.body s.so_far M ≡ true = holds-from_lack s.so_far M rule weight (sym (lacks-at s.so_far g.counts r rule s.lacks within is) ∙ lacking) in
      grown-closed rules M none weights a
      (passes-at (λ rule. derives rule M top a) rules r rule within is (and_from _ _ e (holds-mono rule.body s.so_far top M weight s.sound body)))

  each-before : {A : Type 0} (P : A → Type 0) (xs : List A) (x : A) → AllByRecursion P (xs ++ (x ∷ [])) → AllByRecursion P xs × P x
  each-before P [] x h = (tt, h.0)
  each-before P (y ∷ xs) x h = let k : AllByRecursion P xs × P x = each-before P xs x h.1 in ((h.0, k.0), k.1)

  members-cases : (xs : List ℕ) (x y : ℕ) → members (xs ++ (x ∷ [])) y ≡ true → (members xs y ≡ true) ⊎ (y ≡ x)
  members-cases [] x y m = ⊎_elim (λ e. inr (sym (eqb-true x y e))) (λ e. absurd (true≢false (sym e))) (or_cases _ _ m)
  members-cases (z ∷ xs) x y m = ⊎_elim (λ e. inl (or_left _ _ e)) (λ e. ⊎_elim (λ k. inl (or_right _ _ k)) (λ k. inr k) (members-cases xs x y e)) (or_cases _ _ m)

  -- a rule was taken from those that are ready
  popped : (g : Growing) (ready : List ℕ) (r : ℕ) → g.counts.ready ≡ ready ++ (r ∷ []) → IsUnderWay atoms rules M (λ k. ⊥) g →
      IsUnderWay atoms rules M (λ k. k ≡ r) (record { derived = g.derived; counts = record { lacks = g.counts.lacks; ready = ready } })
  popped g ready r was s = record {
    rise = rise;
    so_far = s.so_far;
    derived = s.derived;
    lacks = s.lacks;
    met = λ k lacking. ⊎_elim
        (λ m. ⊎_elim (λ e. inl e) (λ e. inr (inl e)) (members-cases ready r k (subst (λ rs. members rs k ≡ true) was m)))
        (λ q. inr (⊎_elim (λ b. absurd b) (λ t. inr t) q))
        (s.met k lacking);
    ready = (each-before _ ready r (subst (AllByRecursion (Lacks g.counts)) was s.ready)).0;
    sound = s.sound;
  }

  pub ready-lacks : (g : Growing) (ready : List ℕ) (r : ℕ) → g.counts.ready ≡ ready ++ (r ∷ []) → IsUnderWay atoms rules M (λ k. ⊥) g → Lacks g.counts r
  ready-lacks g ready r was s = (each-before _ ready r (subst (AllByRecursion (Lacks g.counts)) was s.ready)).1

  pub next-step : (g : Growing) (ready : List ℕ) (r : ℕ) (rule : Rule) → g.counts.ready ≡ ready ++ (r ∷ []) → rule ≡ get_or rules r rule → IsUnderWay atoms rules M (λ k. ⊥) g →
      IsUnderWay atoms rules M (λ k. ⊥) (derive_head atoms chosen table rule.head (record { derived = g.derived; counts = record { lacks = g.counts.lacks; ready = ready } }))
  next-step g ready r rule was is s =
      let before : Growing = record { derived = g.derived; counts = record { lacks = g.counts.lacks; ready = ready } } in
      let s1 : IsUnderWay atoms rules M (λ k. k ≡ r) before = popped g ready r was s in
      let lacking : Lacks g.counts r = ready-lacks g ready r was s in
      let within : r < length rules = lacks-within (λ k. ⊥) g s r lacking in
      let fits : HeadFits (Among atoms) rule.head = subst (λ (rule : Rule). HeadFits (Among atoms) rule.head) (sym is) ((each-get _ rules r rule within fit).0) in
      let k : Grew (λ k. k ≡ r) (derive_head atoms chosen table rule.head before) s1.so_far (head_has rule.head M) =
      derive_head-grows (λ k. k ≡ r) rule.head before s1 fits (heads-lie (λ k. ⊥) g s r rule is lacking) in
      let met-now : IsMet rules M k.state.so_far r = λ other other-is a e. k.has a (subst (λ (rule : Rule). head_has rule.head M a ≡ true)
      (other-is ∙ get_or_default rules r other rule within ∙ sym is) e) in
      record {
        rise = rise;
        so_far = k.state.so_far;
        derived = k.state.derived;
        lacks = k.state.lacks;
        met = λ j lacks-now. ⊎_elim (λ m. inl m) (λ q. inr (inr (⊎_elim (λ e. subst (IsMet rules M k.state.so_far) (sym e) met-now) (λ t. t) q))) (k.state.met j lacks-now);
        ready = k.state.ready;
        sound = k.state.sound;
      }

  -- where no rule is ready, what was derived is the least model
  closed-at_end : (g : Growing) (s : IsUnderWay atoms rules M (λ k. ⊥) g) → g.counts.ready ≡ [] → Closed rules M s.so_far
  closed-at_end g s done a e =
      let k : Passing (λ rule. derives rule M s.so_far a) rules = some-passes _ rules e in
      let p : (head_has k.element.head M a ≡ true) × (holds k.element.body s.so_far M ≡ true) = and_parts _ _ k.passes in
      let weight = subst (λ (rule : Rule). HasWeights rule.body) (sym k.is) (each-get _ rules k.index k.element k.within (weighed-rules atoms rules fit)) in
      let lacking : Lacks g.counts k.index = lacks-at s.so_far g.counts k.index k.element s.lacks k.within k.is ∙ lack-from_holds s.so_far M k.element weight p.1 in
      ⊎_elim (λ m. absurd (true≢false (sym m ∙ ap (λ rs. members rs k.index) done)))
      (λ q. ⊎_elim (λ b. absurd b) (λ (met : IsMet rules M s.so_far k.index). met k.element k.is a p.0) q)
      (s.met k.index lacking)

  pub derived-at_end : (g : Growing) → IsUnderWay atoms rules M (λ k. ⊥) g → g.counts.ready ≡ [] → g.derived ≡ map top atoms
  derived-at_end g s done =
      let below : Within top s.so_far = grown-smallest rules M none s.so_far (weighed-rules atoms rules fit) (λ a e. absurd (true≢false (sym e))) (closed-at_end g s done) in
      s.derived ∙ map-same s.so_far top atoms (each _ (same_within s.so_far top s.sound below) atoms)

  -- ---- how it begins

  zeros-has : (n : ℕ) (ns : List ℕ) (r : ℕ) → get_or ns r 1 ≡ 0 → members (zeros n ns) (n + r) ≡ true
  zeros-has n [] r e = absurd (omega arith)
  zeros-has n (x ∷ ns) zero e = rw (cond-true (x == 0) (n ∷ zeros (suc n) ns) (zeros (suc n) ns) (eq-eqb x 0 e)) (or_left _ _ (eq-eqb n (n + 0) (omega arith)))
  zeros-has n (x ∷ ns) (suc r) e =
      let index : suc n + r ≡ n + suc r = omega arith in
      let later : members (zeros (suc n) ns) (n + suc r) ≡ true = ap (members (zeros (suc n) ns)) (sym index) ∙ zeros-has (suc n) ns r e in
      cond_both (x == 0) (n ∷ zeros (suc n) ns) (zeros (suc n) ns) (λ rs. members rs (n + suc r) ≡ true) (λ h. or_right _ _ later) (λ h. later)

  zeros-lack : (n : ℕ) (ns whole : List ℕ) → ((r : ℕ) → get_or ns r 1 ≡ get_or whole (n + r) 1) → AllByRecursion (λ r. get_or whole r 1 ≡ 0) (zeros n ns)
  zeros-lack n [] whole h = tt
  zeros-lack n (x ∷ ns) whole h =
      let rest : AllByRecursion (λ r. get_or whole r 1 ≡ 0) (zeros (suc n) ns) = zeros-lack (suc n) ns whole (λ r. h (suc r) ∙ ap (λ k. get_or whole k 1) (let e : n + suc r ≡ suc n + r = omega arith in e)) in
      cond_both (x == 0) (n ∷ zeros (suc n) ns) (zeros (suc n) ns) (AllByRecursion (λ r. get_or whole r 1 ≡ 0))
      (λ e. (ap (λ k. get_or whole k 1) (let e : n ≡ n + 0 = omega arith in e) ∙ sym (h 0) ∙ eqb-true x 0 e, rest))
      (λ e. rest)

  pub under-way_first : IsUnderWay atoms rules M (λ k. ⊥)
      (record { derived = replicate (length atoms) false; counts = record { lacks = map (lack none M) rules; ready = zeros 0 (map (lack none M) rules) } })
  under-way_first = record {
    rise = rise;
    so_far = none;
    derived = replicate-map atoms false;
    lacks = refl;
    met = λ r e. inl (ap (members (zeros 0 (map (lack none M) rules))) (let e : r ≡ 0 + r = omega arith in e) ∙ zeros-has 0 (map (lack none M) rules) r e);
    ready = zeros-lack 0 (map (lack none M) rules) (map (lack none M) rules) (λ r. ap (λ k. get_or (map (lack none M) rules) k 1) (let e : r ≡ 0 + r = omega arith in e));
    sound = λ a e. absurd (true≢false (sym e));
  }
