-- The digits of atoms: new variables, of which all are 0 where the atom is false, and one is 1 where it is true.
use Rattle.std.proofs.Common.{◌≡◌, refl, sym, ◌∙◌, ap, ap₂, subst, ℕ, zero, suc, ◌+◌, ◌*◌, ◌^◌, ◌≤◌, ◌<◌, ◌==◌, Bool, true, false, cond, not, ◌&&◌, ◌||◌, ltb, List, [], ◌∷◌, ◌++◌, map, length, ⊎_elim, inl, inr, ◌⊎◌, arith, length-append}
use Rattle.std.specs.List.{list_any, AllByRecursion}
use Rattle.std.proofs.lemmas.Bool.{or_cases, or_left, or_right, true≢false, eqb-true, eq-eqb, ne_eqb, cond-true, cond-false, cases_lt, lt-ltb}
use Rattle.std.proofs.lemmas.List.Folds.{list_all-append}
use Rattle.std.proofs.lemmas.List.{length-map}
use Rattle.asp_base.specs.Literal.{Literal, Pos, Neg, negation, atom_of}
use Rattle.asp_base.specs.Sets.{Set, members}
use Rattle.rising_numbers.specs.Rising.{RisesFrom}
use Rattle.clause_store.specs.Extension.{Agree}
use Rattle.clause_store.specs.Additions.{IsSound}
use Rattle.clause_store.specs.Facts.{IsOver}
use Rattle.clause_store.specs.Models.{is_true, clause_true, clauses_true, IsAssignment}
use Rattle.clause_store.specs.Stored.{Stored}
use Rattle.clause_store.proofs.GateLaws.{negation-over, clauses-up, known-more, clauses_true-front, clauses_true-back, clauses_true-both, clauses_true-agree}
use Rattle.asp_base.proofs.Each.{each-weaker, each-append}
use Rattle.asp_base.proofs.LiteralLaws.{literal_holds-negation}
use Rattle.clause_store.proofs.TableGates.{values-agree}
use Rattle.digit_gates.specs.Digits.{number, number_at}
use Rattle.digit_gates.specs.DigitGates.{with_variables, variables_from, AreNewDigits}
use Rattle.digit_gates.proofs.Variables.{length-variables, variables-over, digits-are}
use Rattle.rising_numbers.proofs.RisingLaws.{members-above}
use Rattle.asp_base.proofs.Bools.{and_true, or_true, same_test}
use Rattle.clause_store.proofs.AddLaws.{stands-back}
use Rattle.level_ranking.specs.Encoding.{digit_clauses, after_atom_digits, after_digits, digits_of}
use Rattle.level_ranking.proofs.Grows.{Grows, grows-nothing, grows-compose}
use Rattle.level_ranking.proofs.AtomLaws.{HasDigits}

-- ---- the clauses of an atom's digits

-- a false atom has the number 0, a true one another
abbrev pub digits_test : Bool → ℕ → Bool
digits_test holds n = cond holds (ltb 0 n) (n == 0)

twice_zero : (n : ℕ) → (n == 0) ≡ ((0 + 2 * n) == 0)
twice_zero n = same_test _ _ (λ h. eq-eqb (0 + 2 * n) 0 (let k : n ≡ 0 = eqb-true n 0 h in omega arith)) (λ h. eq-eqb n 0 (let k : 0 + 2 * n ≡ 0 = eqb-true (0 + 2 * n) 0 h in omega arith))

zeros : (v : ℕ) (lits : List Literal) (A : Set) → clauses_true (map (λ l. Pos v ∷ negation l ∷ []) lits) A ≡ (A v || (number_at A lits == 0))
zeros v [] A = sym (or_true (A v))
zeros v (l ∷ lits) A =
    ap₂ (λ x y. (A v || (x || false)) && y) (literal_holds-negation l A) (zeros v lits A) ∙ join (A v) (is_true l A) (number_at A lits)
  where
    join : (b x : Bool) (n : ℕ) → ((b || (not x || false)) && (b || (n == 0))) ≡ (b || ((cond x 1 0 + 2 * n) == 0))
    join true x n = refl
    join false true n = sym (ne_eqb (1 + 2 * n) 0 (λ e. omega arith))
    join false false n = twice_zero n

some_one : (lits : List Literal) (A : Set) → clause_true lits A ≡ not (number_at A lits == 0)
some_one [] A = refl
some_one (l ∷ lits) A = go (is_true l A) (some_one lits A)
  where
    go : (x : Bool) → clause_true lits A ≡ not (number_at A lits == 0) → (x || clause_true lits A) ≡ not ((cond x 1 0 + 2 * number_at A lits) == 0)
    go true h = ap not (sym (ne_eqb (1 + 2 * number_at A lits) 0 (λ e. omega arith)))
    go false h = h ∙ ap not (twice_zero (number_at A lits))

above_zero : (n : ℕ) → not (n == 0) ≡ ltb 0 n
above_zero zero = refl
above_zero (suc n) = ap not (ne_eqb (suc n) 0 (λ e. omega arith)) ∙ sym (lt-ltb 0 (suc n) (omega arith))

digits_say : (v : ℕ) (lits : List Literal) (A : Set) → clauses_true (digit_clauses v lits) A ≡ digits_test (A v) (number_at A lits)
digits_say v lits A =
    list_all-append (λ c. clause_true c A) (map (λ l. Pos v ∷ negation l ∷ []) lits) ((Neg v ∷ lits) ∷ [])
    ∙ (ap₂ (λ x y. x && ((not (A v) || y) && true)) (zeros v lits A) (some_one lits A) ∙ join (A v) (number_at A lits))
  where
    join : (b : Bool) (n : ℕ) → ((b || (n == 0)) && ((not b || not (n == 0)) && true)) ≡ digits_test b n
    join true n = and_true (not (n == 0)) ∙ above_zero n
    join false n = and_true (n == 0)

length-digit_clauses : (v : ℕ) (lits : List Literal) → length (digit_clauses v lits) ≡ suc (length lits)
length-digit_clauses v lits = length-append (map (λ l. Pos v ∷ negation l ∷ []) lits) ((Neg v ∷ lits) ∷ []) ∙ (ap (λ n. n + 1) (length-map lits (λ l. Pos v ∷ negation l ∷ [])) ∙ omega arith)

digit_clauses-over : (n v : ℕ) (lits : List Literal) → 0 < v → v ≤ n → AllByRecursion (IsOver n) lits → AllByRecursion (AllByRecursion (IsOver n)) (digit_clauses v lits)
digit_clauses-over n v lits h k o =
    each-append (AllByRecursion (IsOver n)) (map (λ l. Pos v ∷ negation l ∷ []) lits) ((Neg v ∷ lits) ∷ []) (mapped lits o) (((h, k), o), tt)
  where
    mapped : (ls : List Literal) → AllByRecursion (IsOver n) ls → AllByRecursion (AllByRecursion (IsOver n)) (map (λ l. Pos v ∷ negation l ∷ []) ls)
    mapped [] p = tt
    mapped (l ∷ ls) p = (((h, k), (negation-over l n p.0, tt)), mapped ls p.1)

variables-have : (w n v : ℕ) → n < v → v ≤ n + w → list_any (λ l. atom_of l == v) (variables_from w n) ≡ true
variables-have zero n v h k = absurd (omega arith)
variables-have (suc w) n v h k = ⊎_elim (λ l. or_left _ _ (eq-eqb (suc n) v (omega arith))) (λ l. or_right _ _ (variables-have w (suc n) v l (omega arith))) (split v)
  where
    split : (u : ℕ) → (u ≤ suc n) ⊎ (suc n < u)
    split u = ⊎_elim (λ l. inr l) (λ l. inl l) (cases_lt (suc n) u)

-- ---- the digits of one atom

module _ (v w : ℕ) (s : Stored) (low : 0 < v) (high : v ≤ s.vars) (sound : IsSound s) where
  abbrev next : Stored
  next = after_atom_digits v w s

  next-sound : IsSound next
  next-sound =
      let up : s.vars ≤ s.vars + w = omega arith in
      record {
        over = each-append _ s.hard (digit_clauses v (variables_from w s.vars)) (clauses-up s.vars (s.vars + w) up s.hard sound.over)
            (digit_clauses-over (s.vars + w) v (variables_from w s.vars) low (omega arith) (variables-over w s.vars (s.vars + w) (omega arith)));
        known = known-more s.vars (s.vars + w) s.hard (digit_clauses v (variables_from w s.vars)) s.known up sound.known;
      }

  next-grows : Grows w (w + 1) s next
  next-grows = record {
    up = omega arith;
    edges = refl;
    soft = refl;
    sound = next-sound;
    behind = (digit_clauses v (variables_from w s.vars), refl);
    vars = omega arith;
    clauses =
        let c : length (s.hard ++ digit_clauses v (variables_from w s.vars)) ≡ length s.hard + length (digit_clauses v (variables_from w s.vars)) = length-append s.hard (digit_clauses v (variables_from w s.vars)) in
        let d : length (digit_clauses v (variables_from w s.vars)) ≡ suc (length (variables_from w s.vars)) = length-digit_clauses v (variables_from w s.vars) in
        let e : length (variables_from w s.vars) ≡ w = length-variables w s.vars in
        omega arith;
    stand = λ u h k.
        stands-back u s.hard (digit_clauses v (variables_from w s.vars))
        (stands-back u (map (λ l. Pos v ∷ negation l ∷ []) (variables_from w s.vars)) ((Neg v ∷ variables_from w s.vars) ∷ [])
        (or_left _ _ (or_right _ _ (variables-have w s.vars u h k))));
    keeps = λ A k. clauses_true-front s.hard (digit_clauses v (variables_from w s.vars)) A k;
  }

  next-only : (A : Set) → clauses_true next.hard A ≡ true → digits_test (A v) (number_at A (variables_from w s.vars)) ≡ true
  next-only A t = sym (digits_say v (variables_from w s.vars) A) ∙ clauses_true-back s.hard (digit_clauses v (variables_from w s.vars)) A t

  new : AreNewDigits w (variables_from w s.vars) s (with_variables w s)
  new = digits-are w s

  next-some : (A : Set) → IsAssignment s.vars A → clauses_true s.hard A ≡ true → (n : ℕ) → n < 2 ^ w → digits_test (A v) n ≡ true
      → (B : Set) × IsAssignment (s.vars + w) B × (clauses_true next.hard B ≡ true) × Agree s.vars A B × (number_at B (variables_from w s.vars) ≡ n)
  next-some A o t n h k =
      let found : (B : Set) × IsAssignment (s.vars + w) B × Agree s.vars A B × (number_at B (variables_from w s.vars) ≡ n) = new.some A o n h in
      let B : Set = found.0 in (
        B,
        found.1,
        clauses_true-both s.hard (digit_clauses v (variables_from w s.vars)) B (sym (clauses_true-agree s.vars A B found.2 s.hard sound.over) ∙ t)
            (digits_say v (variables_from w s.vars) B ∙ (ap₂ digits_test (sym (found.2 v high)) found.3 ∙ k)),
        found.2,
        found.3,
      )

-- ---- the digits of all atoms

module _ (var width : ℕ → ℕ) where
  abbrev pub digits_vars : List ℕ → ℕ
  digits_vars [] = 0
  digits_vars (a ∷ atoms) = width a + digits_vars atoms

  abbrev pub digits_clauses : List ℕ → ℕ
  digits_clauses [] = 0
  digits_clauses (a ∷ atoms) = (width a + 1) + digits_clauses atoms

  pub record MakesDigits (atoms : List ℕ) (s t : Stored) : Type 0 where
    pub grows : Grows (digits_vars atoms) (digits_clauses atoms) s t
    pub has : (a : ℕ) → members atoms a ≡ true → HasDigits t.vars (width a) (digits_of width atoms s.vars a)
    pub only : (A : Set) → clauses_true t.hard A ≡ true → (a : ℕ) → members atoms a ≡ true → digits_test (A (var a)) (number_at A (digits_of width atoms s.vars a)) ≡ true
    pub some : (A : Set) → IsAssignment s.vars A → clauses_true s.hard A ≡ true → (r : ℕ → ℕ) → ((a : ℕ) → members atoms a ≡ true → r a < 2 ^ width a)
        → ((a : ℕ) → members atoms a ≡ true → digits_test (A (var a)) (r a) ≡ true)
        → (B : Set) × IsAssignment t.vars B × (clauses_true t.hard B ≡ true) × Agree s.vars A B × ((a : ℕ) → members atoms a ≡ true → number_at B (digits_of width atoms s.vars a) ≡ r a)
    pub one : (A B : Set) → Agree s.vars A B → ((a : ℕ) → members atoms a ≡ true → number_at A (digits_of width atoms s.vars a) ≡ number_at B (digits_of width atoms s.vars a)) → Agree t.vars A B

  digits-own : (a : ℕ) (atoms : List ℕ) (n : ℕ) → digits_of width (a ∷ atoms) n a ≡ variables_from (width a) n
  digits-own a atoms n = cond-true (a == a) (variables_from (width a) n) (digits_of width atoms (n + width a) a) (eq-eqb a a refl)

  digits-other : (a : ℕ) (atoms : List ℕ) (n b : ℕ) → a < b → digits_of width (a ∷ atoms) n b ≡ digits_of width atoms (n + width a) b
  digits-other a atoms n b h = cond-false (a == b) (variables_from (width a) n) (digits_of width atoms (n + width a) b) (ne_eqb a b (λ e. omega arith))

  HasDigits-up : (m n w : ℕ) (lits : List Literal) → m ≤ n → HasDigits m w lits → HasDigits n w lits
  HasDigits-up m n w lits h d = record { count = d.count; over = each-weaker _ _ (λ l o. (o.0, let k : atom_of l ≤ m = o.1 in omega arith)) lits d.over }

  pub makes-digits : (low : ℕ) (atoms : List ℕ) (s : Stored) → RisesFrom low atoms → ((a : ℕ) → members atoms a ≡ true → (0 < var a) × (var a ≤ s.vars)) → IsSound s → MakesDigits atoms s (after_digits var width atoms s)
  makes-digits low [] s r h x = record {
    grows = grows-nothing s x;
    has = λ a m. absurd (true≢false (sym m));
    only = λ A k a m. absurd (true≢false (sym m));
    some = λ A o k q f g. (A, o, k, (λ v l. refl), λ a m. absurd (true≢false (sym m)));
    one = λ A B e f. e;
  }
  makes-digits low (a ∷ atoms) s r h x =
      let w : ℕ = width a in
      let own : (0 < var a) × (var a ≤ s.vars) = h a (or_left _ _ (eq-eqb a a refl)) in
      let own_low : 0 < var a = own.0 in
      let own_high : var a ≤ s.vars = own.1 in
      let t : Stored = after_atom_digits (var a) w s in
      let u : Stored = after_digits var width atoms t in
      let next : Grows w (w + 1) s t = next-grows (var a) w s own_low own_high x in
      let i : MakesDigits atoms t u = makes-digits a atoms t r.1
      (λ b m. let k : (0 < var b) × (var b ≤ s.vars) = h b (or_right _ _ m) in let l : var b ≤ s.vars = k.1 in (k.0, omega arith)) next.sound in
      let iup : s.vars + w ≤ u.vars = i.grows.up in
      let above : (b : ℕ) → members atoms b ≡ true → a < b = λ b m. members-above a atoms b r.1 m in
      let D : List Literal = variables_from w s.vars in
      record {
        grows = grows-compose w (w + 1) (digits_vars atoms) (digits_clauses atoms) s t u next i.grows;
        has = λ b m. ⊎_elim
            (λ e. let q : a ≡ b = eqb-true a b e in
            subst (λ c. HasDigits u.vars (width c) (digits_of width (a ∷ atoms) s.vars c)) q
            (subst (λ ls. HasDigits u.vars w ls) (sym (digits-own a atoms s.vars)) (record { count = length-variables w s.vars; over = variables-over w s.vars u.vars iup })))
            (λ e. subst (λ ls. HasDigits u.vars (width b) ls) (sym (digits-other a atoms s.vars b (above b e))) (i.has b e))
            (or_cases _ _ m);
        only = λ A k b m. ⊎_elim
            (λ e. let q : a ≡ b = eqb-true a b e in
            subst (λ c. digits_test (A (var c)) (number_at A (digits_of width (a ∷ atoms) s.vars c)) ≡ true) q
            (subst (λ ls. digits_test (A (var a)) (number_at A ls) ≡ true) (sym (digits-own a atoms s.vars)) (next-only (var a) w s own_low own_high x A (i.grows.keeps A k))))
            (λ e. subst (λ ls. digits_test (A (var b)) (number_at A ls) ≡ true) (sym (digits-other a atoms s.vars b (above b e))) (i.only A k b e))
            (or_cases _ _ m);
        some = λ A o k q f g.
            let mid : (B : Set) × IsAssignment (s.vars + w) B × (clauses_true t.hard B ≡ true) × Agree s.vars A B × (number_at B D ≡ q a) =
            next-some (var a) w s own_low own_high x A o k (q a) (f a (or_left _ _ (eq-eqb a a refl))) (g a (or_left _ _ (eq-eqb a a refl))) in
            let B : Set = mid.0 in
            let top : (C : Set) × IsAssignment u.vars C × (clauses_true u.hard C ≡ true) × Agree t.vars B C × ((b : ℕ) → members atoms b ≡ true → number_at C (digits_of width atoms t.vars b) ≡ q b) =
            i.some B mid.1 mid.2 q (λ b m. f b (or_right _ _ m))
            (λ b m. let l : (0 < var b) × (var b ≤ s.vars) = h b (or_right _ _ m) in ap (λ z. digits_test z (q b)) (sym (mid.3 (var b) l.1)) ∙ g b (or_right _ _ m)) in
            let C : Set = top.0 in
            let same : number_at B D ≡ number_at C D = ap number (values-agree (s.vars + w) B C top.3 D (variables-over w s.vars (s.vars + w) (omega arith))) in (
              C,
              top.1,
              top.2,
              (λ v l. mid.3 v l ∙ top.3 v (omega arith)),
              λ b m. ⊎_elim
                  (λ e. let p : a ≡ b = eqb-true a b e in
                  subst (λ c. number_at C (digits_of width (a ∷ atoms) s.vars c) ≡ q c) p (ap (number_at C) (digits-own a atoms s.vars) ∙ (sym same ∙ mid.4)))
                  (λ e. ap (number_at C) (digits-other a atoms s.vars b (above b e)) ∙ top.4 b e)
                  (or_cases _ _ m),
            );
        one = λ A B e f.
            i.one A B
            ((digits-are w s).one A B e
            (sym (ap (number_at A) (digits-own a atoms s.vars)) ∙ (f a (or_left _ _ (eq-eqb a a refl)) ∙ ap (number_at B) (digits-own a atoms s.vars))))
            (λ b m. sym (ap (number_at A) (digits-other a atoms s.vars b (above b m))) ∙ (f b (or_right _ _ m) ∙ ap (number_at B) (digits-other a atoms s.vars b (above b m))));
      }
