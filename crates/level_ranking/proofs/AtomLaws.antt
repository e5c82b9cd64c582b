-- What the clauses of an atom's rank say.
use Rattle.std.proofs.Common.{◌≡◌, refl, sym, ◌∙◌, ap, ap₂, subst, ℕ, suc, ◌+◌, ◌*◌, ◌≤◌, ◌<◌, Bool, true, false, cond, not, ◌&&◌, ◌||◌, ltb, leb, List, [], ◌∷◌, ◌++◌, map, length, drop, Option, Some, None, arith, length-append}
use Rattle.std.specs.List.{list_any, list_all, AllByRecursion}
use Rattle.std.proofs.lemmas.Bool.{leb-true, le-leb}
use Rattle.std.proofs.lemmas.List.Folds.{list_any-append, list_all-append, list_all-map}
use Rattle.std.proofs.lemmas.List.{length-map}
use Rattle.asp_base.proofs.Bools.{and_true, or_false, same_test}
use Rattle.asp_base.specs.Literal.{Literal, Neg, negation}
use Rattle.asp_base.specs.Sets.{Set}
use Rattle.clause_store.specs.Extension.{Agree}
use Rattle.clause_store.specs.Additions.{Adds, IsSound}
use Rattle.clause_store.specs.Models.{all_true, is_true, clause_true, clauses_true}
use Rattle.clause_store.specs.Gates.{values_at}
use Rattle.clause_store.specs.Facts.{IsOver}
use Rattle.clause_store.specs.Stored.{Stored, with_clause, conjunction, after_conjunction}
use Rattle.clause_store.proofs.GateLaws.{at_least, Conjunction, conjunction-is, is_true-agree, negation-over, literals-up, IsOver-up}
use Rattle.asp_base.proofs.LiteralLaws.{literal_holds-negation}
use Rattle.asp_base.proofs.Each.{each-append}
use Rattle.clause_store.proofs.TableGates.{values-agree}
use Rattle.clause_store.proofs.AddLaws.{Adds-nothing, Adds-more, Adds-compose, conjunction-adds}
use Rattle.completion.specs.Completion.{is_empty}
use Rattle.completion.proofs.CompletionLaws.{body_true}
use Rattle.completion.proofs.BodyLaws.{IsOverIfAny, IsOverIfAny-up}
use Rattle.digit_gates.specs.Digits.{number, number_at, predecessor}
use Rattle.digit_gates.specs.DigitGates.{less_vars}
use Rattle.level_ranking.specs.Encoding.{Row, body_list, negated_body, after_compared, compared, pairs_below, support_inputs, after_support, support, after_supports, supports_in, after_supported, pairs_near, after_near, after_nears}
use Rattle.level_ranking.specs.private.Counts.{support_vars, support_clauses, near_vars, near_clauses}
use Rattle.level_ranking.proofs.Limits.{Limits, limits-adds, limits-nothing, limits-clauses, limits-more, limits-compose}
use Rattle.level_ranking.proofs.CompareLaws.{is_not_below, AreCompared, compared-are}
use Rattle.level_ranking.specs.private.Pairs.{IsPair}

number-agree : (n : ℕ) (A B : Set) → Agree n A B → (lits : List Literal) → AllByRecursion (IsOver n) lits → number_at A lits ≡ number_at B lits
number-agree n A B h lits o = ap number (values-agree n A B h lits o)

body-says : (body : Option Literal) (A : Set) → all_true (body_list body) A ≡ body_true body A
body-says None A = refl
body-says (Some l) A = and_true (is_true l A)

negated-says : (body : Option Literal) (A : Set) → clause_true (negated_body body) A ≡ not (body_true body A)
negated-says None A = refl
negated-says (Some l) A = or_false _ ∙ literal_holds-negation l A

body-agree : (n : ℕ) (A B : Set) → Agree n A B → (body : Option Literal) → IsOverIfAny n body → body_true body A ≡ body_true body B
body-agree n A B h None o = refl
body-agree n A B h (Some l) o = is_true-agree n A B h l o

pub body-over : (n : ℕ) (body : Option Literal) → IsOverIfAny n body → AllByRecursion (IsOver n) (body_list body)
body-over n None o = tt
body-over n (Some l) o = (o, tt)

negated-over : (n : ℕ) (body : Option Literal) → IsOverIfAny n body → AllByRecursion (IsOver n) (negated_body body)
negated-over n None o = tt
negated-over n (Some l) o = (negation-over l n o, tt)

length-body : (body : Option Literal) → length (body_list body) ≤ 1
length-body None = omega arith
length-body (Some l) = omega arith

any-mapped : {X Y : Type 0} (q : Y → Bool) (f : X → Y) (xs : List X) → list_any q (map f xs) ≡ list_any (λ x. q (f x)) xs
any-mapped q f [] = refl
any-mapped q f (x ∷ xs) = ap (λ b. q (f x) || b) (any-mapped q f xs)

all-each : {X : Type 0} (P : X → Type 0) (p q : X → Bool) (xs : List X) → AllByRecursion P xs → ((x : X) → P x → p x ≡ q x) → list_all p xs ≡ list_all q xs
all-each P p q [] o h = refl
all-each P p q (x ∷ xs) o h = ap₂ ◌&&◌ (h x o.0) (all-each P p q xs o.1 h)

any-each : {X : Type 0} (P : X → Type 0) (p q : X → Bool) (xs : List X) → AllByRecursion P xs → ((x : X) → P x → p x ≡ q x) → list_any p xs ≡ list_any q xs
any-each P p q [] o h = refl
any-each P p q (x ∷ xs) o h = ap₂ ◌||◌ (h x o.0) (any-each P p q xs o.1 h)

-- ---- digits from the second on

all_zero : (ds : List Bool) → list_all (λ d. not d) ds ≡ leb (number ds) 0
all_zero [] = refl
all_zero (true ∷ ds) = same_test _ _ (λ h. absurd (false_true h)) (λ h. absurd (let k : 1 + 2 * number ds ≤ 0 = leb-true _ _ h in omega arith))
  where
    false_true : false ≡ true → ⊥
    false_true e = cc
all_zero (false ∷ ds) = all_zero ds ∙ same_test _ _ (λ h. le-leb _ _ (let k : number ds ≤ 0 = leb-true _ _ h in omega arith)) (λ h. le-leb _ _ (let k : 0 + 2 * number ds ≤ 0 = leb-true _ _ h in omega arith))

at_most_one : (d : Bool) (ds : List Bool) → list_all (λ e. not e) ds ≡ leb (number (d ∷ ds)) 1
at_most_one true ds = all_zero ds ∙ same_test _ _ (λ h. le-leb _ _ (let k : number ds ≤ 0 = leb-true _ _ h in omega arith)) (λ h. le-leb _ _ (let k : 1 + 2 * number ds ≤ 1 = leb-true _ _ h in omega arith))
at_most_one false ds = all_zero ds ∙ same_test _ _ (λ h. le-leb _ _ (let k : number ds ≤ 0 = leb-true _ _ h in omega arith)) (λ h. le-leb _ _ (let k : 0 + 2 * number ds ≤ 1 = leb-true _ _ h in omega arith))

upper_zero : (r : List Literal) (A : Set) → 0 < length r → list_all (λ l. not (is_true l A)) (drop 1 r) ≡ leb (number_at A r) 1
upper_zero [] A h = absurd (omega arith)
upper_zero (l ∷ lits) A h = sym (list_all-map (λ d. not d) (λ k. is_true k A) lits) ∙ at_most_one (is_true l A) (values_at A lits)

spread : (b x y : Bool) → ((not b || x) && (not b || y)) ≡ (not b || (x && y))
spread true x y = refl
spread false x y = refl

zeros_say : (body : Option Literal) (lits : List Literal) (A : Set) → clauses_true (map (λ l. negated_body body ++ (negation l ∷ [])) lits) A ≡ (not (body_true body A) || list_all (λ l. not (is_true l A)) lits)
zeros_say body [] A = at_least (body_true body A)
zeros_say body (l ∷ lits) A =
    ap₂ ◌&&◌ (list_any-append (λ k. is_true k A) (negated_body body) (negation l ∷ []) ∙ ap₂ ◌||◌ (negated-says body A) (or_false _ ∙ literal_holds-negation l A)) (zeros_say body lits A)
    ∙ spread (body_true body A) (not (is_true l A)) (list_all (λ k. not (is_true k A)) lits)

zeros-over : (n : ℕ) (body : Option Literal) (lits : List Literal) → IsOverIfAny n body → AllByRecursion (IsOver n) lits → AllByRecursion (AllByRecursion (IsOver n)) (map (λ l. negated_body body ++ (negation l ∷ [])) lits)
zeros-over n body [] b o = tt
zeros-over n body (l ∷ lits) b o = (each-append (IsOver n) (negated_body body) (negation l ∷ []) (negated-over n body b) (negation-over l n o.0, tt), zeros-over n body lits b o.1)

over-drop : (n : ℕ) (lits : List Literal) → AllByRecursion (IsOver n) lits → AllByRecursion (IsOver n) (drop 1 lits)
over-drop n [] o = tt
over-drop n (l ∷ lits) o = o.1

length-drop-le : (lits : List Literal) → length (drop 1 lits) ≤ length lits
length-drop-le [] = omega arith
length-drop-le (l ∷ lits) = omega arith

-- ---- one component: its atoms have w digits over the first n0 variables

pub record HasDigits (n0 w : ℕ) (lits : List Literal) : Type 0 where
  pub count : length lits ≡ w
  pub over : AllByRecursion (IsOver n0) lits

pub record IsRow (n0 w : ℕ) (digits : ℕ → List Literal) (row : Row) : Type 0 where
  pub body : IsOverIfAny n0 row.body
  pub inside : AllByRecursion (λ b. HasDigits n0 w (digits b)) row.inside

-- the tests that the clauses of an atom with the digits r say
module _ (w : ℕ) (digits : ℕ → List Literal) (r : List Literal) where
  abbrev pub supports_test : Set → Row → Bool
  supports_test A row = body_true row.body A && list_all (λ b. not (ltb (predecessor w (number_at A r)) (number_at A (digits b)))) row.inside

  abbrev pub near_test : Set → List ℕ → Bool
  near_test A [] = leb (number_at A r) 1
  near_test A (b ∷ bs) = list_any (λ c. not (ltb (number_at A (digits c)) (predecessor w (number_at A r)))) (b ∷ bs)

  abbrev pub supported_test : ℕ → List Row → Set → Bool
  supported_test v rows A = list_any (λ row. is_empty row.body) rows || (not (A v) || list_any (supports_test A) rows)

  abbrev pub nears_test : List Row → Set → Bool
  nears_test rows A = list_all (λ row. not (body_true row.body A) || near_test A row.inside) rows

module _ (n0 w : ℕ) (wide : 0 < w) (digits : ℕ → List Literal) (r p : List Literal) (own : HasDigits n0 w r) (p_count : length p ≡ w) where
  pairs-below-are : (n : ℕ) → n0 ≤ n → AllByRecursion (IsOver n) p → (bs : List ℕ) → AllByRecursion (λ b. HasDigits n0 w (digits b)) bs → AllByRecursion (IsPair w n) (pairs_below p digits bs)
  pairs-below-are n h q [] o = tt
  pairs-below-are n h q (b ∷ bs) o = (
    record { some = subst (λ k. 0 < k) (sym p_count) wide; first = p_count; second = o.0.count; over_first = q; over_second = literals-up n0 n h (digits b) o.0.over },
    pairs-below-are n h q bs o.1,
  )

  pairs-near-are : (n : ℕ) → n0 ≤ n → AllByRecursion (IsOver n) p → (bs : List ℕ) → AllByRecursion (λ b. HasDigits n0 w (digits b)) bs → AllByRecursion (IsPair w n) (pairs_near p digits bs)
  pairs-near-are n h q [] o = tt
  pairs-near-are n h q (b ∷ bs) o = (
    record { some = subst (λ k. 0 < k) (sym o.0.count) wide; first = o.0.count; second = p_count; over_first = literals-up n0 n h (digits b) o.0.over; over_second = q },
    pairs-near-are n h q bs o.1,
  )

  -- what the digits p are, where the clauses are true
  abbrev IsLower : Stored → Type 0
  IsLower s = (A : Set) → clauses_true s.hard A ≡ true → number_at A p ≡ predecessor w (number_at A r)

  -- ---- supports

  record IsSupport (row : Row) (s t : Stored) (l : Literal) : Type 0 where
    adds : Adds (less_vars w * length row.inside + 1) (7 * w * length row.inside + (length row.inside + 2)) s t
    over : IsOver t.vars l
    says : (A : Set) → clauses_true t.hard A ≡ true → is_true l A ≡ supports_test w digits r A row

  support-is : (row : Row) (s : Stored) → IsRow n0 w digits row → n0 ≤ s.vars → IsSound s → AllByRecursion (IsOver s.vars) p → IsLower s → IsSupport row s (after_support p digits row s) (support p digits row s)
  support-is row s o h x q lower =
      let pairs : List (List Literal × List Literal) = pairs_below p digits row.inside in
      let t : Stored = after_compared pairs s in
      let c : AreCompared w pairs s t (compared pairs s) = compared-are w pairs s x (pairs-below-are s.vars h q row.inside o.inside) in
      let more : s.vars ≤ t.vars = c.adds.extends.vars in
      let inputs : List Literal = support_inputs p digits row s in
      let over : AllByRecursion (IsOver t.vars) inputs = each-append (IsOver t.vars) (body_list row.body) (compared pairs s) (body-over t.vars row.body (IsOverIfAny-up n0 t.vars (omega arith) row.body o.body)) c.over in
      let sound : IsSound t = c.adds.sound in
      let u : Stored = after_conjunction inputs t in
      let k : Conjunction inputs t u (conjunction inputs t) = conjunction-is t inputs over sound in
      let pairs_count : length pairs ≡ length row.inside = length-map row.inside (λ b. (p, digits b)) in
      let outs : length (compared pairs s) ≡ length pairs = c.count in
      let ins : length inputs ≡ length (body_list row.body) + length (compared pairs s) = length-append (body_list row.body) (compared pairs s) in
      let one : length (body_list row.body) ≤ 1 = length-body row.body in
      record {
        adds = Adds-more (less_vars w * length row.inside + 1) (7 * w * length row.inside + suc (length inputs)) (less_vars w * length row.inside + 1) (7 * w * length row.inside + (length row.inside + 2)) s u (omega arith) (omega arith)
            (Adds-compose (less_vars w * length row.inside) (7 * w * length row.inside) 1 (suc (length inputs)) s t u
            (subst (λ n. Adds (less_vars w * n) (7 * w * n) s t) pairs_count c.adds) (conjunction-adds inputs t over sound));
        over = k.stands.over;
        says = λ A e.
            let et : clauses_true t.hard A ≡ true = k.stands.extends.keeps A e in
            let es : clauses_true s.hard A ≡ true = c.adds.extends.keeps A et in
            k.stands.literal A e ∙ (list_all-append (λ l. is_true l A) (body_list row.body) (compared pairs s)
            ∙ ap₂ ◌&&◌ (body-says row.body A) (c.all A et ∙ (list_all-map (is_not_below A) (λ b. (p, digits b)) row.inside
            ∙ ap (λ m. list_all (λ b. not (ltb m (number_at A (digits b)))) row.inside) (lower A es))));
      }

  record AreSupports (rows : List Row) (s t : Stored) (ls : List Literal) : Type 0 where
    adds : Adds (support_vars w rows) (support_clauses w rows) s t
    over : AllByRecursion (IsOver t.vars) ls
    says : (A : Set) → clauses_true t.hard A ≡ true → list_any (λ l. is_true l A) ls ≡ list_any (supports_test w digits r A) rows

  supports-are : (rows : List Row) (s : Stored) → AllByRecursion (IsRow n0 w digits) rows → n0 ≤ s.vars → IsSound s → AllByRecursion (IsOver s.vars) p → IsLower s
      → AreSupports rows s (after_supports p digits rows s) (supports_in p digits rows s)
  supports-are [] s o h x q lower = record { adds = Adds-nothing s x; over = tt; says = λ A e. refl }
  supports-are (row ∷ rows) s o h x q lower =
      let t : Stored = after_support p digits row s in
      let i : IsSupport row s t (support p digits row s) = support-is row s o.0 h x q lower in
      let more : s.vars ≤ t.vars = i.adds.extends.vars in
      let u : Stored = after_supports p digits rows t in
      let j : AreSupports rows t u (supports_in p digits rows t) = supports-are rows t o.1 (omega arith) (i.adds.sound) (literals-up s.vars t.vars more p q) (λ A e. lower A (i.adds.extends.keeps A e)) in
      let up : t.vars ≤ u.vars = j.adds.extends.vars in
      record {
        adds = Adds-compose (less_vars w * length row.inside + 1) (7 * w * length row.inside + (length row.inside + 2)) (support_vars w rows) (support_clauses w rows) s t u i.adds j.adds;
        over = (IsOver-up t.vars u.vars up (support p digits row s) i.over, j.over);
        says = λ A e. ap₂ ◌||◌ (i.says A (j.adds.extends.keeps A e)) (j.says A e);
      }

  -- ---- what the tests look at

  inside-agree : (A B : Set) → Agree n0 A B → (bs : List ℕ) → AllByRecursion (λ b. HasDigits n0 w (digits b)) bs → (m : ℕ)
      → list_all (λ b. not (ltb m (number_at A (digits b)))) bs ≡ list_all (λ b. not (ltb m (number_at B (digits b)))) bs
  inside-agree A B h bs o m = all-each (λ b. HasDigits n0 w (digits b)) _ _ bs o (λ b k. ap (λ n. not (ltb m n)) (number-agree n0 A B h (digits b) k.over))

  supports_test-agree : (A B : Set) → Agree n0 A B → (row : Row) → IsRow n0 w digits row → supports_test w digits r A row ≡ supports_test w digits r B row
  supports_test-agree A B h row o = ap₂ ◌&&◌ (body-agree n0 A B h row.body o.body)
      (inside-agree A B h row.inside o.inside (predecessor w (number_at A r)) ∙ ap (λ m. list_all (λ b. not (ltb (predecessor w m) (number_at B (digits b)))) row.inside) (number-agree n0 A B h r own.over))

  supported_test-agree : (v : ℕ) → v ≤ n0 → (rows : List Row) → AllByRecursion (IsRow n0 w digits) rows → (A B : Set) → Agree n0 A B → supported_test w digits r v rows A ≡ supported_test w digits r v rows B
  supported_test-agree v k rows o A B h = ap₂ (λ x y. list_any (λ row. is_empty row.body) rows || (not x || y)) (h v k) (any-each (IsRow n0 w digits) _ _ rows o (λ row i. supports_test-agree A B h row i))

  near_test-agree : (A B : Set) → Agree n0 A B → (bs : List ℕ) → AllByRecursion (λ b. HasDigits n0 w (digits b)) bs → near_test w digits r A bs ≡ near_test w digits r B bs
  near_test-agree A B h [] o = ap (λ m. leb m 1) (number-agree n0 A B h r own.over)
  near_test-agree A B h (b ∷ bs) o = any-each (λ c. HasDigits n0 w (digits c)) _ _ (b ∷ bs) o
      (λ c k. ap₂ (λ m n. not (ltb m (predecessor w n))) (number-agree n0 A B h (digits c) k.over) (number-agree n0 A B h r own.over))

  -- ---- the clause of supports

  pub supported-limits : (v : ℕ) → 0 < v → v ≤ n0 → (rows : List Row) (s : Stored) → AllByRecursion (IsRow n0 w digits) rows → n0 ≤ s.vars → IsSound s → AllByRecursion (IsOver s.vars) p → IsLower s
      → Limits n0 (support_vars w rows) (support_clauses w rows + 1) (supported_test w digits r v rows) s (after_supported v p digits rows s)
  supported-limits v low high rows s o h x q lower = go (list_any (λ row. is_empty row.body) rows) refl
    where
      go : (g : Bool) → list_any (λ row. is_empty row.body) rows ≡ g
          → Limits n0 (support_vars w rows) (support_clauses w rows + 1) (supported_test w digits r v rows) s (cond g s (with_clause (Neg v ∷ supports_in p digits rows s) (after_supports p digits rows s)))
      go true e = limits-more n0 0 0 (support_vars w rows) (support_clauses w rows + 1) (λ A. true) (supported_test w digits r v rows) s s (omega arith) (omega arith)
          (λ A. sym (ap (λ b. b || (not (A v) || list_any (supports_test w digits r A) rows)) e)) (limits-nothing n0 s h x)
      go false e =
          let t : Stored = after_supports p digits rows s in
          let ls : List Literal = supports_in p digits rows s in
          let i : AreSupports rows s t ls = supports-are rows s o h x q lower in
          let more : s.vars ≤ t.vars = i.adds.extends.vars in
          limits-more n0 (support_vars w rows + 0) (support_clauses w rows + 1) (support_vars w rows) (support_clauses w rows + 1)
          (λ A. true && supported_test w digits r v rows A) (supported_test w digits r v rows) s (with_clause (Neg v ∷ ls) t) (omega arith) (omega arith) (λ A. refl)
          (limits-compose n0 (support_vars w rows) (support_clauses w rows) 0 1 (λ A. true) (supported_test w digits r v rows) s t (with_clause (Neg v ∷ ls) t)
          (limits-adds n0 (support_vars w rows) (support_clauses w rows) s t h i.adds)
          (limits-clauses n0 1 (supported_test w digits r v rows) t ((Neg v ∷ ls) ∷ []) (omega arith) (i.adds.sound) (((low, omega arith), i.over), tt) (omega arith)
          (λ A B k. supported_test-agree v high rows o A B k)
          (λ A k. and_true _ ∙ (ap (λ b. not (A v) || b) (i.says A k) ∙ sym (ap (λ b. b || (not (A v) || list_any (supports_test w digits r A) rows)) e)))))

  -- ---- the clauses of near numbers

  near-limits : (body : Option Literal) (bs : List ℕ) (s : Stored) → IsOverIfAny n0 body → AllByRecursion (λ b. HasDigits n0 w (digits b)) bs → n0 ≤ s.vars → IsSound s → AllByRecursion (IsOver s.vars) p → IsLower s
      → Limits n0 (less_vars w * length bs) (7 * w * length bs + (w + 1)) (λ A. not (body_true body A) || near_test w digits r A bs) s (after_near r p digits body bs s)
  near-limits body [] s b o h x q lower =
      let count : length r ≡ w = own.count in
      let few : length (drop 1 r) ≤ length r = length-drop-le r in
      let mapped : length (map (λ l. negated_body body ++ (negation l ∷ [])) (drop 1 r)) ≡ length (drop 1 r) = length-map (drop 1 r) (λ l. negated_body body ++ (negation l ∷ [])) in
      let body_up : IsOverIfAny s.vars body = IsOverIfAny-up n0 s.vars h body b in
      let r_up : AllByRecursion (IsOver s.vars) r = literals-up n0 s.vars h r own.over in
      limits-more n0 0 (w + 1) (less_vars w * 0) (7 * w * 0 + (w + 1)) (λ A. not (body_true body A) || near_test w digits r A []) _ s _ (omega arith) (omega arith) (λ A. refl)
      (limits-clauses n0 (w + 1) (λ A. not (body_true body A) || near_test w digits r A []) s (map (λ l. negated_body body ++ (negation l ∷ [])) (drop 1 r)) h x
      (zeros-over s.vars body (drop 1 r) body_up (over-drop s.vars r r_up)) (omega arith)
      (λ A B k. ap₂ (λ y z. not y || z) (body-agree n0 A B k body b) (near_test-agree A B k [] o))
      (λ A k. zeros_say body (drop 1 r) A ∙ ap (λ z. not (body_true body A) || z) (upper_zero r A (subst (λ m. 0 < m) (sym own.count) wide))))
  near-limits body (b0 ∷ bs) s b o h x q lower =
      let pairs : List (List Literal × List Literal) = pairs_near p digits (b0 ∷ bs) in
      let t : Stored = after_compared pairs s in
      let c : AreCompared w pairs s t (compared pairs s) = compared-are w pairs s x (pairs-near-are s.vars h q (b0 ∷ bs) o) in
      let more : s.vars ≤ t.vars = c.adds.extends.vars in
      let pairs_count : length pairs ≡ length (b0 ∷ bs) = length-map (b0 ∷ bs) (λ d. (digits d, p)) in
      let test : Set → Bool = λ A. not (body_true body A) || near_test w digits r A (b0 ∷ bs) in
      let clause : List Literal = negated_body body ++ compared pairs s in
      let k : ℕ = length (b0 ∷ bs) in
      limits-more n0 (less_vars w * k + 0) (7 * w * k + 1) (less_vars w * k) (7 * w * k + (w + 1)) (λ A. true && test A) test s (with_clause clause t) (omega arith) (omega arith) (λ A. refl)
      (limits-compose n0 (less_vars w * k) (7 * w * k) 0 1 (λ A. true) test s t (with_clause clause t)
      (limits-adds n0 (less_vars w * k) (7 * w * k) s t h (subst (λ n. Adds (less_vars w * n) (7 * w * n) s t) pairs_count c.adds))
      (limits-clauses n0 1 test t (clause ∷ []) (omega arith) (c.adds.sound)
      (each-append (IsOver t.vars) (negated_body body) (compared pairs s) (negated-over t.vars body (IsOverIfAny-up n0 t.vars (omega arith) body b)) c.over, tt) (omega arith)
      (λ A B e. ap₂ (λ y z. not y || z) (body-agree n0 A B e body b) (near_test-agree A B e (b0 ∷ bs) o))
      (λ A e. and_true _ ∙ (list_any-append (λ l. is_true l A) (negated_body body) (compared pairs s)
      ∙ ap₂ ◌||◌ (negated-says body A) (c.any A e ∙ (any-mapped (is_not_below A) (λ d. (digits d, p)) (b0 ∷ bs)
      ∙ ap (λ m. list_any (λ d. not (ltb (number_at A (digits d)) m)) (b0 ∷ bs)) (lower A (c.adds.extends.keeps A e))))))))

  pub nears-limits : (rows : List Row) (s : Stored) → AllByRecursion (IsRow n0 w digits) rows → n0 ≤ s.vars → IsSound s → AllByRecursion (IsOver s.vars) p → IsLower s
      → Limits n0 (near_vars w rows) (near_clauses w rows) (nears_test w digits r rows) s (after_nears r p digits rows s)
  nears-limits [] s o h x q lower = limits-nothing n0 s h x
  nears-limits (row ∷ rows) s o h x q lower =
      let t : Stored = after_near r p digits row.body row.inside s in
      let i : Limits n0 (less_vars w * length row.inside) (7 * w * length row.inside + (w + 1)) (λ A. not (body_true row.body A) || near_test w digits r A row.inside) s t = near-limits row.body row.inside s o.0.body o.0.inside h x q lower in
      let more : s.vars ≤ t.vars = i.grows.up in
      limits-compose n0 (less_vars w * length row.inside) (7 * w * length row.inside + (w + 1)) (near_vars w rows) (near_clauses w rows) _ (nears_test w digits r rows) s t (after_nears r p digits rows t) i
      (nears-limits rows t o.1 (omega arith) i.grows.sound (literals-up s.vars t.vars more p q) (λ A e. lower A (i.grows.keeps A e)))
