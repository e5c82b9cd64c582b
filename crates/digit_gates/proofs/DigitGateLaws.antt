-- What the gates of predecessors and comparisons compute, and how many variables and clauses they add.
use Rattle.std.proofs.Common.{◌≡◌, refl, sym, ◌∙◌, ap, ap₂, ℕ, suc, ℤ, ◌+◌, ◌*◌, ◌/◌, ◌≤◌, ◌<◌, Bool, true, false, not, ◌&&◌, List, [], ◌∷◌, length, arith}
use Rattle.std.specs.List.{AllByRecursion}
use Rattle.asp_base.specs.Literal.{Literal, negation}
use Rattle.asp_base.specs.Sets.{Set}
use Rattle.asp_base.proofs.LiteralLaws.{literal_holds-negation}
use Rattle.gate_tables.specs.Rows.{differs, table_value, IsTable}
use Rattle.gate_tables.specs.Tables.{and2_rows, xor2_rows, lt_first_rows, lt_step_rows, lt_pair_rows, less_step}
use Rattle.gate_tables.proofs.RowLaws.{and2-table, xor2-table, lt_first-table, lt_step-table, lt_pair-table, and2-value, xor2-value, lt_first-value, lt_step-value, lt_pair-value}
use Rattle.clause_store.specs.Additions.{Adds, IsSound}
use Rattle.clause_store.specs.Facts.{IsOver}
use Rattle.clause_store.specs.Gates.{after_gate, values_at}
use Rattle.clause_store.specs.Models.{is_true, clauses_true}
use Rattle.clause_store.specs.Stored.{Stored}
use Rattle.clause_store.proofs.GateLaws.{negation-over, literals-up, IsOver-up}
use Rattle.clause_store.proofs.TableGates.{gate-is, length-values}
use Rattle.clause_store.proofs.AddLaws.{Adds-nothing, Adds-more, Adds-compose, gate-adds}
use Rattle.digit_gates.specs.Digits.{number, number_at, predecessor}
use Rattle.digit_gates.specs.DigitGates.{output, after_borrow, borrow_digits, after_predecessor, predecessor_digits, IsPredecessor, after_less_from, less_from, after_less, less_output, less_vars, IsLess}
use Rattle.digit_gates.proofs.DigitLaws.{less_borrow, borrow-says, is_less_from, less-says}

-- a gate with its table: what it adds, and what its variable says
pub record Gate (n : ℕ) (value : Set → Bool) (before after : Stored) : Type 0 where
  pub adds : Adds 1 n before after
  pub says : (A : Set) → clauses_true after.hard A ≡ true → is_true (output before) A ≡ value A

gate : (k : ℕ) (rows : List (List ℤ × ℤ)) → IsTable k rows → 0 < length rows → (inputs : List Literal) → length inputs ≡ k → (value : Set → Bool)
    → ((A : Set) → table_value rows (values_at A inputs) ≡ value A) → (s : Stored) → IsSound s → AllByRecursion (IsOver s.vars) inputs → Gate (length rows) value s (after_gate rows inputs s)
gate k rows t some inputs e value is s sound o = record {
  adds = gate-adds k rows t some inputs e s sound o;
  says = λ A h. (gate-is k rows t inputs e s sound.over o).says A h ∙ is A;
}

module _ (s : Stored) (sound : IsSound s) where
  pub xor2 : (x y : Literal) → IsOver s.vars x → IsOver s.vars y → Gate 4 (λ A. differs (is_true x A) (is_true y A)) s (after_gate xor2_rows (x ∷ y ∷ []) s)
  xor2 x y h k =
      gate 2 xor2_rows xor2-table (omega arith) (x ∷ y ∷ []) refl _ (λ A. xor2-value (is_true x A) (is_true y A)) s sound (h, (k, tt))

  pub and2 : (x y : Literal) → IsOver s.vars x → IsOver s.vars y → Gate 3 (λ A. is_true x A && is_true y A) s (after_gate and2_rows (x ∷ y ∷ []) s)
  and2 x y h k =
      gate 2 and2_rows and2-table (omega arith) (x ∷ y ∷ []) refl _ (λ A. and2-value (is_true x A) (is_true y A)) s sound (h, (k, tt))

  pub lt_first : (x y : Literal) → IsOver s.vars x → IsOver s.vars y → Gate 3 (λ A. not (is_true x A) && is_true y A) s (after_gate lt_first_rows (x ∷ y ∷ []) s)
  lt_first x y h k =
      gate 2 lt_first_rows lt_first-table (omega arith) (x ∷ y ∷ []) refl _ (λ A. lt_first-value (is_true x A) (is_true y A)) s sound (h, (k, tt))

  pub lt_step : (x y c : Literal) → IsOver s.vars x → IsOver s.vars y → IsOver s.vars c
      → Gate 6 (λ A. less_step (is_true x A) (is_true y A) (is_true c A)) s (after_gate lt_step_rows (x ∷ y ∷ c ∷ []) s)
  lt_step x y c h k o =
      gate 3 lt_step_rows lt_step-table (omega arith) (x ∷ y ∷ c ∷ []) refl _ (λ A. lt_step-value (is_true x A) (is_true y A) (is_true c A)) s sound (h, (k, (o, tt)))

  pub lt_pair : (u x v y c : Literal) → IsOver s.vars u → IsOver s.vars x → IsOver s.vars v → IsOver s.vars y → IsOver s.vars c
      → Gate 14 (λ A. less_step (is_true u A) (is_true v A) (less_step (is_true x A) (is_true y A) (is_true c A))) s (after_gate lt_pair_rows (u ∷ x ∷ v ∷ y ∷ c ∷ []) s)
  lt_pair u x v y c hu hx hv hy hc =
      gate 5 lt_pair_rows lt_pair-table (omega arith) (u ∷ x ∷ v ∷ y ∷ c ∷ []) refl _
      (λ A. lt_pair-value (is_true u A) (is_true x A) (is_true v A) (is_true y A) (is_true c A)) s sound (hu, (hx, (hv, (hy, (hc, tt)))))

-- ---- the number less 1

record Borrowed (borrow : Literal) (rest : List Literal) (before after : Stored) (digits : List Literal) : Type 0 where
  adds : Adds (2 * length rest) (7 * length rest) before after
  over : AllByRecursion (IsOver after.vars) digits
  count : length digits ≡ length rest
  says : (A : Set) → clauses_true after.hard A ≡ true → values_at A digits ≡ less_borrow (is_true borrow A) (values_at A rest)

borrowed : (borrow : Literal) (rest : List Literal) (s : Stored) → IsSound s → IsOver s.vars borrow → AllByRecursion (IsOver s.vars) rest
    → Borrowed borrow rest s (after_borrow borrow rest s) (borrow_digits borrow rest s)
borrowed borrow [] s sound b o = record { adds = Adds-nothing s sound; over = tt; count = refl; says = λ A t. refl }
borrowed borrow (r ∷ []) s sound b o =
    let g : Gate 4 (λ A. differs (is_true r A) (is_true borrow A)) s (after_gate xor2_rows (r ∷ borrow ∷ []) s) = xor2 s sound r borrow o.0 b in
    record {
      adds = Adds-more 1 4 2 7 s (after_gate xor2_rows (r ∷ borrow ∷ []) s) (omega arith) (omega arith) g.adds;
      over = ((omega arith, omega arith), tt);
      count = refl;
      says = λ A t. ap (λ d. d ∷ []) (g.says A t);
    }
borrowed borrow (r ∷ q ∷ rest) s sound b o =
    let t : Stored = after_gate xor2_rows (r ∷ borrow ∷ []) s in
    let u : Stored = after_gate and2_rows (borrow ∷ negation r ∷ []) t in
    let su : s.vars ≤ suc s.vars = omega arith in
    let s2 : s.vars ≤ suc (suc s.vars) = omega arith in
    let g : Gate 4 (λ A. differs (is_true r A) (is_true borrow A)) s t = xor2 s sound r borrow o.0 b in
    let bt : IsOver t.vars borrow = IsOver-up s.vars (suc s.vars) su borrow b in
    let rt : IsOver t.vars (negation r) = negation-over r (suc s.vars) (IsOver-up s.vars (suc s.vars) su r o.0) in
    let h : Gate 3 (λ A. is_true borrow A && is_true (negation r) A) t u = and2 t g.adds.sound borrow (negation r) bt rt in
    let i : Borrowed (output t) (q ∷ rest) u (after_borrow (output t) (q ∷ rest) u) (borrow_digits (output t) (q ∷ rest) u) =
    borrowed (output t) (q ∷ rest) u h.adds.sound (omega arith, omega arith) (literals-up s.vars (suc (suc s.vars)) s2 (q ∷ rest) o.1) in
    let v : Stored = after_borrow (output t) (q ∷ rest) u in
    let grown : u.vars ≤ v.vars = i.adds.extends.vars in
    record {
      adds = Adds-more ((1 + 1) + 2 * length (q ∷ rest)) ((4 + 3) + 7 * length (q ∷ rest)) (2 * length (r ∷ q ∷ rest)) (7 * length (r ∷ q ∷ rest)) s v (omega arith) (omega arith)
          (Adds-compose (1 + 1) (4 + 3) (2 * length (q ∷ rest)) (7 * length (q ∷ rest)) s u v (Adds-compose 1 4 1 3 s t u g.adds h.adds) i.adds);
      over = ((omega arith, omega arith), i.over);
      count = ap (λ n. suc n) i.count;
      says = λ A e.
          let eu : clauses_true u.hard A ≡ true = i.adds.extends.keeps A e in
          let et : clauses_true t.hard A ≡ true = h.adds.extends.keeps A eu in
          ap₂ ◌∷◌ (g.says A et) (i.says A e ∙ ap (λ c. less_borrow c (values_at A (q ∷ rest))) (h.says A eu ∙ ap (λ c. is_true borrow A && c) (literal_holds-negation r A)));
    }

differs-true : (d : Bool) → not d ≡ differs d true
differs-true true = refl
differs-true false = refl

-- the gates of the predecessor
pub predecessor-is : (x : List Literal) (s : Stored) → 0 < length x → IsSound s → AllByRecursion (IsOver s.vars) x → IsPredecessor x (predecessor_digits x s) s (after_predecessor x s)
predecessor-is [] s h sound o = absurd (omega arith)
predecessor-is (r ∷ rest) s h sound o =
    let b : Borrowed (negation r) rest s (after_borrow (negation r) rest s) (borrow_digits (negation r) rest s) = borrowed (negation r) rest s sound (negation-over r s.vars o.0) o.1 in
    let t : Stored = after_borrow (negation r) rest s in
    let grown : s.vars ≤ t.vars = b.adds.extends.vars in
    record {
      adds = Adds-more (2 * length rest) (7 * length rest) (2 * length (r ∷ rest)) (7 * length (r ∷ rest)) s t (omega arith) (omega arith) b.adds;
      over = (IsOver-up s.vars t.vars grown (negation r) (negation-over r s.vars o.0), b.over);
      digits = ap (λ n. suc n) b.count;
      says = λ A e.
          ap number (ap₂ ◌∷◌ (literal_holds-negation r A ∙ differs-true (is_true r A)) (b.says A e ∙ ap (λ c. less_borrow c (values_at A rest)) (literal_holds-negation r A)))
          ∙ (borrow-says (values_at A (r ∷ rest)) ∙ ap (λ n. predecessor n (number_at A (r ∷ rest))) (length-values A (r ∷ rest)));
    }

-- ---- comparisons

record Compared (below : Literal) (xs ys : List Literal) (before after : Stored) (l : Literal) : Type 0 where
  adds : Adds ((length xs + 1) / 2) (7 * length xs) before after
  over : IsOver after.vars l
  says : (A : Set) → clauses_true after.hard A ≡ true → is_true l A ≡ is_less_from (is_true below A) (values_at A xs) (values_at A ys)

compared : (below : Literal) (xs ys : List Literal) (s : Stored) → length xs ≡ length ys → IsSound s → IsOver s.vars below → AllByRecursion (IsOver s.vars) xs → AllByRecursion (IsOver s.vars) ys
    → Compared below xs ys s (after_less_from below xs ys s) (less_from below xs ys s)
compared below [] [] s e sound b o p = record { adds = Adds-more 0 0 ((0 + 1) / 2) (7 * 0) s s (omega arith) (omega arith) (Adds-nothing s sound); over = b; says = λ A t. refl }
compared below [] (y ∷ ys) s e sound b o p = absurd (omega arith)
compared below (x ∷ xs) [] s e sound b o p = absurd (omega arith)
compared below (x ∷ []) (y ∷ []) s e sound b o p =
    let t : Stored = after_gate lt_step_rows (x ∷ y ∷ below ∷ []) s in
    let g : Gate 6 (λ A. less_step (is_true x A) (is_true y A) (is_true below A)) s t = lt_step s sound x y below o.0 p.0 b in
    record {
      adds = Adds-more 1 6 ((1 + 1) / 2) (7 * 1) s t (omega arith) (omega arith) g.adds;
      over = (omega arith, omega arith);
      says = λ A h. g.says A h;
    }
compared below (x ∷ []) (y ∷ v ∷ ys) s e sound b o p = absurd (omega arith)
compared below (x ∷ u ∷ xs) (y ∷ []) s e sound b o p = absurd (omega arith)
compared below (x ∷ u ∷ xs) (y ∷ v ∷ ys) s e sound b o p =
    let t : Stored = after_gate lt_pair_rows (u ∷ x ∷ v ∷ y ∷ below ∷ []) s in
    let su : s.vars ≤ suc s.vars = omega arith in
    let g : Gate 14 (λ A. less_step (is_true u A) (is_true v A) (less_step (is_true x A) (is_true y A) (is_true below A))) s t = lt_pair s sound u x v y below o.1.0 o.0 p.1.0 p.0 b in
    let i : Compared (output s) xs ys t (after_less_from (output s) xs ys t) (less_from (output s) xs ys t) =
    compared (output s) xs ys t (omega arith) g.adds.sound (omega arith, omega arith) (literals-up s.vars (suc s.vars) su xs o.1.1) (literals-up s.vars (suc s.vars) su ys p.1.1) in
    let w : Stored = after_less_from (output s) xs ys t in
    record {
      adds = Adds-more (1 + (length xs + 1) / 2) (14 + 7 * length xs) ((length (x ∷ u ∷ xs) + 1) / 2) (7 * length (x ∷ u ∷ xs)) s w (omega arith) (omega arith) (Adds-compose 1 14 ((length xs + 1) / 2) (7 * length xs) s t w g.adds i.adds);
      over = i.over;
      says = λ A h. i.says A h ∙ ap (λ c. is_less_from c (values_at A xs) (values_at A ys)) (g.says A (i.adds.extends.keeps A h));
    }

-- the gates of a comparison
pub less-is : (xs ys : List Literal) (s : Stored) → 0 < length xs → length xs ≡ length ys → IsSound s → AllByRecursion (IsOver s.vars) xs → AllByRecursion (IsOver s.vars) ys
    → IsLess xs ys (less_output xs ys s) s (after_less xs ys s)
less-is [] ys s h e sound o p = absurd (omega arith)
less-is (x ∷ xs) [] s h e sound o p = absurd (omega arith)
less-is (x ∷ xs) (y ∷ ys) s h e sound o p =
    let t : Stored = after_gate lt_first_rows (x ∷ y ∷ []) s in
    let su : s.vars ≤ suc s.vars = omega arith in
    let same : length xs ≡ length ys = omega arith in
    let g : Gate 3 (λ A. not (is_true x A) && is_true y A) s t = lt_first s sound x y o.0 p.0 in
    let i : Compared (output s) xs ys t (after_less_from (output s) xs ys t) (less_from (output s) xs ys t) =
    compared (output s) xs ys t (omega arith) g.adds.sound (omega arith, omega arith) (literals-up s.vars (suc s.vars) su xs o.1) (literals-up s.vars (suc s.vars) su ys p.1) in
    let u : Stored = after_less_from (output s) xs ys t in
    record {
      adds = Adds-more (1 + (length xs + 1) / 2) (3 + 7 * length xs) (less_vars (length (x ∷ xs))) (7 * length (x ∷ xs)) s u (omega arith) (omega arith) (Adds-compose 1 3 ((length xs + 1) / 2) (7 * length xs) s t u g.adds i.adds);
      over = i.over;
      says = λ A k.
          i.says A k ∙ (ap (λ c. is_less_from c (values_at A xs) (values_at A ys)) (g.says A (i.adds.extends.keeps A k))
          ∙ less-says (is_true x A) (is_true y A) (values_at A xs) (values_at A ys) (length-values A xs ∙ (same ∙ sym (length-values A ys))));
    }
