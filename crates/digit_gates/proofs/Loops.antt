-- The loops over digits: what is still to be done leads to the whole.
use Rattle.std.proofs.Common.{◌≡◌, sym, ◌∙◌, ap, ap₂, subst, ℕ, suc, ◌+◌, ◌*◌, ◌≤◌, ◌<◌, not, ◌&&◌, refl, List, [], ◌∷◌, ◌++◌, length, drop, get_or, arith, append_assoc}
use Rattle.std.proofs.Math.Seq.{drop-cons}
use Rattle.std.proofs.lemmas.List.{drop_all, append-nil}
use Rattle.std.specs.List.{AllByRecursion}
use Rattle.asp_base.specs.Literal.{Literal, negation}
use Rattle.asp_base.proofs.Each.{each-get}
use Rattle.gate_tables.specs.Rows.{differs}
use Rattle.gate_tables.specs.Tables.{and2_rows, xor2_rows, lt_first_rows, lt_step_rows, lt_pair_rows, less_step}
use Rattle.clause_store.specs.Additions.{IsSound}
use Rattle.clause_store.specs.Extension.{Extends}
use Rattle.clause_store.specs.Facts.{IsOver}
use Rattle.clause_store.specs.Gates.{after_gate}
use Rattle.clause_store.specs.Models.{is_true}
use Rattle.clause_store.specs.Stored.{Stored}
use Rattle.clause_store.proofs.GateLaws.{negation-over, literals-up, IsOver-up, Extends-same, Extends-compose}
use Rattle.digit_gates.specs.DigitGates.{output, after_borrow, borrow_digits, after_predecessor, predecessor_digits, after_less_from, less_from, after_less, less_output}
use Rattle.digit_gates.proofs.DigitGateLaws.{Gate, xor2, and2, lt_first, lt_pair}

-- what stands in a list from a place on
from_here : (xs : List Literal) (i : ℕ) (a : Literal) → i < length xs → a ≡ get_or xs i a → drop i xs ≡ a ∷ drop (suc i) xs
from_here xs i a h e = drop-cons xs i a h ∙ ap (λ b. b ∷ drop (suc i) xs) (sym e)

-- ---- comparisons

pub record Comparing (x y : List Literal) (first now : Stored) (below : Literal) (i : ℕ) : Type 0 where
  pub store : after_less_from below (drop i x) (drop i y) now ≡ after_less x y first
  pub literal : less_from below (drop i x) (drop i y) now ≡ less_output x y first
  pub vars : 2 * now.vars ≤ 2 * first.vars + i + 1
  pub inside : i ≤ length x
  pub over_below : IsOver now.vars below
  pub over_x : AllByRecursion (IsOver now.vars) x
  pub over_y : AllByRecursion (IsOver now.vars) y
  pub sound : IsSound now
  pub extends : Extends first now

-- the least digits
pub comparing-first : (x y : List Literal) (first : Stored) (a b : Literal) → 0 < length x → length x ≡ length y → a ≡ get_or x 0 a → b ≡ get_or y 0 b
    → IsSound first → AllByRecursion (IsOver first.vars) x → AllByRecursion (IsOver first.vars) y → Comparing x y first (after_gate lt_first_rows (a ∷ b ∷ []) first) (output first) 1
comparing-first [] y first a b h same p r sound o q = absurd (omega arith)
comparing-first (u ∷ x) [] first a b h same p r sound o q = absurd (omega arith)
comparing-first (u ∷ x) (v ∷ y) first a b h same p r sound o q =
    let more : first.vars ≤ suc first.vars = omega arith in
    rw (p, r) (
    let g : Gate 3 (λ A. not (is_true u A) && is_true v A) first (after_gate lt_first_rows (u ∷ v ∷ []) first) = lt_first first sound u v o.0 q.0 in
    record {
      store = refl;
      literal = refl;
      vars = omega arith;
      inside = omega arith;
      over_below = (omega arith, omega arith);
      over_x = literals-up first.vars (suc first.vars) more (u ∷ x) o;
      over_y = literals-up first.vars (suc first.vars) more (v ∷ y) q;
      sound = g.adds.sound;
      extends = g.adds.extends;
    })

-- two digits
pub comparing-next : (x y : List Literal) (first now : Stored) (below a b u v : Literal) (i k j : ℕ) → k ≡ suc i → j ≡ suc k → k < length x → length x ≡ length y
    → a ≡ get_or x i a → b ≡ get_or y i b → u ≡ get_or x k u → v ≡ get_or y k v
    → Comparing x y first now below i → Comparing x y first (after_gate lt_pair_rows (u ∷ a ∷ v ∷ b ∷ below ∷ []) now) (output now) j
comparing-next x y first now below a b u v i k j e q h same p r pu rv c =
    let iu : u ≡ get_or x (suc i) u = subst (λ n. u ≡ get_or x n u) e pu in
    let iv : v ≡ get_or y (suc i) v = subst (λ n. v ≡ get_or y n v) e rv in
    let dx : drop i x ≡ a ∷ u ∷ drop (suc (suc i)) x = from_here x i a (omega arith) p ∙ ap (λ l. a ∷ l) (from_here x (suc i) u (omega arith) iu) in
    let dy : drop i y ≡ b ∷ v ∷ drop (suc (suc i)) y = from_here y i b (omega arith) r ∙ ap (λ l. b ∷ l) (from_here y (suc i) v (omega arith) iv) in
    let more : now.vars ≤ suc now.vars = omega arith in
    let w : 2 * now.vars ≤ 2 * first.vars + i + 1 = c.vars in
    let last : j ≡ suc (suc i) = omega arith in
    let at = λ (n : ℕ) (d : Literal) (xs : List Literal) (o : AllByRecursion (IsOver now.vars) xs) (h : n < length xs) (e : d ≡ get_or xs n d). subst (IsOver now.vars) (sym e) (each-get (IsOver now.vars) xs n d h o) in
    let t : Stored = after_gate lt_pair_rows (u ∷ a ∷ v ∷ b ∷ below ∷ []) now in
    let g : Gate 14 (λ A. less_step (is_true u A) (is_true v A) (less_step (is_true a A) (is_true b A) (is_true below A))) now t =
    lt_pair now c.sound u a v b below (at k u x c.over_x (omega arith) pu) (at i a x c.over_x (omega arith) p) (at k v y c.over_y (omega arith) rv) (at i b y c.over_y (omega arith) r) c.over_below in
    rw last (record {
      store = sym (ap₂ (λ xs ys. after_less_from below xs ys now) dx dy) ∙ c.store;
      literal = sym (ap₂ (λ xs ys. less_from below xs ys now) dx dy) ∙ c.literal;
      vars = omega arith;
      inside = omega arith;
      over_below = (omega arith, omega arith);
      over_x = literals-up now.vars (suc now.vars) more x c.over_x;
      over_y = literals-up now.vars (suc now.vars) more y c.over_y;
      sound = g.adds.sound;
      extends = Extends-compose first now t c.extends g.adds.extends;
    })

pub comparing-done : (x y : List Literal) (first now : Stored) (below : Literal) (i : ℕ) → length x ≤ i → length x ≡ length y → Comparing x y first now below i
    → (now ≡ after_less x y first) × (below ≡ less_output x y first)
comparing-done x y first now below i h e c =
    let dx : drop i x ≡ [] = drop_all i x h in
    (ap (λ xs. after_less_from below xs (drop i y) now) (sym dx) ∙ c.store, ap (λ xs. less_from below xs (drop i y) now) (sym dx) ∙ c.literal)

-- one digit that is left
pub comparing-last : (x y : List Literal) (first now : Stored) (below a b : Literal) (i : ℕ) → suc i ≡ length x → length x ≡ length y → a ≡ get_or x i a → b ≡ get_or y i b → Comparing x y first now below i
    → (after_gate lt_step_rows (a ∷ b ∷ below ∷ []) now ≡ after_less x y first) × (output now ≡ less_output x y first)
comparing-last x y first now below a b i h same p r c =
    let dx : drop i x ≡ a ∷ [] = from_here x i a (omega arith) p ∙ ap (λ l. a ∷ l) (drop_all (suc i) x (omega arith)) in
    let dy : drop i y ≡ b ∷ [] = from_here y i b (omega arith) r ∙ ap (λ l. b ∷ l) (drop_all (suc i) y (omega arith)) in
    (sym (ap₂ (λ xs ys. after_less_from below xs ys now) dx dy) ∙ c.store, sym (ap₂ (λ xs ys. less_from below xs ys now) dx dy) ∙ c.literal)

-- ---- predecessors

pub record Borrowing (x : List Literal) (first now : Stored) (borrow : Literal) (made : List Literal) (i : ℕ) : Type 0 where
  pub store : after_borrow borrow (drop i x) now ≡ after_predecessor x first
  pub digits : made ++ borrow_digits borrow (drop i x) now ≡ predecessor_digits x first
  pub vars : now.vars + 2 ≤ first.vars + 2 * i
  pub over_borrow : IsOver now.vars borrow
  pub over : AllByRecursion (IsOver now.vars) x
  pub sound : IsSound now
  pub extends : Extends first now

-- the least digit
pub borrowing-first : (x : List Literal) (first : Stored) (a : Literal) → 0 < length x → a ≡ get_or x 0 a → IsSound first → AllByRecursion (IsOver first.vars) x
    → Borrowing x first first (negation a) (negation a ∷ []) 1
borrowing-first [] first a h p sound o = absurd (omega arith)
borrowing-first (r ∷ rest) first a h p sound o = rw p (record {
  store = refl;
  digits = refl;
  vars = omega arith;
  over_borrow = negation-over r first.vars o.0;
  over = o;
  sound = sound;
  extends = Extends-same first;
})

-- the gate of a digit, which a borrow may follow
pub digit-gate : (x : List Literal) (first now : Stored) (borrow a : Literal) (made : List Literal) (i : ℕ) → i < length x → a ≡ get_or x i a → Borrowing x first now borrow made i
    → Gate 4 (λ A. differs (is_true a A) (is_true borrow A)) now (after_gate xor2_rows (a ∷ borrow ∷ []) now)
digit-gate x first now borrow a made i h p c =
    xor2 now c.sound a borrow (subst (IsOver now.vars) (sym p) (each-get (IsOver now.vars) x i a h c.over)) c.over_borrow

-- what stood before is extended
pub digit-extends : (x : List Literal) (first now : Stored) (borrow a : Literal) (made : List Literal) (i : ℕ) → i < length x → a ≡ get_or x i a → Borrowing x first now borrow made i
    → Extends first (after_gate xor2_rows (a ∷ borrow ∷ []) now)
digit-extends x first now borrow a made i h p c =
    Extends-compose first now (after_gate xor2_rows (a ∷ borrow ∷ []) now) c.extends (digit-gate x first now borrow a made i h p c).adds.extends

-- a digit in the middle
pub borrowing-next : (x : List Literal) (first now : Stored) (borrow a : Literal) (made : List Literal) (i j : ℕ) → j ≡ suc i → i + 1 < length x → a ≡ get_or x i a
    → Borrowing x first now borrow made i
    → Borrowing x first (after_gate and2_rows (borrow ∷ negation a ∷ []) (after_gate xor2_rows (a ∷ borrow ∷ []) now)) (output (after_gate xor2_rows (a ∷ borrow ∷ []) now)) (made ++ (output now ∷ [])) j
borrowing-next x first now borrow a made i j q h p c =
    let b : Literal = get_or x (suc i) a in
    let d : drop i x ≡ a ∷ drop (suc i) x = from_here x i a (omega arith) p in
    let e : drop (suc i) x ≡ b ∷ drop (suc (suc i)) x = drop-cons x (suc i) a (omega arith) in
    let both : drop i x ≡ a ∷ b ∷ drop (suc (suc i)) x = d ∙ ap (λ xs. a ∷ xs) e in
    let v : now.vars + 2 ≤ first.vars + 2 * i = c.vars in
    let t : Stored = after_gate xor2_rows (a ∷ borrow ∷ []) now in
    let u : Stored = after_gate and2_rows (borrow ∷ negation a ∷ []) t in
    let more : now.vars ≤ suc (suc now.vars) = omega arith in
    let g : Gate 4 (λ A. differs (is_true a A) (is_true borrow A)) now t = digit-gate x first now borrow a made i (omega arith) p c in
    let over_a : IsOver now.vars a = subst (IsOver now.vars) (sym p) (each-get (IsOver now.vars) x i a (omega arith) c.over) in
    let up : now.vars ≤ suc now.vars = omega arith in
    let k : Gate 3 (λ A. is_true borrow A && is_true (negation a) A) t u =
    and2 t g.adds.sound borrow (negation a) (IsOver-up now.vars (suc now.vars) up borrow c.over_borrow) (negation-over a (suc now.vars) (IsOver-up now.vars (suc now.vars) up a over_a)) in
    rw q (record {
      store = ap (λ xs. after_borrow (output t) xs u) e ∙ (sym (ap (λ xs. after_borrow borrow xs now) both) ∙ c.store);
      digits = ap (λ xs. (made ++ (output now ∷ [])) ++ borrow_digits (output t) xs u) e
          ∙ (append_assoc made (output now ∷ []) (borrow_digits (output t) (b ∷ drop (suc (suc i)) x) u)
          ∙ (sym (ap (λ xs. made ++ borrow_digits borrow xs now) both) ∙ c.digits));
      vars = omega arith;
      over_borrow = (omega arith, omega arith);
      over = literals-up now.vars (suc (suc now.vars)) more x c.over;
      sound = k.adds.sound;
      extends = Extends-compose first t u (digit-extends x first now borrow a made i (omega arith) p c) k.adds.extends;
    })

-- the last digit
pub borrowing-last : (x : List Literal) (first now : Stored) (borrow a : Literal) (made : List Literal) (i j : ℕ) → j ≡ suc i → length x ≡ suc i → a ≡ get_or x i a
    → Borrowing x first now borrow made i
    → Borrowing x first (after_gate xor2_rows (a ∷ borrow ∷ []) now) borrow (made ++ (output now ∷ [])) j
borrowing-last x first now borrow a made i j q h p c =
    let none : drop (suc i) x ≡ [] = drop_all (suc i) x (omega arith) in
    let d : drop i x ≡ a ∷ [] = from_here x i a (omega arith) p ∙ ap (λ xs. a ∷ xs) none in
    let v : now.vars + 2 ≤ first.vars + 2 * i = c.vars in
    let t : Stored = after_gate xor2_rows (a ∷ borrow ∷ []) now in
    let more : now.vars ≤ suc now.vars = omega arith in
    rw q (record {
      store = ap (λ xs. after_borrow borrow xs t) none ∙ (sym (ap (λ xs. after_borrow borrow xs now) d) ∙ c.store);
      digits = ap (λ xs. (made ++ (output now ∷ [])) ++ borrow_digits borrow xs t) none
          ∙ (append_assoc made (output now ∷ []) [] ∙ (sym (ap (λ xs. made ++ borrow_digits borrow xs now) d) ∙ c.digits));
      vars = omega arith;
      over_borrow = IsOver-up now.vars (suc now.vars) more borrow c.over_borrow;
      over = literals-up now.vars (suc now.vars) more x c.over;
      sound = (digit-gate x first now borrow a made i (omega arith) p c).adds.sound;
      extends = digit-extends x first now borrow a made i (omega arith) p c;
    })

pub borrowing-done : (x : List Literal) (first now : Stored) (borrow : Literal) (made : List Literal) (i : ℕ) → length x ≤ i → Borrowing x first now borrow made i
    → (now ≡ after_predecessor x first) × (made ≡ predecessor_digits x first)
borrowing-done x first now borrow made i h c =
    let none : drop i x ≡ [] = drop_all i x h in
    (ap (λ xs. after_borrow borrow xs now) (sym none) ∙ c.store, sym (append-nil made) ∙ (ap (λ xs. made ++ borrow_digits borrow xs now) (sym none) ∙ c.digits))
