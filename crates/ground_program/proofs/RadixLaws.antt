-- The radix and the tare of a level, and what the weights of the next level are.
use Rattle.std.proofs.Common.{◌≡◌, refl, sym, ◌∙◌, ap, subst, ℕ, ◌+◌, ◌*◌, ◌/◌, ◌%◌, ◌-◌, ◌≤◌, ◌<◌, ◌||◌, ℤ, Bool, true, false, cond, leb, List, [], ◌∷◌, ⊎_elim, arith}
use Rattle.std.specs.List.{AllByRecursion}
use Rattle.std.proofs.Math.Nat.{div-le_self, div-lt_self, add-mul, le-mul_of_pos_right, mod-eq_of_lt, mod_self, mul_comm, div-mul-le_self, div-div-eq-div-mul, div-one}
use Rattle.std.proofs.lemmas.Nat.{div_below, div-add-mod', mod_below, mul-le, le-div}
use Rattle.std.proofs.lemmas.Bool.{leb-true, leb-false, cases_lt, or_cases, true≢false}
use Rattle.std.proofs.lemmas.List.Sums.{sum_by-cons}
use Rattle.asp_base.specs.Literal.{Literal}
use Rattle.ground_program.specs.Radix.{naturals, weighty, cut_to, cut_weights, total, has_great, rest_sum, better, best_radix, tare_of, divided, at_level}

pub total-cons : (item : Literal × ℕ) (items : List (Literal × ℕ)) → total (item ∷ items) ≡ item.1 + total items
total-cons item items = sum_by-cons (λ item. item.1) item items

-- ---- the best radix among those that were looked at

pub record IsBestBelow (items : List (Literal × ℕ)) (b top : ℕ) : Type 0 where
  pub low : 2 ≤ b
  pub below : b < top
  pub least : (c : ℕ) → 2 ≤ c → c < top → rest_sum b items ≤ rest_sum c items
  pub largest : (c : ℕ) → b < c → c < top → rest_sum b items < rest_sum c items

best-two : (items : List (Literal × ℕ)) → IsBestBelow items 2 3
best-two items = record {
  low = omega arith;
  below = omega arith;
  least = λ c l h.
      let e : 2 ≡ c = omega arith in subst (λ d. rest_sum 2 items ≤ rest_sum d items) e (omega arith);
  largest = λ c l h. absurd (omega arith);
}

best-more : (items : List (Literal × ℕ)) (b top : ℕ) → IsBestBelow items b top → 2 ≤ top
    → IsBestBelow items (better items b top) (top + 1)
best-more items b top p two = go (leb (rest_sum top items) (rest_sum b items)) refl
  where
    go : (t : Bool) → leb (rest_sum top items) (rest_sum b items) ≡ t
        → IsBestBelow items (cond t top b) (top + 1)
    go true e = record {
      low = two;
      below = omega arith;
      least = λ c l h. ⊎_elim
          (λ m.
          let k : rest_sum b items ≤ rest_sum c items = p.least c l m in
          let t : rest_sum top items ≤ rest_sum b items =
          leb-true (rest_sum top items) (rest_sum b items) e in
          omega arith)
          (λ m.
          let s : top ≡ c = omega arith in
          subst (λ d. rest_sum top items ≤ rest_sum d items) s (omega arith))
          (cases_lt c top);
      largest = λ c l h. absurd (omega arith);
    }
    go false e = record {
      low = p.low;
      below = omega (arith, p.below);
      least = λ c l h. ⊎_elim
          (λ m. p.least c l m)
          (λ m.
          let s : top ≡ c = omega arith in
          let t : rest_sum b items < rest_sum top items =
          leb-false (rest_sum top items) (rest_sum b items) e in
          subst (λ d. rest_sum b items ≤ rest_sum d items) s (omega arith))
          (cases_lt c top);
      largest = λ c l h. ⊎_elim
          (λ m. p.largest c l m)
          (λ m.
          let s : top ≡ c = omega arith in
          let t : rest_sum b items < rest_sum top items =
          leb-false (rest_sum top items) (rest_sum b items) e in
          subst (λ d. rest_sum b items < rest_sum d items) s t)
          (cases_lt c top);
    }

pub best-radix : (items : List (Literal × ℕ)) → IsBestBelow items (best_radix items) 9
best-radix items =
    let r3 : ℕ = better items 2 3 in
    let r4 : ℕ = better items r3 4 in
    let r5 : ℕ = better items r4 5 in
    let r6 : ℕ = better items r5 6 in
    let r7 : ℕ = better items r6 7 in
    let p3 : IsBestBelow items r3 4 = best-more items 2 3 (best-two items) (omega arith) in
    let p4 : IsBestBelow items r4 5 = best-more items r3 4 p3 (omega arith) in
    let p5 : IsBestBelow items r5 6 = best-more items r4 5 p4 (omega arith) in
    let p6 : IsBestBelow items r6 7 = best-more items r5 6 p5 (omega arith) in
    let p7 : IsBestBelow items r7 8 = best-more items r6 7 p6 (omega arith) in
    best-more items r7 8 p7 (omega arith)

pub best_radix_low : (items : List (Literal × ℕ)) → 2 ≤ best_radix items
best_radix_low items = (best-radix items).low

pub best_radix_high : (items : List (Literal × ℕ)) → best_radix items ≤ 8
best_radix_high items = let p : best_radix items < 9 = (best-radix items).below in omega arith

-- ---- the tare

pub tare-below : (bound b : ℕ) → 0 < b → tare_of bound b < b
tare-below bound b o = mod_below (b - bound % b) b o

whole : (b k m : ℕ) → 0 < b → m ≡ k * b → b * (m / b) ≡ m
whole b k m o e =
    let d : m / b * b ≤ m = div-mul-le_self m b in
    let l : k ≤ m / b = le-div k m b o (omega arith) in
    let c : b * (m / b) ≡ m / b * b = mul_comm b (m / b) in
    let u : k * b ≤ m / b * b = mul-le k b (m / b) b l (omega arith) in
    omega arith

pub tare-divides : (bound b : ℕ) → 0 < b → b * ((bound + tare_of bound b) / b) ≡ bound + tare_of bound b
tare-divides bound b o =
    let d : bound / b * b + bound % b ≡ bound = div-add-mod' bound b in
    let r : bound % b < b = mod_below bound b o in
    ⊎_elim (λ p.
    let s : b - bound % b < b = omega arith in
    let t : tare_of bound b ≡ b - bound % b = mod-eq_of_lt s in
    let m : (bound / b + 1) * b ≡ bound / b * b + 1 * b = add-mul (bound / b) 1 b in
    whole b (bound / b + 1) (bound + tare_of bound b) o (omega arith))
    (λ p.
    let z : bound % b ≡ 0 = omega arith in
    let t : tare_of bound b ≡ 0 = ap (λ x. (b - x) % b) z ∙ self b in
    whole b (bound / b) (bound + tare_of bound b) o (omega arith))
    (cases_lt 0 (bound % b))
  where
    self : (b : ℕ) → (b - 0) % b ≡ 0
    self b = ap (λ x. x % b) (nothing b) ∙ mod_self b
      where
        nothing : (n : ℕ) → n - 0 ≡ n
        nothing n = omega arith

pub bound-less : (bound tare b : ℕ) → 0 < b → tare < b → (bound + tare) / b ≤ bound
bound-less bound tare b o t =
    let m : (bound + 1) * b ≡ bound * b + 1 * b = add-mul bound 1 b in
    let l : bound ≤ bound * b = le-mul_of_pos_right bound o in
    let h : (bound + tare) / b < bound + 1 = div_below (bound + tare) b (bound + 1) o (omega arith) in
    omega arith

-- ---- the weights of the next level

divided-twice : (a b : ℕ) (items : List (Literal × ℕ))
    → divided b (divided a items) ≡ divided (a * b) items
divided-twice a b [] = refl
divided-twice a b (item ∷ items) =
    ap (λ n. (item.0, n) ∷ divided b (divided a items)) (div-div-eq-div-mul item.1 a b)
    ∙ ap (λ xs. (item.0, item.1 / (a * b)) ∷ xs) (divided-twice a b items)

divided-one : (items : List (Literal × ℕ)) → divided 1 items ≡ items
divided-one [] = refl
divided-one (item ∷ items) =
    ap (λ n. (item.0, n) ∷ divided 1 items) (div-one item.1)
    ∙ ap (λ xs. item ∷ xs) (divided-one items)

pub at-next : (bound base b : ℕ) (items : List (Literal × ℤ))
    → divided b (at_level bound base items) ≡ at_level bound (base * b) items
at-next bound base b items = divided-twice base b (cut_weights bound items)

pub at-first : (bound : ℕ) (items : List (Literal × ℤ)) → at_level bound 1 items ≡ cut_weights bound items
at-first bound items = divided-one (cut_weights bound items)

-- what the weights add up to falls
total-less : (b : ℕ) (items : List (Literal × ℕ)) → 2 ≤ b → total (divided b items) ≤ total items
total-less b [] l = omega arith
total-less b (item ∷ items) l =
    let h : total (divided b items) ≤ total items = total-less b items l in
    let d : item.1 / b ≤ item.1 = div-le_self item.1 b in
    let m : total (divided b (item ∷ items)) ≡ item.1 / b + total (divided b items) =
    total-cons (item.0, item.1 / b) (divided b items) in
    let n : total (item ∷ items) ≡ item.1 + total items = total-cons item items in
    omega arith

pub total-falls : (b : ℕ) (items : List (Literal × ℕ)) → 2 ≤ b → has_great items ≡ true
    → total (divided b items) < total items
total-falls b [] l e = absurd (true≢false (sym e))
total-falls b (item ∷ items) l e =
    let h : total (divided b items) ≤ total items = total-less b items l in
    let d : item.1 / b ≤ item.1 = div-le_self item.1 b in
    let m : total (divided b (item ∷ items)) ≡ item.1 / b + total (divided b items) =
    total-cons (item.0, item.1 / b) (divided b items) in
    let n : total (item ∷ items) ≡ item.1 + total items = total-cons item items in
    ⊎_elim (λ g.
    let k : 8 ≤ item.1 = leb-true 8 item.1 g in
    let o : 0 < item.1 = omega arith in
    let t : 1 < b = omega arith in
    let f : item.1 / b < item.1 = div-lt_self o t in
    omega arith)
    (λ g.
    let f : total (divided b items) < total items = total-falls b items l g in
    omega arith)
    (or_cases (leb 8 item.1) (has_great items) e)

-- ---- how large a base may be

cut-most : (bound : ℕ) (items : List (Literal × ℕ))
    → AllByRecursion (λ item. item.1 ≤ bound) (cut_to bound items)
cut-most bound [] = tt
cut-most bound (item ∷ items) = (omega arith, cut-most bound items)

great-most : (bound base : ℕ) (items : List (Literal × ℕ)) → AllByRecursion (λ item. item.1 ≤ bound) items
    → has_great (divided base items) ≡ true → 8 * base ≤ bound
great-most bound base [] h e = absurd (true≢false (sym e))
great-most bound base (item ∷ items) h e =
    ⊎_elim (λ g.
    let l : 8 ≤ item.1 / base = leb-true 8 (item.1 / base) g in
    let m : item.1 / base * base ≤ item.1 = div-mul-le_self item.1 base in
    let n : 8 * base ≤ item.1 / base * base = mul-le 8 base (item.1 / base) base l (omega arith) in
    let k : item.1 ≤ bound = h.0 in
    omega arith)
    (λ g. great-most bound base items h.1 g)
    (or_cases (leb 8 (item.1 / base)) (has_great (divided base items)) e)

pub great-base : (bound base : ℕ) (items : List (Literal × ℤ))
    → has_great (at_level bound base items) ≡ true → 8 * base ≤ bound
great-base bound base items e =
    great-most bound base (cut_weights bound items) (cut-most bound (weighty (naturals items))) e

neither : (s t : Bool) → (s || t) ≡ false → (s ≡ false) × (t ≡ false)
neither true t e = absurd (true≢false e)
neither false t e = (refl, e)

pub none-rest : (items : List (Literal × ℕ)) → has_great items ≡ false → rest_sum 8 items ≡ total items
none-rest [] e = refl
none-rest (item ∷ items) e =
    let p : (leb 8 item.1 ≡ false) × (has_great items ≡ false) =
    neither (leb 8 item.1) (has_great items) e in
    sum_by-cons (λ item. item.1 % 8) item items
    ∙ (ap (λ n. n + rest_sum 8 items) (mod-eq_of_lt (leb-false 8 item.1 p.0))
    ∙ (ap (λ n. item.1 + n) (none-rest items p.1) ∙ sym (total-cons item items)))
