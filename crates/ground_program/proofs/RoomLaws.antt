-- The measures of sums and rules, as they are counted over the items as they stand.
use Rattle.std.proofs.Common.{◌≡◌, refl, sym, ◌∙◌, ap, subst, ℕ, zero, suc, ◌+◌, ◌*◌, ◌/◌, ◌-◌, ◌≤◌, ◌<◌, ◌||◌, ◌==◌, ◌^◌, min, ℤ, pos, negsuc, neg_ℤ, ◌≤ℤ◌, to_z, of_z, w64, Bool, true, false, cond, leb, List, [], ◌∷◌, length, arith}
use Rattle.std.proofs.lemmas.Int.{to_z-of_z, ints}
use Rattle.std.specs.Bool.{⊤}
use Rattle.std.specs.List.{list_all, AllByRecursion}
use Rattle.std.proofs.lemmas.Bool.{leb-true, lt-leb, true≢false, and_parts, eqb-true, eq-eqb, ne_eqb, cond-true, cond-false}
use Rattle.std.proofs.lemmas.Nat.{div_below}
use Rattle.std.proofs.Math.Nat.{pow-suc, add-mul, mul_comm}
use Rattle.asp_base.specs.Literal.{Literal}
use Rattle.asp_base.proofs.Each.{each-weaker}
use Rattle.ground_program.specs.Facts.{BodyFits, RuleFits, FitsWeight}
use Rattle.ground_program.specs.Radix.{number_of, naturals, weighty, cut_to, cut_weights, total, has_great, rest_sum, best_radix, tare_of, divided}
use Rattle.ground_program.specs.Room.{network_measure, equal_measure, first_weight, are_equal, least_number, levels_measure, items_measure, sum_measure, head_term}
use Rattle.ground_program.specs.declared.program.Head.{Head}
use Rattle.ground_program.specs.declared.program.Head.TheVariants.{Nothing, One, Choice}
use Rattle.ground_program.specs.declared.program.Body.{Body}
use Rattle.ground_program.specs.declared.program.Body.TheVariants.{All, Sum}
use Rattle.ground_program.specs.declared.program.Rule.{Rule}
use Rattle.ground_program.specs.private.Levels.{AllBelow, AreCut}
use Rattle.ground_program.proofs.RadixLaws.{total-cons}

-- ---- the levels

pub none-great : (items : List (Literal × ℕ)) → AllBelow 8 items → has_great items ≡ false
none-great [] h = refl
none-great (item ∷ items) h = go (leb 8 item.1) (lt-leb 8 item.1 h.0) (none-great items h.1)
  where
    go : (t : Bool) → t ≡ false → has_great items ≡ false → (t || has_great items) ≡ false
    go true e k = absurd (true≢false e)
    go false e k = k

halved : (b m n : ℕ) → 2 ≤ b → m < 2 * n → m / b < n
halved b m n l h = div_below m b n (omega arith) (let p : n * 2 ≤ n * b = more n b l in omega arith)
  where
    more : (n b : ℕ) → 2 ≤ b → n * 2 ≤ n * b
    more zero b l = omega arith
    more (suc n) b l =
        let h : n * 2 ≤ n * b = more n b l in
        let e : (n + 1) * b ≡ n * b + 1 * b = add-mul n 1 b in
        let f : suc n * b ≡ (n + 1) * b = ap (λ x. x * b) (omega arith) in
        omega arith

all-halved : (b n : ℕ) (items : List (Literal × ℕ)) → 2 ≤ b → AllBelow (2 * n) items
    → AllBelow n (divided b items)
all-halved b n [] l h = tt
all-halved b n (item ∷ items) l h = (halved b item.1 n l h.0, all-halved b n items l h.1)

pub all-next : (b levels : ℕ) (items : List (Literal × ℕ)) → 2 ≤ b → AllBelow (8 * 2 ^ suc levels) items
    → AllBelow (8 * 2 ^ levels) (divided b items)
all-next b levels items l h =
    all-halved b (8 * 2 ^ levels) items l
    (subst (λ n. AllBelow n items) (let e : 2 ^ suc levels ≡ 2 ^ levels * 2 = pow-suc 2 levels in omega arith) h)

next : ℕ → List (Literal × ℕ) → ℕ → ℕ → ℕ → ℕ → ℕ
next levels items bound carries b t =
    network_measure (rest_sum b items + carries)
    + levels_measure levels ((bound + t) / b) (divided b items) ((rest_sum b items + carries + t) / b)

pub levels-top : (levels bound carries : ℕ) (items : List (Literal × ℕ)) → has_great items ≡ false
    → levels_measure levels bound items carries ≡ network_measure (total items + carries)
unfolding next
levels-top zero bound carries items e = refl
levels-top (suc levels) bound carries items e =
    ap (λ t. cond t (next levels items bound carries (best_radix items) (tare_of bound (best_radix items)))
    (network_measure (total items + carries))) e

levels-next : (levels bound carries b t : ℕ) (items : List (Literal × ℕ)) → has_great items ≡ true
    → b ≡ best_radix items → t ≡ tare_of bound b
    → levels_measure (suc levels) bound items carries ≡ next levels items bound carries b t
unfolding next
levels-next levels bound carries b t items e best is =
    ap (λ g. cond g (next levels items bound carries (best_radix items) (tare_of bound (best_radix items)))
    (network_measure (total items + carries))) e
    ∙ (ap (λ c. next levels items bound carries c (tare_of bound c)) (sym best)
    ∙ ap (next levels items bound carries b) (sym is))

capped : (v a m x : ℕ) → a ≡ min m (2 ^ 63) → x ≡ v + m → min (v + a) (2 ^ 63) ≡ min x (2 ^ 63)
capped v a m x e f = omega arith

pub levels-say : (levels bound carries b t r v a : ℕ) (items above : List (Literal × ℕ))
    → has_great items ≡ true → 2 ≤ b → b ≡ best_radix items → t ≡ tare_of bound b
    → r ≡ rest_sum b items → v ≡ network_measure (r + carries) → divided b items ≡ above
    → ((l : ℕ) → AllBelow (8 * 2 ^ l) above
    → a ≡ min (levels_measure l ((bound + t) / b) above ((r + carries + t) / b)) (2 ^ 63))
    → AllBelow (8 * 2 ^ levels) items
    → min (v + a) (2 ^ 63) ≡ min (levels_measure levels bound items carries) (2 ^ 63)
unfolding next
levels-say zero bound carries b t r v a items above e low best is rest net up h below =
    absurd (true≢false (sym e ∙ none-great items below))
levels-say (suc l) bound carries b t r v a items above e low best is rest net up h below =
    capped v a (levels_measure l ((bound + t) / b) above ((r + carries + t) / b))
    (levels_measure (suc l) bound items carries)
    (h l (subst (AllBelow (8 * 2 ^ l)) up (all-next b l items low below)))
    (levels-next l bound carries b t items e best is
    ∙ (ap (λ n. network_measure (n + carries)
    + levels_measure l ((bound + t) / b) (divided b items) ((n + carries + t) / b)) (sym rest)
    ∙ (ap (λ xs. network_measure (r + carries)
    + levels_measure l ((bound + t) / b) xs ((r + carries + t) / b)) up
    ∙ ap (λ n. n + levels_measure l ((bound + t) / b) above ((r + carries + t) / b)) (sym net))))

-- ---- cut weights

pub weights-cut : (bound : ℕ) (items : List (Literal × ℤ)) → 0 < bound → AreCut bound (cut_weights bound items)
weights-cut bound items o = go (naturals items)
  where
    kept : (t : Bool) (item : Literal × ℕ) (rest : List (Literal × ℕ)) → (item.1 == 0) ≡ t
        → AreCut bound (cut_to bound rest) → AreCut bound (cut_to bound (cond t rest (item ∷ rest)))
    kept true item rest e h = h
    kept false item rest e h = (some item.1 e, h)
      where
        some : (w : ℕ) → (w == 0) ≡ false → (0 < min w bound) × (min w bound ≤ bound)
        some zero e = absurd (true≢false e)
        some (suc w) e = (omega arith, omega arith)

    go : (items : List (Literal × ℕ)) → AreCut bound (cut_to bound (weighty items))
    go [] = tt
    go (item ∷ items) = kept (item.1 == 0) item (weighty items) refl (go items)

pub all-below : (bound : ℕ) (items : List (Literal × ℕ)) → bound < 2 ^ 63 → AreCut bound items
    → AllBelow (8 * 2 ^ 64) items
all-below bound [] l h = tt
all-below bound (item ∷ items) l h = (let m : item.1 ≤ bound = h.0.1 in omega arith, all-below bound items l h.1)

pub first-weight_cut : (bound : ℕ) (items : List (Literal × ℕ)) → 0 < bound → AreCut bound items
    → (0 < first_weight items) × (first_weight items ≤ bound)
first-weight_cut bound [] o h = (omega arith, omega arith)
first-weight_cut bound (item ∷ items) o h = h.0

-- ---- one weight for all

equal-total : (w : ℕ) (items : List (Literal × ℕ)) → list_all (λ item. item.1 == w) items ≡ true
    → total items ≡ w * length items
equal-total w [] e = let m : w * 0 ≡ 0 = omega arith in sym m
equal-total w (item ∷ items) e =
    let k : ((item.1 == w) ≡ true) × (list_all (λ i. i.1 == w) items ≡ true) =
    and_parts (item.1 == w) (list_all (λ i. i.1 == w) items) e in
    let h : total items ≡ w * length items = equal-total w items k.1 in
    let i : item.1 ≡ w = eqb-true item.1 w k.0 in
    let n : total (item ∷ items) ≡ item.1 + total items = total-cons item items in
    let m : w * suc (length items) ≡ suc (length items) * w = mul_comm w (suc (length items)) in
    let a : (length items + 1) * w ≡ length items * w + 1 * w = add-mul (length items) 1 w in
    let f : suc (length items) * w ≡ (length items + 1) * w = ap (λ x. x * w) (omega arith) in
    let c : w * length items ≡ length items * w = mul_comm w (length items) in
    omega arith

pub least_number-most : (bound w : ℕ) (items : List (Literal × ℕ)) → 0 < w
    → list_all (λ item. item.1 == w) items ≡ true → leb bound (total items) ≡ true
    → least_number bound w ≤ length items
least_number-most bound w items o e l =
    let b : bound ≤ total items = leb-true bound (total items) l in
    let t : total items ≡ w * length items = equal-total w items e in
    let c : w * length items ≡ length items * w = mul_comm w (length items) in
    let a : (length items + 1) * w ≡ length items * w + 1 * w = add-mul (length items) 1 w in
    let h : (bound + w - 1) / w < length items + 1 =
    div_below (bound + w - 1) w (length items + 1) o (omega arith) in
    omega arith

-- ---- the whole

pub items-equal : (bound : ℕ) (items : List (Literal × ℕ)) → are_equal items ≡ true
    → items_measure bound items ≡ equal_measure (least_number bound (first_weight items)) (length items)
items-equal bound items e = cond-true (are_equal items) _ _ e

pub items-levels : (bound : ℕ) (items : List (Literal × ℕ)) → are_equal items ≡ false
    → items_measure bound items ≡ levels_measure 64 bound items 0
items-levels bound items e = cond-false (are_equal items) _ _ e

pub sum-unasked : (bound : ℤ) (items : List (Literal × ℤ)) → number_of bound ≡ 0 → sum_measure bound items ≡ 0
sum-unasked bound items e = cond-true (number_of bound == 0) _ _ (eq-eqb (number_of bound) 0 e)

pub sum-unreached : (bound : ℤ) (items : List (Literal × ℤ))
    → leb (number_of bound) (total (cut_weights (number_of bound) items)) ≡ false → sum_measure bound items ≡ 0
sum-unreached bound items e = go (number_of bound == 0) (cond-false _ _ _ e)
  where
    go : (t : Bool) {n : ℕ} → n ≡ 0 → cond t 0 n ≡ 0
    go true f = refl
    go false f = f

pub sum-reached : (bound : ℤ) (items : List (Literal × ℤ)) → (number_of bound ≡ 0 → ⊥)
    → leb (number_of bound) (total (cut_weights (number_of bound) items)) ≡ true
    → sum_measure bound items ≡ items_measure (number_of bound) (cut_weights (number_of bound) items)
sum-reached bound items o e =
    cond-false (number_of bound == 0) _ _ (ne_eqb (number_of bound) 0 o) ∙ cond-true _ _ _ e

-- a bound, as it is passed on
pub bound-back : (bound : ℤ) → FitsWeight bound → to_z w64 (of_z w64 bound) ≡ bound
bound-back (pos n) f =
    let h : pos n ≤ℤ pos (2 ^ 31 - 1) = f.1 in
    let l : n < 2 ^ 63 = omega (arith, ints) in
    to_z-of_z w64 (pos n) (record { sfits = l })
bound-back (negsuc n) f =
    let h : neg_ℤ (pos (2 ^ 31 - 1)) ≤ℤ negsuc n = f.0 in
    let l : n < 2 ^ 63 = omega (arith, ints) in
    to_z-of_z w64 (negsuc n) (record { sfits = l })

pub head-capped : (head : Head) (part cut : ℕ) → cut ≡ min part (2 ^ 63)
    → min (head_term head cut) (2 ^ 63) ≡ min (head_term head part) (2 ^ 63)
head-capped Nothing part cut e = omega arith
head-capped (One a) part cut e = omega arith
head-capped (Choice as_) part cut e = omega arith

pub sum-capped : (m n : ℕ) → m ≡ min n (2 ^ 63) → min (1 + m) (2 ^ 63) ≡ min (1 + n) (2 ^ 63)
sum-capped m n e = omega arith

any-fits : (Fits : ℕ → Type 0) (body : Body) → BodyFits Fits body → BodyFits (λ a. ⊤) body
any-fits Fits (All lits) h = (h.0, each-weaker _ _ (λ l k. tt) lits h.1)
any-fits Fits (Sum bound items) h = (h.0, h.1, each-weaker _ _ (λ item k. (tt, k.1)) items h.2)

pub rules-measured : (Fits : ℕ → Type 0) (rules : List Rule) → AllByRecursion (RuleFits Fits) rules
    → AllByRecursion (λ rule. BodyFits (λ a. ⊤) rule.body) rules
rules-measured Fits rules h = each-weaker _ _ (λ rule k. any-fits Fits rule.body k.1) rules h
