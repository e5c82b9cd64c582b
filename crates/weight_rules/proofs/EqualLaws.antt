-- Items of one weight.
use Rattle.std.proofs.Common.{◌≡◌, refl, sym, ◌∙◌, ap, ℕ, suc, ◌+◌, ◌*◌, ◌/◌, ◌-◌, ◌≤◌, ◌<◌, ◌==◌, Bool, true, false, cond, leb, List, [], ◌∷◌, map, length, get_or, ⊎_elim, arith}
use Rattle.std.specs.List.{list_all}
use Rattle.std.proofs.lemmas.Bool.{cases_lt, eqb-true, and_parts, le-leb}
use Rattle.std.proofs.lemmas.Nat.{div_below, le-div}
use Rattle.std.proofs.Math.Nat.{add-mul, mul-add, mul_comm}
use Rattle.asp_base.specs.Literal.{Literal}
use Rattle.asp_base.specs.Sets.{Set}
use Rattle.asp_base.proofs.Each.{each-map}
use Rattle.ground_program.specs.Radix.{total}
use Rattle.ground_program.specs.Room.{first_weight, are_equal, equal_measure, least_number, levels_measure, items_measure}
use Rattle.ground_program.specs.private.Levels.{AreCut}
use Rattle.ground_program.proofs.RoomLaws.{items-equal, items-levels}
use Rattle.rule_network.specs.Block.{Block, Known, AllKnown, value, values}
use Rattle.rule_network.specs.Truths.{count}
use Rattle.weight_rules.specs.private.Kept.{ItemsKnown}
use Rattle.weight_rules.specs.private.Levels.{held, truths}
use Rattle.weight_rules.proofs.RadixLaws.{leb-same}

pub lits-known : (net : Block) (items : List (Literal × ℕ)) → ItemsKnown net items
    → AllKnown net (map (λ item. item.0) items)
lits-known net items k = each-map (Known net) (λ item. item.0) items k

held-equal : (net : Block) (X M : Set) (w : ℕ) (items : List (Literal × ℕ))
    → list_all (λ item. item.1 == w) items ≡ true
    → held (truths net X M items) ≡ w * count (values net X M (map (λ item. item.0) items))
held-equal net X M w [] h = omega arith
held-equal net X M w (item ∷ items) h =
    let p : ((item.1 == w) ≡ true) × (list_all (λ i. i.1 == w) items ≡ true) =
    and_parts (item.1 == w) (list_all (λ i. i.1 == w) items) h in
    one (value net X M item.0) item.1 (held (truths net X M items))
    (count (values net X M (map (λ item. item.0) items)))
    (eqb-true item.1 w p.0) (held-equal net X M w items p.1)
  where
    one : (t : Bool) (v s n : ℕ) → v ≡ w → s ≡ w * n → cond t v 0 + s ≡ w * cond t (suc n) n
    one true v s n e f =
        let m : w * (1 + n) ≡ w * 1 + w * n = mul-add w 1 n in
        let c : w * suc n ≡ w * (1 + n) = ap (λ x. w * x) (omega arith) in
        omega arith
    one false v s n e f = omega arith

-- at least so many of equal weights reach the bound
equal-reaches : (bound w n : ℕ) → 0 < w → leb bound (w * n) ≡ leb (least_number bound w) n
equal-reaches bound w n o =
    let c : w * n ≡ n * w = mul_comm w n in
    leb-same bound (w * n) (least_number bound w) n
    (λ l.
    let m : (n + 1) * w ≡ n * w + 1 * w = add-mul n 1 w in
    let d : (bound + w - 1) / w < n + 1 = div_below (bound + w - 1) w (n + 1) o (omega arith) in
    omega arith)
    (λ l. ⊎_elim (λ s.
    let m : (n + 1) * w ≡ n * w + 1 * w = add-mul n 1 w in
    let d : n + 1 ≤ (bound + w - 1) / w = le-div (n + 1) (bound + w - 1) w o (omega arith) in
    absurd (omega arith))
    (λ s. s) (cases_lt (w * n) bound))

pub equal-test : (net : Block) (X M : Set) (bound w : ℕ) (items : List (Literal × ℕ)) → 0 < w
    → list_all (λ item. item.1 == w) items ≡ true
    → leb (least_number bound w) (count (values net X M (map (λ item. item.0) items)))
    ≡ leb bound (held (truths net X M items))
equal-test net X M bound w items o h =
    sym (equal-reaches bound w (count (values net X M (map (λ item. item.0) items))) o)
    ∙ ap (leb bound) (sym (held-equal net X M w items h))

pub total-test : (bound : ℕ) (items : List (Literal × ℕ)) → bound ≤ total items
    → leb bound (total items) ≡ true
total-test bound items l = le-leb bound (total items) l

-- ---- the first weight

pub some-items : (items : List (Literal × ℕ)) (bound : ℕ) → 0 < bound → bound ≤ total items
    → 0 < length items
some-items [] bound o l = absurd (omega arith)
some-items (item ∷ items) bound o l = omega arith

first-is : (items : List (Literal × ℕ)) (d : Literal × ℕ) → 0 < length items
    → (get_or items 0 d).1 ≡ first_weight items
first-is [] d o = absurd (omega arith)
first-is (item ∷ items) d o = refl

pub first-cut : (bound : ℕ) (items : List (Literal × ℕ)) (d : Literal × ℕ) → 0 < length items
    → AreCut bound items
    → (0 < (get_or items 0 d).1) × ((get_or items 0 d).1 ≤ bound)
first-cut bound [] d o h = absurd (omega arith)
first-cut bound (item ∷ items) d o h = h.0

-- the test of all weights by the first
first-test : (items : List (Literal × ℕ)) (d : Literal × ℕ) (t : Bool) → 0 < length items
    → list_all (λ item. item.1 == (get_or items 0 d).1) items ≡ t → are_equal items ≡ t
first-test items d t o e =
    ap (λ w. list_all (λ item. item.1 == w) items) (sym (first-is items d o)) ∙ e

-- the measure of items, by that test

pub equal-measured : (bound : ℕ) (items : List (Literal × ℕ)) (d : Literal × ℕ) → 0 < length items
    → list_all (λ item. item.1 == (get_or items 0 d).1) items ≡ true
    → items_measure bound items
    ≡ equal_measure (least_number bound (get_or items 0 d).1) (length items)
equal-measured bound items d o e =
    items-equal bound items (first-test items d true o e)
    ∙ ap (λ w. equal_measure (least_number bound w) (length items)) (sym (first-is items d o))

pub levels-measured : (bound : ℕ) (items : List (Literal × ℕ)) (d : Literal × ℕ) → 0 < length items
    → list_all (λ item. item.1 == (get_or items 0 d).1) items ≡ false
    → items_measure bound items ≡ levels_measure 64 bound items 0
levels-measured bound items d o e = items-levels bound items (first-test items d false o e)
