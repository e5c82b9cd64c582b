-- Items that are left out or cut reach the bound where the given ones do.
use Rattle.std.proofs.Common.{◌≡◌, refl, ◌∙◌, ap, ℕ, suc, ◌+◌, ◌≤◌, ◌==◌, min, ℤ, Bool, true, false, cond, leb, List, [], ◌∷◌, map, length, ⊎_elim, ◌⊎◌, inl, inr, arith}
use Rattle.std.specs.List.{AllByRecursion}
use Rattle.std.proofs.lemmas.Bool.{cases_lt, eqb-true}
use Rattle.std.proofs.lemmas.List.{length-map}
use Rattle.asp_base.specs.Literal.{Literal}
use Rattle.asp_base.proofs.Each.{each-map}
use Rattle.ground_program.specs.Radix.{number_of, naturals, weighty, cut_to, cut_weights, total}
use Rattle.ground_program.proofs.RadixLaws.{total-cons}
use Rattle.rule_network.specs.Block.{Block, Known}
use Rattle.weight_rules.specs.private.Kept.{ItemsKnown}
use Rattle.weight_rules.specs.private.Levels.{held}
use Rattle.weight_rules.proofs.RadixLaws.{leb-same}

-- ---- items of weight 0

held-weighty : (items : List (Bool × ℕ)) → held (weighty items) ≡ held items
held-weighty [] = refl
held-weighty (item ∷ items) = go (item.1 == 0) refl (held-weighty items)
  where
    nothing : (t : Bool) (w : ℕ) → w ≡ 0 → cond t w 0 ≡ 0
    nothing true w e = e
    nothing false w e = refl

    go : (b : Bool) → (item.1 == 0) ≡ b → held (weighty items) ≡ held items
        → held (cond b (weighty items) (item ∷ weighty items)) ≡ cond item.0 item.1 0 + held items
    go true e h =
        let z : cond item.0 item.1 0 ≡ 0 =
        nothing item.0 item.1 (eqb-true item.1 0 e) in omega arith
    go false e h = ap (λ n. cond item.0 item.1 0 + n) h

-- ---- weights above the bound

-- the cut sum reaches the bound, or nothing was cut that counts
cut-cases : (bound : ℕ) (items : List (Bool × ℕ))
    → (bound ≤ held (cut_to bound items)) ⊎ (held (cut_to bound items) ≡ held items)
cut-cases bound [] = inr refl
cut-cases bound (item ∷ items) =
    ⊎_elim (λ l. inl (omega arith))
    (λ e. one item.0 item.1 (held (cut_to bound items)) (held items) e) (cut-cases bound items)
  where
    one : (t : Bool) (w h k : ℕ) → h ≡ k
        → (bound ≤ cond t (min w bound) 0 + h) ⊎ (cond t (min w bound) 0 + h ≡ cond t w 0 + k)
    one true w h k e = ⊎_elim (λ l. inr (omega arith)) (λ l. inl (omega arith)) (cases_lt w bound)
    one false w h k e = inr (omega arith)

cut-less : (bound : ℕ) (items : List (Bool × ℕ)) → held (cut_to bound items) ≤ held items
cut-less bound [] = omega arith
cut-less bound (item ∷ items) =
    let h : held (cut_to bound items) ≤ held items = cut-less bound items in
    one item.0 item.1 (held (cut_to bound items)) (held items) h
  where
    one : (t : Bool) (w h k : ℕ) → h ≤ k → cond t (min w bound) 0 + h ≤ cond t w 0 + k
    one true w h k e = omega arith
    one false w h k e = omega arith

cut-reaches : (bound : ℕ) (items : List (Bool × ℕ))
    → leb bound (held (cut_to bound items)) ≡ leb bound (held items)
cut-reaches bound items =
    leb-same bound (held (cut_to bound items)) bound (held items)
    (λ l. let h : held (cut_to bound items) ≤ held items = cut-less bound items in omega arith)
    (λ l. ⊎_elim (λ k. k) (λ e. omega arith) (cut-cases bound items))

-- ---- the same of tests of literals

tests : (Literal → Bool) → List (Literal × ℕ) → List (Bool × ℕ)
tests f items = map (λ item. (f item.0, item.1)) items

tests-weighty : (f : Literal → Bool) (items : List (Literal × ℕ))
    → tests f (weighty items) ≡ weighty (tests f items)
unfolding tests
tests-weighty f [] = refl
tests-weighty f (item ∷ items) = go (item.1 == 0) (tests-weighty f items)
  where
    go : (b : Bool)
        → map (λ item. (f item.0, item.1)) (weighty items)
        ≡ weighty (map (λ item. (f item.0, item.1)) items)
        → map (λ item. (f item.0, item.1)) (cond b (weighty items) (item ∷ weighty items))
        ≡ cond b (weighty (map (λ item. (f item.0, item.1)) items))
        ((f item.0, item.1) ∷ weighty (map (λ item. (f item.0, item.1)) items))
    go true e = e
    go false e = ap (λ rest. (f item.0, item.1) ∷ rest) e

tests-cut : (f : Literal → Bool) (bound : ℕ) (items : List (Literal × ℕ))
    → tests f (cut_to bound items) ≡ cut_to bound (tests f items)
unfolding tests
tests-cut f bound [] = refl
tests-cut f bound (item ∷ items) =
    ap (λ rest. (f item.0, min item.1 bound) ∷ rest) (tests-cut f bound items)

pub kept-reaches : (f : Literal → Bool) (bound : ℕ) (items : List (Literal × ℕ))
    → leb bound (held (map (λ item. (f item.0, item.1)) (cut_to bound (weighty items))))
    ≡ leb bound (held (map (λ item. (f item.0, item.1)) items))
unfolding tests
kept-reaches f bound items =
    ap (λ bs. leb bound (held bs))
    (tests-cut f bound (weighty items) ∙ ap (cut_to bound) (tests-weighty f items))
    ∙ cut-reaches bound (weighty (tests f items))
    ∙ ap (leb bound) (held-weighty (tests f items))

-- all of them together
pub total-held : (items : List (Literal × ℕ))
    → total items ≡ held (map (λ item. (true, item.1)) items)
total-held [] = refl
total-held (item ∷ items) = total-cons item items ∙ ap (λ n. item.1 + n) (total-held items)

-- ---- what is kept

each-weighty : (P : Literal × ℕ → Type 0) (items : List (Literal × ℕ)) → AllByRecursion P items
    → AllByRecursion P (weighty items)
each-weighty P [] h = tt
each-weighty P (item ∷ items) h = go (item.1 == 0) (each-weighty P items h.1)
  where
    go : (b : Bool) → AllByRecursion P (weighty items)
        → AllByRecursion P (cond b (weighty items) (item ∷ weighty items))
    go true k = k
    go false k = (h.0, k)

pub weights-known : (net : Block) (bound : ℕ) (items : List (Literal × ℤ))
    → AllByRecursion (λ item. Known net item.0) items
    → ItemsKnown net (cut_weights bound items)
weights-known net bound items k =
    each-map (λ item. Known net item.0) (λ item. (item.0, min item.1 bound))
    (weighty (naturals items))
    (each-weighty (λ item. Known net item.0) (naturals items)
    (each-map (λ item. Known net item.0) (λ item. (item.0, number_of item.1)) items k))

length-weighty : (items : List (Literal × ℕ)) → length (weighty items) ≤ length items
length-weighty [] = omega arith
length-weighty (item ∷ items) = go (item.1 == 0) (length-weighty items)
  where
    go : (b : Bool) → length (weighty items) ≤ length items
        → length (cond b (weighty items) (item ∷ weighty items)) ≤ suc (length items)
    go true k = omega arith
    go false k = omega arith

pub weights-short : (bound : ℕ) (items : List (Literal × ℤ))
    → length (cut_weights bound items) ≤ length items
weights-short bound items =
    let e : length (cut_weights bound items) ≡ length (weighty (naturals items)) =
    length-map (weighty (naturals items)) (λ item. (item.0, min item.1 bound)) in
    let l : length (weighty (naturals items)) ≤ length (naturals items) =
    length-weighty (naturals items) in
    let n : length (naturals items) ≡ length items =
    length-map items (λ item. (item.0, number_of item.1)) in
    omega arith
