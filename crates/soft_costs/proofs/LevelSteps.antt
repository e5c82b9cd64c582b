-- Levels from an index on, that is, those of the lower priorities.
use Rattle.std.proofs.Common.{◌≡◌, refl, sym, ◌∙◌, ap, ap₂, subst, ℕ, zero, suc, ◌+◌, ◌-◌, ◌*◌, ◌^◌, ◌<◌, ◌≤◌, nat_lt, List, [], ◌∷◌, ◌++◌, length, drop, get_or, Some, None, arith, mul-add, mul-one}
use Rattle.std.specs.Prelude.{ℤ}
use Rattle.std.specs.List.{AllByRecursion}
use Rattle.std.proofs.lemmas.Bool.{cond-true, lt-ltb}
use Rattle.std.proofs.lemmas.List.{append_assoc, drop_more}
use Rattle.asp_base.specs.Literal.{Literal}
use Rattle.clause_store.specs.Soft.{with_soft}
use Rattle.clause_store.specs.Stored.{Stored}
use Rattle.clause_store.specs.declared.formula.SoftClause.{SoftClause}
use Rattle.symbol_map.specs.Scale.{total, scale_of}
use Rattle.ground_program.specs.declared.program.Level.{Level}
use Rattle.soft_costs.specs.Softening.{factors_of, if_too_large, soft_of, soft_of_items, too_large_at}
use Rattle.soft_costs.proofs.ScaleLaws.{times-more}

-- ---- a level and those below it

-- the level before an index, counted from 1
abbrev pub IsBefore : List Level → ℕ → Level → Type 0
IsBefore levels i x = (0 < i) × (i ≤ length levels) × (x ≡ get_or levels (i - 1) x)

pub level-here : (levels : List Level) (i : ℕ) (x : Level) → IsBefore levels i x → drop (i - 1) levels ≡ x ∷ drop i levels
level-here levels i x b =
    let more : drop (i - 1) levels ≡ get_or levels (i - 1) x ∷ drop (i - 1 + 1) levels = drop_more levels (i - 1) x (omega (arith, b.0, b.1)) in
    let up : i - 1 + 1 ≡ i = omega (arith, b.0) in
    more ∙ ap₂ (λ y k. y ∷ drop k levels) (sym b.2) up

same-level : (levels : List Level) (i : ℕ) (x y : Level) → IsBefore levels i x → IsBefore levels i y → x ≡ y
same-level levels i x y b d = ap (λ zs. get_or zs 0 x) (sym (level-here levels i x b) ∙ level-here levels i y d)

each-drop : (P : Level → Type 0) (levels : List Level) (n : ℕ) → AllByRecursion P levels → AllByRecursion P (drop n levels)
each-drop P levels zero h = h
each-drop P [] (suc n) h = h
each-drop P (level ∷ lower) (suc n) h = each-drop P lower n h.1

pub each-here : (P : Level → Type 0) (levels : List Level) (i : ℕ) (x : Level) → IsBefore levels i x → AllByRecursion P levels → P x
each-here P levels i x b h = (subst (AllByRecursion P) (level-here levels i x b) (each-drop P levels (i - 1) h)).0

-- ---- the scale

-- a product is at least its first factor where the second one is above 0
pub at-least : (s t : ℕ) → s ≤ s * (t + 1)
at-least s t = let k : s * 0 + s ≤ s * (t + 1) = times-more s 0 (t + 1) (omega arith) in omega arith

pub scale_of-above : (levels : List Level) → 0 < scale_of levels
scale_of-above [] = omega arith
scale_of-above (level ∷ lower) =
    let h : 0 < scale_of lower = scale_of-above lower in
    let k : scale_of lower ≤ scale_of lower * (total level.items + 1) = at-least (scale_of lower) (total level.items) in
    omega arith

scale_of-drop : (levels : List Level) (n : ℕ) → scale_of (drop n levels) ≤ scale_of levels
scale_of-drop levels zero = omega arith
scale_of-drop [] (suc n) = omega arith
scale_of-drop (level ∷ lower) (suc n) =
    let h : scale_of (drop n lower) ≤ scale_of lower = scale_of-drop lower n in
    let k : scale_of lower ≤ scale_of lower * (total level.items + 1) = at-least (scale_of lower) (total level.items) in
    omega arith

-- the weights of a level's soft clauses are below the whole scale
pub weights-below : (levels : List Level) (i : ℕ) (x : Level) → IsBefore levels i x → scale_of (drop i levels) * total x.items < scale_of levels
weights-below levels i x b =
    let s : ℕ = scale_of (drop i levels) in
    let t : ℕ = total x.items in
    let whole : scale_of (drop (i - 1) levels) ≤ scale_of levels = scale_of-drop levels (i - 1) in
    let here : scale_of (drop (i - 1) levels) ≡ s * (t + 1) = ap scale_of (level-here levels i x b) in
    let e : s * (t + 1) ≡ s * t + s * 1 = mul-add s t 1 in
    let one : s * 1 ≡ s = mul-one s in
    let above : 0 < s = scale_of-above (drop i levels) in
    omega (arith, whole, here, e, one, above)

-- ---- factors

pub length-factors : (levels : List Level) → length (factors_of levels) ≡ length levels
length-factors [] = refl
length-factors (level ∷ lower) = ap suc (length-factors lower)

factors-at : (levels : List Level) (n : ℕ) → n < length levels → get_or (factors_of levels) n 0 ≡ scale_of (drop (suc n) levels)
factors-at [] n h = absurd (omega arith)
factors-at (level ∷ lower) zero h = refl
factors-at (level ∷ lower) (suc n) h = factors-at lower n (omega arith)

pub factor-here : (factors : List ℕ) (levels : List Level) (i : ℕ) → factors ≡ factors_of levels → 0 < i → i ≤ length levels → get_or factors (i - 1) 0 ≡ scale_of (drop i levels)
factor-here factors levels zero e p h = absurd (omega (arith, p))
factor-here factors levels (suc n) e p h =
    let down : suc n - 1 ≡ n = omega arith in
    ap₂ (λ (fs : List ℕ) k. get_or fs k 0) e down ∙ factors-at levels n (omega (arith, h))

-- ---- where the scale passes

too_large-from_drop : (levels : List Level) (n : ℕ) (p : ℤ) → too_large_at (drop n levels) ≡ Some p → too_large_at levels ≡ Some p
too_large-from_drop levels zero p e = e
too_large-from_drop [] (suc n) p e = e
too_large-from_drop (level ∷ lower) (suc n) p e = ap (if_too_large (level ∷ lower) level.priority) (too_large-from_drop lower n p e)

-- the scale passes at this level, and at none below it
pub too_large-here : (levels : List Level) (i : ℕ) (x y : Level) → IsBefore levels i x → IsBefore levels i y → too_large_at (drop i levels) ≡ None
    → (scale_of (drop i levels) * (total x.items + 1) < 2 ^ 63 → ⊥) → too_large_at levels ≡ Some y.priority
too_large-here levels i x y b d e k =
    let big : 2 ^ 63 - 1 < scale_of (x ∷ drop i levels) = omega (arith, k) in
    too_large-from_drop levels (i - 1) y.priority
    (ap too_large_at (level-here levels i x b)
    ∙ (ap (if_too_large (x ∷ drop i levels) x.priority) e
    ∙ (cond-true (nat_lt (2 ^ 63 - 1) (scale_of (x ∷ drop i levels))) (Some x.priority) None (lt-ltb (2 ^ 63 - 1) (scale_of (x ∷ drop i levels)) big)
    ∙ ap (λ (z : Level). Some z.priority) (same-level levels i x y b d))))

-- ---- the soft clauses of one more level

with_soft-append : (xs ys : List SoftClause) (s : Stored) → with_soft ys (with_soft xs s) ≡ with_soft (xs ++ ys) s
with_soft-append xs ys s = ap (λ (clauses : List SoftClause). record s { soft = clauses }) (append_assoc s.soft xs ys)

pub soft-next : (levels : List Level) (i : ℕ) (x : Level) (f : ℕ) (items : List (Literal × ℤ)) (start old new : Stored) → IsBefore levels i x
    → f ≡ scale_of (drop i levels) → items ≡ x.items → old ≡ with_soft (soft_of (drop i levels)) start → new ≡ with_soft (soft_of_items f items) old
    → new ≡ with_soft (soft_of (drop (i - 1) levels)) start
soft-next levels i x f items start old new b e g p q =
    q
    ∙ (ap₂ (λ (cs : List SoftClause) (s : Stored). with_soft cs s) (ap₂ soft_of_items e g) p
    ∙ (with_soft-append (soft_of (drop i levels)) (soft_of_items (scale_of (drop i levels)) x.items) start
    ∙ ap (λ (ls : List Level). with_soft (soft_of ls) start) (sym (level-here levels i x b))))
