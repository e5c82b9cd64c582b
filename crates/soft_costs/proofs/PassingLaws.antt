-- Where the scale passes, and that it is of the weights alone.
use Rattle.std.proofs.Common.{◌≡◌, refl, sym, ◌∙◌, ap, ap₂, ◌+◌, ◌-◌, ◌*◌, ◌^◌, ◌<◌, ◌≤◌, ◌↔◌, nat_lt, Bool, true, false, cond, List, [], ◌∷◌, map, Some, None, arith}
use Rattle.std.specs.Prelude.{ℤ, ◌+ℤ◌, pos, int_lt, nat_abs}
use Rattle.std.specs.declared.option.Option.{Option}
use Rattle.std.proofs.lemmas.Bool.{ltb-true, ltb-false, le-ltb}
use Rattle.std.proofs.lemmas.Option.{none-some, same_Some}
use Rattle.asp_base.specs.Literal.{Literal}
use Rattle.symbol_map.specs.Scale.{total, scale_of, offset_of}
use Rattle.ground_program.specs.declared.program.Level.{Level}
use Rattle.soft_costs.specs.Passing.{PassesAt, renamed}
use Rattle.soft_costs.specs.Softening.{if_too_large, offsets_of, too_large_at}
use Rattle.soft_costs.proofs.LevelSteps.{at-least}

-- ---- where it passes

fits : (levels : List Level) → too_large_at levels ≡ None → scale_of levels < 2 ^ 63
fits [] e = omega arith
fits (level ∷ lower) e = go (too_large_at lower) (nat_lt (2 ^ 63 - 1) (scale_of (level ∷ lower))) refl e
  where
    go : (found : Option ℤ) (b : Bool) → nat_lt (2 ^ 63 - 1) (scale_of (level ∷ lower)) ≡ b → if_too_large (level ∷ lower) level.priority found ≡ None → scale_of (level ∷ lower) < 2 ^ 63
    go (Some p) b h f = absurd (none-some p (sym f))
    go None true h f = absurd (none-some level.priority (sym (sym (ap (λ t. cond t (Some level.priority) None) h) ∙ f)))
    go None false h f = let k : scale_of (level ∷ lower) ≤ 2 ^ 63 - 1 = ltb-false (2 ^ 63 - 1) (scale_of (level ∷ lower)) h in omega (arith, k)

none-passes : (levels : List Level) → scale_of levels < 2 ^ 63 → too_large_at levels ≡ None
none-passes [] h = refl
none-passes (level ∷ lower) h =
    let below : scale_of lower ≤ scale_of lower * (total level.items + 1) = at-least (scale_of lower) (total level.items) in
    let test : nat_lt (2 ^ 63 - 1) (scale_of (level ∷ lower)) ≡ false = le-ltb (2 ^ 63 - 1) (scale_of (level ∷ lower)) (omega (arith, h)) in
    ap (if_too_large (level ∷ lower) level.priority) (none-passes lower (omega (arith, h, below)))
    ∙ ap (λ t. cond t (Some level.priority) None) test

pub too_large-fits : (levels : List Level) → (too_large_at levels ≡ None) ↔ (scale_of levels < 2 ^ 63)
too_large-fits levels = (fits levels, none-passes levels)

pub too_large-first : (levels : List Level) (priority : ℤ) → too_large_at levels ≡ Some priority → PassesAt levels priority
too_large-first [] priority e = absurd (none-some priority e)
too_large-first (level ∷ lower) priority e = go (too_large_at lower) refl (nat_lt (2 ^ 63 - 1) (scale_of (level ∷ lower))) refl (λ p f. too_large-first lower p f) e
  where
    go : (found : Option ℤ) → too_large_at lower ≡ found → (b : Bool) → nat_lt (2 ^ 63 - 1) (scale_of (level ∷ lower)) ≡ b → ((p : ℤ) → too_large_at lower ≡ Some p → PassesAt lower p)
        → if_too_large (level ∷ lower) level.priority found ≡ Some priority → PassesAt (level ∷ lower) priority
    go (Some p) f b h again g =
        let at : PassesAt lower p = again p f in
        (level ∷ at.0, at.1, at.2, ap (λ ls. level ∷ ls) at.3, at.4, at.5, at.6 ∙ same_Some p priority g)
    go None f true h again g =
        let k : 2 ^ 63 - 1 < scale_of (level ∷ lower) = ltb-true (2 ^ 63 - 1) (scale_of (level ∷ lower)) h in
        ([], lower, level, refl, fits lower f, omega (arith, k), same_Some level.priority priority (sym (ap (λ t. cond t (Some level.priority) None) h) ∙ g))
    go None f false h again g = absurd (none-some priority (sym (ap (λ t. cond t (Some level.priority) None) h) ∙ g))

-- ---- weights alone

total-renamed : (f : Literal → Literal) (items : List (Literal × ℤ)) → total (map (λ item. (f item.0, item.1)) items) ≡ total items
total-renamed f [] = refl
total-renamed f (item ∷ items) = ap (λ n. nat_abs item.1 + n) (total-renamed f items)

offset-renamed : (f : Literal → Literal) (items : List (Literal × ℤ)) → offset_of (map (λ item. (f item.0, item.1)) items) ≡ offset_of items
offset-renamed f [] = refl
offset-renamed f (item ∷ items) = ap (λ z. cond (int_lt item.1 (pos 0)) item.1 (pos 0) +ℤ z) (offset-renamed f items)

pub scale_of-renamed : (f : Literal → Literal) (levels : List Level) → scale_of (map (renamed f) levels) ≡ scale_of levels
scale_of-renamed f [] = refl
scale_of-renamed f (level ∷ lower) = ap₂ (λ s t. s * (t + 1)) (scale_of-renamed f lower) (total-renamed f level.items)

pub offsets_of-renamed : (f : Literal → Literal) (levels : List Level) → offsets_of (map (renamed f) levels) ≡ offsets_of levels
offsets_of-renamed f [] = refl
offsets_of-renamed f (level ∷ lower) = ap₂ ◌∷◌ (offset-renamed f level.items) (offsets_of-renamed f lower)

pub too_large-renamed : (f : Literal → Literal) (levels : List Level) → too_large_at (map (renamed f) levels) ≡ too_large_at levels
too_large-renamed f [] = refl
too_large-renamed f (level ∷ lower) =
    ap (if_too_large (map (renamed f) (level ∷ lower)) level.priority) (too_large-renamed f lower)
    ∙ go (too_large_at lower)
  where
    go : (found : Option ℤ) → if_too_large (map (renamed f) (level ∷ lower)) level.priority found ≡ if_too_large (level ∷ lower) level.priority found
    go (Some p) = refl
    go None = ap (λ n. cond (nat_lt (2 ^ 63 - 1) n) (Some level.priority) None) (scale_of-renamed f (level ∷ lower))
