-- Sums of what each level costs above its least, each times the scale of the levels below it, order as the lists of these do.
use Rattle.std.proofs.Common.{◌≡◌, ap, ℕ, ◌+◌, ◌*◌, ◌≤◌, ◌<◌, ◌↔◌, List, [], ◌∷◌, ⊎_elim, inl, inr, ◌⊎◌, arith, mul-le-mul_left, mul-add, mul-one}
use Rattle.std.proofs.lemmas.Bool.{cases_order}
use Rattle.symbol_map.specs.Scale.{total, scale_of}
use Rattle.ground_program.specs.declared.program.Level.{Level}

abbrev pub joined : List Level → List ℕ → ℕ
joined [] xs = 0
joined (level ∷ lower) [] = 0
joined (level ∷ lower) (x ∷ xs) = scale_of lower * x + joined lower xs

-- as many as there are levels, each at most the level's total
abbrev pub Fit : List Level → List ℕ → Type 0
Fit [] [] = Unit {0}
Fit [] (x ∷ xs) = ⊥
Fit (level ∷ lower) [] = ⊥
Fit (level ∷ lower) (x ∷ xs) = (x ≤ total level.items) × Fit lower xs

abbrev pub IsLess : List ℕ → List ℕ → Type 0
IsLess [] ys = ⊥
IsLess (x ∷ xs) [] = ⊥
IsLess (x ∷ xs) (y ∷ ys) = (x < y) ⊎ ((x ≡ y) × IsLess xs ys)

pub times-more : (s a b : ℕ) → a + 1 ≤ b → s * a + s ≤ s * b
times-more s a b h = let k : s * (a + 1) ≤ s * b = mul-le-mul_left s h in let e : s * (a + 1) ≡ s * a + s * 1 = mul-add s a 1 in let o : s * 1 ≡ s = mul-one s in omega arith

pub joined-below : (levels : List Level) (xs : List ℕ) → Fit levels xs → joined levels xs < scale_of levels
joined-below [] [] f = omega arith
joined-below [] (x ∷ xs) f = absurd f
joined-below (level ∷ lower) [] f = absurd f
joined-below (level ∷ lower) (x ∷ xs) f =
    let rest : joined lower xs < scale_of lower = joined-below lower xs f.1 in
    let fits : x ≤ total level.items = f.0 in
    let more : scale_of lower * x + scale_of lower ≤ scale_of lower * (total level.items + 1) = times-more (scale_of lower) x (total level.items + 1) (omega arith) in
    omega arith

pub joined-order : (levels : List Level) (xs ys : List ℕ) → Fit levels xs → Fit levels ys → (joined levels xs < joined levels ys) ↔ IsLess xs ys
joined-order [] [] [] f g = (λ h. absurd (omega arith), λ h. absurd h)
joined-order [] [] (y ∷ ys) f g = absurd g
joined-order [] (x ∷ xs) ys f g = absurd f
joined-order (level ∷ lower) [] ys f g = absurd f
joined-order (level ∷ lower) (x ∷ xs) [] f g = absurd g
joined-order (level ∷ lower) (x ∷ xs) (y ∷ ys) f g =
    let ih : (joined lower xs < joined lower ys) ↔ IsLess xs ys = joined-order lower xs ys f.1 g.1 in
    let left : joined lower xs < scale_of lower = joined-below lower xs f.1 in
    let right : joined lower ys < scale_of lower = joined-below lower ys g.1 in (
      λ h. ⊎_elim
          (λ e. inr (e, ih.0 (let k : scale_of lower * x ≡ scale_of lower * y = ap (λ n. scale_of lower * n) e in omega arith)))
          (λ c. ⊎_elim (λ l. inl l) (λ l. let more : scale_of lower * y + scale_of lower ≤ scale_of lower * x = times-more (scale_of lower) y x (omega arith) in absurd (omega arith)) c)
          (cases_order x y),
      λ h. ⊎_elim
          (λ l. let more : scale_of lower * x + scale_of lower ≤ scale_of lower * y = times-more (scale_of lower) x y (omega arith) in omega arith)
          (λ p. let k : scale_of lower * x ≡ scale_of lower * y = ap (λ n. scale_of lower * n) p.0 in let j : joined lower xs < joined lower ys = ih.1 p.1 in omega arith)
          h,
    )
