-- Levels that are written in parts are merged to what they were.
use Rattle.std.proofs.Common.{◌≡◌, refl, sym, ◌∙◌, ap, ◌<◌, List, [], ◌∷◌, ◌++◌, map, length, append_assoc, append-nil, arith}
use Rattle.std.specs.Prelude.{ℤ, ◌<ℤ◌, ◌≤ℤ◌}
use Rattle.std.specs.List.{AllByRecursion, flat_map}
use Rattle.std.proofs.lemmas.Int.{ints}
use Rattle.asp_base.specs.Literal.{Literal}
use Rattle.ground_program.specs.Draft.{into_levels, levels_onto}
use Rattle.ground_program.specs.Facts.{FallsFrom}
use Rattle.ground_program.specs.declared.program.Level.{Level}
use Rattle.ground_program.proofs.LevelLaws.{goes-into}
use Rattle.aspif_format.specs.Written.{parts}
use Rattle.asp_base.proofs.Each.{each-append, each-weaker}
use Rattle.aspif_format.proofs.PartLaws.{joined, joined-parts, some-parts}

abbrev pub level_at : ℤ → List (Literal × ℤ) → Level
level_at p items = record { priority = p; items = items }

-- a level for each part of a level
abbrev pub parts_of : Level → List Level
parts_of level = map (level_at level.priority) (parts level.items)

levels_onto-append : (levels xs ys : List Level) → levels_onto levels (xs ++ ys) ≡ levels_onto (levels_onto levels xs) ys
levels_onto-append levels [] ys = refl
levels_onto-append levels (x ∷ xs) ys = levels_onto-append (into_levels x levels) xs ys

abbrev Above : ℤ → List Level → Type 0
Above p levels = AllByRecursion (λ level. p <ℤ level.priority) levels

-- behind levels of higher priorities
behind-higher : (new : Level) (levels : List Level) → Above new.priority levels → into_levels new levels ≡ levels ++ (new ∷ [])
behind-higher new [] h = refl
behind-higher new (level ∷ levels) h =
    let above : new.priority <ℤ level.priority = h.0 in
    goes-into new level levels (λ made. made ≡ level ∷ (levels ++ (new ∷ [])))
    (λ l. absurd (omega (arith, ints)))
    (λ e. absurd (omega (arith, ints)))
    (λ l. ap (λ made. level ∷ made) (behind-higher new levels h.1))

-- behind the items of the same priority, which is the lowest
behind-same : (p : ℤ) (xs ys : List (Literal × ℤ)) (levels : List Level) → Above p levels
    → into_levels (level_at p ys) (levels ++ (level_at p xs ∷ [])) ≡ levels ++ (level_at p (xs ++ ys) ∷ [])
behind-same p xs ys [] h =
    goes-into (level_at p ys) (level_at p xs) [] (λ made. made ≡ level_at p (xs ++ ys) ∷ [])
    (λ l. absurd (omega (arith, ints)))
    (λ e. refl)
    (λ l. absurd (omega (arith, ints)))
behind-same p xs ys (level ∷ levels) h =
    let above : p <ℤ level.priority = h.0 in
    goes-into (level_at p ys) level (levels ++ (level_at p xs ∷ [])) (λ made. made ≡ level ∷ (levels ++ (level_at p (xs ++ ys) ∷ [])))
    (λ l. absurd (omega (arith, ints)))
    (λ e. absurd (omega (arith, ints)))
    (λ l. ap (λ made. level ∷ made) (behind-same p xs ys levels h.1))

-- more parts of the last level
more-parts : (p : ℤ) (xs : List (Literal × ℤ)) (more : List (List (Literal × ℤ))) (levels : List Level) → Above p levels
    → levels_onto (levels ++ (level_at p xs ∷ [])) (map (level_at p) more) ≡ levels ++ (level_at p (xs ++ joined more) ∷ [])
more-parts p xs [] levels h = ap (λ items. levels ++ (level_at p items ∷ [])) (sym (append-nil xs))
more-parts p xs (ys ∷ more) levels h =
    ap (λ made. levels_onto made (map (level_at p) more)) (behind-same p xs ys levels h)
    ∙ more-parts p (xs ++ ys) more levels h
    ∙ ap (λ items. levels ++ (level_at p items ∷ [])) (append_assoc xs ys (joined more))

all-parts : (p : ℤ) (lists : List (List (Literal × ℤ))) (levels : List Level) → 0 < length lists → Above p levels
    → levels_onto levels (map (level_at p) lists) ≡ levels ++ (level_at p (joined lists) ∷ [])
all-parts p [] levels some h = absurd (omega arith)
all-parts p (xs ∷ more) levels some h =
    ap (λ made. levels_onto made (map (level_at p) more)) (behind-higher (level_at p xs) levels h) ∙ more-parts p xs more levels h

one-level : (level : Level) (levels : List Level) → Above level.priority levels → levels_onto levels (parts_of level) ≡ levels ++ (level ∷ [])
one-level level levels h =
    all-parts level.priority (parts level.items) levels (some-parts level.items) h
    ∙ ap (λ items. levels ++ (level_at level.priority items ∷ [])) (joined-parts level.items)

-- from this priority on
abbrev FromOn : ℤ → List Level → Type 0
FromOn high levels = AllByRecursion (λ level. high ≤ℤ level.priority) levels

onto-merged : (high : ℤ) (levels done : List Level) → FallsFrom high levels → FromOn high done → levels_onto done (flat_map parts_of levels) ≡ done ++ levels
onto-merged high [] done falls from = sym (append-nil done)
onto-merged high (level ∷ levels) done falls from =
    let below : level.priority <ℤ high = falls.0 in
    let above : Above level.priority done = each-weaker (λ l. high ≤ℤ l.priority) (λ l. level.priority <ℤ l.priority) (λ l h. omega (arith, ints)) done from in
    let next : FromOn level.priority (done ++ (level ∷ [])) = each-append (λ l. level.priority ≤ℤ l.priority) done (level ∷ [])
    (each-weaker (λ l. high ≤ℤ l.priority) (λ l. level.priority ≤ℤ l.priority) (λ l h. omega (arith, ints)) done from) (omega (arith, ints), tt) in
    levels_onto-append done (parts_of level) (flat_map parts_of levels)
    ∙ ap (λ made. levels_onto made (flat_map parts_of levels)) (one-level level done above)
    ∙ onto-merged level.priority levels (done ++ (level ∷ [])) falls.1 next
    ∙ append_assoc done (level ∷ []) levels

pub levels-merged : (high : ℤ) (levels : List Level) → FallsFrom high levels → levels_onto [] (flat_map parts_of levels) ≡ levels
levels-merged high levels falls = onto-merged high levels [] falls tt
