-- The levels of a lowered program have the weights of the program's levels, in their order.
use Rattle.std.proofs.Common.{◌≡◌, refl, ◌∙◌, ap, ap₂, ℕ, suc, ℤ, pos, int_lt, true, List, [], ◌∷◌, ◌++◌, map, reverse, append-nil, arith}
use mathlib.Core.List.{reverse_aux}
use Rattle.std.specs.List.{AllByRecursion}
use Rattle.std.proofs.lemmas.Bool.{cond-true}
use Rattle.std.proofs.lemmas.Int.{ints}
use Rattle.asp_base.specs.Literal.{Literal}
use Rattle.asp_base.specs.Sets.{Set}
use Rattle.ground_program.specs.Draft.{into_levels, levels_onto}
use Rattle.ground_program.specs.Facts.{Among, LevelFits}
use Rattle.ground_program.specs.Stable.{costs_of}
use Rattle.ground_program.specs.declared.program.Level.{Level}
use Rattle.smodels_format.specs.Lowering.{items_negatives_first}
use Rattle.smodels_format.specs.Parts.{levels_from}
use Rattle.smodels_format.proofs.LoweredBodies.{weight_of-in_order}
use Rattle.smodels_format.proofs.LoweredNear.{Near, weight-near}

-- the first priority lies below a number
abbrev Below : ℕ → List Level → Type 0
Below n [] = Unit {0}
Below n (level ∷ levels) = int_lt level.priority (pos n) ≡ true

into-first : (n : ℕ) (items : List (Literal × ℤ)) (levels : List Level) → Below n levels → into_levels (record { priority = pos n; items = items }) levels ≡ record { priority = pos n; items = items } ∷ levels
into-first n items [] h = refl
into-first n items (level ∷ levels) h = cond-true _ _ _ h

next-below : (n : ℕ) → int_lt (pos n) (pos (suc n)) ≡ true
next-below n = grind (arith, ints)

-- rising levels come out in the opposite order
costs-onto : (n : ℕ) (done levels : List Level) (M : Set) → Below n done →
    costs_of (levels_onto done (levels_from n (map (λ level. items_negatives_first level.items) levels))) M ≡ reverse_aux (costs_of levels M) (costs_of done M)
costs-onto n done [] M h = refl
costs-onto n done (level ∷ levels) M h =
    let new : Level = record { priority = pos n; items = items_negatives_first level.items } in
    ap (λ ls. costs_of (levels_onto ls (levels_from (suc n) (map (λ level. items_negatives_first level.items) levels))) M) (into-first n (items_negatives_first level.items) done h)
    ∙ (costs-onto (suc n) (new ∷ done) levels M (next-below n)
    ∙ ap (λ w. reverse_aux (costs_of levels M) (w ∷ costs_of done M)) (weight_of-in_order level.items M M))

twice : (M : Set) (levels done : List Level) (ws : List ℤ) → reverse_aux (costs_of (reverse_aux levels done) M) ws ≡ reverse_aux (costs_of done M) (costs_of levels M ++ ws)
twice M [] done ws = refl
twice M (level ∷ levels) done ws = twice M levels (level ∷ done) ws

costs-near : (atoms : List ℕ) (N M : Set) → Near atoms N M → (levels : List Level) → AllByRecursion (LevelFits (Among atoms)) levels → costs_of levels N ≡ costs_of levels M
costs-near atoms N M near [] f = refl
costs-near atoms N M near (level ∷ levels) f = ap₂ ◌∷◌ (weight-near atoms N M N M near near _ level.items f.0) (costs-near atoms N M near levels f.1)

pub costs-same : (atoms : List ℕ) (N M : Set) → Near atoms N M → (levels : List Level) → AllByRecursion (LevelFits (Among atoms)) levels →
    costs_of (levels_onto [] (levels_from 0 (map (λ level. items_negatives_first level.items) (reverse levels)))) N ≡ costs_of levels M
costs-same atoms N M near levels f = costs-onto 0 [] (reverse levels) N tt ∙ (twice N levels [] [] ∙ (append-nil _ ∙ costs-near atoms N M near levels f))
