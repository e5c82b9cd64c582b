-- Worked examples of plans, by computation.
use Rattle.std.proofs.Common.{◌≡◌, refl, ℤ, pos, List, [], ◌∷◌}
use Rattle.asp_base.specs.Literal.{Literal, Pos, Neg}
use Rattle.weight_rules.specs.Plan.{Follows}
use Rattle.weight_rules.specs.Sum.{all_weights}

items : List (Literal × ℤ)
items = (Pos 1, pos 6) ∷ (Pos 2, pos 10) ∷ (Neg 3, pos 15) ∷ []

-- 16 and a tare of 4 are 4 times the radix 5, with which 6, 10 and 15 leave 1 over
one-level : Follows items 16 (pos 5 ∷ []) (pos 4 ∷ []) 1 16 (pos 4)
unfolding items
one-level = (refl, refl, (refl, refl))

others : List (Literal × ℤ)
others = (Pos 1, pos 100) ∷ (Pos 2, pos 37) ∷ (Neg 3, pos 58) ∷ []

-- 120, 60, 30, 15 and, with a tare of 1, 8
four-levels : Follows others 120 (pos 2 ∷ pos 2 ∷ pos 2 ∷ pos 2 ∷ [])
    (pos 0 ∷ pos 0 ∷ pos 0 ∷ pos 1 ∷ []) 1 120 (pos 8)
unfolding others
four-levels = (refl, refl, (refl, refl, (refl, refl, (refl, refl, (refl, refl)))))

-- weights below 8 have the top level alone
no-level : Follows items 7 [] [] 1 7 (pos 7)
unfolding items
no-level = (refl, refl)

together : all_weights items ≡ pos 31
unfolding items
together = refl
