-- The equations of a strong ranking (I. Niemelä, Stable models and difference logic, 2008), which the ranks by rounds
-- solve alone.
use Rattle.std.specs.Prelude.{◌≡◌, ℕ, suc, ◌<◌, Bool, true, false, not, ◌&&◌, ◌||◌, ltb, leb, List, [], ◌∷◌}
use Rattle.std.specs.List.{list_any, list_all}
use Rattle.asp_base.specs.Sets.{Set}
use Rattle.ground_program.specs.Stable.{holds, head_has}
use Rattle.ground_program.specs.declared.program.Rule.{Rule}
use Rattle.level_ranking.specs.Encoding.{body_in}

-- the rule has the head a, and its body holds
abbrev pub gives : Set → ℕ → Rule → Bool
gives M a rule = head_has rule.head M a && holds rule.body M M

-- all atoms of the body in the component have a smaller rank
abbrev pub is_below : Set → (ℕ → ℕ) → ℕ → Rule → Bool
is_below S r a rule = list_all (λ b. ltb (r b) (r a)) (body_in S rule.body)

-- one of them has a rank smaller by at most one; without any the rank is at most one
abbrev pub near_one : (ℕ → ℕ) → ℕ → List ℕ → Bool
near_one r a [] = leb (r a) 1
near_one r a (b ∷ bs) = list_any (λ c. leb (r a) (suc (r c))) (b ∷ bs)

abbrev pub is_near : Set → (ℕ → ℕ) → ℕ → Rule → Bool
is_near S r a rule = near_one r a (body_in S rule.body)

pub record IsRanking (S : Set) (rules : List Rule) (M : Set) (r : ℕ → ℕ) : Type 0 where
  pub out : (a : ℕ) → S a ≡ true → M a ≡ false → r a ≡ 0
  pub from_one : (a : ℕ) → S a ≡ true → M a ≡ true → 0 < r a
  pub below : (a : ℕ) → S a ≡ true → M a ≡ true → list_any (λ rule. gives M a rule && is_below S r a rule) rules ≡ true
  pub near : (a : ℕ) → S a ≡ true → M a ≡ true → list_all (λ rule. not (gives M a rule) || is_near S r a rule) rules ≡ true
