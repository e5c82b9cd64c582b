-- Strong level rankings as conditions on numbers of w binary digits, one for each atom of a component, which clauses over
-- the digits can say (T. Janhunen and I. Niemelä, Compact translations of non-disjunctive answer set programs to
-- propositional clauses, 2011).
use Rattle.std.specs.Prelude.{◌≡◌, ℕ, ◌<◌, ◌^◌, Bool, true, false, not, ◌&&◌, ◌||◌, ltb, leb, List, [], ◌∷◌, length}
use Rattle.std.specs.List.{list_any, list_all}
use Rattle.asp_base.specs.Sets.{Set}
use Rattle.ground_program.specs.Ground.{Ground}
use Rattle.ground_program.specs.Stable.{holds, head_has}
use Rattle.ground_program.specs.declared.program.Body.{Body}
use Rattle.ground_program.specs.declared.program.Body.TheVariants.{All, Sum}
use Rattle.ground_program.specs.declared.program.Rule.{Rule}
use Rattle.digit_gates.specs.Digits.{predecessor}
use Rattle.level_ranking.specs.Components.{atoms_of_part, component}
use Rattle.level_ranking.specs.Encoding.{inside}

-- the number of b is at most that of a less 1
abbrev pub goes_below : ℕ → (ℕ → ℕ) → ℕ → ℕ → Bool
goes_below w r a b = not (ltb (predecessor w (r a)) (r b))

-- the number of b is at least that of a less 1
abbrev pub comes_near : ℕ → (ℕ → ℕ) → ℕ → ℕ → Bool
comes_near w r a b = not (ltb (r b) (predecessor w (r a)))

abbrev pub is_empty_body : Body → Bool
is_empty_body (All []) = true
is_empty_body (All (l ∷ lits)) = false
is_empty_body (Sum bound items) = false

-- a rule of the atom has an empty body
abbrev pub is_given : List Rule → Set → ℕ → Bool
is_given rules M a = list_any (λ rule. head_has rule.head M a && is_empty_body rule.body) rules

-- the rule supports its head a: its body holds, and all of its atoms in the component go below a
abbrev pub supports : Set → ℕ → Set → (ℕ → ℕ) → ℕ → Rule → Bool
supports S w M r a rule = holds rule.body M M && list_all (goes_below w r a) (inside S rule)

-- one of the atoms comes near a; without any the digits of a from the second on are 0
abbrev pub near_one_of : ℕ → (ℕ → ℕ) → ℕ → List ℕ → Bool
near_one_of w r a [] = leb (r a) 1
near_one_of w r a (b ∷ bs) = list_any (comes_near w r a) (b ∷ bs)

-- where the body holds, one of its atoms in the component comes near the head a
abbrev pub keeps_near : Set → ℕ → Set → (ℕ → ℕ) → ℕ → Rule → Bool
keeps_near S w M r a rule = not (holds rule.body M M) || near_one_of w r a (inside S rule)

-- the numbers meet the conditions of a component
pub record Meets (S : Set) (w : ℕ) (rules : List Rule) (M : Set) (r : ℕ → ℕ) : Type 0 where
  -- numbers of w digits
  pub fits : (a : ℕ) → S a ≡ true → r a < 2 ^ w
  -- a digit of 1 only where the atom holds, and one where it does
  pub zero_outside : (a : ℕ) → S a ≡ true → M a ≡ false → r a ≡ 0
  pub from_one : (a : ℕ) → S a ≡ true → M a ≡ true → 0 < r a
  -- a rule supports an atom that holds, asked where no rule of it has an empty body
  pub supported : (a : ℕ) → S a ≡ true → is_given rules M a ≡ false → M a ≡ true → list_any (λ rule. head_has rule.head M a && supports S w M r a rule) rules ≡ true
  -- no rule whose body holds would do with a number that is smaller
  pub near : (a : ℕ) → S a ≡ true → list_all (λ rule. not (head_has rule.head M a) || keeps_near S w M r a rule) rules ≡ true

-- ---- components

-- the numbers meet the conditions of every cyclic component c, with so many digits there as the width of c
abbrev pub MeetsAll : Ground → (ℕ → ℕ) → (ℕ → Bool) → (ℕ → ℕ) → Set → (ℕ → ℕ) → Type 0
MeetsAll P part cyclic width M r = (c : ℕ) → cyclic c ≡ true → Meets (component P part c) (width c) P.rules M r

-- digits for the number of atoms of every cyclic component
abbrev pub AreWide : Ground → (ℕ → ℕ) → (ℕ → Bool) → (ℕ → ℕ) → Type 0
AreWide P part cyclic width = (c : ℕ) → cyclic c ≡ true → length (atoms_of_part part c P.atoms) < 2 ^ width c
