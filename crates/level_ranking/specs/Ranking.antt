-- The rank of an atom in a component: the round in which the component's rules derive it from the
-- rest of the set (I. Niemelä, Stable models and difference logic, 2008, where these are the strong
-- level rankings).
use Rattle.std.specs.Prelude.{ℕ, zero, suc, Bool, false, cond, not, ◌&&◌, List, length}
use Rattle.std.specs.List.{filter}
use Rattle.asp_base.specs.Sets.{Set, members}
use Rattle.ground_program.specs.Stable.{rounds}
use Rattle.ground_program.specs.declared.program.Head.{Head}
use Rattle.ground_program.specs.declared.program.Head.TheVariants.{Nothing, One, Choice}
use Rattle.ground_program.specs.declared.program.Rule.{Rule}

abbrev pub is_head_in : Set → Head → Bool
is_head_in S Nothing = false
is_head_in S (One a) = S a
is_head_in S (Choice as_) = false

-- the rules with a head in the component
abbrev pub inner : Set → List Rule → List Rule
inner S rules = filter (λ rule. is_head_in S rule.head) rules

-- the set without the component
abbrev pub outside : Set → Set → Set
outside S M a = M a && not (S a)

-- what the component's rules derive in so many rounds from the rest of M
abbrev pub ranked : Set → List Rule → Set → ℕ → Set
ranked S rules M k = rounds k (inner S rules) M (outside S M)

-- the first number below n that passes, or n
abbrev pub first_below : ℕ → (ℕ → Bool) → ℕ
first_below zero p = 0
first_below (suc n) p = cond (p 0) 0 (suc (first_below n (λ k. p (suc k))))

-- The number of the first round that has the atom, 0 for an atom outside M. The component is
-- listed; it has no more rounds than atoms.
abbrev pub rank : List ℕ → List Rule → Set → ℕ → ℕ
rank atoms rules M a =
    cond (M a) (first_below (length atoms) (λ k. ranked (members atoms) rules M k a)) 0
