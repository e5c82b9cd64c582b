-- Numbers for new atoms.
use Rattle.std.specs.Prelude.{◌≡◌, ℕ, zero, suc, ◌<◌, cond, true, false, List, [], ◌∷◌, ◌++◌, length}
use Rattle.asp_base.specs.Sets.{members}

-- the least positive number that is not taken
pub record IsLeastFree (taken : List ℕ) (a : ℕ) : Type 0 where
  pub positive : 0 < a
  pub free : members taken a ≡ false
  pub least : (b : ℕ) → 0 < b → b < a → members taken b ≡ true

-- the atoms of a program, and the numbers that were given so far, in their order
pub record Supply : Type 0 where
  pub atoms : List ℕ
  pub given : List ℕ

abbrev pub taken : Supply → List ℕ
taken s = s.given ++ s.atoms

-- the first number from here on that is not taken, among so many
abbrev pub first_free : ℕ → ℕ → List ℕ → ℕ
first_free zero n numbers = n
first_free (suc more) n numbers = cond (members numbers n) (first_free more (suc n) numbers) n

-- Of one number more than are taken, one is free.
abbrev pub least_free : List ℕ → ℕ
least_free numbers = first_free (length numbers) 1 numbers

-- the numbers that so many calls give, in their order
abbrev pub given_by : ℕ → List ℕ → List ℕ
given_by zero atoms = []
given_by (suc n) atoms =
    let before : List ℕ = given_by n atoms in before ++ (least_free (before ++ atoms) ∷ [])

-- the new atom with this index, from 0
abbrev pub new_atom : List ℕ → ℕ → ℕ
new_atom atoms n = least_free (given_by n atoms ++ atoms)
