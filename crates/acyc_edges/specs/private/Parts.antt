-- Numbers of the strongly connected components of the positive dependencies: what the encodings
-- need of them.
use Rattle.std.specs.Prelude.{◌≡◌, ℕ, ◌≤◌, true, List}
use Rattle.asp_base.specs.Sets.{members}
use Rattle.asp_base.specs.Walks.{Reaches}
use Rattle.ground_program.specs.declared.program.Rule.{Rule}
use Rattle.ground_program.specs.Dependencies.{depends}

-- An atom depends on atoms with its number and lower ones alone, and one that depends on itself,
-- by others or not, has a number of the list. Numbers of the strongly connected components are
-- such, with the list of the cyclic ones.
pub record AreParts (rules : List Rule) (part : ℕ → ℕ) (parts : List ℕ) : Type 0 where
  pub lower : (a b : ℕ) → depends rules a b ≡ true → part b ≤ part a
  pub cycles : (a : ℕ) → Reaches (depends rules) a a → members parts (part a) ≡ true
