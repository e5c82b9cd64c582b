-- The components of a program as numbers of its atoms, and which of the numbers are those of cyclic
-- ones.
use Rattle.std.specs.Prelude.{◌≡◌, ℕ, ◌≤◌, ◌==◌, ◌↔◌, Bool, true, List}
use Rattle.std.specs.List.{filter}
use Rattle.asp_base.specs.Sets.{Set, members}
use Rattle.asp_base.specs.Walks.{Reaches}
use Rattle.graph_parts.specs.Parts.{Together}
use Rattle.ground_program.specs.Dependencies.{depends}
use Rattle.ground_program.specs.Ground.{Ground}
use Rattle.ground_program.specs.declared.program.Rule.{Rule}

-- Atoms have one number where they are in one strongly connected component of the dependencies. A
-- component depends on lower ones and itself alone; the cyclic ones are those with atoms that reach
-- themselves.
pub record AreParts (rules : List Rule) (atoms : List ℕ) (part : ℕ → ℕ) (cyclic : ℕ → Bool)
    : Type 0 where
  pub together : (a b : ℕ) → members atoms a ≡ true → members atoms b ≡ true
      → (part a ≡ part b) ↔ Together (depends rules) a b
  pub cycles : (a : ℕ) → members atoms a ≡ true
      → (cyclic (part a) ≡ true) ↔ Reaches (depends rules) a a
  pub lower : (a b : ℕ) → depends rules a b ≡ true → part b ≤ part a

-- the atoms with a number
abbrev pub atoms_of_part : (ℕ → ℕ) → ℕ → List ℕ → List ℕ
atoms_of_part part c atoms = filter (λ a. part a == c) atoms

abbrev pub component : Ground → (ℕ → ℕ) → ℕ → Set
component P part c = members (atoms_of_part part c P.atoms)
