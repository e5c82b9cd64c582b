-- The strongly connected components of the positive dependencies of a program.
use Rattle.std.specs.Prelude.{◌≡◌, ℕ, ◌-◌, ◌≤◌, ◌↔◌, Bool, true, List, slice_index}
use Rattle.asp_base.specs.Sets.{members}
use Rattle.asp_base.specs.Walks.{Reaches}
use Rattle.rising_numbers.specs.Rising.{place}
use Rattle.graph_parts.specs.Divided.{is_cyclic_at}
use Rattle.graph_parts.specs.Parts.{Together}
use Rattle.ground_program.specs.Dependencies.{depends}
use Rattle.ground_program.specs.Ground.{Ground}

-- the node of an atom: its place among the atoms, from 0
abbrev pub node_of : List ℕ → ℕ → ℕ
node_of atoms a = place atoms a - 1

-- the number of an atom's component, by the numbers of the nodes
abbrev pub number_of : List ℕ → List ℕ → ℕ → ℕ
number_of atoms numbers a = slice_index numbers (node_of atoms a)

-- A component depends on lower ones and itself alone; the numbers run from 1 to the count without
-- gaps.
pub record AreComponents (P : Ground) (numbers : List ℕ) (count : ℕ) (cyclic : List Bool)
    : Type 0 where
  pub together : (a b : ℕ) → members P.atoms a ≡ true → members P.atoms b ≡ true
      → (number_of P.atoms numbers a ≡ number_of P.atoms numbers b)
      ↔ Together (depends P.rules) a b
  pub lower : (a b : ℕ) → depends P.rules a b ≡ true
      → number_of P.atoms numbers b ≤ number_of P.atoms numbers a
  pub least : (a : ℕ) → members P.atoms a ≡ true → 1 ≤ number_of P.atoms numbers a
  pub most : (a : ℕ) → members P.atoms a ≡ true → number_of P.atoms numbers a ≤ count
  pub each : (i : ℕ) → 1 ≤ i → i ≤ count
      → (a : ℕ) × (members P.atoms a ≡ true) × (number_of P.atoms numbers a ≡ i)
  pub cycles : (a : ℕ) → members P.atoms a ≡ true
      → (is_cyclic_at cyclic (number_of P.atoms numbers a) ≡ true)
      ↔ Reaches (depends P.rules) a a
