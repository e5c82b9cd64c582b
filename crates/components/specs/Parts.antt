-- What makes components those of a program.
use Rattle.std.specs.Prelude.{◌≡◌, ℕ, ◌≤◌, ◌^◌, ◌==◌, Bool, true, cond, min, List, slice_index}
use Rattle.std.specs.List.{sum_by}
use Rattle.graph_parts.specs.Divided.{is_cyclic_at}
use Rattle.ground_program.specs.Ground.{Ground}
use Rattle.ground_program.specs.Room.{term}
use Rattle.ground_program.specs.Tangle.{all_basic, enters, links}
use Rattle.ground_program.specs.declared.program.Rule.{Rule}
use Rattle.components.specs.Components.{AreComponents}
use Rattle.components.specs.Divided.{Divided, members_of}

-- the room of the rules with a head in a component
abbrev pub entering_terms : List Rule → List ℕ → ℕ
entering_terms rules part = sum_by (λ rule. cond (enters part rule) (term rule) 0) rules

-- What is added up for each cyclic component: its links and the room of its rules, which saturate
-- at 2^63, and a number that is 0 where all of its rules are basic.
pub record AreSums (rules : List Rule) (part : ℕ → List ℕ) (count : ℕ) (cyclic : List Bool)
    (weights terms odd : List ℕ) : Type 0 where
  pub weighed : (i : ℕ) → 1 ≤ i → i ≤ count → is_cyclic_at cyclic i ≡ true
      → slice_index weights i ≡ min (links rules (part i)) (2 ^ 63)
  pub termed : (i : ℕ) → 1 ≤ i → i ≤ count → is_cyclic_at cyclic i ≡ true
      → slice_index terms i ≡ min (entering_terms rules (part i)) (2 ^ 63)
  pub basic : (i : ℕ) → 1 ≤ i → i ≤ count → is_cyclic_at cyclic i ≡ true
      → (slice_index odd i == 0) ≡ all_basic rules (part i)

-- the components are this program's
pub record ArePartsOf (P : Ground) (d : Divided) : Type 0 where
  pub atoms : d.atoms ≡ P.atoms
  pub components : AreComponents P d.numbers d.count d.cyclic
  pub sums : AreSums P.rules (λ i. members_of i d.atoms d.numbers) d.count d.cyclic
      d.weights d.terms d.odd
