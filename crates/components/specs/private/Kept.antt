-- What the components of a program keep: the atoms put together by their numbers, and sums.
use Rattle.std.specs.Prelude.{◌≡◌, ℕ, ◌+◌, ◌<◌, ◌≤◌, true, false, List, length, map, slice_index}
use Rattle.std.specs.List.{range_with_len}
use Rattle.graph_parts.specs.Divided as graph
use Rattle.graph_parts.specs.Divided.{is_cyclic_at}
use Rattle.graph_parts.specs.Groups.{AreGroups}
use Rattle.rising_numbers.specs.Rising.{RisesFrom}
use Rattle.ground_program.specs.declared.program.Rule.{Rule}
use Rattle.components.specs.Divided.{Divided}
use Rattle.components.specs.Parts.{AreSums}
use Rattle.components.specs.declared.parts.Members.{Members}
use Rattle.components.specs.declared.parts.Members.TheVariants.{Each, Grouped}

-- each atom behind its number
abbrev pub numbered : List ℕ → List ℕ → List (ℕ × ℕ)
numbered atoms numbers =
    map (λ j. (slice_index numbers j, slice_index atoms j)) (range_with_len 0 (length atoms))

-- the numbers from 1 on, in order
abbrev pub CountUp : List ℕ → Type 0
CountUp numbers = (u : ℕ) → u < length numbers → slice_index numbers u ≡ u + 1

-- what is kept of the components' atoms finds them
abbrev pub HoldMembers : List ℕ → List ℕ → ℕ → Members → Type 0
HoldMembers atoms numbers count Each = (count ≡ length atoms) × CountUp numbers
HoldMembers atoms numbers count (Grouped groups) =
    AreGroups (numbered atoms numbers) (count + 1) groups.starts groups.values

-- an entry for each cyclic component
abbrev pub HasEntries : graph.Divided → List ℕ → Type 0
HasEntries parts sums =
    (i : ℕ) → 1 ≤ i → i ≤ parts.count → is_cyclic_at parts.cyclic i ≡ true → i < length sums

-- the components by those of the atoms' places
abbrev pub divided : List ℕ → graph.Divided → List ℕ → List ℕ → List ℕ → Divided
divided atoms parts weights terms odd = record {
  atoms = atoms;
  numbers = parts.numbers;
  count = parts.count;
  cyclic = parts.cyclic;
  weights = weights;
  terms = terms;
  odd = odd;
}

-- no component is cyclic
abbrev pub IsNoneCyclic : graph.Divided → Type 0
IsNoneCyclic parts =
    (i : ℕ) → 1 ≤ i → i ≤ parts.count → is_cyclic_at parts.cyclic i ≡ false

-- the sums are there for each cyclic component, and are what they are to be
pub record HaveSums (rules : List Rule) (part : ℕ → List ℕ) (parts : graph.Divided)
    (weights terms odd : List ℕ) : Type 0 where
  pub sums : AreSums rules part parts.count parts.cyclic weights terms odd
  pub weighed : HasEntries parts weights
  pub termed : HasEntries parts terms
  pub basic : HasEntries parts odd

pub record IsDivided (atoms : List ℕ) (parts : graph.Divided) (members : Members)
    (weights terms odd : List ℕ) : Type 0 where
  pub rise : RisesFrom 0 atoms
  pub sized : length parts.numbers ≡ length atoms
  pub held : HoldMembers atoms parts.numbers parts.count members
  pub weighed : HasEntries parts weights
  pub termed : HasEntries parts terms
  pub basic : HasEntries parts odd
