-- The components of a program, as contracts see them.
use Rattle.std.specs.Prelude.{ℕ, ◌==◌, Bool, List, map}
use Rattle.std.specs.List.{filter, range_with_len}
use Rattle.graph_parts.specs.Divided.{is_cyclic_at}
use Rattle.components.specs.Components.{number_of}

-- The program's atoms, the number of each one's component, how many components there are, which of
-- them are cyclic, and what is added up for each that is (`AreSums`).
pub record Divided : Type 0 where
  pub atoms : List ℕ
  pub numbers : List ℕ
  pub count : ℕ
  pub cyclic : List Bool
  pub weights : List ℕ
  pub terms : List ℕ
  pub odd : List ℕ

-- the number of an atom's component, as `components` finds it
abbrev pub part_of : Divided → ℕ → ℕ
part_of d a = number_of d.atoms d.numbers a

-- the atoms of a component, ascending
abbrev pub members_of : ℕ → List ℕ → List ℕ → List ℕ
members_of i atoms numbers = filter (λ a. number_of atoms numbers a == i) atoms

-- the numbers of the cyclic components, ascending
abbrev pub cyclic_numbers : Divided → List ℕ
cyclic_numbers d = filter (λ i. is_cyclic_at d.cyclic i) (range_with_len 1 d.count)

-- the cyclic components as lists of their atoms, in the order of their numbers
abbrev pub cyclic_parts : Divided → List (List ℕ)
cyclic_parts d = map (λ i. members_of i d.atoms d.numbers) (cyclic_numbers d)
