-- Small programs with their dependencies, links, cyclic components and measures, by computation.
use Rattle.std.proofs.Common.{◌≡◌, refl, ℕ, Bool, true, false, List, [], ◌∷◌}
use Rattle.asp_base.specs.Literal.{Pos, Neg}
use Rattle.ground_program.specs.Dependencies.{depends}
use Rattle.ground_program.specs.Tangle.{all_basic, links, pairs, tangle}
use Rattle.ground_program.specs.declared.program.Head.TheVariants.{Choice}
use Rattle.ground_program.specs.declared.program.Body.TheVariants.{All}
use Rattle.ground_program.specs.declared.program.Rule.{Rule}
use Rattle.ground_program.proofs.Rows.{normal}
use Rattle.components.specs.Components.{number_of}
use Rattle.components.specs.Divided.{Divided, cyclic_parts, members_of}
use Rattle.components.specs.private.Adding.{run}
use Rattle.components.specs.private.Links.{links_of_rules}

-- components of these atoms, whose sums are not looked at
abbrev divided : List ℕ → List ℕ → ℕ → List Bool → Divided
divided atoms numbers count cyclic = record {
  atoms = atoms;
  numbers = numbers;
  count = count;
  cyclic = cyclic;
  weights = [];
  terms = [];
  odd = [];
}

-- ---- a :- b. b :- a. c :- a.

abbrev loop_below : List Rule
loop_below = normal 1 (Pos 2 ∷ []) ∷ normal 2 (Pos 1 ∷ []) ∷ normal 3 (Pos 1 ∷ []) ∷ []

-- the loop is the first component, and c, which depends on it, the second
abbrev loop_parts : Divided
loop_parts = divided (1 ∷ 2 ∷ 3 ∷ []) (1 ∷ 1 ∷ 2 ∷ []) 2 (false ∷ true ∷ false ∷ [])

c_on_a : depends loop_below 3 1 ≡ true
c_on_a = refl

a_not_on_c : depends loop_below 1 3 ≡ false
a_not_on_c = refl

number_of_c : number_of loop_parts.atoms loop_parts.numbers 3 ≡ 2
number_of_c = refl

loop_members : members_of 1 loop_parts.atoms loop_parts.numbers ≡ 1 ∷ 2 ∷ []
loop_members = refl

loop_cyclic : cyclic_parts loop_parts ≡ (1 ∷ 2 ∷ []) ∷ []
loop_cyclic = refl

-- 2 * (2 + 2 + 2): two atoms, two rules, two positive literals
loop_pairs : pairs loop_below (cyclic_parts loop_parts) ≡ 12
loop_pairs = refl

loop_tangle : tangle loop_below (cyclic_parts loop_parts) ≡ 12
loop_tangle = refl

-- ---- {a; b} :- c, not d. c :- a.

abbrev with_choice : List Rule
with_choice = record { head = Choice (1 ∷ 2 ∷ []); body = All (Pos 3 ∷ Neg 4 ∷ []) } ∷ normal 3 (Pos 1 ∷ []) ∷ []

-- a and c are a loop; b depends on it, d on nothing
abbrev choice_parts : Divided
choice_parts = divided (1 ∷ 2 ∷ 3 ∷ 4 ∷ []) (1 ∷ 2 ∷ 1 ∷ 3 ∷ []) 3 (false ∷ true ∷ false ∷ false ∷ [])

-- from both heads to the node of the choice, from it to c alone, and so on
choice_links : links_of_rules choice_parts.atoms 4 with_choice ≡ (0, 4) ∷ (1, 4) ∷ (4, 2) ∷ (2, 5) ∷ (5, 0) ∷ []
choice_links = refl

choice_cyclic : cyclic_parts choice_parts ≡ (1 ∷ 3 ∷ []) ∷ []
choice_cyclic = refl

choice_weight : links with_choice (1 ∷ 3 ∷ []) ≡ 4
choice_weight = refl

-- what one pass over the links adds up for the first component, for costs of 1
choice_run : run 4 1 1 choice_parts.numbers (1 ∷ 1 ∷ []) (links_of_rules choice_parts.atoms 4 with_choice) (0, 0) ≡ (6, 4)
choice_run = refl

choice_pairs : pairs with_choice (cyclic_parts choice_parts) ≡ 12
choice_pairs = refl

-- the choice is not basic
choice_basic : all_basic with_choice (1 ∷ 3 ∷ []) ≡ false
choice_basic = refl

-- so the square of its atoms and terms: 2, and 2 + 2 + 6 * 2 for the choice, and 1 + 1
choice_tangle : tangle with_choice (cyclic_parts choice_parts) ≡ 400
choice_tangle = refl
