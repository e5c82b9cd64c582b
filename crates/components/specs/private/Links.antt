-- A graph for the dependencies that is no larger than the program: a node for each atom, and one
-- for each rule, which stands between the rule's heads and the positive atoms of its body.
use Rattle.std.specs.Prelude.{ℕ, ◌+◌, ◌<◌, ◌≤◌, List, [], ◌∷◌, ◌++◌, map}
use Rattle.ground_program.specs.Dependencies.{positives_of_body}
use Rattle.ground_program.specs.Occurrences.{atoms_of_head}
use Rattle.ground_program.specs.declared.program.Rule.{Rule}
use Rattle.components.specs.Components.{node_of}

abbrev pub edges_into : List ℕ → ℕ → List ℕ → List (ℕ × ℕ)
edges_into atoms node heads = map (λ a. (node_of atoms a, node)) heads

abbrev pub edges_from : List ℕ → ℕ → List ℕ → List (ℕ × ℕ)
edges_from atoms node positives = map (λ b. (node, node_of atoms b)) positives

abbrev pub links_of_rule : List ℕ → ℕ → Rule → List (ℕ × ℕ)
links_of_rule atoms node rule =
    edges_into atoms node (atoms_of_head rule.head)
    ++ edges_from atoms node (positives_of_body rule.body)

-- the first rule has this node
abbrev pub links_of_rules : List ℕ → ℕ → List Rule → List (ℕ × ℕ)
links_of_rules atoms node [] = []
links_of_rules atoms node (rule ∷ rules) =
    links_of_rule atoms node rule ++ links_of_rules atoms (node + 1) rules

-- a link leads from an atom to a rule, or from a rule to an atom
pub record LinkFits (first rules : ℕ) (e : ℕ × ℕ) : Type 0 where
  pub into : e.0 < first → (first ≤ e.1) × (e.1 < first + rules)
  pub from : first ≤ e.0 → (e.0 < first + rules) × (e.1 < first)
