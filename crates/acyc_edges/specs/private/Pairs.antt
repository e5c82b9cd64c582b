-- How many comparisons of stages there are, with the bodies that they rest on.
use Rattle.std.specs.Prelude.{ℕ, ◌+◌, ◌*◌, ◌==◌, List, length}
use Rattle.std.specs.List.{filter, sum_by}
use Rattle.ground_program.specs.Ground.{Ground}
use Rattle.ground_program.specs.declared.program.Rule.{Rule}
use Rattle.ground_program.specs.Dependencies.{positives_of_body}
use Rattle.acyc_edges.specs.Encoding.{has_head_in, atoms_in}

module _ (P : Ground) (part : ℕ → ℕ) (parts : List ℕ) where
  -- the rules with a head in the component
  abbrev pub rules_in : ℕ → List Rule
  rules_in c = filter (λ rule. has_head_in (λ a. part a == c) rule.head) P.rules

  -- the positive literals over the component in the bodies of these rules
  abbrev pub occurrences_in : ℕ → ℕ
  occurrences_in c =
      sum_by (λ rule. length (filter (λ b. part b == c) (positives_of_body rule.body))) (rules_in c)

  abbrev pub pairs_in : ℕ → ℕ
  pairs_in c =
      length (atoms_in P part parts c)
      * (length (atoms_in P part parts c) + length (rules_in c) + occurrences_in c)

  -- over the cyclic components
  abbrev pub pairs : ℕ
  pairs = sum_by pairs_in parts
