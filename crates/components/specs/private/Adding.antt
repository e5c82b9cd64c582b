-- What the rules with a head in a component add up to, by one pass over the links of the program.
use Rattle.std.specs.Prelude.{◌≡◌, ℕ, ◌+◌, ◌-◌, ◌*◌, ◌^◌, ◌==◌, cond, min, nat_lt, List, [], ◌∷◌, slice_index, ⊤}
use Rattle.std.specs.List.{sum_by}
use Rattle.ground_program.specs.Tangle.{enters, is_basic, occurrences}
use Rattle.ground_program.specs.declared.program.Rule.{Rule}

-- the costs of the rules with a head in a component, and so much for each of their positive
-- literals over it
abbrev pub added : List ℕ → (Rule → ℕ) → ℕ → List Rule → ℕ
added part cost each rules =
    sum_by (λ rule. cond (enters part rule) (cost rule + each * occurrences part rule) 0) rules

-- 1 for a rule of another kind than one head over all literals
abbrev pub oddness : Rule → ℕ
oddness rule = cond (is_basic rule) 0 1

-- One pass sees for a component the rule that entered it last, by its stamp, which is its node and
-- 1, and the sum so far.

abbrev pub enter : ℕ → ℕ → ℕ × ℕ → ℕ × ℕ
enter stamp cost s = cond (s.0 == stamp) s (stamp, min (s.1 + cost) (2 ^ 63))

abbrev pub meet : ℕ → ℕ → ℕ × ℕ → ℕ × ℕ
meet stamp each s = cond (s.0 == stamp) (s.0, min (s.1 + each) (2 ^ 63)) s

module _ (first each i : ℕ) (numbers costs : List ℕ) where
  abbrev pub into : ℕ × ℕ → ℕ × ℕ → ℕ × ℕ
  into e s =
      cond (slice_index numbers e.0 == i)
      (enter (e.1 + 1) (slice_index costs (e.1 - first)) s) s

  abbrev pub from : ℕ × ℕ → ℕ × ℕ → ℕ × ℕ
  from e s = cond (slice_index numbers e.1 == i) (meet (e.0 + 1) each s) s

  abbrev pub step : ℕ × ℕ → ℕ × ℕ → ℕ × ℕ
  step e s = cond (nat_lt e.0 first) (into e s) (from e s)

  abbrev pub run : List (ℕ × ℕ) → ℕ × ℕ → ℕ × ℕ
  run [] s = s
  run (e ∷ edges) s = run edges (step e s)

-- the costs of rules from a node on
abbrev pub CostsAre : ℕ → List ℕ → (Rule → ℕ) → ℕ → List Rule → Type 0
CostsAre first costs cost node [] = ⊤
CostsAre first costs cost node (rule ∷ rules) =
    (slice_index costs (node - first) ≡ cost rule)
    × CostsAre first costs cost (node + 1) rules
