-- What is added to a stage: new atoms, and rules that go from given heads to given positive atoms,
-- or through new atoms downwards.
use Rattle.std.specs.Prelude.{◌≡◌, ◌⊎◌, ℕ, ◌<◌, ◌||◌, true, false, List, [], ◌++◌}
use Rattle.std.specs.List.{AllByRecursion}
use Rattle.asp_base.specs.Literal.{Literal}
use Rattle.asp_base.specs.Sets.{members}
use Rattle.ground_program.specs.Dependencies.{positives_of_body, positives_of_literals}
use Rattle.ground_program.specs.Occurrences.{atoms_of_head}
use Rattle.ground_program.specs.declared.program.Rule.{Rule}
use Rattle.normalize.specs.private.Stage.{Stage, IsNormal, known}

-- a positive atom of a rule for a new atom: a new one below that, or one of those that are read
abbrev pub IsLower : List ℕ → List ℕ → ℕ → ℕ → Type 0
IsLower drawn reads a b =
    ((members drawn b ≡ true) × (b < a)) ⊎ (members reads b ≡ true)

-- a head atom of a rule with these positive atoms: a given one, or a new one
abbrev pub IsMadeHead : List ℕ → List ℕ → List ℕ → List ℕ → ℕ → Type 0
IsMadeHead drawn heads reads positives a =
    (members heads a ≡ true)
    ⊎ ((members drawn a ≡ true) × AllByRecursion (IsLower drawn reads a) positives)

pub record IsMade (drawn heads reads : List ℕ) (rule : Rule) : Type 0 where
  pub normal : IsNormal rule
  pub head : AllByRecursion (IsMadeHead drawn heads reads (positives_of_body rule.body))
      (atoms_of_head rule.head)
  pub body : AllByRecursion (λ b. (members drawn b || members reads b) ≡ true)
      (positives_of_body rule.body)

-- Normal rules were added from these heads to these positive atoms, with the numbers that were
-- drawn in between.
pub record Adds (heads reads : List ℕ) (s t : Stage) : Type 0 where
  pub drawn : List ℕ
  pub new : List Rule
  pub rules : t.rules ≡ s.rules ++ new
  pub given : t.supply.given ≡ s.supply.given ++ drawn
  pub apart : AllByRecursion (λ a. (0 < a) × (known s a ≡ false)) drawn
  pub made : AllByRecursion (IsMade drawn heads reads) new

-- between the heads of a rule and its positive atoms
abbrev pub AddsRule : Rule → Stage → Stage → Type 0
AddsRule rule s t = Adds (atoms_of_head rule.head) (positives_of_body rule.body) s t

-- Rules were added for new atoms alone, and the positive ones of these literals are over new atoms
-- or those that are read.
pub record AddsAnswer (reads : List ℕ) (lits : List Literal) (s t : Stage) : Type 0 where
  pub adds : Adds [] reads s t
  pub read : AllByRecursion (λ b. (members adds.drawn b || members reads b) ≡ true)
      (positives_of_literals lits)
