-- What it means that clauses have the founded sets of a program as their models, with the ranks in
-- their digits, and how much they add to a completion.
use Rattle.std.specs.Prelude.{◌≡◌, ℕ, ◌+◌, ◌*◌, ◌≤◌, ◌<◌, true, List, ◌∷◌, ◌++◌, length}
use Rattle.std.specs.List.{sum_by}
use Rattle.asp_base.specs.Literal.{Literal}
use Rattle.asp_base.specs.Sets.{Set, Same, members}
use Rattle.ground_program.specs.Digits.{digits}
use Rattle.ground_program.specs.Ground.{Ground}
use Rattle.ground_program.specs.Size.{size}
use Rattle.ground_program.specs.Stable.{Founded}
use Rattle.clause_store.specs.Additions.{stands_in}
use Rattle.clause_store.specs.Clauses.{Clauses}
use Rattle.clause_store.specs.Models.{IsModel}
use Rattle.clause_store.specs.Stored.{Stored}
use Rattle.completion.specs.Completion.{atoms_at, completed}
use Rattle.digit_gates.specs.Digits.{number_at}
use Rattle.digit_gates.specs.DigitGates.{variables_from}
use Rattle.level_ranking.specs.Components.{atoms_of_part, component}
use Rattle.level_ranking.specs.Encoding.{inside, part_width, width_of, ranked_atoms, digits_at}
use Rattle.level_ranking.specs.Ranking.{inner, rank}

-- the rank of an atom in its component
abbrev pub rank_in_part : Ground → (ℕ → ℕ) → Set → ℕ → ℕ
rank_in_part P part M a = rank (atoms_of_part part (part a) P.atoms) P.rules M a

-- Cut to the atoms, the models of the formula are one to one the founded sets of the program, and
-- in each model the digits of the atoms of cyclic components are their ranks.
pub record HasFounded (P : Ground) (part : ℕ → ℕ) (parts : List ℕ) (F : Clauses) : Type 0 where
  pub founded : (A : Set) → IsModel F A → Founded P (atoms_at P.atoms A)
  pub one : (A B : Set) → IsModel F A → IsModel F B
      → Same (atoms_at P.atoms A) (atoms_at P.atoms B) → Same A B
  pub onto : (M : Set) → Founded P M → (A : Set) × IsModel F A × Same (atoms_at P.atoms A) M
  pub ranks : (A : Set) → IsModel F A
      → (a : ℕ) → members P.atoms a ≡ true → members parts (part a) ≡ true
      → number_at A (digits_at P part parts a) ≡ rank_in_part P part (atoms_at P.atoms A) a

-- The digits are the variables behind those of the completion, by ascending atoms.
abbrev pub DigitsComeFirst : Ground → (ℕ → ℕ) → List ℕ → Type 0
DigitsComeFirst P part parts =
    (before after : List ℕ) (a : ℕ) → ranked_atoms P part parts ≡ before ++ (a ∷ after)
    → digits_at P part parts a
    ≡ variables_from (width_of P part parts a)
    ((completed P).vars + sum_by (width_of P part parts) before)

-- At most three times the size of the program times its binary digits in variables, and thirty
-- times that in clauses, behind what was there. Each variable stands in a clause.
pub record AddsFew (P : Ground) (before after : Stored) : Type 0 where
  pub behind : (clauses : List (List Literal)) × (after.hard ≡ before.hard ++ clauses)
  pub grows : before.vars ≤ after.vars
  pub edges : after.edges ≡ before.edges
  pub soft : after.soft ≡ before.soft
  pub vars : after.vars ≤ before.vars + 3 * (digits (size P) * size P)
  pub clauses : length after.hard ≤ length before.hard + 30 * (digits (size P) * size P)
  pub each : (v : ℕ) → 0 < v → v ≤ after.vars → stands_in v after.hard ≡ true

-- For a cyclic component with numbers of w digits: three times w for each of its atoms, w + 2 for
-- each of its atoms that stands positive in the body of a rule with a head in it, and one for each
-- such rule.
abbrev pub part_bound : Ground → (ℕ → ℕ) → List ℕ → ℕ → ℕ
part_bound P part parts c =
    3 * (part_width P part parts c * length (atoms_of_part part c P.atoms))
    + (part_width P part parts c + 2)
    * sum_by (λ rule. length (inside (component P part c) rule))
    (inner (component P part c) P.rules)
    + length (inner (component P part c) P.rules)

-- the variables that are added are at most the sum of this over the cyclic components
abbrev pub AddsByParts : Ground → (ℕ → ℕ) → List ℕ → Stored → Stored → Type 0
AddsByParts P part parts before after =
    after.vars ≤ before.vars + sum_by (part_bound P part parts) parts
