-- What edges under literals leave in a store: further variables and clauses that define the
-- literals of their conditions, and the graph that a set gives.
use Rattle.std.specs.Prelude.{◌≡◌, ◌≤◌, ◌+◌, ℕ, ℤ, true, List, [], ◌∷◌, ◌++◌, length}
use Rattle.std.specs.List.{sum_by}
use Rattle.asp_base.specs.Literal.{Literal, all_hold}
use Rattle.asp_base.specs.Sets.{Set}
use Rattle.ground_program.specs.Stable.{joined}
use Rattle.ground_program.specs.declared.program.Edge.{Edge}
use Rattle.clause_store.specs.Extension.{Agree}
use Rattle.clause_store.specs.Models.{is_true, clauses_true, linked, IsAssignment}
use Rattle.clause_store.specs.Stored.{Stored}
use Rattle.completion.specs.Completion.{atoms_at}

-- Each assignment that the earlier clauses take has just one extension that the later ones take,
-- and at most so many variables and clauses are added.
pub record Defines (m n : ℕ) (before after : Stored) : Type 0 where
  pub grows : before.vars ≤ after.vars
  pub vars : after.vars ≤ before.vars + m
  pub hard : length after.hard ≤ length before.hard + n
  pub soft : after.soft ≡ before.soft
  pub keeps : (A : Set) → clauses_true after.hard A ≡ true → clauses_true before.hard A ≡ true
  pub some : (A : Set) → IsAssignment before.vars A → clauses_true before.hard A ≡ true
      → (B : Set) × IsAssignment after.vars B × (clauses_true after.hard B ≡ true)
      × Agree before.vars A B
  pub one : (A B : Set) → clauses_true after.hard A ≡ true → clauses_true after.hard B ≡ true
      → Agree before.vars A B → Agree after.vars A B

-- one edge more, whose literal is true just where its condition holds
pub record LinksOne (atoms : List ℕ) (edge : Edge) (before after : Stored) : Type 0 where
  pub defines : Defines 1 (1 + length edge.condition) before after
  pub lit : Literal
  pub behind : after.edges
      ≡ before.edges ++ (record { from = edge.from; to = edge.to; lit = lit } ∷ [])
  pub says : (A : Set) → clauses_true after.hard A ≡ true
      → is_true lit A ≡ all_hold edge.condition (atoms_at atoms A) (atoms_at atoms A)

-- the edges of a program, and no others
pub record Linked (atoms : List ℕ) (edges : List Edge) (before after : Stored) : Type 0 where
  pub defines : Defines (length edges) (sum_by (λ edge. 1 + length edge.condition) edges)
      before after
  pub graph : (A : Set) → clauses_true after.hard A ≡ true
      → (u v : ℤ) → linked after.edges A u v ≡ joined edges (atoms_at atoms A) u v
