-- Clauses that define further variables, so that each assignment has one extension, and what it
-- means that a literal stands for a conjunction.
use Rattle.std.specs.Prelude.{◌≡◌, ℕ, ◌≤◌, true, List}
use Rattle.asp_base.specs.Literal.{Literal}
use Rattle.asp_base.specs.Sets.{Set}
use Rattle.clause_store.specs.Facts.{IsOver}
use Rattle.clause_store.specs.Models.{is_true, all_true, clauses_true, IsAssignment}
use Rattle.clause_store.specs.Stored.{Stored}

-- the same on the variables up to n
abbrev pub Agree : ℕ → Set → Set → Type 0
Agree n A B = (v : ℕ) → v ≤ n → A v ≡ B v

-- Each assignment that the earlier clauses take has just one extension to the later variables that
-- the later clauses take, and what the later clauses take, the earlier ones take.
pub record Extends (before after : Stored) : Type 0 where
  pub vars : before.vars ≤ after.vars
  pub edges : after.edges ≡ before.edges
  pub soft : after.soft ≡ before.soft
  pub keeps : (A : Set) → clauses_true after.hard A ≡ true → clauses_true before.hard A ≡ true
  pub some : (A : Set) → IsAssignment before.vars A → clauses_true before.hard A ≡ true
      → (B : Set) × IsAssignment after.vars B × (clauses_true after.hard B ≡ true)
      × Agree before.vars A B
  pub one : (A B : Set) → clauses_true after.hard A ≡ true → clauses_true after.hard B ≡ true
      → Agree before.vars A B → Agree after.vars A B

-- The literal stands for the conjunction of these: the later clauses extend the earlier ones, and
-- wherever they are true, the literal is true just where all of these are.
pub record StandsForAll (lits : List Literal) (old new : Stored) (l : Literal) : Type 0 where
  pub extends : Extends old new
  pub over : IsOver new.vars l
  pub literal : (A : Set) → clauses_true new.hard A ≡ true → is_true l A ≡ all_true lits A
