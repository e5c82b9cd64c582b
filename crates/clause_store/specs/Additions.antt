-- What is known of a store, and what calls that only define further variables add to it.
use Rattle.std.specs.Prelude.{◌≡◌, ℕ, ◌+◌, ◌≤◌, ◌<◌, ◌==◌, Bool, true, List, ◌++◌, length}
use Rattle.std.specs.List.{list_any, AllByRecursion}
use Rattle.asp_base.specs.Literal.{Literal, atom_of}
use Rattle.asp_base.specs.Sets.{Set}
use Rattle.clause_store.specs.Extension.{Extends}
use Rattle.clause_store.specs.Facts.{IsOver}
use Rattle.clause_store.specs.Models.{all_true, clauses_true}
use Rattle.clause_store.specs.Stored.{Stored}

-- the variable of a conjunction is true just where all its literals are, wherever the clauses are
-- true
pub record IsGate (vars : ℕ) (hard : List (List Literal)) (gate : List Literal × ℕ) : Type 0 where
  pub output : (0 < gate.1) × (gate.1 ≤ vars)
  pub says : (A : Set) → clauses_true hard A ≡ true → A gate.1 ≡ all_true gate.0 A

-- the clauses are over the store's variables, and the known conjunctions have their meaning
pub record IsSound (s : Stored) : Type 0 where
  pub over : AllByRecursion (AllByRecursion (IsOver s.vars)) s.hard
  pub known : AllByRecursion (IsGate s.vars s.hard) s.known

-- a literal of the variable stands in one of the clauses
abbrev pub stands_in : ℕ → List (List Literal) → Bool
stands_in v clauses = list_any (λ clause. list_any (λ l. atom_of l == v) clause) clauses

-- At most m variables and n clauses more, behind the earlier ones: each assignment that the earlier
-- clauses take has just one extension, and each later variable stands in a clause.
pub record Adds (m n : ℕ) (before after : Stored) : Type 0 where
  pub extends : Extends before after
  pub sound : IsSound after
  pub behind : (cs : List (List Literal)) × (after.hard ≡ before.hard ++ cs)
  pub vars : after.vars ≤ before.vars + m
  pub clauses : length after.hard ≤ length before.hard + n
  pub stand : (v : ℕ) → before.vars < v → v ≤ after.vars → stands_in v after.hard ≡ true
