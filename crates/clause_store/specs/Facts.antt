-- What is true of every formula.
use Rattle.std.specs.Prelude.{ℕ, ◌≤◌, ◌<◌, ◌^◌, ◌-◌}
use Rattle.std.specs.List.{AllByRecursion}
use Rattle.asp_base.specs.Literal.{Literal, atom_of}
use Rattle.clause_store.specs.Clauses.{Clauses}

-- a literal over the variables 1 to n
abbrev pub IsOver : ℕ → Literal → Type 0
IsOver n l = (0 < atom_of l) × (atom_of l ≤ n)

pub record Fits (F : Clauses) : Type 0 where
  pub vars : F.vars ≤ 2 ^ 31 - 1
  pub hard : AllByRecursion (AllByRecursion (IsOver F.vars)) F.hard
  pub edges : AllByRecursion (λ edge. IsOver F.vars edge.lit) F.edges
  pub soft : AllByRecursion
      (λ clause. (0 < clause.weight) × AllByRecursion (IsOver F.vars) clause.lits) F.soft
