-- What every store keeps.
use Rattle.std.specs.List.{AllByRecursion}
use Rattle.clause_store.specs.Additions.{IsGate}
use Rattle.clause_store.specs.Facts.{Fits}
use Rattle.clause_store.specs.Stored.{Stored, formula_of_store}

-- the known conjunctions have their meaning
pub record IsStore (s : Stored) : Type 0 where
  pub formula : Fits (formula_of_store s 1)
  pub known : AllByRecursion (IsGate s.vars s.hard) s.known
