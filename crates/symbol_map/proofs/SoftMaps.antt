-- Soft clauses are no part of a formula's models.
use Rattle.std.proofs.Common.{ℕ, List}
use Rattle.asp_base.specs.Sets.{Set, Same}
use Rattle.ground_program.specs.Ground.{Ground}
use Rattle.clause_store.specs.Clauses.{Clauses}
use Rattle.clause_store.specs.Models.{IsModel}
use Rattle.clause_store.specs.declared.formula.SoftClause.{SoftClause}
use Rattle.symbol_map.specs.FaithfulMap.{CoversMap, JoinsCosts, FaithfulMap}
use Rattle.symbol_map.specs.Restrict.{restrict}
use Rattle.symbol_map.specs.Symbols.{Symbols}
use Rattle.symbol_map.specs.declared.map.Form.TheVariants.{Wcnf}

module _ (P : Ground) (F : Clauses) (m : Symbols) (soft : List SoftClause) (top : ℕ) where
  model-plain : (A : Set) → IsModel (record F { soft = soft; top = top }) A → IsModel F A
  model-plain A s = record { over = s.over; clauses = s.clauses; acyclic = s.acyclic }

  model-soft : (A : Set) → IsModel F A → IsModel (record F { soft = soft; top = top }) A
  model-soft A s = record { over = s.over; clauses = s.clauses; acyclic = s.acyclic }

  covers-soft : CoversMap P F m → CoversMap P (record F { soft = soft; top = top }) (record m { form = Wcnf })
  covers-soft c = record {
    map_of = record { vars = c.map_of.vars; atoms = c.map_of.atoms; priorities = c.map_of.priorities };
    stable = λ A s. c.stable A (model-plain A s);
    names = λ A s. c.names A (model-plain A s);
    costs = λ A s. c.costs A (model-plain A s);
    onto = λ M s. let found : (A : Set) × IsModel F A × Same (restrict m A) M = c.onto M s in (found.0, model-soft found.0 found.1, found.2);
  }

  pub FaithfulMap-soft : FaithfulMap P F m → JoinsCosts P (record F { soft = soft; top = top }) (record m { form = Wcnf })
      → FaithfulMap P (record F { soft = soft; top = top }) (record m { form = Wcnf })
  FaithfulMap-soft f j = record {
    covers = covers-soft f.covers;
    one = λ A B s t. f.one A B (model-plain A s) (model-plain B t);
    soft = λ w. j;
  }
