-- What it means that a formula with its map stands for a program: a translation is faithful where
-- the models of the two are one to one and say the same of the program's atoms (T. Janhunen. Some
-- (in)translatability results for normal logic programs and propositional theories. Journal of
-- Applied Non-Classical Logics 16, 2006), here with the names and costs besides.
use Rattle.std.specs.Prelude.{◌≡◌, pos, ◌<◌, ◌↔◌, map}
use Rattle.asp_base.specs.Sets.{Set, Same}
use Rattle.ground_program.specs.Ground.{Ground}
use Rattle.ground_program.specs.Stable.{Stable, visible, cost}
use Rattle.clause_store.specs.Clauses.{Clauses}
use Rattle.clause_store.specs.Models.{IsModel, soft_cost}
use Rattle.symbol_map.specs.declared.map.Form.TheVariants.{Wcnf}
use Rattle.symbol_map.specs.Symbols.{Symbols}
use Rattle.symbol_map.specs.Restrict.{restrict, names, costs}
use Rattle.symbol_map.specs.Scale.{joined_cost, IsCheaper}

-- the map has the formula's variables, a place for each atom of the program, and its priorities
pub record IsMapOf (P : Ground) (F : Clauses) (m : Symbols) : Type 0 where
  pub vars : m.vars ≡ F.vars
  pub atoms : map (λ place. place.atom) m.atoms ≡ P.atoms
  pub priorities : map (λ level. level.priority) m.levels ≡ map (λ level. level.priority) P.levels

-- The restrictions of the formula's models are the stable models of the program, with their names
-- and costs.
pub record CoversMap (P : Ground) (F : Clauses) (m : Symbols) : Type 0 where
  pub map_of : IsMapOf P F m
  pub stable : (A : Set) → IsModel F A → Stable P (restrict m A)
  pub names : (A : Set) → IsModel F A → names m A ≡ visible P (restrict m A)
  pub costs : (A : Set) → IsModel F A → costs m A ≡ cost P (restrict m A)
  pub onto : (M : Set) → Stable P M → (A : Set) × IsModel F A × Same (restrict m A) M

-- The soft cost joins the costs of the levels, with the factors of the program's, and orders as
-- they do.
pub record JoinsCosts (P : Ground) (F : Clauses) (m : Symbols) : Type 0 where
  pub sum : (A : Set) → IsModel F A → pos (soft_cost F.soft A) ≡ joined_cost P.levels (costs m A)
  pub order : (A B : Set) → IsModel F A → IsModel F B
      → (soft_cost F.soft A < soft_cost F.soft B) ↔ IsCheaper (costs m A) (costs m B)

-- The same, one to one, and in the form with soft clauses these have the costs.
pub record FaithfulMap (P : Ground) (F : Clauses) (m : Symbols) : Type 0 where
  pub covers : CoversMap P F m
  pub one : (A B : Set) → IsModel F A → IsModel F B → Same (restrict m A) (restrict m B) → Same A B
  pub soft : m.form ≡ Wcnf → JoinsCosts P F m
