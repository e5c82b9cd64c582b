-- The formula of a normal program: its completion, and behind it the rankings of its cyclic
-- components.
use Rattle.std.specs.Prelude.{◌≡◌, ℕ, List, [], ◌++◌}
use Rattle.asp_base.specs.Literal.{Literal}
use Rattle.asp_base.specs.Walks.{Reaches}
use Rattle.ground_program.specs.Dependencies.{depends}
use Rattle.ground_program.specs.Ground.{Ground}
use Rattle.clause_store.specs.Clauses.{Clauses}
use Rattle.clause_store.specs.Stored.{formula_of_store}
use Rattle.completion.specs.Completion.{completion}
use Rattle.components.specs.Divided.{Divided, cyclic_numbers, part_of}
use Rattle.components.specs.Parts.{ArePartsOf}
use Rattle.level_ranking.specs.Encoding.{with_rankings}
use Rattle.level_ranking.specs.Ranked.{DigitsComeFirst, HasFounded}

-- For the components of the program, in some order of their numbers: the clauses of the completion
-- come first, and they are all where no atom depends on itself; the digits of the atoms of cyclic
-- components are the variables behind those of the completion, and in each model they are the ranks
-- of the atoms.
pub record IsRanked (P : Ground) (F : Clauses) : Type 0 where
  pub divided : Divided
  pub parts : ArePartsOf P divided
  pub formula : F ≡ formula_of_store (with_rankings P (part_of divided) (cyclic_numbers divided)) 1
  pub completion_first : (clauses : List (List Literal)) × (F.hard ≡ (completion P).hard ++ clauses)
  pub tight : ((a : ℕ) → Reaches (depends P.rules) a a → ⊥) → F ≡ completion P
  pub digits_first : DigitsComeFirst P (part_of divided) (cyclic_numbers divided)
  pub founded : HasFounded P (part_of divided) (cyclic_numbers divided) F

-- a formula without its soft clauses
abbrev pub hard_part : Clauses → Clauses
hard_part F = record F { soft = []; top = 1 }
