-- What an encoding makes of a program of normal rules.
use Rattle.std.specs.Prelude.{◌≡◌, ◌≤◌, ◌<◌, ◌+◌, ◌*◌, ◌^◌, ℕ, length}
use Rattle.std.specs.List.{sum_by}
use Rattle.asp_base.specs.Sets.{members, Within}
use Rattle.asp_base.specs.Walks.{Acyclic}
use Rattle.ground_program.specs.Dependencies.{depends}
use Rattle.ground_program.specs.Ground.{Ground}
use Rattle.ground_program.specs.Normal.{AreNormal}
use Rattle.ground_program.specs.Size.{size}
use Rattle.clause_store.specs.Clauses.{Clauses}
use Rattle.symbol_map.specs.Symbols.{Symbols}
use Rattle.symbol_map.specs.declared.map.Form.{Form}
use Rattle.acyc_translation.specs.Encoded.{StandsFor, IsEncoded}
use Rattle.acyc_translation.specs.declared.encoding.Encoding.{Encoding}

-- of at most this size
pub record MadeOf (encoding : Encoding) (N Q : Ground) (most : ℕ) : Type 0 where
  pub stands : StandsFor encoding N Q
  pub normal : AreNormal Q.rules
  pub acyclic : Acyclic (depends Q.rules)
  pub atoms : Within (members N.atoms) (members Q.atoms)
  pub levels : Q.levels ≡ N.levels
  pub size : size Q ≤ most
  pub encoded : IsEncoded encoding N Q

-- the levels have few items
abbrev pub IsLight : Ground → Type 0
IsLight P = sum_by (λ level. 1 + length level.items) P.levels ≤ 2 ^ 24

-- a formula of at most twice the variables and three times the clauses of a program's size, with a
-- variable for each atom
pub record FitsSize (P : Ground) (F : Clauses) : Type 0 where
  pub atoms : length P.atoms ≤ F.vars
  pub numbers : F.vars < 2 ^ 31
  pub vars : F.vars ≤ 2 * size P
  pub hard : length F.hard ≤ 3 * size P

-- a map in another form
abbrev pub with_form : Form → Symbols → Symbols
with_form form m = record m { form = form }
