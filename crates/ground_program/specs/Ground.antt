-- A ground program, as contracts see it.
use Rattle.std.specs.Prelude.{ℕ, List}
use Rattle.asp_base.specs.Literal.{Literal}
use Rattle.ground_program.specs.declared.program.Rule.{Rule}
use Rattle.ground_program.specs.declared.program.Edge.{Edge}
use Rattle.ground_program.specs.declared.program.Level.{Level}
use Rattle.ground_program.specs.declared.program.Show.{Show}

pub record Ground : Type 0 where
  pub atoms : List ℕ
  pub rules : List Rule
  pub required : List Literal
  pub edges : List Edge
  pub levels : List Level
  pub shows : List Show
