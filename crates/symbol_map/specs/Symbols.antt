-- A map, as contracts see it.
use Rattle.std.specs.Prelude.{ℕ, List}
use Rattle.ground_program.specs.declared.program.Level.{Level}
use Rattle.ground_program.specs.declared.program.Show.{Show}
use Rattle.symbol_map.specs.declared.map.Form.{Form}
use Rattle.symbol_map.specs.declared.map.Place.{Place}

pub record Symbols : Type 0 where
  pub form : Form
  pub vars : ℕ
  pub atoms : List Place
  pub shows : List Show
  pub levels : List Level
