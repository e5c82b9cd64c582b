-- What is seen of a text that is refused.
use Rattle.std.specs.Prelude.{ℕ}
use Rattle.asp_tools.specs.declared.outcome.Kind.{Kind}

-- the file, by its place, from 1; its line, from 1, or 0 for the whole file; and what is wrong
-- there
pub record SeenRefused : Type 0 where
  pub file : ℕ
  pub line : ℕ
  pub kind : Kind
