-- What an smodels text says, part by part, and the program that these parts are.
use Rattle.std.specs.Prelude.{ℕ, suc, ℤ, pos, List, [], ◌∷◌, ◌++◌, map}
use Rattle.asp_base.specs.Literal.{Literal, Pos, Neg}
use Rattle.ground_program.specs.Ground.{Ground}
use Rattle.ground_program.specs.Draft.{Draft, program_of}
use Rattle.ground_program.specs.declared.program.Rule.{Rule}
use Rattle.ground_program.specs.declared.program.Level.{Level}
use Rattle.ground_program.specs.declared.program.Show.{Show}

-- the rules, the items of each minimize statement, the atoms with their names, and the atoms that
-- are required to be true and to be false
pub record Parts : Type 0 where
  pub rules : List Rule
  pub sums : List (List (Literal × ℤ))
  pub symbols : List (ℕ × List ℕ)
  pub plus : List ℕ
  pub minus : List ℕ

-- minimize statements, the first of them at this priority
abbrev pub levels_from : ℕ → List (List (Literal × ℤ)) → List Level
levels_from n [] = []
levels_from n (items ∷ sums) = record { priority = pos n; items = items } ∷ levels_from (suc n) sums

abbrev pub show_of : ℕ × List ℕ → Show
show_of symbol = record { name = symbol.1; condition = Pos symbol.0 ∷ [] }

abbrev pub draft_of_parts : Parts → Draft
draft_of_parts parts = record {
  rules = parts.rules;
  required = map (λ a. Pos a) parts.plus ++ map (λ a. Neg a) parts.minus;
  edges = [];
  levels = levels_from 0 parts.sums;
  shows = map show_of parts.symbols;
  externals = [];
}

abbrev pub program_of_parts : Parts → Ground
program_of_parts parts = program_of (draft_of_parts parts)
