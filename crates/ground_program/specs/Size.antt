-- The size of a program: its atoms, and each part with its entries.
use Rattle.std.specs.Prelude.{ℕ, ◌+◌, length}
use Rattle.std.specs.List.{sum_by}
use Rattle.ground_program.specs.Ground.{Ground}
use Rattle.ground_program.specs.declared.program.Head.{Head}
use Rattle.ground_program.specs.declared.program.Head.TheVariants.{Nothing, One, Choice}
use Rattle.ground_program.specs.declared.program.Body.{Body}
use Rattle.ground_program.specs.declared.program.Body.TheVariants.{All, Sum}
use Rattle.ground_program.specs.declared.program.Rule.{Rule}

-- the heads of a choice
abbrev pub choices : Head → ℕ
choices Nothing = 0
choices (One a) = 0
choices (Choice as_) = length as_

abbrev pub entries : Body → ℕ
entries (All lits) = length lits
entries (Sum bound items) = length items

abbrev pub rule_size : Rule → ℕ
rule_size rule = 1 + entries rule.body + choices rule.head

abbrev pub size : Ground → ℕ
size P =
    length P.atoms + sum_by rule_size P.rules + length P.required
    + sum_by (λ edge. 1 + length edge.condition) P.edges
    + sum_by (λ level. 1 + length level.items) P.levels
    + sum_by (λ show. 1 + length show.condition) P.shows
