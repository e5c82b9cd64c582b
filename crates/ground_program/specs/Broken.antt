-- Rules that a set breaks.
use Rattle.std.specs.Prelude.{Bool, true, false, not, ◌&&◌}
use Rattle.asp_base.specs.Sets.{Set}
use Rattle.ground_program.specs.Stable.{holds}
use Rattle.ground_program.specs.declared.program.Head.{Head}
use Rattle.ground_program.specs.declared.program.Head.TheVariants.{Nothing, One, Choice}
use Rattle.ground_program.specs.declared.program.Rule.{Rule}

-- no set has the head of a rule without head; a choice fails in none
abbrev pub head_fails : Head → Set → Bool
head_fails Nothing M = true
head_fails (One a) M = not (M a)
head_fails (Choice as_) M = false

-- the body holds, and the head does not
abbrev pub breaks : Rule → Set → Bool
breaks rule M = holds rule.body M M && head_fails rule.head M
