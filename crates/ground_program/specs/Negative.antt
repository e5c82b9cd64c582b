-- Programs without positive recursion of any kind: no body has a positive literal.
use Rattle.std.specs.Prelude.{List}
use Rattle.std.specs.List.{AllByRecursion}
use Rattle.asp_base.specs.Literal.{Literal, Pos, Neg}
use Rattle.ground_program.specs.declared.program.Body.{Body}
use Rattle.ground_program.specs.declared.program.Body.TheVariants.{All, Sum}
use Rattle.ground_program.specs.declared.program.Rule.{Rule}

abbrev pub IsNegative : Literal → Type 0
IsNegative (Pos a) = ⊥
IsNegative (Neg a) = Unit {0}

abbrev pub IsNegativeBody : Body → Type 0
IsNegativeBody (All lits) = AllByRecursion IsNegative lits
IsNegativeBody (Sum bound items) = AllByRecursion (λ item. IsNegative item.0) items

abbrev pub HasNegativeBodies : List Rule → Type 0
HasNegativeBodies rules = AllByRecursion (λ rule. IsNegativeBody rule.body) rules
