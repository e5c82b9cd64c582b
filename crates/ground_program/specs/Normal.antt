-- Normal rules: one head atom or none, and a body of literals.
use Rattle.std.specs.Prelude.{List, []}
use Rattle.std.specs.List.{AllByRecursion}
use Rattle.asp_base.specs.Literal.{Literal}
use Rattle.ground_program.specs.declared.program.Head.{Head}
use Rattle.ground_program.specs.declared.program.Head.TheVariants.{Nothing, One, Choice}
use Rattle.ground_program.specs.declared.program.Body.{Body}
use Rattle.ground_program.specs.declared.program.Body.TheVariants.{All, Sum}
use Rattle.ground_program.specs.declared.program.Rule.{Rule}

abbrev pub IsNormalHead : Head → Type 0
IsNormalHead Nothing = Unit {0}
IsNormalHead (One a) = Unit {0}
IsNormalHead (Choice as_) = ⊥

abbrev pub IsNormalBody : Body → Type 0
IsNormalBody (All lits) = Unit {0}
IsNormalBody (Sum bound items) = ⊥

abbrev pub literals_of : Body → List Literal
literals_of (All lits) = lits
literals_of (Sum bound items) = []

abbrev pub AreNormal : List Rule → Type 0
AreNormal rules = AllByRecursion (λ rule. IsNormalHead rule.head × IsNormalBody rule.body) rules
