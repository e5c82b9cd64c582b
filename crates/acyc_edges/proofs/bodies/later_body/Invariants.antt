-- What the loop of `later_body` has done so far.
use Rattle.std.proofs.Common.{◌≡◌, ◌∷◌, map, take}
use Rattle.asp_base.specs.Literal.{Pos, Neg}
use Rattle.acyc_edges.specs.declared.name.Name.TheVariants.{Fires, NoLater}
use Rattle.acyc_edges.specs.private.Numbers.{number_of}
use Rattle.acyc_edges.proofs.bodies.later_body.Given as goal

abbrev pub invariant-loop-other : goal.invariant-loop-other
invariant-loop-other l = l.lits ≡ Pos (number_of l.numbers (Fires l.rule)) ∷ map (λ b. Neg (number_of l.numbers (NoLater l.atom b))) (take l.other-index l.inner)
