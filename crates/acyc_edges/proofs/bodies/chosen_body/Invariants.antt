-- What the loop of `chosen_body` has done so far.
use Rattle.std.proofs.Common.{◌≡◌, ◌∷◌, map, take}
use Rattle.asp_base.specs.Literal.{Pos}
use Rattle.acyc_edges.specs.declared.name.Name.TheVariants.{Fires, Chosen}
use Rattle.acyc_edges.specs.private.Numbers.{number_of}
use Rattle.acyc_edges.proofs.bodies.chosen_body.Given as goal

abbrev pub invariant-loop-atom : goal.invariant-loop-atom
invariant-loop-atom l = l.lits ≡ Pos (number_of l.numbers (Fires l.rule)) ∷ map (λ b. Pos (number_of l.numbers (Chosen l.head b))) (take l.atom-index l.inner)
