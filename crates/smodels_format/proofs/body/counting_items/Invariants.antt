-- Each literal so far stands with weight 1.
use Rattle.std.proofs.Common.{◌≡◌, map, take}
use Rattle.std.specs.Prelude.{pos}
use Rattle.smodels_format.proofs.body.counting_items.Given as goal

abbrev pub invariant-loop-lit : goal.invariant-loop-lit
invariant-loop-lit l = l.items.items ≡ map (λ lit. (lit, pos 1)) (take l.lit-index l.lits)
