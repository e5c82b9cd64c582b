-- The marks of the cyclic parts are right for the parts that are put together.
use Rattle.std.proofs.Common.{ℕ, List, length, subst, sym}
use Rattle.graph_parts.specs.Divided.{AreCycles, Divided}
use Rattle.graph_parts.specs.private.Marks.{AreMarked}
use Rattle.graph_parts.specs.Graph.{leads}
use Rattle.graph_parts.proofs.DividedLaws.{cycles-are}
use Rattle.graph_parts.proofs.dividing.divide.Goals as goal

pub returns-clause-cycles : goal.returns-clause-cycles
returns-clause-cycles c =
    subst (λ (d : Divided). AreCycles (leads c.args.starts.now c.args.targets.now) d.numbers d.cyclic) (sym c.new.ensures)
    (cycles-are c.args.starts.now c.args.targets.now c.in_ok-found.found.numbers.items c.in_ok-found.found.count c.in_ok-found.ensures.parts c.in_ok-cyclic.cyclic.items
    (subst (λ (numbers : List ℕ). AreMarked c.args.starts.now c.args.targets.now numbers (length numbers) c.in_ok-cyclic.cyclic.items) c.as_slice.ensures.value c.in_ok-cyclic.ensures.marked))
