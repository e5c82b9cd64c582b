-- Where nothing is linked, each atom is a component of its own.
use Rattle.std.proofs.Common.{◌≡◌, [], length, ap, ◌∙◌}
use Rattle.graph_parts.specs.Divided.{AreCycles}
use Rattle.graph_parts.specs.Graph.{has_edge}
use Rattle.graph_parts.specs.Parts.{ArePartsAmong}
use Rattle.components.proofs.ComponentLaws.{components-alone, none-cyclic, ok-three}
use Rattle.components.proofs.finding.alone.Goals as goal

pub returns-clause-components : goal.returns-clause-components
returns-clause-components c =
    let atoms : c.len.result ≡ length c.args.program.now.atoms = c.len.ensures.is ∙ ap (λ P. length P.atoms) c.program.view_is in
    ok-three c.parts_apart.result (λ parts. length parts.numbers ≡ c.len.result) (λ parts. ArePartsAmong (has_edge []) parts.numbers parts.count) (λ parts. AreCycles (has_edge []) parts.numbers parts.cyclic) _
    (λ parts sized are cycles. components-alone c.args.program.now c.known.ensures.facts c.requires.none parts.numbers parts.count parts.cyclic (sized ∙ atoms) are cycles)
    c.parts_apart.ensures.sized c.parts_apart.ensures.parts c.parts_apart.ensures.cycles

pub returns-clause-cyclic : goal.returns-clause-cyclic
returns-clause-cyclic c =
    ok-three c.parts_apart.result (λ parts. length parts.numbers ≡ c.len.result) (λ parts. ArePartsAmong (has_edge []) parts.numbers parts.count) (λ parts. AreCycles (has_edge []) parts.numbers parts.cyclic) _
    (λ parts sized are cycles. none-cyclic parts.numbers parts.count parts.cyclic are cycles)
    c.parts_apart.ensures.sized c.parts_apart.ensures.parts c.parts_apart.ensures.cycles
