-- The parts of the graph of links are the components of the program.
use Rattle.std.proofs.Common.{◌≡◌, ℕ, ◌+◌, List, length, ap, ap₂, subst, sym, ◌∙◌}
use Rattle.graph_parts.specs.Divided.{AreCycles}
use Rattle.graph_parts.specs.Graph.{AreEdges, has_edge}
use Rattle.graph_parts.specs.Parts.{ArePartsAmong}
use Rattle.components.proofs.ComponentLaws.{components-are, links-inside, ok-three}
use Rattle.components.proofs.finding.places.Goals as goal

pub parts_among-requires-clause-edges : goal.parts_among-requires-clause-edges
parts_among-requires-clause-edges c =
    let atoms : c.len-first.result ≡ length c.args.program.now.atoms = c.len-first.ensures.is ∙ ap (λ P. length P.atoms) c.program.view_is in
    let rules : length c.as_slice.result.now ≡ length c.args.program.now.rules = ap length (c.as_slice.ensures ∙ ap (λ P. P.rules) c.program.view_is) in
    subst (λ n. AreEdges n c.args.edges.now) (sym (ap₂ (λ n m. n + m) atoms rules))
    (subst (AreEdges (length c.args.program.now.atoms + length c.args.program.now.rules)) (sym c.requires.edges)
    (links-inside c.args.program.now.atoms c.args.program.now.rules c.known.ensures.facts.rules))

pub returns-clause-components : goal.returns-clause-components
returns-clause-components c =
    let atoms : c.len-first.result ≡ length c.args.program.now.atoms = c.len-first.ensures.is ∙ ap (λ P. length P.atoms) c.program.view_is in
    ok-three c.parts_among.result (λ parts. length parts.numbers ≡ c.len-first.result) (λ parts. ArePartsAmong (has_edge c.args.edges.now) parts.numbers parts.count) (λ parts. AreCycles (has_edge c.args.edges.now) parts.numbers parts.cyclic) _
    (λ parts sized are cycles. components-are c.args.program.now c.known.ensures.facts parts.numbers parts.count parts.cyclic
    (sized ∙ atoms)
    (subst (λ (es : List (ℕ × ℕ)). ArePartsAmong (has_edge es) parts.numbers parts.count) c.requires.edges are)
    (subst (λ (es : List (ℕ × ℕ)). AreCycles (has_edge es) parts.numbers parts.cyclic) c.requires.edges cycles))
    c.parts_among.ensures.sized c.parts_among.ensures.parts c.parts_among.ensures.cycles
