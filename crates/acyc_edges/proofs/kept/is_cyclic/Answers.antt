-- What is left to show of `is_cyclic`.
use Rattle.std.proofs.Common.{◌≤◌, ap, sym, ◌∙◌, subst}
use Rattle.components.specs.Components.{number_of}
use Rattle.components.specs.Divided.{part_of}
use Rattle.graph_parts.specs.Divided.{is_cyclic_at}
use Rattle.acyc_edges.proofs.CyclicLaws.{member-test}
use Rattle.acyc_edges.proofs.kept.is_cyclic.Goals as goal

pub returns : goal.returns
returns c =
    let low : 1 ≤ part_of c.args.parts.now c.args.atom = subst (λ as_. 1 ≤ number_of as_ c.args.parts.now.numbers c.args.atom) (sym c.requires.parts.atoms) (c.requires.parts.components.least c.args.atom c.requires.among) in
    let high : part_of c.args.parts.now c.args.atom ≤ c.args.parts.now.count = subst (λ as_. number_of as_ c.args.parts.now.numbers c.args.atom ≤ c.args.parts.now.count) (sym c.requires.parts.atoms) (c.requires.parts.components.most c.args.atom c.requires.among) in
    c.is_cyclic.ensures ∙ (ap (is_cyclic_at c.args.parts.now.cyclic) c.in-Some.ensures.number
    ∙ sym (member-test (is_cyclic_at c.args.parts.now.cyclic) c.args.parts.now.count (part_of c.args.parts.now c.args.atom) low high))
