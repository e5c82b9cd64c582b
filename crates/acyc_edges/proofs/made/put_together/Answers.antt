-- What is left to show of `put_together`.
use Rattle.std.proofs.Common.{◌≡◌, ap, ◌∙◌}
use Rattle.graph_parts.specs.Divided.{is_cyclic_at}
use Rattle.components.specs.Divided.{cyclic_numbers, part_of}
use Rattle.acyc_edges.proofs.CyclicLaws.{rises-parts}
use Rattle.acyc_edges.proofs.MadeProgram.{made-is_program}
use Rattle.acyc_edges.proofs.made.put_together.Goals as goal

pub invariant_of-result : goal.invariant_of-result
invariant_of-result c =
    let is = c.program.view_is ∙ c.program-program.ensures in
    let required : c.in_ok-required.required ≡ c.args.setting.now.program.required = c.in_ok-required.ensures ∙ (c.as_slice.ensures ∙ ap (λ g. g.required) is) in
    let levels : c.in_ok-levels.levels ≡ c.args.setting.now.program.levels = c.in_ok-levels.ensures ∙ (c.as_slice-2.ensures ∙ ap (λ g. g.levels) is) in
    let shows : c.in_ok-shows.shows ≡ c.args.setting.now.program.shows = c.in_ok-shows.ensures ∙ (c.as_slice-3.ensures ∙ ap (λ g. g.shows) is) in
    rw (c.requires.atoms, c.requires.rules, required, c.requires.edges, levels, shows)
    (made-is_program c.args.setting.now.program c.known.ensures.program c.known.ensures.normal (part_of c.args.setting.now.parts) (cyclic_numbers c.args.setting.now.parts) (rises-parts (is_cyclic_at c.args.setting.now.parts.cyclic) c.args.setting.now.parts.count) c.args.names.now c.requires.names c.known.ensures.small c.requires.room)
