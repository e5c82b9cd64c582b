use Rattle.std.proofs.Common.{◌≡◌, ◌∙◌, ap}
use Rattle.ground_program.specs.Ground.{Ground}
use Rattle.aspif_format.proofs.WholeText.{text-pushed}
use Rattle.aspif_format.proofs.writing.push_text.Goals as goal

pub returns-clause-ok : goal.returns-clause-ok
returns-clause-ok c =
    let named : c.as_slice.result.now ≡ c.args.program.now.atoms = c.as_slice.ensures.is ∙ ap (λ (P : Ground). P.atoms) c.program.view_is in
    text-pushed c.args.program.now c.args.out.now.items _ _ _ c.in_ok-occurring.occurring _ c.in_ok-occurring.ensures named
    c.in_ok-push_parts.ensures.ok c.in_ok-push_idle.ensures.ok c.in_ok-extend_from_slice.ensures.items
