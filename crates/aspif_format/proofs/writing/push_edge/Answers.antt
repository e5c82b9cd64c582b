use Rattle.std.proofs.Common.{◌≡◌, ◌∙◌, ap, ◌∷◌, [], ◌++◌, codes}
use Rattle.std.specs.Fmt.{signed_decimal}
use Rattle.statement_fields.specs.FieldWords.{literal_words, spaced_before}
use Rattle.statement_fields.proofs.LinePieces.{four_appends, two_lists-line}
use Rattle.aspif_format.proofs.writing.push_edge.Goals as goal

pub returns-clause-ok : goal.returns-clause-ok
returns-clause-ok c =
    let old = c.args.out.now.items in
    let edge = c.args.edge.now in
    let nodes = signed_decimal edge.from ∷ signed_decimal edge.to ∷ [] in
    let lits : c.as_slice.result.now ≡ edge.condition = c.as_slice.ensures in
    four_appends old _ _ _ _ _ _ _ _ c.in_ok-push.ensures.items c.in_ok-push_nodes.ensures.ok c.in_ok-push_literals.ensures.ok c.in_ok-push-2.ensures.items
    ∙ ap (λ lits. old ++ (codes "8" ++ (spaced_before nodes ++ (spaced_before (literal_words lits) ++ (10 ∷ []))))) lits
    ∙ ap (λ bytes. old ++ bytes) (two_lists-line (codes "8") nodes (literal_words edge.condition))
