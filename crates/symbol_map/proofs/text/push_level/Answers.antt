use Rattle.std.proofs.Common.{◌≡◌, ◌∙◌, ap, ◌∷◌, [], ◌++◌, codes}
use Rattle.std.specs.Fmt.{signed_decimal}
use Rattle.statement_fields.specs.FieldWords.{item_words, spaced_before}
use Rattle.statement_fields.proofs.LinePieces.{three_appends, front_more-line}
use Rattle.symbol_map.specs.private.Fronts.{priority_front}
use Rattle.symbol_map.proofs.text.push_level.Goals as goal

pub returns-clause-ok : goal.returns-clause-ok
returns-clause-ok c =
    let old = c.args.out.now.items in
    let level = c.args.level.now in
    let items : c.as_slice.result.now ≡ level.items = c.as_slice.ensures in
    three_appends old _ _ _ _ _ _ c.in_ok-push_priority.ensures.ok c.in_ok-push_items.ensures.ok c.in_ok-push.ensures.items
    ∙ ap (λ bytes. old ++ bytes) (ap (λ items. priority_front level.priority ++ (spaced_before (item_words items) ++ (10 ∷ []))) items
    ∙ front_more-line (codes "level") (signed_decimal level.priority) (item_words level.items))
