-- The line of a level.
use Rattle.std.proofs.Common.{◌∙◌, ap, ◌++◌, codes}
use Rattle.statement_fields.proofs.LinePieces.{three_appends, one_more-line}
use Rattle.smodels_format.specs.Lowering.{items_negatives_first}
use Rattle.smodels_format.specs.Written.{item_words}
use Rattle.smodels_format.proofs.push_shows.push_sum.Goals as goal

pub returns-clause-ok : goal.returns-clause-ok
returns-clause-ok c =
    let old = c.args.out.now.items in
    three_appends old _ _ _ _ _ _ c.in_ok-extend_from_slice.ensures.items c.in_ok-push_items.ensures.ok c.in_ok-push.ensures.items
    ∙ ap (λ bytes. old ++ bytes) (one_more-line (codes "6") (codes "0") (item_words (items_negatives_first c.args.items.now)))
