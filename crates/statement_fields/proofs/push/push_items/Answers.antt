use Rattle.std.proofs.Common.{ap, ◌∷◌, [], ◌++◌, length, decimal}
use Rattle.std.specs.Fmt.{signed_decimal}
use Rattle.statement_fields.specs.FieldWords.{literal_word}
use Rattle.statement_fields.proofs.Spacing.{spaced_before-flat_map}
use Rattle.statement_fields.proofs.LinePieces.{two_appends-ok}
use Rattle.statement_fields.proofs.push.push_items.Goals as goal

pub returns-clause-ok : goal.returns-clause-ok
returns-clause-ok c =
    two_appends-ok _ c.args.out.now.items _ _ _ _ _ c.in_ok-push_count.ensures.ok
    (ap (λ bytes. (32 ∷ decimal (length c.args.items.now)) ++ bytes) (spaced_before-flat_map (λ item. literal_word item.0 ∷ signed_decimal item.1 ∷ []) c.args.items.now))
    c.push_each_item.ensures.ok
