use Rattle.std.proofs.Common.{◌≡◌, ◌∙◌, ap, ◌∷◌, ◌++◌, codes, rules}
use Rattle.std.specs.Fmt.{signed_decimal}
use Rattle.statement_fields.specs.FieldWords.{item_words}
use Rattle.statement_fields.proofs.LinePieces.{four_appends, one_more-line}
use Rattle.aspif_format.proofs.writing.push_level_part.Goals as goal

pub returns-clause-ok : goal.returns-clause-ok
returns-clause-ok c =
    let old = c.args.out.now.items in
    let p = c.args.level.now.priority in
    let pushed : c.push_field.new.out.items ≡ c.push.new.self.items ++ (32 ∷ signed_decimal p) = search rules in
    four_appends old _ _ _ _ _ _ _ _ c.in_ok-push.ensures.items pushed c.in_ok-push_items.ensures.ok c.in_ok-push-2.ensures.items
    ∙ ap (λ bytes. old ++ bytes) (one_more-line (codes "2") (signed_decimal p) (item_words c.args.items.now))
