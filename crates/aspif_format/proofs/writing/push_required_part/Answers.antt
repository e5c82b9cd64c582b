use Rattle.std.proofs.Common.{◌∙◌, ap, ◌++◌, codes}
use Rattle.statement_fields.specs.FieldWords.{literal_words}
use Rattle.statement_fields.proofs.LinePieces.{three_appends, words-line}
use Rattle.aspif_format.proofs.writing.push_required_part.Goals as goal

pub returns-clause-ok : goal.returns-clause-ok
returns-clause-ok c =
    let old = c.args.out.now.items in
    three_appends old _ _ _ _ _ _ c.in_ok-push.ensures.items c.in_ok-push_literals.ensures.ok c.in_ok-push-2.ensures.items
    ∙ ap (λ bytes. old ++ bytes) (words-line (codes "6") (literal_words c.args.lits.now))
