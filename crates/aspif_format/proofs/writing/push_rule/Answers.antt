use Rattle.std.proofs.Common.{◌∙◌, ap, ◌++◌, codes}
use Rattle.aspif_format.specs.Written.{head_words, body_words}
use Rattle.statement_fields.proofs.LinePieces.{four_appends, two_lists-line}
use Rattle.aspif_format.proofs.writing.push_rule.Goals as goal

pub returns-clause-ok : goal.returns-clause-ok
returns-clause-ok c =
    let old = c.args.out.now.items in
    four_appends old _ _ _ _ _ _ _ _ c.in_ok-push.ensures.items c.in_ok-push_head.ensures.ok c.in_ok-push_body.ensures.ok c.in_ok-push-2.ensures.items
    ∙ ap (λ bytes. old ++ bytes) (two_lists-line (codes "1") (head_words c.args.rule.now.head) (body_words c.args.rule.now.body))
