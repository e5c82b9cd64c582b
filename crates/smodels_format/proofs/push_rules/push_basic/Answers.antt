-- The line of a rule over literals.
use Rattle.std.proofs.Common.{◌∙◌, ap, ◌++◌, codes, decimal}
use Rattle.statement_fields.proofs.LinePieces.{four_appends, one_more-line}
use Rattle.smodels_format.specs.Lowering.{negatives_first}
use Rattle.smodels_format.specs.Written.{body_words}
use Rattle.smodels_format.proofs.push_rules.push_basic.Goals as goal

pub returns-clause-ok : goal.returns-clause-ok
returns-clause-ok c =
    let old = c.args.out.now.items in
    four_appends old _ _ _ _ _ _ _ _ c.in_ok-push.ensures.items c.in_ok-push_atom_field.ensures.ok
    c.in_ok-push_literals.ensures.ok c.in_ok-push-2.ensures.items
    ∙ ap (λ bytes. old ++ bytes) (one_more-line (codes "1") (decimal c.args.atom) (body_words (negatives_first c.args.lits.now)))
