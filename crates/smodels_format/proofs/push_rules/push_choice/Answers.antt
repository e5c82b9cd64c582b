-- The line of a choice over literals.
use Rattle.std.proofs.Common.{◌∙◌, ap, ◌++◌, codes}
use Rattle.statement_fields.specs.FieldWords.{atom_words}
use Rattle.statement_fields.proofs.LinePieces.{four_appends, two_lists-line}
use Rattle.smodels_format.specs.Lowering.{negatives_first}
use Rattle.smodels_format.specs.Written.{body_words}
use Rattle.smodels_format.proofs.push_rules.push_choice.Goals as goal

pub returns-clause-ok : goal.returns-clause-ok
returns-clause-ok c =
    let old = c.args.out.now.items in
    four_appends old _ _ _ _ _ _ _ _ c.in_ok-push.ensures.items c.in_ok-push_atoms.ensures.ok
    c.in_ok-push_literals.ensures.ok c.in_ok-push-2.ensures.items
    ∙ ap (λ bytes. old ++ bytes) (two_lists-line (codes "3") (atom_words c.args.heads.now) (body_words (negatives_first c.args.lits.now)))
