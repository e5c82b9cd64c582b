use Rattle.std.proofs.Common.{ap, ◌∷◌, ◌++◌, length, decimal}
use Rattle.statement_fields.specs.FieldWords.{literal_word}
use Rattle.statement_fields.proofs.Spacing.{spaced_before-map}
use Rattle.statement_fields.proofs.LinePieces.{two_appends-ok}
use Rattle.statement_fields.proofs.push.push_literals.Goals as goal

pub returns-clause-ok : goal.returns-clause-ok
returns-clause-ok c =
    two_appends-ok _ c.args.out.now.items _ _ _ _ _ c.in_ok-push_count.ensures.ok (ap (λ bytes. (32 ∷ decimal (length c.args.lits.now)) ++ bytes) (spaced_before-map literal_word c.args.lits.now)) c.push_each_literal.ensures.ok
