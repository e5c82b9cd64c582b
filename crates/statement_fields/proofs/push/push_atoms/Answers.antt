use Rattle.std.proofs.Common.{ap, ◌∷◌, ◌++◌, length}
use Rattle.std.specs.Fmt.{decimal}
use Rattle.statement_fields.proofs.Spacing.{spaced_before-map}
use Rattle.statement_fields.proofs.LinePieces.{two_appends-ok}
use Rattle.statement_fields.proofs.push.push_atoms.Goals as goal

pub returns-clause-ok : goal.returns-clause-ok
returns-clause-ok c =
    two_appends-ok _ c.args.out.now.items _ _ _ _ _ c.in_ok-push_count.ensures.ok (ap (λ bytes. (32 ∷ decimal (length c.args.atoms.now)) ++ bytes) (spaced_before-map decimal c.args.atoms.now)) c.push_each_atom.ensures.ok
