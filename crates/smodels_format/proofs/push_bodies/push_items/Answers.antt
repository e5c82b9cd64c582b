-- The numbers, the atoms and the weights are the words of the items.
use Rattle.smodels_format.proofs.WrittenBodies.{items-written}
use Rattle.statement_fields.proofs.LinePieces.{two_appends-ok}
use Rattle.smodels_format.proofs.push_bodies.push_items.Goals as goal

pub returns-clause-ok : goal.returns-clause-ok
returns-clause-ok c =
    two_appends-ok _ c.args.out.now.items _ _ _ _ _ c.in_ok-push_item_counts.ensures.ok (items-written c.args.items.now) c.push_atoms_and_weights.ensures.ok
