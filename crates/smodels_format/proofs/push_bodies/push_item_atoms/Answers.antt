-- The text that was there stays where memory runs out.
use Rattle.asp_scan.proofs.Appends.{front_kept, on_err}
use Rattle.smodels_format.proofs.push_bodies.push_item_atoms.Goals as goal

pub returns-in_err-push_atom_of-clause-err : goal.returns-in_err-push_atom_of-clause-err
returns-in_err-push_atom_of-clause-err c =
    on_err _ _ (front_kept c.args.out.now.items c.loop-item.out.items _ c.push_atom_of.new.out.items c.loop-item.invariant c.in_err-push_atom_of.ensures.err)
