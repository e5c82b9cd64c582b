-- The text is read back, and the lowered program is faithful.
use Rattle.std.proofs.Common.{◌≡◌, true, rules}
use Rattle.ground_program.proofs.FreshLaws.{new_atom-rise, new_atom-new}
use Rattle.smodels_format.specs.Writable.{is_writable}
use Rattle.smodels_format.proofs.Lowered.{lowered-faithful}
use Rattle.smodels_format.proofs.TextFit.{smodels-read}
use Rattle.smodels_format.proofs.writing.write.Goals as goal

pub returns-in-Ok-clause-read_back : goal.returns-in-Ok-clause-read_back
returns-in-Ok-clause-read_back c =
    let fits : is_writable c.args.program.now ≡ true = search rules in
    smodels-read c.args.program.now c.known.ensures.facts fits c.requires.levels c.requires.size

pub returns-in-Ok-clause-faithful : goal.returns-in-Ok-clause-faithful
returns-in-Ok-clause-faithful c =
    let fits : is_writable c.args.program.now ≡ true = search rules in
    lowered-faithful c.args.program.now (new_atom-rise c.args.program.now.atoms) (new_atom-new c.args.program.now.atoms) c.known.ensures.facts fits
