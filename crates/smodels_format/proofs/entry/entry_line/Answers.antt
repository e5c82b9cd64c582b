-- A fault of the atom, and one behind it, are faults of the line.
use Rattle.std.proofs.Common.{rules, arith}
use Rattle.std.proofs.lemmas.Grind.{common_steps}
use Rattle.smodels_format.specs.private.Steps.{behind}
use Rattle.smodels_format.proofs.Starts.{entry-fails}
use Rattle.smodels_format.proofs.entry.entry_line.Goals as goal

pub returns-in_err-entry_atom-clause-err : goal.returns-in_err-entry_atom-clause-err
returns-in_err-entry_atom-clause-err c =
    let e = c.in_err-entry_atom.ensures.err (behind c.args.entries c.args.builder.now) in
    grind (arith, common_steps)

pub returns-in_err-entry-in-Some-clause-err : goal.returns-in_err-entry-in-Some-clause-err
returns-in_err-entry-in-Some-clause-err c =
    let e = entry-fails _ _ _ _ _ _ (c.in_ok-entry_atom.ensures.ok (behind c.args.entries c.args.builder.now)) c.in-Some.is c.in_err-entry-in-Some.ensures.err in
    search rules
