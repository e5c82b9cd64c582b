use Rattle.std.proofs.Common.{rules, ◌≡◌, ◌∙◌}
use Rattle.stable_check.proofs.AtomSteps.{atom-shorter, atoms-next, atoms-fault}
use Rattle.stable_check.proofs.atoms_text.push_line.Goals as goal

pub atoms-smaller : goal.atoms-smaller
atoms-smaller c = atom-shorter c.atoms.scan.left c.atom.new.scan.left c.in-Ok.a c.in-Ok.ensures.ok

pub atoms-preserved : goal.atoms-preserved
atoms-preserved c = record {
  same = atoms-next c.atoms.atoms.items c.push_atom.new.atoms.items c.atoms.scan.left c.atom.new.scan.left c.in-Ok.a c.in-Ok.ensures.ok c.in_ok-push_atom-in-Ok.ensures ∙ c.atoms.invariant.same;
  rest = search rules;
}

pub returns-in-Err-clause-err : goal.returns-in-Err-clause-err
returns-in-Err-clause-err c =
    let at : c.line.result ≡ c.args.scan.now.line.number = search rules in
    atoms-fault c.args.atoms.now.items c.args.scan.now.left c.atoms.scan.left c.atoms.atoms.items c.line.result c.args.scan.now.line.number c.in-Err.kind c.atoms.invariant.same c.atoms-test.ensures
    c.in-Err.ensures.err at
