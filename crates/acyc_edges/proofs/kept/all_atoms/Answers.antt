-- What is left to show of `all_atoms`.
use Rattle.std.proofs.Common.{rules, ◌≡◌, sym, ◌∙◌, subst}
use Rattle.std.specs.List.{AllByRecursion}
use Rattle.std.proofs.lemmas.List.{append-nil}
use Rattle.ground_program.specs.Facts.{IsAtom}
use Rattle.components.proofs.AtomLaws.{atoms-fit}
use Rattle.acyc_edges.proofs.kept.all_atoms.Goals as goal

pub loop-name-init : goal.loop-name-init
loop-name-init c =
    let is : c.in_ok-atoms.atoms.items ≡ c.args.program.now.atoms = search rules in
    (is ∙ sym (append-nil c.args.program.now.atoms), subst (AllByRecursion IsAtom) (sym is) (atoms-fit c.args.program.now.atoms c.known.ensures.facts.atoms_rise c.known.ensures.facts.atoms_fit))
