-- What was added makes a program.
use Rattle.std.proofs.Common.{rules, ap, sym, subst, ◌∙◌, ◌≡◌}
use Rattle.std.specs.List.{AllByRecursion}
use Rattle.ground_program.specs.Draft.{atoms_of_draft}
use Rattle.ground_program.specs.Facts.{IsAtom}
use Rattle.ground_program.specs.private.InsideDraft.{draft_of}
use Rattle.rising_numbers.specs.Rising.{rising}
use Rattle.ground_program.proofs.FinishLaws.{draft-atoms, program-made}
use Rattle.ground_program.proofs.builder.ProgramBuilder.finish.Goals as goal

pub of_vec-requires : goal.of_vec-requires
of_vec-requires c =
    subst (AllByRecursion IsAtom) (sym (c.in_ok-named.ensures ∙ ap atoms_of_draft (sym c.self.view_is)))
    (draft-atoms (draft_of c.self.inside) c.self.invariant)

pub invariant_of-result : goal.invariant_of-result
invariant_of-result c =
    let atoms : c.in_ok-atoms.atoms ≡ rising (atoms_of_draft (draft_of c.self.inside)) =
    c.in_ok-atoms.ensures ∙ ap rising (c.in_ok-named.ensures ∙ ap atoms_of_draft (sym c.self.view_is)) in
    program-made (draft_of c.self.inside) c.self.invariant c.in_ok-atoms.atoms c.push_external_rules.new.rules c.from_vec.result
    atoms (search rules) (search rules)
