-- What is left to show of `insert`.
use Rattle.std.proofs.Common.{sym, ◌∙◌, ap, subst, ◌++◌, [], ◌∷◌}
use Rattle.indexmap.proofs.CallerLemmas.{insert_entry-new}
use Rattle.acyc_edges.specs.private.Numbers.{is_numbered, AreAtoms}
use Rattle.acyc_edges.proofs.NameEq.{lookup-new, more-fit}
use Rattle.acyc_edges.specs.contracts.name.NamePartialEq.TheImpl as name
use Rattle.acyc_edges.proofs.numbers.Numbers.insert.Goals as goal

pub returns-clause-ok : goal.returns-clause-ok
returns-clause-ok c =
    c.in_ok-insert.ensures.entries
    ∙ (insert_entry-new (λ m n. (name.ghosts).eq m n) c.self.inside.atoms c.args.name c.args.atom
    (lookup-new c.self.inside.atoms.entries c.args.name (ap (λ es. is_numbered es c.args.name) c.self.view_is ∙ c.requires.new))
    ∙ ap (λ es. es ++ ((c.args.name, c.args.atom) ∷ [])) c.self.view_is)

pub invariant_of-self-2 : goal.invariant_of-self-2
invariant_of-self-2 c =
    subst AreAtoms
    (sym (c.in_ok-insert.ensures.entries
    ∙ insert_entry-new (λ m n. (name.ghosts).eq m n) c.self.inside.atoms c.args.name c.args.atom
    (lookup-new c.self.inside.atoms.entries c.args.name (ap (λ es. is_numbered es c.args.name) c.self.view_is ∙ c.requires.new))))
    (more-fit c.self.inside.atoms.entries c.args.name c.args.atom c.self.invariant c.requires.above c.requires.below)
