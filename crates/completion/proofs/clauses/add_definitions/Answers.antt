use Rattle.std.proofs.Common.{◌∙◌, ap}
use Rattle.clause_store.specs.Stored.{with_clauses}
use Rattle.completion.proofs.DefinitionLaws.{clauses-all}
use Rattle.completion.proofs.clauses.add_definitions.Goals as goal

pub returns : goal.returns
returns c =
    c.in_ok-add_grouped.ensures
    ∙ ap (λ clauses. with_clauses clauses c.args.store.now)
    (clauses-all c.args.atoms.now c.requires.rise c.args.rules.now c.requires.fit c.args.literals.now c.requires.literals
    c.in_ok-groups.groups.starts c.in_ok-groups.groups.values c.in_ok-groups.ensures.groups)
