use Rattle.completion.proofs.DefinitionLaws.{bodies-over}
use Rattle.completion.proofs.clauses.add_definition.Goals as goal

pub add_equivalence-requires-clause-over : goal.add_equivalence-requires-clause-over
add_equivalence-requires-clause-over c =
    rw (c.deref.ensures.value, c.in_ok-put_bodies.ensures.bodies c.if-branch.false) (bodies-over c.args.store.now.vars c.args.literals.now c.args.places.now c.requires.over)
