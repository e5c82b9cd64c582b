-- The condition is over the variables of the atoms.
use Rattle.std.proofs.Common.{◌∙◌, sym, subst, length}
use Rattle.std.specs.List.{AllByRecursion}
use Rattle.clause_store.specs.Facts.{IsOver}
use Rattle.clause_store.proofs.GateLaws.{literals-up}
use Rattle.completion.proofs.Places.{all-over}
use Rattle.sat_translation.specs.InputMap.{literals_over}
use Rattle.acyc_translation.proofs.linking.condition.Goals as goal

pub all_of-requires-clause-over : goal.all_of-requires-clause-over
all_of-requires-clause-over c =
    subst (AllByRecursion (IsOver c.args.store.now.vars)) (sym (c.as_slice.ensures ∙ c.in_ok-over.ensures))
    (literals-up (length c.args.atoms.now) c.args.store.now.vars c.requires.up (literals_over c.args.atoms.now c.args.lits.now)
    (all-over c.args.atoms.now c.args.lits.now c.requires.fit))
