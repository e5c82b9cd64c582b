-- The clause of the digit at hand is over the variables, and is the next one.
use Rattle.std.proofs.Common.{◌+◌, sym, subst, arith}
use Rattle.std.specs.List.{AllByRecursion}
use Rattle.clause_store.specs.Facts.{IsOver}
use Rattle.level_ranking.proofs.Zeroing.{zeroing-next, zero_clause-over}
use Rattle.level_ranking.proofs.rules.add_zeros.Goals as goal

pub clause-requires : goal.clause-requires
clause-requires c =
    rw (c.as_slice.ensures.value, c.in_ok-push.ensures.items, c.in_ok-put_negated.ensures, c.negate.ensures)
    (zero_clause-over c.args.store.now.vars c.loop-i.store.vars c.as_slice-lits.result.now c.args.rule.now.body c.loop-i.i c.index-lits-i.result c.loop-i.invariant.vars
    (subst (AllByRecursion (IsOver c.args.store.now.vars)) (sym c.as_slice-lits.ensures) c.requires.own) c.requires.body c.loop-i-test.true c.index-lits-i.is)

pub loop-i-preserved : goal.loop-i-preserved
loop-i-preserved c =
    rw (c.in_ok-clause.ensures.ok, c.as_slice.ensures.value, c.in_ok-push.ensures.items, c.in_ok-put_negated.ensures, c.negate.ensures)
    (zeroing-next c.as_slice-lits.result.now c.args.rule.now.body c.args.store.now c.loop-i.store c.loop-i.i (c.loop-i.i + 1) c.index-lits-i.result (omega arith) c.loop-i-test.true c.index-lits-i.is c.loop-i.invariant)
