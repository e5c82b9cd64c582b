-- The rules of the atom can be ranked over the variables that are there then.
use Rattle.std.proofs.Common.{length, arith}
use Rattle.clause_store.proofs.GateLaws.{literals-up}
use Rattle.level_ranking.proofs.Supporting.{all-can}
use Rattle.level_ranking.proofs.rules.add_atom.Goals as goal

pub add_supported-requires-clause-can : goal.add_supported-requires-clause-can
add_supported-requires-clause-can c =
    let is = c.in_ok-lower.ensures.is in
    all-can c.args.store.now.vars c.predecessor.new.store.vars (length c.args.own.now) c.in_ok-lower.lower c.args.digits.now c.args.rules.now is.adds.extends.vars is.digits c.requires.some is.over c.requires.can

pub add_nears-requires-clause-own : goal.add_nears-requires-clause-own
add_nears-requires-clause-own c =
    let is = c.in_ok-lower.ensures.is in
    literals-up c.args.store.now.vars c.add_supported.new.store.vars (omega (arith, is.adds.extends.vars, c.in_ok-add_supported.ensures.from)) c.args.own.now c.requires.own

pub add_nears-requires-clause-can : goal.add_nears-requires-clause-can
add_nears-requires-clause-can c =
    let is = c.in_ok-lower.ensures.is in
    all-can c.args.store.now.vars c.add_supported.new.store.vars (length c.args.own.now) c.in_ok-lower.lower c.args.digits.now c.args.rules.now (omega (arith, is.adds.extends.vars, c.in_ok-add_supported.ensures.from))
    is.digits c.requires.some (literals-up c.predecessor.new.store.vars c.add_supported.new.store.vars c.in_ok-add_supported.ensures.from c.in_ok-lower.lower is.over) c.requires.can
