-- What is left to show of `index_of`.
use Rattle.std.proofs.Common.{rules, ◌≡◌, ◌==◌, ◌<◌, suc, false, sym, subst, ◌∙◌, arith}
use Rattle.asp_base.specs.Sets.{members}
use Rattle.acyc_edges.specs.Names.{index_by}
use Rattle.acyc_edges.proofs.NodeLaws.{missing, placed}
use Rattle.acyc_edges.proofs.nodes.index_of.Goals as goal

pub returns-in-Some-clause-is : goal.returns-in-Some-clause-is
returns-in-Some-clause-is c =
    let is : c.in-Some.place ≡ suc (index_by ◌==◌ c.args.numbers.now c.args.number) =
    c.in-Some.ensures.place.0 ∙ placed c.args.numbers.now c.args.number (subst (λ k. 0 < k) c.in-Some.ensures.place.0 c.in-Some.ensures.place.1) in
    omega arith

pub returns-in-None-clause-is : goal.returns-in-None-clause-is
returns-in-None-clause-is c =
    let m : members c.args.numbers.now c.args.number ≡ false = search rules in
    c.len.ensures ∙ sym (missing c.args.numbers.now c.args.number m)
