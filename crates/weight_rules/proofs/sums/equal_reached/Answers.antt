use Rattle.std.proofs.Common.{◌≡◌, ◌∙◌, ◌≤◌, leb, length, ap, sym, subst, arith}
use Rattle.std.proofs.lemmas.List.{length-map}
use Rattle.std.proofs.lemmas.Result.{IfOk-weaker}
use Rattle.ground_program.specs.Room.{least_number}
use Rattle.ground_program.proofs.RoomLaws.{least_number-most}
use Rattle.rule_network.specs.Block.{AllKnown, Defines, values}
use Rattle.rule_network.specs.Truths.{count}
use Rattle.weight_rules.specs.private.Levels.{held, truths}
use Rattle.weight_rules.proofs.ReachLaws.{same-test}
use Rattle.weight_rules.proofs.EqualLaws.{lits-known, equal-test, total-test}
use Rattle.weight_rules.proofs.sums.equal_reached.Goals as goal

pub at_least-requires-clause-most : goal.at_least-requires-clause-most
at_least-requires-clause-most c =
    let e : length c.as_slice.result.now ≡ length c.args.items.now =
    ap length (c.as_slice.ensures ∙ c.in_ok-lits.ensures)
    ∙ length-map c.args.items.now (λ item. item.0) in
    let l : least_number c.args.bound c.args.weight ≤ length c.args.items.now =
    least_number-most c.args.bound c.args.weight c.args.items.now c.requires.weight c.requires.equal
    (total-test c.args.bound c.args.items.now c.requires.enough) in
    omega arith

pub at_least-requires-clause-known : goal.at_least-requires-clause-known
at_least-requires-clause-known c =
    subst (AllKnown c.args.net.now) (sym (c.as_slice.ensures ∙ c.in_ok-lits.ensures))
    (lits-known c.args.net.now c.args.items.now c.requires.items)

pub returns-clause-reaches : goal.returns-clause-reaches
returns-clause-reaches c =
    IfOk-weaker c.at_least.result
    (λ lit. Defines c.args.net.now c.at_least.new.net lit
    (λ X M. leb (least_number c.args.bound c.args.weight)
    (count (values c.args.net.now X M c.as_slice.result.now))))
    (λ lit. Defines c.args.net.now c.at_least.new.net lit
    (λ X M. leb c.args.bound (held (truths c.args.net.now X M c.args.items.now))))
    (λ lit d. same-test c.args.net.now c.at_least.new.net lit
    (λ X M. leb (least_number c.args.bound c.args.weight)
    (count (values c.args.net.now X M c.as_slice.result.now)))
    (λ X M. leb c.args.bound (held (truths c.args.net.now X M c.args.items.now)))
    (λ X M. ap
    (λ lits. leb (least_number c.args.bound c.args.weight)
    (count (values c.args.net.now X M lits))) (c.as_slice.ensures ∙ c.in_ok-lits.ensures)
    ∙ equal-test c.args.net.now X M c.args.bound c.args.weight c.args.items.now c.requires.weight
    c.requires.equal) d)
    c.at_least.ensures.defines
