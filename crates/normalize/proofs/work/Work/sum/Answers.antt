-- What the network answers, of the sum as it is read from the body.
use Rattle.std.proofs.Common.{ℕ, refl, sym, subst}
use Rattle.std.specs.List.{AllByRecursion}
use Rattle.ground_program.specs.Dependencies.{positives_of_body}
use Rattle.ground_program.specs.Room.{sum_measure}
use Rattle.rule_network.specs.Block.{HasRoom, Known, Adds}
use Rattle.weight_rules.specs.Sum.{Reaches}
use Rattle.normalize.specs.private.Inside.{stage_of}
use Rattle.normalize.specs.private.Stage.{Spends, HasRoomFor, atoms_of, sum_room}
use Rattle.normalize.proofs.NetLaws.{sum-weights, sum-short, sum-back, sum-there, block-room, block-known, block-stage, block-spends, body-answers, sum-adds}
use Rattle.normalize.proofs.work.Work.sum.Goals as goal
use Rattle.normalize.proofs.work.Work.sum.Goals.{In_ok-reach}

pub sum_at_least-requires-clause-weights : goal.sum_at_least-requires-clause-weights
sum_at_least-requires-clause-weights c =
    sum-weights (atoms_of c.args.self) c.args.body.now c.in-Sum.bound c.in-Sum.items
    c.as_slice.result.now c.in-Sum.is c.requires.fits c.as_slice.ensures

pub sum_at_least-requires-clause-short : goal.sum_at_least-requires-clause-short
sum_at_least-requires-clause-short c =
    sum-short (atoms_of c.args.self) c.args.body.now c.in-Sum.bound c.in-Sum.items
    c.as_slice.result.now c.in-Sum.is c.requires.fits c.as_slice.ensures

pub sum_at_least-requires-clause-known : goal.sum_at_least-requires-clause-known
sum_at_least-requires-clause-known c =
    sum-there (atoms_of c.args.self) c.args.body.now c.in-Sum.bound c.in-Sum.items
    c.as_slice.result.now c.in-Sum.is c.requires.fits c.as_slice.ensures
    (λ bound items. AllByRecursion (λ item. Known c.for_body-net.result item.0) items)
    (block-known c.args.self (stage_of c.self.inside) c.self.view_is c.self.invariant
    (positives_of_body c.args.body.now) c.for_body-net.result c.for_body-net.ensures
    c.args.body.now c.in-Sum.bound c.in-Sum.items c.in-Sum.is refl c.requires.fits)

pub sum_at_least-requires-clause-room : goal.sum_at_least-requires-clause-room
sum_at_least-requires-clause-room c =
    sum-there (atoms_of c.args.self) c.args.body.now c.in-Sum.bound c.in-Sum.items
    c.as_slice.result.now c.in-Sum.is c.requires.fits c.as_slice.ensures
    (λ bound items. HasRoom (sum_measure bound items) c.for_body-net.result)
    (block-room c.args.self (stage_of c.self.inside) c.self.view_is c.self.invariant
    (positives_of_body c.args.body.now) c.for_body-net.result c.for_body-net.ensures
    (sum_measure c.in-Sum.bound c.in-Sum.items)
    (subst (λ body. HasRoomFor (sum_room body) c.args.self) c.in-Sum.is c.requires.room))

reached : (c : In_ok-reach)
    → Reaches c.in-Sum.bound c.in-Sum.items c.for_body-net.result c.sum_at_least.new.net
    c.in_ok-reach.reach
reached c =
    sum-back (atoms_of c.args.self) c.args.body.now c.in-Sum.bound c.in-Sum.items
    c.as_slice.result.now c.in-Sum.is c.requires.fits c.as_slice.ensures
    (λ bound items. Reaches bound items c.for_body-net.result c.sum_at_least.new.net
    c.in_ok-reach.reach)
    c.in_ok-reach.ensures.reaches

pub with_block-requires : goal.with_block-requires
with_block-requires c =
    let r = reached (goal.at.with_block-requires c).In_ok-reach in
    record {
      stage = λ block. block-stage c.args.self (stage_of c.self.inside) c.self.view_is
          c.self.invariant (positives_of_body c.args.body.now) c.for_body-net.result
          c.for_body-net.ensures c.sum_at_least.new.net c.in-Sum.bound c.in-Sum.items
          c.in_ok-reach.reach r c.self.inside.rules.items block;
    }

pub returns-clause-answers : goal.returns-clause-answers
returns-clause-answers c =
    let r = reached (goal.at.returns-clause-answers c).In_ok-reach in
    body-answers c.args.self (stage_of c.self.inside) c.self.view_is c.self.invariant
    (positives_of_body c.args.body.now) c.for_body-net.result c.for_body-net.ensures
    c.sum_at_least.new.net c.in-Sum.bound c.in-Sum.items c.in_ok-reach.reach r
    c.in_ok-with_block.field-0 c.in_ok-with_block.ensures.is c.in_ok-with_block.ensures.block
    c.args.body.now c.in-Sum.is c.requires.fits

pub returns-clause-spends : goal.returns-clause-spends
returns-clause-spends c =
    let r = reached (goal.at.returns-clause-spends c).In_ok-reach in
    let m : ℕ = sum_measure c.in-Sum.bound c.in-Sum.items in
    subst (λ body. Spends (sum_room body) c.args.self c.in_ok-with_block.field-0)
    (sym c.in-Sum.is)
    (block-spends c.args.self (stage_of c.self.inside) c.self.view_is c.self.invariant
    (positives_of_body c.args.body.now) c.for_body-net.result c.for_body-net.ensures
    c.sum_at_least.new.net c.in-Sum.bound c.in-Sum.items c.in_ok-reach.reach r
    c.in_ok-with_block.field-0 c.in_ok-with_block.ensures.is m m
    (sum-back (atoms_of c.args.self) c.args.body.now c.in-Sum.bound c.in-Sum.items
    c.as_slice.result.now c.in-Sum.is c.requires.fits c.as_slice.ensures
    (λ bound items. Adds (sum_measure bound items) (sum_measure bound items)
    c.for_body-net.result c.sum_at_least.new.net)
    c.in_ok-reach.ensures.adds))

pub returns-clause-adds : goal.returns-clause-adds
returns-clause-adds c =
    let r = reached (goal.at.returns-clause-adds c).In_ok-reach in
    sum-adds c.args.self (stage_of c.self.inside) c.self.view_is c.self.invariant
    (positives_of_body c.args.body.now) c.for_body-net.result c.for_body-net.ensures
    c.sum_at_least.new.net c.in-Sum.bound c.in-Sum.items c.in_ok-reach.reach r
    c.in_ok-with_block.field-0 c.in_ok-with_block.ensures.is c.in_ok-with_block.ensures.block
