use Rattle.std.proofs.Common.{◌≤◌, ◌+◌, ◌*◌, ℕ, leb, length, arith}
use Rattle.std.specs.List.{list_any, list_all}
use Rattle.std.proofs.lemmas.Result.{IfOk-weaker}
use Rattle.ground_program.specs.Room.{equal_measure}
use Rattle.rule_network.specs.Block.{Defines, Adds, value, values}
use Rattle.rule_network.specs.Truths.{count}
use Rattle.weight_rules.proofs.CountLaws.{equal_least, any-reaches, all-reach, few-adds}
use Rattle.weight_rules.proofs.counts.at_least.Goals as goal

pub any_of-requires-clause-room : goal.any_of-requires-clause-room
any_of-requires-clause-room c =
    let a : 6 * length c.args.lits.now ≤ equal_measure c.args.k (length c.args.lits.now) =
    equal_least c.args.k (length c.args.lits.now) c.requires.least c.requires.most in
    omega (arith, c.requires.room, c.requires.least, c.requires.most)

pub returns-then-k-eq1-clause-defines : goal.returns-then-k-eq1-clause-defines
returns-then-k-eq1-clause-defines c =
    IfOk-weaker c.any_of.result
    (λ lit. Defines c.args.net.now c.any_of.new.net lit
    (λ X M. list_any (value c.args.net.now X M) c.args.lits.now))
    (λ lit. Defines c.args.net.now c.any_of.new.net lit
    (λ X M. leb c.args.k (count (values c.args.net.now X M c.args.lits.now))))
    (λ lit d. any-reaches c.args.net.now c.any_of.new.net c.args.lits.now lit c.args.k
    c.if-k-eq1.true d) c.any_of.ensures.defines

pub returns-then-k-eq1-clause-adds : goal.returns-then-k-eq1-clause-adds
returns-then-k-eq1-clause-adds c =
    let m : ℕ = equal_measure c.args.k (length c.args.lits.now) in
    IfOk-weaker c.any_of.result
    (λ lit. Adds 1 (1 + 2 * length c.args.lits.now) c.args.net.now c.any_of.new.net)
    (λ lit. Adds m m c.args.net.now c.any_of.new.net)
    (λ lit a. few-adds c.args.k (length c.args.lits.now) (1 + 2 * length c.args.lits.now)
    c.args.net.now c.any_of.new.net c.requires.least c.requires.most
    (omega (arith, c.requires.least, c.requires.most)) a) c.any_of.ensures.adds

pub all_of-requires-clause-room : goal.all_of-requires-clause-room
all_of-requires-clause-room c =
    let a : 6 * length c.args.lits.now ≤ equal_measure c.args.k (length c.args.lits.now) =
    equal_least c.args.k (length c.args.lits.now) c.requires.least c.requires.most in
    omega (arith, c.requires.room, c.requires.least, c.requires.most)

pub returns-then-k-lits-clause-defines : goal.returns-then-k-lits-clause-defines
returns-then-k-lits-clause-defines c =
    IfOk-weaker c.all_of.result
    (λ lit. Defines c.args.net.now c.all_of.new.net lit
    (λ X M. list_all (value c.args.net.now X M) c.args.lits.now))
    (λ lit. Defines c.args.net.now c.all_of.new.net lit
    (λ X M. leb c.args.k (count (values c.args.net.now X M c.args.lits.now))))
    (λ lit d. all-reach c.args.net.now c.all_of.new.net c.args.lits.now lit c.args.k
    c.if-k-lits.true d) c.all_of.ensures.defines

pub returns-then-k-lits-clause-adds : goal.returns-then-k-lits-clause-adds
returns-then-k-lits-clause-adds c =
    let m : ℕ = equal_measure c.args.k (length c.args.lits.now) in
    IfOk-weaker c.all_of.result
    (λ lit. Adds 1 (2 + length c.args.lits.now) c.args.net.now c.all_of.new.net)
    (λ lit. Adds m m c.args.net.now c.all_of.new.net)
    (λ lit a. few-adds c.args.k (length c.args.lits.now) (2 + length c.args.lits.now) c.args.net.now
    c.all_of.new.net c.requires.least c.requires.most
    (omega (arith, c.requires.least, c.requires.most)) a) c.all_of.ensures.adds
