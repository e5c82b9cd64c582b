use Rattle.std.proofs.Common.{◌≡◌, ◌∙◌, ◌+◌, ◌-◌, ◌++◌, ℕ, ap, sym, subst, length}
use Rattle.std.proofs.lemmas.Result.{IfOk-weaker}
use Rattle.asp_base.proofs.Each.{each-append}
use Rattle.ground_program.specs.Radix.{rest_sum}
use Rattle.ground_program.specs.Room.{network_measure}
use Rattle.rule_network.specs.Block.{Block, Known, AllKnown, Adds}
use Rattle.merge_networks.specs.Networks.{Orders}
use Rattle.weight_rules.specs.private.Levels.{rest_lits, picked, Carries}
use Rattle.weight_rules.proofs.ReachLaws.{known-rests, length-level, level-carries, sort-room, sort-adds}
use Rattle.weight_rules.proofs.reach.level_carries.Goals as goal

pub ordered-requires-clause-room : goal.ordered-requires-clause-room
ordered-requires-clause-room c =
    sort-room (length c.as_slice.result.now)
    (rest_sum c.args.radix c.args.items.now + length c.args.carries.now) c.args.net.now
    (ap length (c.as_slice.ensures ∙ c.in_ok-list.ensures)
    ∙ length-level c.args.radix c.args.items.now c.args.carries.now) c.requires.room

pub ordered-requires-clause-known : goal.ordered-requires-clause-known
ordered-requires-clause-known c =
    subst (AllKnown c.args.net.now) (sym (c.as_slice.ensures ∙ c.in_ok-list.ensures))
    (each-append (Known c.args.net.now) (rest_lits c.args.radix c.args.items.now) c.args.carries.now
    (known-rests c.args.net.now c.args.radix c.args.items.now c.requires.items) c.requires.carries)

pub returns-clause-carries : goal.returns-clause-carries
returns-clause-carries c =
    let old : Block = c.args.net.now in
    let mid : Block = c.ordered.new.net in
    let b : ℕ = c.args.radix in
    let t : ℕ = c.args.tare in
    let orders : Orders old mid (rest_lits b c.args.items.now ++ c.args.carries.now)
    c.in_ok-sorted.sorted =
    subst (λ lits. Orders old mid lits c.in_ok-sorted.sorted)
    (c.as_slice.ensures ∙ c.in_ok-list.ensures) c.in_ok-sorted.ensures.ordered in
    IfOk-weaker c.carries_of.result (λ next. next ≡ picked b (b - t - 1) c.as_slice-2.result.now)
    (λ next. Carries old mid c.args.items.now c.args.carries.now next b t)
    (λ next e. level-carries old mid c.args.items.now c.args.carries.now c.in_ok-sorted.sorted next
    b t c.requires.tare orders
    (e ∙ ap (picked b (b - t - 1)) c.as_slice-2.ensures))
    c.carries_of.ensures

pub returns-clause-adds : goal.returns-clause-adds
returns-clause-adds c =
    let m : ℕ =
    network_measure (rest_sum c.args.radix c.args.items.now + length c.args.carries.now) in
    IfOk-weaker c.carries_of.result _ (λ next. Adds m m c.args.net.now c.ordered.new.net)
    (λ next e. sort-adds (length c.as_slice.result.now)
    (rest_sum c.args.radix c.args.items.now + length c.args.carries.now) c.args.net.now
    c.ordered.new.net
    (ap length (c.as_slice.ensures ∙ c.in_ok-list.ensures)
    ∙ length-level c.args.radix c.args.items.now c.args.carries.now)
    c.in_ok-sorted.ensures.cost)
    c.carries_of.ensures
