use Rattle.std.proofs.Common.{◌≡◌, ◌∙◌, ◌+◌, ◌-◌, ◌<◌, length, get_or, ap, sym, subst, arith, rules}
use Rattle.asp_base.proofs.Each.{each-append}
use Rattle.ground_program.specs.Radix.{total}
use Rattle.rule_network.specs.Block.{Known, AllKnown}
use Rattle.merge_networks.specs.Networks.{Orders}
use Rattle.weight_rules.specs.private.Levels.{all_lits}
use Rattle.weight_rules.proofs.ReachLaws.{known-all, length-top, top-defines, sort-room, sort-adds}
use Rattle.weight_rules.proofs.reach.reached_at_top.Goals as goal

pub ordered-requires-clause-room : goal.ordered-requires-clause-room
ordered-requires-clause-room c =
    sort-room (length c.as_slice.result.now) (total c.args.items.now + length c.args.carries.now)
    c.args.net.now
    (ap length (c.as_slice.ensures ∙ c.in_ok-list.ensures)
    ∙ length-top c.args.items.now c.args.carries.now) c.requires.room

pub ordered-requires-clause-known : goal.ordered-requires-clause-known
ordered-requires-clause-known c =
    subst (AllKnown c.args.net.now) (sym (c.as_slice.ensures ∙ c.in_ok-list.ensures))
    (each-append (Known c.args.net.now) (all_lits c.args.items.now) c.args.carries.now
    (known-all c.args.net.now c.args.items.now c.requires.items) c.requires.carries)

pub offset_bounds-entries-bound : goal.offset_bounds-entries-bound
offset_bounds-entries-bound c =
    let n : length c.as_slice-entries.result.now ≡ length c.as_slice.result.now =
    ap length c.as_slice-entries.ensures ∙ c.in_ok-sorted.ensures.entries in
    let m : length c.as_slice.result.now ≡ total c.args.items.now + length c.args.carries.now =
    ap length (c.as_slice.ensures ∙ c.in_ok-list.ensures)
    ∙ length-top c.args.items.now c.args.carries.now in
    let l : c.args.bound - 1 < length c.as_slice-entries.result.now =
    omega (arith, c.requires.enough, c.requires.positive) in
    search (rules, l)

pub bounds-entries-bound : goal.bounds-entries-bound
bounds-entries-bound c =
    let n : length c.as_slice-entries.result.now ≡ length c.as_slice.result.now =
    ap length c.as_slice-entries.ensures ∙ c.in_ok-sorted.ensures.entries in
    let m : length c.as_slice.result.now ≡ total c.args.items.now + length c.args.carries.now =
    ap length (c.as_slice.ensures ∙ c.in_ok-list.ensures)
    ∙ length-top c.args.items.now c.args.carries.now in
    omega (arith, c.requires.enough, c.requires.positive)

pub returns-clause-reaches : goal.returns-clause-reaches
returns-clause-reaches c =
    top-defines c.args.net.now c.ordered.new.net c.args.items.now c.args.carries.now
    c.in_ok-sorted.sorted c.args.bound c.index-entries-bound.result
    c.requires.positive c.requires.enough
    (subst (λ lits. Orders c.args.net.now c.ordered.new.net lits c.in_ok-sorted.sorted)
    (c.as_slice.ensures ∙ c.in_ok-list.ensures) c.in_ok-sorted.ensures.ordered)
    (c.index-entries-bound.is
    ∙ ap (λ xs. get_or xs (c.args.bound - 1) c.index-entries-bound.result)
    c.as_slice-entries.ensures)

pub returns-clause-adds : goal.returns-clause-adds
returns-clause-adds c =
    sort-adds (length c.as_slice.result.now) (total c.args.items.now + length c.args.carries.now)
    c.args.net.now c.ordered.new.net
    (ap length (c.as_slice.ensures ∙ c.in_ok-list.ensures)
    ∙ length-top c.args.items.now c.args.carries.now) c.in_ok-sorted.ensures.cost
