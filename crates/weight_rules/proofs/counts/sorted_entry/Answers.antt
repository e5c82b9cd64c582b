use Rattle.std.proofs.Common.{◌∙◌, ◌-◌, refl, ap, get_or, length}
use Rattle.weight_rules.proofs.ReachLaws.{entry-defines, sort-room, sort-adds}
use Rattle.weight_rules.proofs.counts.sorted_entry.Goals as goal

pub ordered-requires-clause-room : goal.ordered-requires-clause-room
ordered-requires-clause-room c =
    sort-room (length c.args.lits.now) (length c.args.lits.now) c.args.net.now refl c.requires.room

pub returns-clause-defines : goal.returns-clause-defines
returns-clause-defines c =
    entry-defines c.args.net.now c.ordered.new.net c.args.lits.now c.in_ok-sorted.sorted c.args.k
    c.index-entries-k.result
    c.requires.least c.requires.most c.in_ok-sorted.ensures.ordered
    (c.index-entries-k.is
    ∙ ap (λ xs. get_or xs (c.args.k - 1) c.index-entries-k.result) c.as_slice-entries.ensures)

pub returns-clause-adds : goal.returns-clause-adds
returns-clause-adds c =
    sort-adds (length c.args.lits.now) (length c.args.lits.now) c.args.net.now c.ordered.new.net
    refl c.in_ok-sorted.ensures.cost
