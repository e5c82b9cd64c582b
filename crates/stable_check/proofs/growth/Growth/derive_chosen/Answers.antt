use Rattle.std.proofs.Common.{◌∙◌, ap, sym, drop, length, get_or, ◌+◌, arith}
use Rattle.stable_check.specs.private.Growth.{Growing, derive_chosen}
use Rattle.stable_check.proofs.GrowthLaws.{derived-derive_if_chosen, lacks-derive_if_chosen, derive_chosen-next}
use Rattle.stable_check.proofs.growth.Growth.derive_chosen.Goals as goal

pub loop-head-preserved : goal.loop-head-preserved
loop-head-preserved c =
    let rows = c.args.table.now.rows in
    let heads = c.args.heads.now in
    let i = c.loop-head.head-index in
    record {
      derived = ap (λ (g : Growing). length g.derived) c.in_ok-derive_if_chosen.ensures
          ∙ derived-derive_if_chosen c.args.atoms.now c.args.set.now rows (get_or heads i 0) c.loop-head.self ∙ c.loop-head.invariant.derived;
      lacks = c.loop-head.invariant.lacks
          ∙ sym (ap (λ (g : Growing). length g.counts.lacks) c.in_ok-derive_if_chosen.ensures
          ∙ lacks-derive_if_chosen c.args.atoms.now c.args.set.now rows (get_or heads i 0) c.loop-head.self);
      rest = ap (derive_chosen c.args.atoms.now c.args.set.now rows (drop (i + 1) heads)) c.in_ok-derive_if_chosen.ensures
          ∙ derive_chosen-next c.args.atoms.now c.args.set.now rows heads i 0 c.loop-head.self (omega arith)
          ∙ c.loop-head.invariant.rest;
    }
