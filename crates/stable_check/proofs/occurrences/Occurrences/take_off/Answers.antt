use Rattle.std.proofs.Common.{◌≢◌, ◌∙◌, ap, sym, ◌<◌, ◌-◌, length, reverse, get_or, arith}
use Rattle.std.proofs.lemmas.List.{length-set}
use Rattle.stable_check.specs.private.Growth.{Counts, take_off_all}
use Rattle.stable_check.specs.private.Links.{Entry, chain}
use Rattle.stable_check.proofs.LinkLaws.{Leads, leads-read, chain-none}
use Rattle.stable_check.proofs.occurrences.Occurrences.take_off.Goals as goal

link-leads : (c : goal.In_ok-take_off) → Leads (reverse c.self.inside.links.items) c.loop-at.at c.index-link.result.now
link-leads c =
    let some : c.loop-at.at ≢ 0 = c.loop-at-test.true in
    leads-read c.self.inside.links.items c.loop-at.at c.index-link.result.now (omega arith) c.loop-at.invariant.within c.self.invariant.back c.index-link.ensures

pub loop-at-smaller : goal.loop-at-smaller
loop-at-smaller c = (link-leads c).older

pub loop-at-preserved : goal.loop-at-preserved
loop-at-preserved c =
    let entry : Entry = (c.index-link.result.now.rule, c.index-link.result.now.weight) in
    let down : c.index-link.result.now.next < c.loop-at.at = (link-leads c).older in
    record {
      within = let k = c.loop-at.invariant.within in omega arith;
      same = c.loop-at.invariant.same ∙ sym (length-set c.loop-at.counters.lacks entry.0 (get_or c.loop-at.counters.lacks entry.0 0 - entry.1)) ∙ ap (λ (s : Counts). length s.lacks) (sym c.in_ok-take_off.ensures);
      rest = ap (take_off_all (chain (reverse c.self.inside.links.items) c.index-link.result.now.next)) c.in_ok-take_off.ensures
          ∙ ap (λ entries. take_off_all entries c.loop-at.counters) (sym (link-leads c).entries)
          ∙ c.loop-at.invariant.rest;
    }

pub returns : goal.returns
returns c =
    ap (λ entries. take_off_all entries c.loop-at.counters)
    (sym (chain-none (reverse c.self.inside.links.items)) ∙ ap (chain (reverse c.self.inside.links.items)) (sym c.loop-at-test.false))
    ∙ c.loop-at.invariant.rest
