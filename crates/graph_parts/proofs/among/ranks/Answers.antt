-- Sums over ones at the used numbers are ranks, and the last sum is their count.
use Rattle.std.proofs.Common.{◌≡◌, ℕ, List, map, get_or, arith, ap, subst, sym, ◌∙◌}
use Rattle.std.proofs.lemmas.List.{get_or_read}
use Rattle.graph_parts.specs.private.Ranks.{AreRanks, rank_of}
use Rattle.graph_parts.proofs.RankLaws.{rank-most, rank-whole, ranked-are, ranks-are, used-first}
use Rattle.graph_parts.proofs.among.ranks.Goals as goal

pub added_up-ranks-requires : goal.added_up-ranks-requires
added_up-ranks-requires c =
    let used = c.in_ok-used_numbers.ensures.used in
    let long = c.in_ok-used_numbers.ensures.sized in
    let first = used-first c.args.numbers.now c.in_ok-used_numbers.field-0.items used (λ u below. (c.requires u below).0) in
    let most = rank-most c.in_ok-used_numbers.field-0.items used.bits first c.args.count (omega arith) in
    let whole = rank-whole c.in_ok-used_numbers.field-0.items c.args.count long in
    let fits = c.ranges.count.fits in
    omega arith

pub returns : goal.returns
returns c =
    let used = c.in_ok-used_numbers.ensures.used in
    let long = c.in_ok-used_numbers.ensures.sized in
    let same = c.added_up-ranks.ensures.long in
    let is = c.added_up-ranks.ensures.sums c.args.count (omega arith) in
    let read : c.index.result.now ≡ get_or c.added_up-ranks.result.items c.args.count 0 = get_or_read c.added_up-ranks.result.items c.args.count c.index.result.now (omega arith) c.index.ensures 0 in
    let whole : c.index.result.now ≡ rank_of c.in_ok-used_numbers.field-0.items c.args.count = read ∙ is in
    subst (AreRanks c.args.numbers.now c.in_ok-ranked.ranked.items) (sym whole)
    (ranks-are c.args.numbers.now c.in_ok-used_numbers.field-0.items c.in_ok-ranked.ranked.items c.args.count long used
    (ranked-are c.args.numbers.now c.in_ok-used_numbers.field-0.items c.added_up-ranks.result.items c.in_ok-ranked.ranked.items c.added_up-ranks.ensures.sums
    (λ u below. let most = (c.requires u below).1 in omega arith)
    (c.in_ok-ranked.ensures ∙ ap (λ (ranks : List ℕ). map (λ i. get_or ranks i 0) c.args.numbers.now) c.as_slice.ensures.value)))
