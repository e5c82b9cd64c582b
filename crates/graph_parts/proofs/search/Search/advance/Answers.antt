-- Each action keeps what a search knows, and the weight falls.
use Rattle.std.proofs.Common.{◌≡◌, ◌+◌, ◌-◌, length, get_or, arith}
use Rattle.std.proofs.lemmas.List.{get_or_read}
use Rattle.graph_parts.proofs.Closing.{searching-close}
use Rattle.graph_parts.proofs.Held.{searches-held, weight-held}
use Rattle.graph_parts.proofs.Rounds.{searching-join, searching-new, searching-pass, searching-spend, weight-pass}
use Rattle.graph_parts.proofs.search.Search.advance.Goals as goal

pub returns-in-Ended-clause-searching : goal.returns-in-Ended-clause-searching
returns-in-Ended-clause-searching c =
    let some = c.requires.bounds in
    let ends : (c.len-last.result - 1) + 1 ≡ length c.args.self.now.bounds.items = omega arith in
    let is : c.index-bound.result.now ≡ get_or c.args.self.now.bounds.items (c.len-last.result - 1) 0 = get_or_read c.args.self.now.bounds.items (c.len-last.result - 1) c.index-bound.result.now (omega arith) c.index-bound.ensures 0 in
    searches-held _ _ _ _ _ _ _ _ _ _ c.close.ensures (searching-close _ _ c.requires.graph _ _ _ _ _ _ _ c.requires.searching _ _ ends is (λ i low. c.in-Ended.ensures i low))

pub returns-in-Spent-clause-searching : goal.returns-in-Spent-clause-searching
returns-in-Spent-clause-searching c =
    let some = c.in-Spent.ensures.0 in
    let ends : (length c.args.self.now.work.items - 1) + 1 ≡ length c.args.self.now.work.items = omega arith in
    searches-held _ _ _ _ _ _ _ _ _ _ c.spend.ensures (searching-spend _ _ _ _ _ _ _ _ _ c.requires.searching _ ends c.in-Spent.ensures.1)

pub returns-in-Past-clause-searching : goal.returns-in-Past-clause-searching
returns-in-Past-clause-searching c =
    let some = c.requires.bounds in
    let ends : (c.len-last.result - 1) + 1 ≡ length c.args.self.now.bounds.items = omega arith in
    let is : c.index-bound.result.now ≡ get_or c.args.self.now.bounds.items (c.len-last.result - 1) 0 = get_or_read c.args.self.now.bounds.items (c.len-last.result - 1) c.index-bound.result.now (omega arith) c.index-bound.ensures 0 in
    searches-held _ _ _ _ _ _ _ _ _ _ c.pass.ensures (searching-pass _ _ c.requires.graph _ _ _ _ _ _ _ c.requires.searching _ _ ends is _ c.in-Past.ensures.0 c.in-Past.ensures.1 c.in-Past.ensures.2)

pub returns-in-Past-clause-falls : goal.returns-in-Past-clause-falls
returns-in-Past-clause-falls c =
    let some = c.requires.bounds in
    let ends : (c.len-last.result - 1) + 1 ≡ length c.args.self.now.bounds.items = omega arith in
    let is : c.index-bound.result.now ≡ get_or c.args.self.now.bounds.items (c.len-last.result - 1) 0 = get_or_read c.args.self.now.bounds.items (c.len-last.result - 1) c.index-bound.result.now (omega arith) c.index-bound.ensures 0 in
    weight-held _ _ _ _ _ _ _ _ _ _ c.pass.ensures (weight-pass _ _ c.requires.graph _ _ _ _ _ _ _ c.requires.searching _ _ ends is _ c.in-Past.ensures.0 c.in-Past.ensures.1 c.in-Past.ensures.2)

pub returns-in_ok-open-in-New-clause-searching : goal.returns-in_ok-open-in-New-clause-searching
returns-in_ok-open-in-New-clause-searching c =
    let some = c.requires.bounds in
    let ends : (c.len-last.result - 1) + 1 ≡ length c.args.self.now.bounds.items = omega arith in
    let is : c.index-bound.result.now ≡ get_or c.args.self.now.bounds.items (c.len-last.result - 1) 0 = get_or_read c.args.self.now.bounds.items (c.len-last.result - 1) c.index-bound.result.now (omega arith) c.index-bound.ensures 0 in
    searches-held _ _ _ _ _ _ _ _ _ _ c.in_ok-open-in-New.ensures (searching-new _ _ c.requires.graph _ _ _ _ _ _ _ c.requires.searching _ _ ends is c.in-New.ensures.0 _ c.in-New.ensures.1 c.in-New.ensures.2)

pub returns-in-Back-clause-searching : goal.returns-in-Back-clause-searching
returns-in-Back-clause-searching c =
    let some = c.requires.bounds in
    let ends : (c.len-last.result - 1) + 1 ≡ length c.args.self.now.bounds.items = omega arith in
    let is : c.index-bound.result.now ≡ get_or c.args.self.now.bounds.items (c.len-last.result - 1) 0 = get_or_read c.args.self.now.bounds.items (c.len-last.result - 1) c.index-bound.result.now (omega arith) c.index-bound.ensures 0 in
    searches-held _ _ _ _ _ _ _ _ _ _ c.join.ensures (searching-join _ _ c.requires.graph _ _ _ _ _ _ _ c.requires.searching _ _ ends is c.in-Back.ensures.0 c.in-Back.ensures.1 c.in-Back.ensures.3 c.in-Back.ensures.2 c.in-Back.ensures.4 c.in-Back.ensures.5 c.in-Back.ensures.6)
