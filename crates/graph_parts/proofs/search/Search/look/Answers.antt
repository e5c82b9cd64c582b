-- What is seen at the end of the chain, by its last node at work.
use Rattle.std.proofs.Common.{◌≡◌, ◌-◌, ◌<◌, length, get_or, arith, refl, sym}
use Rattle.std.proofs.lemmas.List.{get_or_read}
use Rattle.graph_parts.proofs.Held.{leading-seen}
use Rattle.graph_parts.proofs.search.Search.look.Goals as goal

pub returns : goal.returns
returns c =
    let s = c.requires.searching in
    let end = c.len-len.result - 1 in
    let in_work : c.len-len.result - 1 < length c.args.self.now.work.items = omega arith in
    let place : c.index-place.result.now ≡ get_or c.args.self.now.work.items (c.len-len.result - 1) 0 = get_or_read c.args.self.now.work.items (c.len-len.result - 1) c.index-place.result.now in_work c.index-place.ensures 0 in
    let low = s.work_rises.below (c.len-len.result - 1) in_work in
    let in_nodes : c.index-place.result.now < length c.args.self.now.nodes.items = omega arith in
    let node : c.index-node.result.now ≡ get_or c.args.self.now.nodes.items c.index-place.result.now 0 = get_or_read c.args.self.now.nodes.items c.index-place.result.now c.index-node.result.now in_nodes c.index-node.ensures 0 in
    let inside = s.counted.inside c.index-place.result.now in_nodes in
    let sized = s.counted.at_sized in
    let in_at : c.index-node.result.now < length c.args.self.now.at.items = omega arith in
    let at : c.index-at.result.now ≡ get_or c.args.self.now.at.items c.index-node.result.now 0 = get_or_read c.args.self.now.at.items c.index-node.result.now c.index-at.result.now in_at c.index-at.ensures 0 in
    let begun = s.counted.begun c.index-node.result.now in
    leading-seen _ _ _ _ _ _ _ _ c.index-node.result.now (get_or c.args.targets.now c.index-at.result.now 0) c.see.result
    (record {
      place = c.index-place.result.now;
      last = c.if-place-bound.false;
      within = in_nodes;
      node_is = sym node;
      begun = begun;
      more = rw (sym at) c.if-at-starts.false;
      to_is = rw (sym at) refl;
    })
    c.see.ensures
