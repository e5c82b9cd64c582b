-- The first node stands in the chain, and stays found in each round.
use Rattle.std.proofs.Common.{◌<◌, length, arith}
use Rattle.graph_parts.proofs.Held.{found-set, searches-held, searching-root, stays-set}
use Rattle.graph_parts.proofs.search.Search.explore_new.Goals as goal

pub loop-self-init : goal.loop-self-init
loop-self-init c =
    let sized = c.requires.searching.counted.places_sized in
    let within : c.args.node < length c.args.self.now.places.items = let inside = c.requires.node in omega arith in (
      searches-held _ _ _ _ _ _ _ _ _ _ c.in_ok-open.ensures (searching-root _ _ _ _ _ _ _ _ _ c.requires.searching c.requires.empty c.args.node c.requires.node c.requires.new),
      rw c.in_ok-open.ensures.places_are (found-set c.args.self.now.places.items c.args.node (length c.args.self.now.nodes.items) within),
      rw c.in_ok-open.ensures.places_are (stays-set c.args.self.now.places.items c.args.node (length c.args.self.now.nodes.items) within),
    )
