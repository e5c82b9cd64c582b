use Rattle.std.proofs.Common.{◌-◌, length, take, drop, map, sym, ◌∙◌, ap}
use Rattle.std.proofs.lemmas.List.{drop-map, take_all, take_rest}
use Rattle.graph_cycles.specs.private.Searching.{node_of}
use Rattle.graph_cycles.proofs.descent.nodes_from.Goals as goal

pub returns : goal.returns
returns c =
    let whole = take_all c.loop-step.step-index (take (length c.args.path.now - c.args.place) (drop c.args.place c.args.path.now)) c.loop-step-test.false in
    c.loop-step.invariant ∙ ap (map (node_of c.args.arcs.now)) (whole ∙ take_rest c.args.path.now c.args.place) ∙ sym (drop-map (node_of c.args.arcs.now) c.args.place c.args.path.now)
