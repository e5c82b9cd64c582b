-- The numbers are those from 1 on, and no mark is set.
use Rattle.std.proofs.Common.{◌≡◌, ◌∙◌, sym, ap, subst, suc, ◌+◌, [], ◌∷◌, ◌++◌, map, arith}
use Rattle.std.specs.List.{range_with_len}
use Rattle.std.proofs.lemmas.List.FromFn.{map-range_with_len_more}
use Rattle.graph_parts.specs.Divided.{AreCycles}
use Rattle.graph_parts.specs.Graph.{has_edge}
use Rattle.graph_parts.proofs.ApartLaws.{apart-sized, apart-parts, apart-cycles}
use Rattle.graph_parts.proofs.apart.parts_apart.Goals as goal

pub loop-node-preserved : goal.loop-node-preserved
loop-node-preserved c =
    let next : c.loop-node.node + 1 ≡ suc c.loop-node.node = omega arith in
    c.in_ok-push.ensures.items ∙ ap (λ xs. xs ++ ((c.loop-node.node + 1) ∷ [])) c.loop-node.invariant
    ∙ ap (λ n. map suc (range_with_len 0 c.loop-node.node) ++ (n ∷ [])) next
    ∙ sym (map-range_with_len_more suc 0 c.loop-node.node c.loop-node.node (omega arith))

numbered : (c : goal.After-new) → c.loop-node.numbers.items ≡ map suc (range_with_len 0 c.args.nodes)
numbered c = c.loop-node.invariant ∙ ap (λ n. map suc (range_with_len 0 n)) (let done = c.loop-node-test.false in omega arith)

pub returns-clause-sized : goal.returns-clause-sized
returns-clause-sized c = rw c.new.ensures (apart-sized c.loop-node.numbers.items c.args.nodes (numbered c))

pub returns-clause-parts : goal.returns-clause-parts
returns-clause-parts c = rw c.new.ensures (apart-parts c.loop-node.numbers.items c.args.nodes (numbered c))

pub returns-clause-cycles : goal.returns-clause-cycles
returns-clause-cycles c = rw c.new.ensures
    (subst (AreCycles (has_edge []) c.loop-node.numbers.items) (sym (c.in_ok-cyclic.ensures.items_if_clones_equal (λ y e. e)))
    (apart-cycles c.loop-node.numbers.items c.args.nodes (numbered c) (c.args.nodes + 1)))
