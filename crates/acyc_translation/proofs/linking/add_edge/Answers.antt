-- The literal of the condition, and the edge under it.
use Rattle.std.proofs.Common.{◌≡◌, to_z, of_z, w32, arith}
use Rattle.std.proofs.lemmas.Int.{to_z-of_z}
use Rattle.acyc_translation.proofs.EdgeLinks.{links-after}
use Rattle.acyc_translation.proofs.linking.add_edge.Goals as goal

pub returns : goal.returns
returns c =
    let from : to_z w32 (of_z w32 c.args.edge.now.from) ≡ c.args.edge.now.from = grind (arith, to_z-of_z) in
    let to : to_z w32 (of_z w32 c.args.edge.now.to) ≡ c.args.edge.now.to = grind (arith, to_z-of_z) in
    links-after c.args.atoms.now c.args.edge.now c.as_slice.result.now c.args.store.now c.condition.new.store c.edge.new.self c.in_ok-lit.lit _ _ c.edge.result c.as_slice.ensures
    from to c.requires.up c.requires.fit c.known.ensures.sound c.in_ok-lit.ensures.gate c.in_ok-lit.ensures.ok c.edge.ensures.ok
