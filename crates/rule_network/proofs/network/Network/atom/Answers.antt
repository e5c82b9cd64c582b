-- What a new atom leaves is a block.
use Rattle.std.proofs.Common.{◌∙◌, ap, ◌++◌, ◌∷◌, []}
use Rattle.rule_network.specs.private.Inside.{block_of}
use Rattle.rule_network.proofs.BlockLaws.{IsBlock-drawn}
use Rattle.rule_network.proofs.network.Network.atom.Goals as goal

pub invariant_of-self-2 : goal.invariant_of-self-2
invariant_of-self-2 c =
    IsBlock-drawn (block_of c.self.inside) c.next-atom.result c.next-atom.new.self
    c.push_reserved.new.self.items c.self.invariant
    c.next-atom.ensures.least c.next-atom.ensures.most c.next-atom.ensures.given
    (c.push_reserved.ensures.items
    ∙ ap (λ xs. xs ++ (c.next-atom.result ∷ [])) c.in_ok-reserve.ensures.items)
