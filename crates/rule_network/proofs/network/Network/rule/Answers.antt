-- What a rule that is pushed leaves is a block.
use Rattle.std.proofs.Common.{◌≡◌, sym, subst, true}
use Rattle.asp_base.specs.Literal.{atom_of}
use Rattle.asp_base.specs.Sets.{members}
use Rattle.rule_network.specs.private.Inside.{block_of}
use Rattle.rule_network.specs.Block.{AllBefore}
use Rattle.rule_network.proofs.BlockLaws.{IsBlock-pushed}
use Rattle.rule_network.proofs.network.Network.rule.Goals as goal

pub invariant_of-self : goal.invariant_of-self
invariant_of-self c =
    IsBlock-pushed (block_of c.self.inside) (atom_of c.args.head) c.var.result c.args.body.now
    c.in_ok-lits.lits c.push.new.self c.push.result c.self.invariant
    (subst (λ net. members net.made (atom_of c.args.head) ≡ true) (sym c.self.view_is)
    c.requires.own)
    (subst (λ net. AllBefore net (atom_of c.args.head) c.args.body.now) (sym c.self.view_is)
    c.requires.before)
    c.var.ensures.is c.in_ok-lits.ensures c.push.ensures.ok c.push.ensures.err
