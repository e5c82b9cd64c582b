-- One rule with all of the literals.
use Rattle.std.proofs.Common.{◌∙◌, ap₂, sym, subst₂}
use Rattle.std.specs.List.{list_all}
use Rattle.asp_base.specs.Literal.{atom_of}
use Rattle.rule_network.specs.Block.{Block, AllBefore, Defines, value, next_atom, with_rule}
use Rattle.rule_network.proofs.BlockLaws.{all_before-new}
use Rattle.rule_network.proofs.GrowthLaws.{next_atom-least}
use Rattle.rule_network.proofs.CellLaws.{all-defines}
use Rattle.rule_network.proofs.cells.all_of.Goals as goal

pub rule-requires-clause-before : goal.rule-requires-clause-before
rule-requires-clause-before c =
    let net : Block = c.args.net.now in
    subst₂ (λ new head. AllBefore new (atom_of head) c.args.lits.now)
    (sym c.in_ok-head.ensures.ok) (sym c.in_ok-head.ensures.lit)
    (all_before-new net (next_atom net) c.atom.ensures.facts (next_atom-least net) c.args.lits.now
    c.requires.known)

pub returns-clause-defines : goal.returns-clause-defines
returns-clause-defines c =
    let net : Block = c.args.net.now in
    subst₂ (λ new l. Defines net new l (λ X M. list_all (value net X M) c.args.lits.now))
    (sym (c.in_ok-rule.ensures.ok
    ∙ ap₂ (λ head now. with_rule (atom_of head) c.args.lits.now now)
    c.in_ok-head.ensures.lit c.in_ok-head.ensures.ok))
    (sym c.in_ok-head.ensures.lit)
    (all-defines net c.args.lits.now c.atom.ensures.facts c.requires.known)
