-- A rule for each of the literals.
use Rattle.std.proofs.Common.{◌≡◌, ◌∙◌, ◌+◌, ◌*◌, ap₂, sym, subst, subst₂, true, List, ◌∷◌, [], length, arith, take}
use Rattle.std.specs.List.{list_any}
use Rattle.asp_base.specs.Literal.{Literal, atom_of}
use Rattle.asp_base.specs.Sets.{members}
use Rattle.rule_network.specs.Block.{Block, Known, AllBefore, Defines, Adds, value, next_atom, with_atom, with_rule}
use Rattle.rule_network.proofs.CellLaws.{singles, cell-own, cell-before, any-more, any-all, any-defines, any-adds}
use Rattle.rule_network.proofs.EntryLaws.{each-entry}
use Rattle.rule_network.proofs.cells.any_of.Goals as goal

pub rule-requires-clause-own : goal.rule-requires-clause-own
rule-requires-clause-own c =
    subst₂ (λ net head. members net.made (atom_of head) ≡ true)
    (sym c.loop-lit.invariant.1) (sym c.loop-lit.invariant.0)
    (cell-own (singles (take c.loop-lit.lit-index c.args.lits.now)) c.args.net.now)

pub rule-requires-clause-before : goal.rule-requires-clause-before
rule-requires-clause-before c =
    let net : Block = c.args.net.now in
    let lits : List Literal = c.args.lits.now in
    let known : Known net c.lit-item.result =
    each-entry (Known net) lits c.loop-lit.lit-index c.lit-item.result c.lit-item.is (omega arith)
    c.requires.known in
    subst₂ (λ new head. AllBefore new (atom_of head) (c.lit-item.result ∷ []))
    (sym c.loop-lit.invariant.1) (sym c.loop-lit.invariant.0)
    (cell-before (singles (take c.loop-lit.lit-index lits)) net (c.lit-item.result ∷ [])
    c.atom.ensures.facts (known, tt))

pub loop-lit-preserved : goal.loop-lit-preserved
loop-lit-preserved c =
    let net : Block = c.args.net.now in (
      c.loop-lit.invariant.0,
      c.in_ok-rule.ensures.ok
          ∙ ap₂ (λ head now. with_rule (atom_of head) (c.lit-item.result ∷ []) now)
          c.loop-lit.invariant.0 c.loop-lit.invariant.1
          ∙ any-more (next_atom net) (with_atom (next_atom net) net) c.args.lits.now
          c.loop-lit.lit-index c.lit-item.result (omega arith) c.lit-item.is,
    )

pub returns-clause-defines : goal.returns-clause-defines
returns-clause-defines c =
    let net : Block = c.args.net.now in
    subst₂ (λ new l. Defines net new l (λ X M. list_any (value net X M) c.args.lits.now))
    (sym (c.loop-lit.invariant.1
    ∙ any-all (next_atom net) (with_atom (next_atom net) net) c.args.lits.now c.loop-lit.lit-index
    (omega arith)))
    (sym c.loop-lit.invariant.0)
    (any-defines net c.args.lits.now c.atom.ensures.facts c.requires.known)

pub returns-clause-adds : goal.returns-clause-adds
returns-clause-adds c =
    let net : Block = c.args.net.now in
    subst (Adds 1 (1 + 2 * length c.args.lits.now) net)
    (sym (c.loop-lit.invariant.1
    ∙ any-all (next_atom net) (with_atom (next_atom net) net) c.args.lits.now c.loop-lit.lit-index
    (omega arith)))
    (any-adds net c.args.lits.now)
