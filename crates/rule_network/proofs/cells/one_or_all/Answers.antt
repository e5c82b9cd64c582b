-- A rule for the one literal, and one with all of the others.
use Rattle.std.proofs.Common.{◌≡◌, ◌∙◌, ◌||◌, ℕ, ap₂, sym, subst₂, ◌∷◌, []}
use Rattle.std.specs.List.{list_all}
use Rattle.asp_base.specs.Literal.{atom_of}
use Rattle.rule_network.specs.Block.{Block, AllBefore, Defines, value, next_atom, with_atom, with_rule}
use Rattle.rule_network.proofs.CellLaws.{cell-before, one_or-defines}
use Rattle.rule_network.proofs.cells.one_or_all.Goals as goal

pub rule-requires-clause-before : goal.rule-requires-clause-before
rule-requires-clause-before c =
    subst₂ (λ new head. AllBefore new (atom_of head) (c.args.one ∷ []))
    (sym c.in_ok-head.ensures.ok) (sym c.in_ok-head.ensures.lit)
    (cell-before [] c.args.net.now (c.args.one ∷ []) c.atom.ensures.facts (c.requires.one, tt))

pub rule-requires-2-clause-before : goal.rule-requires-2-clause-before
rule-requires-2-clause-before c =
    let net : Block = c.args.net.now in
    let a : ℕ = next_atom net in
    let once : c.rule.new.self ≡ with_rule a (c.args.one ∷ []) (with_atom a net) =
    c.in_ok-rule.ensures.ok
    ∙ ap₂ (λ head now. with_rule (atom_of head) (c.args.one ∷ []) now)
    c.in_ok-head.ensures.lit c.in_ok-head.ensures.ok in
    subst₂ (λ new head. AllBefore new (atom_of head) c.args.all.now)
    (sym once) (sym c.in_ok-head.ensures.lit)
    (cell-before ((c.args.one ∷ []) ∷ []) net c.args.all.now c.atom.ensures.facts c.requires.all)

pub returns-clause-defines : goal.returns-clause-defines
returns-clause-defines c =
    let net : Block = c.args.net.now in
    let a : ℕ = next_atom net in
    let first : Block = with_rule a (c.args.one ∷ []) (with_atom a net) in
    let once : c.rule.new.self ≡ first =
    c.in_ok-rule.ensures.ok
    ∙ ap₂ (λ head now. with_rule (atom_of head) (c.args.one ∷ []) now)
    c.in_ok-head.ensures.lit c.in_ok-head.ensures.ok in
    let twice : c.rule-2.new.self ≡ with_rule a c.args.all.now first =
    c.in_ok-rule-2.ensures.ok
    ∙ ap₂ (λ head now. with_rule (atom_of head) c.args.all.now now) c.in_ok-head.ensures.lit once in
    subst₂
    (λ new l. Defines net new l
    (λ X M. value net X M c.args.one || list_all (value net X M) c.args.all.now))
    (sym twice) (sym c.in_ok-head.ensures.lit)
    (one_or-defines net c.args.one c.args.all.now c.atom.ensures.facts c.requires.one
    c.requires.all)
