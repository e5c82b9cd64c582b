use Rattle.std.proofs.Common.{◌≡◌, refl, sym, ◌∙◌, ap, subst, ◌<◌, ◌+◌, List, ℕ, [], ◌∷◌, ◌++◌, length, replicate, get_or, Bool, arith}
use Rattle.std.proofs.lemmas.List.{length-map, length-replicate, length_push}
use Rattle.ground_program.specs.Facts.{Among, RuleFits}
use Rattle.ground_program.specs.declared.program.Head.{Head}
use Rattle.ground_program.specs.declared.program.Rule.{Rule}
use Rattle.stable_check.specs.private.Lack.{flag}
use Rattle.stable_check.specs.private.Links.{Table, with_rules}
use Rattle.stable_check.specs.private.UnderWay.{IsUnderWay}
use Rattle.stable_check.specs.private.Growth.{Growing, derive_head}
use Rattle.asp_base.proofs.Each.{each-get}
use Rattle.stable_check.proofs.GrowthLaws.{work, work-derive_head}
use Rattle.stable_check.proofs.RowLaws.{length-with_rules}
use Rattle.stable_check.proofs.Derivation.{lacks-within, ready-lacks, next-step, derived-at_end}
use Rattle.stable_check.proofs.growth.Growth.run.Goals as goal

pub bounds-rules-rule : goal.bounds-rules-rule
bounds-rules-rule c =
    let g : Growing = c.loop-rule.self in
    let was : g.counts.ready ≡ c.next_ready.new.self.ready ++ (c.in-Some.rule ∷ []) = ap (λ (g : Growing). g.counts.ready) (sym c.self.view_is) ∙ c.in-Some.ensures.some.0 in
    lacks-within c.args.atoms.now c.args.rules.now c.args.set.now c.requires.begun.rise c.requires.fit (λ r. ⊥) g c.loop-rule.invariant c.in-Some.rule
    (ready-lacks c.args.atoms.now c.args.rules.now c.args.set.now c.requires.begun.rise c.requires.fit g c.next_ready.new.self.ready c.in-Some.rule was c.loop-rule.invariant)

pub derive_head-requires-clause-rows : goal.derive_head-requires-clause-rows
derive_head-requires-clause-rows c =
    ap (λ (t : Table). length t.rows) c.requires.table
    ∙ length-with_rules c.args.atoms.now 0 c.args.rules.now (replicate (length c.args.atoms.now) [])
    ∙ length-replicate (length c.args.atoms.now) []
    ∙ sym (ap (λ (g : Growing). length g.derived) c.self.view_is ∙ ap length c.loop-rule.invariant.derived ∙ length-map c.args.atoms.now c.loop-rule.invariant.so_far)

pub derive_head-requires-clause-fits : goal.derive_head-requires-clause-fits
derive_head-requires-clause-fits c =
    let g : Growing = c.loop-rule.self in
    let was : g.counts.ready ≡ c.next_ready.new.self.ready ++ (c.in-Some.rule ∷ []) = ap (λ (g : Growing). g.counts.ready) (sym c.self.view_is) ∙ c.in-Some.ensures.some.0 in
    let within : c.in-Some.rule < length c.args.rules.now =
    lacks-within c.args.atoms.now c.args.rules.now c.args.set.now c.requires.begun.rise c.requires.fit (λ r. ⊥) g c.loop-rule.invariant c.in-Some.rule
    (ready-lacks c.args.atoms.now c.args.rules.now c.args.set.now c.requires.begun.rise c.requires.fit g c.next_ready.new.self.ready c.in-Some.rule was c.loop-rule.invariant) in
    (each-get (RuleFits (Among c.args.atoms.now)) c.args.rules.now c.in-Some.rule c.index-rules-rule.result within c.requires.fit).0

-- what the heads of the rule that was ready leave
stepped : (c : goal.In_ok-derive_head) →
    c.derive_head.new.self ≡ derive_head c.args.atoms.now c.args.set.now (with_rules c.args.atoms.now 0 c.args.rules.now (replicate (length c.args.atoms.now) []))
    (get_or c.args.rules.now c.in-Some.rule c.index-rules-rule.result).head
    (record { derived = c.loop-rule.self.derived; counts = record { lacks = c.loop-rule.self.counts.lacks; ready = c.next_ready.new.self.ready } })
stepped c =
    let D = derive_head c.args.atoms.now c.args.set.now in
    let head : Head = (get_or c.args.rules.now c.in-Some.rule c.index-rules-rule.result).head in
    let ready : List ℕ = c.next_ready.new.self.ready in
    let same : c.next_ready.new.self.lacks ≡ c.loop-rule.self.counts.lacks = c.in-Some.ensures.some.1 ∙ ap (λ (g : Growing). g.counts.lacks) c.self.view_is in
    c.in_ok-derive_head.ensures
    ∙ ap (λ (t : Table). D t.rows head (record { derived = c.self.inside.derived.items; counts = c.next_ready.new.self })) c.requires.table
    ∙ ap (λ (lacks : List ℕ). D (with_rules c.args.atoms.now 0 c.args.rules.now (replicate (length c.args.atoms.now) [])) head (record { derived = c.self.inside.derived.items; counts = record { lacks = lacks; ready = ready } })) same
    ∙ ap (λ (derived : List Bool). D (with_rules c.args.atoms.now 0 c.args.rules.now (replicate (length c.args.atoms.now) [])) head (record { derived = derived; counts = record { lacks = c.loop-rule.self.counts.lacks; ready = ready } })) (ap (λ (g : Growing). g.derived) c.self.view_is)

pub loop-rule-smaller : goal.loop-rule-smaller
loop-rule-smaller c =
    let head : Head = (get_or c.args.rules.now c.in-Some.rule c.index-rules-rule.result).head in
    let before : Growing = record { derived = c.loop-rule.self.derived; counts = record { lacks = c.loop-rule.self.counts.lacks; ready = c.next_ready.new.self.ready } } in
    let was : c.loop-rule.self.counts.ready ≡ c.next_ready.new.self.ready ++ (c.in-Some.rule ∷ []) = ap (λ (g : Growing). g.counts.ready) (sym c.self.view_is) ∙ c.in-Some.ensures.some.0 in
    let one : length c.loop-rule.self.counts.ready ≡ length c.next_ready.new.self.ready + 1 = ap length was ∙ length_push c.next_ready.new.self.ready c.in-Some.rule in
    let same : work c.derive_head.new.self ≡ work before = ap work (stepped c) ∙ work-derive_head c.args.atoms.now c.args.set.now (with_rules c.args.atoms.now 0 c.args.rules.now (replicate (length c.args.atoms.now) [])) head before in
    let less : work c.derive_head.new.self < work c.loop-rule.self = omega arith in
    less

pub loop-rule-preserved : goal.loop-rule-preserved
loop-rule-preserved c =
    let g : Growing = c.loop-rule.self in
    let rule : Rule = get_or c.args.rules.now c.in-Some.rule c.index-rules-rule.result in
    let was : g.counts.ready ≡ c.next_ready.new.self.ready ++ (c.in-Some.rule ∷ []) = ap (λ (g : Growing). g.counts.ready) (sym c.self.view_is) ∙ c.in-Some.ensures.some.0 in
    let is : rule ≡ get_or c.args.rules.now c.in-Some.rule rule = ap (get_or c.args.rules.now c.in-Some.rule) c.index-rules-rule.is in
    subst (IsUnderWay c.args.atoms.now c.args.rules.now (flag c.args.atoms.now c.args.set.now) (λ r. ⊥)) (sym (stepped c))
    (next-step c.args.atoms.now c.args.rules.now c.args.set.now c.requires.begun.rise c.requires.fit g c.next_ready.new.self.ready c.in-Some.rule rule was is c.loop-rule.invariant)

pub returns : goal.returns
returns c =
    let g : Growing = c.loop-rule.self in
    let done : g.counts.ready ≡ [] = ap (λ (g : Growing). g.counts.ready) (sym c.self.view_is) ∙ (c.in_default.ensures.none refl).0 in
    ap (λ (g : Growing). g.derived) c.self.view_is
    ∙ derived-at_end c.args.atoms.now c.args.rules.now c.args.set.now c.requires.begun.rise c.requires.fit g c.loop-rule.invariant done
