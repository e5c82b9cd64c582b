use Rattle.std.proofs.Common.{◌≡◌, ◌∙◌, ap, ap₂, ℕ, suc, ◌<◌, List, length, set, arith}
use Rattle.std.proofs.lemmas.List.{get_or_default}
use Rattle.stable_check.specs.declared.occurrences.Link.{Link}
use Rattle.stable_check.specs.private.Links.{Entry, Table, rows_of, with_entry}
use Rattle.stable_check.proofs.LinkLaws.{rows-push, linked-push, length-rows}
use Rattle.stable_check.proofs.occurrences.Occurrences.push.Goals as goal

pub invariant_of-self-2 : goal.invariant_of-self-2
invariant_of-self-2 c =
    let n : c.len-2.result ≡ suc (length c.self.inside.links.items) = omega (arith, c.in_ok-push.ensures.len, c.self.inside.links.ok) in
    let h : c.args.index < length c.self.inside.first.items = omega (arith, ap (λ (t : Table). length t.rows) c.self.view_is, length-rows c.self.inside.first.items c.self.inside.links.items) in
    let named : c.args.rule < c.self.inside.rules = omega (arith, ap (λ (t : Table). t.rules) c.self.view_is) in
    rw (n, c.in_ok-push.ensures.items)
    (linked-push c.self.inside.rules c.self.inside.first.items c.self.inside.links.items c.args.index
    (record { rule = c.args.rule; weight = c.args.weight; next = c.index-next.result.now }) h c.self.invariant (c.index-next.ensures ∙ get_or_default c.self.inside.first.items c.args.index c.index-next.result.now 0 h) named)

pub returns : goal.returns
returns c =
    let n : c.len-2.result ≡ suc (length c.self.inside.links.items) = omega (arith, c.in_ok-push.ensures.len, c.self.inside.links.ok) in
    let h : c.args.index < length c.self.inside.first.items = omega (arith, ap (λ (t : Table). length t.rows) c.self.view_is, length-rows c.self.inside.first.items c.self.inside.links.items) in
    ap₂ (λ (at : ℕ) (links : List Link). record { rules = c.self.inside.rules; rows = rows_of (set c.self.inside.first.items c.args.index at) links }) n c.in_ok-push.ensures.items
    ∙ ap (λ (rows : List (List Entry)). record { rules = c.self.inside.rules; rows = rows })
    (rows-push c.self.inside.first.items c.self.inside.links.items c.args.index (record { rule = c.args.rule; weight = c.args.weight; next = c.index-next.result.now }) h c.self.invariant.within (c.index-next.ensures ∙ get_or_default c.self.inside.first.items c.args.index c.index-next.result.now 0 h))
    ∙ ap (λ (t : Table). record { rules = t.rules; rows = with_entry c.args.index (c.args.rule, c.args.weight) t.rows }) c.self.view_is
