-- What is left to show of `owners`.
use Rattle.std.proofs.Common.{◌≡◌, ◌+◌, ◌<◌, ◌≤◌, ◌++◌, [], ap, ap₂, sym, ◌∙◌, length, slice_index_or, arith, subst, take}
use Rattle.std.specs.List.{flat_map}
use Rattle.acyc_edges.specs.Encoding.{rule_at, counted}
use Rattle.acyc_edges.specs.private.Tables.{with_owner, owner_at}
use Rattle.acyc_edges.proofs.Numbering.{rule-there, flat-next}
use Rattle.acyc_edges.proofs.TableLaws.{counted-at, counted-length, take-past}
use Rattle.acyc_edges.proofs.tables.owners.Goals as goal

pub loop-index-preserved : goal.loop-index-preserved
loop-index-preserved c =
    let same = c.as_slice-rule-items.ensures ∙ ap (λ g. g.rules) c.program.view_is in
    let below : c.loop-index.index < length c.args.program.now.rules = subst (λ rs. c.loop-index.index < length rs) same c.loop-index-test.true in
    let long : length (counted 0 c.args.program.now.rules) ≡ length c.args.program.now.rules = counted-length 0 c.args.program.now.rules in
    let here : c.rule-item.result ≡ rule_at c.args.program.now.rules c.loop-index.index =
    c.rule-item.is ∙ (ap (λ rs. slice_index_or rs c.loop-index.index c.rule-item.result) same ∙ rule-there c.args.program.now.rules c.loop-index.index c.rule-item.result below) in
    let index : slice_index_or (counted 0 c.args.program.now.rules) c.loop-index.index 0 ≡ c.loop-index.index = counted-at 0 c.args.program.now.rules c.loop-index.index 0 below ∙ (let zero : 0 + c.loop-index.index ≡ c.loop-index.index = omega arith in zero) in
    let atoms = ap (λ g. g.atoms) c.program.view_is in
    c.in_ok-push_owner.ensures
    ∙ (ap₂ (λ ps h. ps ++ with_owner c.program.inside.atoms c.loop-index.index h) c.loop-index.invariant (ap (λ r. r.head) here)
    ∙ (ap (λ as_. flat_map (owner_at c.args.program.now) (take c.loop-index.index (counted 0 c.args.program.now.rules)) ++ with_owner as_ c.loop-index.index (rule_at c.args.program.now.rules c.loop-index.index).head) atoms
    ∙ (ap (λ i. flat_map (owner_at c.args.program.now) (take c.loop-index.index (counted 0 c.args.program.now.rules)) ++ owner_at c.args.program.now i) (sym index)
    ∙ flat-next (owner_at c.args.program.now) [] (counted 0 c.args.program.now.rules) c.loop-index.index 0 (omega arith))))

pub returns : goal.returns
returns c =
    let same = c.as_slice-rule-items.ensures ∙ ap (λ g. g.rules) c.program.view_is in
    let long : length (counted 0 c.args.program.now.rules) ≡ length c.args.program.now.rules = counted-length 0 c.args.program.now.rules in
    let past : length c.args.program.now.rules ≤ c.loop-index.index = subst (λ rs. length rs ≤ c.loop-index.index) same (omega arith) in
    c.loop-index.invariant ∙ ap (flat_map (owner_at c.args.program.now)) (take-past c.loop-index.index (counted 0 c.args.program.now.rules) (omega arith))
