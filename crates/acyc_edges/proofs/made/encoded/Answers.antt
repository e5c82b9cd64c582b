-- What is left to show of `encoded`.
use Rattle.std.proofs.Common.{◌+◌, ◌<◌, ◌^◌, ap, ap₂, ◌∙◌, length, filter, sym, subst}
use Rattle.acyc_edges.specs.Names.{is_new}
use Rattle.acyc_edges.specs.private.Kinds.{all_names}
use Rattle.acyc_edges.specs.private.Numbers.{IsOnce}
use Rattle.acyc_edges.specs.private.Setting.{AreNamesOf, Given, made_by}
use Rattle.acyc_edges.proofs.KindLaws.{all-are, all-made, all-once, all-room}
use Rattle.acyc_edges.proofs.made.encoded.Goals as goal

pub made-requires-clause-names : goal.made-requires-clause-names
made-requires-clause-names c =
    let names = c.as_slice.ensures.value ∙ c.in_ok-names.ensures in
    subst (λ (g : Given). AreNamesOf g c.as_slice.result.now) (sym c.in_ok-setting.ensures)
    (subst (AreNamesOf (record { program = c.args.program.now; parts = c.args.parts.now })) (sym (names ∙ ap (all_names c.args.kind) c.in_ok-setting.ensures)) (all-are c.args.program.now c.known.ensures.facts c.requires.normal c.args.parts.now c.args.kind))

pub made-requires-clause-once : goal.made-requires-clause-once
made-requires-clause-once c = subst IsOnce (sym (c.as_slice.ensures.value ∙ (c.in_ok-names.ensures ∙ ap (all_names c.args.kind) c.in_ok-setting.ensures))) (all-once c.args.program.now c.known.ensures.facts c.requires.normal c.args.parts.now c.args.kind)

pub made-requires-clause-room : goal.made-requires-clause-room
made-requires-clause-room c =
    subst (λ (g : Given). length g.program.atoms + length (filter is_new c.as_slice.result.now) < 2 ^ 30) (sym c.in_ok-setting.ensures)
    (subst (λ names. length c.args.program.now.atoms + length (filter is_new names) < 2 ^ 30) (sym (c.as_slice.ensures.value ∙ (c.in_ok-names.ensures ∙ ap (all_names c.args.kind) c.in_ok-setting.ensures))) (all-room c.args.program.now c.known.ensures.facts c.requires.normal c.args.parts.now c.args.kind c.requires.parts c.requires.small c.requires.few))

pub returns : goal.returns
returns c =
    c.in_ok-made.ensures
    ∙ (ap₂ made_by c.in_ok-setting.ensures (c.as_slice.ensures.value ∙ (c.in_ok-names.ensures ∙ ap (all_names c.args.kind) c.in_ok-setting.ensures))
    ∙ all-made c.args.program.now c.known.ensures.facts c.requires.normal c.args.parts.now c.args.kind)
