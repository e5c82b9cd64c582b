-- The rules of external atoms, by what their sorted settings make.
use Rattle.std.proofs.Common.{rules, ap, ap₂, ◌∙◌, ◌≡◌, ◌++◌}
use Rattle.std.specs.List.{flat_map}
use Rattle.std.proofs.lemmas.Result.{IfOk-equal}
use Rattle.ground_program.specs.private.Externals.{rules_of_last}
use Rattle.ground_program.specs.Occurrences.{atoms_of_head}
use Rattle.rising_numbers.specs.Rising.{rising}
use Rattle.ground_program.proofs.ExternalLaws.{heads-are, external-rules-are}
use Rattle.ground_program.proofs.externals.push_external_rules.Goals as goal

pub returns : goal.returns
returns c =
    let heads : c.in_ok-heads.heads ≡ rising (flat_map (λ rule. atoms_of_head rule.head) c.args.rules.now) = search rules in
    IfOk-equal c.push_last_settings.result _ _ _ c.push_last_settings.ensures
    (ap (λ made. c.args.rules.now ++ made)
    (ap₂ rules_of_last heads c.as_slice-2.ensures.value
    ∙ external-rules-are c.args.rules.now (rising (flat_map (λ rule. atoms_of_head rule.head) c.args.rules.now)) c.args.externals.items c.sort_settings.new.externals.items
    (heads-are c.args.rules.now) c.in_ok-sort_settings.ensures.permutation c.in_ok-sort_settings.ensures.sorted c.in_ok-sort_settings.ensures.stable))
