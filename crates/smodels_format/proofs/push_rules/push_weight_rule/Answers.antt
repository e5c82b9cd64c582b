-- The line of a rule over weights.
use Rattle.std.proofs.Common.{◌≡◌, ◌∙◌, ap, ◌∷◌, ◌++◌, codes, decimal, to_z, of_z, w64, arith}
use Rattle.std.specs.Fmt.{signed_decimal}
use Rattle.std.proofs.lemmas.Int.{to_z-of_z}
use Rattle.asp_scan.proofs.Appends.{front_kept, on_err}
use Rattle.statement_fields.proofs.LinePieces.{five_appends, two_words-line}
use Rattle.smodels_format.specs.Lowering.{items_negatives_first, at_least_zero}
use Rattle.smodels_format.specs.Written.{item_words}
use Rattle.smodels_format.proofs.push_rules.push_weight_rule.Goals as goal

pub returns-in_err-push_items-clause-err : goal.returns-in_err-push_items-clause-err
returns-in_err-push_items-clause-err c =
    on_err _ _
    (front_kept c.args.out.now.items _ _ _ c.in_ok-push.ensures.items
    (front_kept _ _ _ _ c.in_ok-push_atom_field.ensures.ok (front_kept _ _ _ _ c.in_ok-push_bound.ensures.ok c.in_err-push_items.ensures.err)))

pub returns-clause-ok : goal.returns-clause-ok
returns-clause-ok c =
    let old = c.args.out.now.items in
    let passed : to_z w64 (of_z w64 c.args.bound) ≡ c.args.bound = grind (arith, to_z-of_z) in
    five_appends old _ _ _ _ _ _ _ _ _ _ c.in_ok-push.ensures.items c.in_ok-push_atom_field.ensures.ok
    (c.in_ok-push_bound.ensures.ok ∙ ap (λ z. c.push_atom_field.new.out.items ++ (32 ∷ signed_decimal (at_least_zero z))) passed)
    c.in_ok-push_items.ensures.ok c.in_ok-push-2.ensures.items
    ∙ ap (λ bytes. old ++ bytes) (two_words-line (codes "5") (decimal c.args.atom) (signed_decimal (at_least_zero c.args.bound))
    (item_words (items_negatives_first c.args.items.now)))
