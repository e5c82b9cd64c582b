use Rattle.std.proofs.Common.{◌≡◌, ◌++◌, ◌∷◌, [], take}
use Rattle.std.specs.List.{flat_map}
use Rattle.std.specs.Fmt.{signed_decimal}
use Rattle.statement_fields.specs.FieldWords.{literal_word, spaced_before}
use Rattle.statement_fields.proofs.push.push_each_item.Given as goal

abbrev pub invariant-loop-item : goal.invariant-loop-item
invariant-loop-item l = l.out.items ≡ l.fn.out.items ++ flat_map (λ item. spaced_before (literal_word item.0 ∷ signed_decimal item.1 ∷ [])) (take l.item-index l.items)
