use Rattle.std.proofs.Common.{◌≡◌, ◌++◌, ◌∷◌, take}
use Rattle.std.specs.List.{flat_map}
use Rattle.statement_fields.specs.FieldWords.{literal_word}
use Rattle.statement_fields.proofs.push.push_each_literal.Given as goal

abbrev pub invariant-loop-lit : goal.invariant-loop-lit
invariant-loop-lit l = l.out.items ≡ l.fn.out.items ++ flat_map (λ lit. 32 ∷ literal_word lit) (take l.lit-index l.lits)
