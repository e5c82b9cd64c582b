-- What a sum of weights over literals is made into, after
--   P. Simons, I. Niemelä, T. Soininen. Extending and implementing the stable model semantics.
--     Artificial Intelligence 138, 2002.
use Rattle.std.specs.Prelude.{◌≡◌, ℤ, pos, ◌+ℤ◌, ◌≤ℤ◌, ◌<ℤ◌, int_le, List, [], ◌∷◌}
use Rattle.asp_base.specs.Literal.{Literal}
use Rattle.ground_program.specs.Stable.{weight_of}
use Rattle.rule_network.specs.Block.{Block, Defines, closure}
use Rattle.weight_rules.specs.declared.sum.Reach.{Reach}
use Rattle.weight_rules.specs.declared.sum.Reach.TheVariants.{Always, Never, By}

-- all weights together
abbrev pub all_weights : List (Literal × ℤ) → ℤ
all_weights [] = pos 0
all_weights (item ∷ items) = item.1 +ℤ all_weights items

-- Always where the bound is not positive, never where it is above all weights together. Else a
-- literal holds exactly where the weights of the items that hold reach the bound.
abbrev pub Reaches : ℤ → List (Literal × ℤ) → Block → Block → Reach → Type 0
Reaches bound items old new Always = (bound ≤ℤ pos 0) × (new ≡ old)
Reaches bound items old new Never = (pos 0 <ℤ bound) × (all_weights items <ℤ bound) × (new ≡ old)
Reaches bound items old new (By lit) =
    (pos 0 <ℤ bound) × (bound ≤ℤ all_weights items)
    × Defines old new lit (λ X M. int_le bound (weight_of items (closure old X M) M))
