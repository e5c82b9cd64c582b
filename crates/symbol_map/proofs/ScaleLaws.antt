-- How levels join costs is said by their weights alone.
use Rattle.std.proofs.Common.{◌≡◌, refl, sym, ◌∙◌, ap, ap₂, ℕ, ◌+◌, ◌*◌, ℤ, pos, nat_abs, List, [], ◌∷◌, map, cond}
use Rattle.std.specs.Prelude.{◌+ℤ◌, ◌-ℤ◌, ◌*ℤ◌, int_lt}
use Rattle.asp_base.specs.Literal.{Literal}
use Rattle.ground_program.specs.declared.program.Level.{Level}
use Rattle.symbol_map.specs.Scale.{total, scale_of, offset_of, joined_cost, level_weights}

abbrev weights_total : List ℤ → ℕ
weights_total [] = 0
weights_total (w ∷ ws) = nat_abs w + weights_total ws

abbrev weights_offset : List ℤ → ℤ
weights_offset [] = pos 0
weights_offset (w ∷ ws) = cond (int_lt w (pos 0)) w (pos 0) +ℤ weights_offset ws

abbrev weights_scale : List (List ℤ) → ℕ
weights_scale [] = 1
weights_scale (ws ∷ lower) = weights_scale lower * (weights_total ws + 1)

abbrev weights_joined : List (List ℤ) → List ℤ → ℤ
weights_joined [] costs = pos 0
weights_joined (ws ∷ lower) [] = pos 0
weights_joined (ws ∷ lower) (cost ∷ costs) = pos (weights_scale lower) *ℤ (cost -ℤ weights_offset ws) +ℤ weights_joined lower costs

total-weights : (items : List (Literal × ℤ)) → total items ≡ weights_total (map (λ item. item.1) items)
total-weights [] = refl
total-weights (item ∷ items) = ap (λ n. nat_abs item.1 + n) (total-weights items)

offset-weights : (items : List (Literal × ℤ)) → offset_of items ≡ weights_offset (map (λ item. item.1) items)
offset-weights [] = refl
offset-weights (item ∷ items) = ap (λ z. cond (int_lt item.1 (pos 0)) item.1 (pos 0) +ℤ z) (offset-weights items)

scale-weights : (levels : List Level) → scale_of levels ≡ weights_scale (level_weights levels)
scale-weights [] = refl
scale-weights (level ∷ lower) = ap₂ (λ (m : ℕ) (n : ℕ). m * (n + 1)) (scale-weights lower) (total-weights level.items)

joined-weights : (levels : List Level) (costs : List ℤ) → joined_cost levels costs ≡ weights_joined (level_weights levels) costs
joined-weights [] costs = refl
joined-weights (level ∷ lower) [] = refl
joined-weights (level ∷ lower) (cost ∷ costs) =
    ap₂ (λ (n : ℕ) (z : ℤ). pos n *ℤ (cost -ℤ z) +ℤ joined_cost lower costs) (scale-weights lower) (offset-weights level.items)
    ∙ ap (λ z. pos (weights_scale (level_weights lower)) *ℤ (cost -ℤ weights_offset (map (λ item. item.1) level.items)) +ℤ z) (joined-weights lower costs)

pub joined_cost-weights : (xs ys : List Level) (costs : List ℤ) → level_weights xs ≡ level_weights ys → joined_cost xs costs ≡ joined_cost ys costs
joined_cost-weights xs ys costs same = joined-weights xs costs ∙ ap (λ ws. weights_joined ws costs) same ∙ sym (joined-weights ys costs)
