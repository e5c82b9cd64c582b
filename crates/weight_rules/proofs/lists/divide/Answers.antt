use Rattle.std.proofs.Common.{◌≡◌, ◌∙◌, refl, sym, ap, ℕ, zero, suc, ◌/◌, ◌<◌, ◌++◌, List, [], ◌∷◌, map, take, drop, set, get_or, length, add-one, arith}
use Rattle.asp_base.specs.Literal.{Literal}
use Rattle.ground_program.specs.Radix.{divided}
use Rattle.weight_rules.proofs.lists.divide.Goals as goal

mapped-more : {A : Type 0} (f : A → A) (i : ℕ) (xs : List A) (d : A) → i < length xs
    → set (map f (take i xs) ++ drop i xs) i (f (get_or (map f (take i xs) ++ drop i xs) i d))
    ≡ map f (take (suc i) xs) ++ drop (suc i) xs
mapped-more f i [] d l = absurd (omega arith)
mapped-more f zero (x ∷ xs) d l = refl
mapped-more f (suc i) (x ∷ xs) d l = ap (λ ys. f x ∷ ys) (mapped-more f i xs d (omega arith))

-- one item more is divided
pub loop-item-preserved : goal.loop-item-preserved
loop-item-preserved c =
    let items : List (Literal × ℕ) = c.args.items.now in
    let i : ℕ = c.loop-item.item-index in
    let d : Literal × ℕ = c.item-item.result in
    let l : i < length items = c.loop-item-test.true in
    ap (λ xs. set xs i ((get_or xs i d).0, (get_or xs i d).1 / c.args.radix)) c.loop-item.invariant
    ∙ mapped-more (λ item. (item.0, item.1 / c.args.radix)) i items d l
    ∙ ap (λ n. divided c.args.radix (take n items) ++ drop n items) (sym (add-one i))
