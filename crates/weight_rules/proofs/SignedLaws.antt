-- Signed weights that are not negative: what is kept of a sum says what the sum does.
use Rattle.std.proofs.Common.{◌≡◌, refl, sym, ◌∙◌, ap, ℕ, ◌+◌, ℤ, pos, negsuc, ◌+ℤ◌, ◌≤ℤ◌, ◌<ℤ◌, int_le, nat_abs, Bool, true, false, cond, leb, List, [], ◌∷◌, map, arith}
use Rattle.std.specs.List.{AllByRecursion}
use Rattle.std.proofs.lemmas.Bool.{true≢false}
use Rattle.std.proofs.lemmas.Int.{ints}
use Rattle.asp_base.specs.Literal.{Literal, literal_holds}
use Rattle.asp_base.specs.Sets.{Set}
use Rattle.ground_program.specs.Radix.{number_of, naturals, cut_weights, total}
use Rattle.ground_program.specs.Stable.{weight_of}
use Rattle.rule_network.specs.Block.{Block, Defines, Adds, closure, value}
use Rattle.weight_rules.specs.Sum.{all_weights}
use Rattle.weight_rules.specs.private.Levels.{held, truths}
use Rattle.weight_rules.proofs.KeptLaws.{kept-reaches, total-held}
use Rattle.weight_rules.proofs.ReachLaws.{same-test}

one_weight : (t : Bool) (w : ℤ) (h : ℕ) (s : ℤ) → pos 0 ≤ℤ w → s ≡ pos h
    → cond t w (pos 0) +ℤ s ≡ pos (cond t (number_of w) 0 + h)
one_weight true (pos n) h s p e = ap (λ z. pos n +ℤ z) e
one_weight true (negsuc n) h s p e = absurd (omega (arith, ints))
one_weight false w h s p e = ap (λ z. pos 0 +ℤ z) e

-- a sum of weights where the block has derived what it can
weight_of-held : (net : Block) (X M : Set) (items : List (Literal × ℤ))
    → AllByRecursion (λ item. pos 0 ≤ℤ item.1) items
    → weight_of items (closure net X M) M ≡ pos (held (truths net X M (naturals items)))
unfolding value
weight_of-held net X M [] p = refl
weight_of-held net X M (item ∷ items) p =
    one_weight (literal_holds item.0 (closure net X M) M) item.1
    (held (truths net X M (naturals items)))
    (weight_of items (closure net X M) M) p.0 (weight_of-held net X M items p.1)

all-held : (items : List (Literal × ℤ)) → AllByRecursion (λ item. pos 0 ≤ℤ item.1) items
    → all_weights items ≡ pos (held (map (λ item. (true, item.1)) (naturals items)))
all-held [] p = refl
all-held (item ∷ items) p =
    one_weight true item.1 (held (map (λ item. (true, item.1)) (naturals items)))
    (all_weights items) p.0 (all-held items p.1)

same : (a b : ℕ) → int_le (pos a) (pos b) ≡ leb a b
same a b = refl

-- the cut weights of what holds reach the bound where the sum does
cut-says : (net : Block) (X M : Set) (bound : ℕ) (items : List (Literal × ℤ))
    → AllByRecursion (λ item. pos 0 ≤ℤ item.1) items
    → leb bound (held (truths net X M (cut_weights bound items)))
    ≡ int_le (pos bound) (weight_of items (closure net X M) M)
cut-says net X M bound items p =
    kept-reaches (value net X M) bound (naturals items)
    ∙ sym
    (ap (int_le (pos bound)) (weight_of-held net X M items p)
    ∙ same bound (held (truths net X M (naturals items))))

cut-total : (bound : ℕ) (items : List (Literal × ℤ))
    → AllByRecursion (λ item. pos 0 ≤ℤ item.1) items
    → leb bound (total (cut_weights bound items)) ≡ int_le (pos bound) (all_weights items)
cut-total bound items p =
    ap (leb bound) (total-held (cut_weights bound items))
    ∙ (kept-reaches (λ l. true) bound (naturals items)
    ∙ sym
    (ap (int_le (pos bound)) (all-held items p)
    ∙ same bound (held (map (λ item. (true, item.1)) (naturals items)))))

-- ---- never, or where the literal holds

not-reached : (z w : ℤ) → int_le z w ≡ false → w <ℤ z
not-reached z w e = grind (arith, ints)

is-reached : (z w : ℤ) → int_le z w ≡ true → z ≤ℤ w
is-reached z w e = grind (arith, ints)

pub weights-below : (bound : ℕ) (items : List (Literal × ℤ))
    → AllByRecursion (λ item. pos 0 ≤ℤ item.1) items
    → leb bound (total (cut_weights bound items)) ≡ false → all_weights items <ℤ pos bound
weights-below bound items p e =
    not-reached (pos bound) (all_weights items) (sym (cut-total bound items p) ∙ e)

pub weights-enough : (bound : ℕ) (items : List (Literal × ℤ))
    → AllByRecursion (λ item. pos 0 ≤ℤ item.1) items
    → leb bound (total (cut_weights bound items)) ≡ true → pos bound ≤ℤ all_weights items
weights-enough bound items p e =
    is-reached (pos bound) (all_weights items) (sym (cut-total bound items p) ∙ e)

pub weights-say : (old new : Block) (lit : Literal) (bound : ℕ) (items : List (Literal × ℤ))
    → AllByRecursion (λ item. pos 0 ≤ℤ item.1) items
    → Defines old new lit (λ X M. leb bound (held (truths old X M (cut_weights bound items))))
    → Defines old new lit (λ X M. int_le (pos bound) (weight_of items (closure old X M) M))
weights-say old new lit bound items p d =
    same-test old new lit (λ X M. leb bound (held (truths old X M (cut_weights bound items))))
    (λ X M. int_le (pos bound) (weight_of items (closure old X M) M))
    (λ X M. cut-says old X M bound items p) d

pub unchanged-adds : (m n : ℕ) (net : Block) → Adds m n net net
unchanged-adds m n net = record { program = refl; drawn = omega arith; size = omega arith }

-- what is said of the bound as a natural number holds of it
pub bound-abs : (bound : ℤ) → int_le bound (pos 0) ≡ false → pos (nat_abs bound) ≡ bound
bound-abs (pos n) e = refl
bound-abs (negsuc n) e = absurd (true≢false e)
