-- The least model is the smallest set that the rules close.
use Rattle.std.proofs.Common.{◌≡◌, refl, sym, ◌∙◌, subst, ℕ, zero, suc, ◌≤◌, ◌<◌, ℤ, pos, ◌+ℤ◌, ◌≤ℤ◌, int_le, Bool, true, false, cond, ◌||◌, List, [], ◌∷◌, ◌++◌, length, ⊎_elim, inl, inr, ◌⊎◌, arith}
use Rattle.std.specs.List.{AllByRecursion}
use Rattle.std.proofs.lemmas.Bool.{and_parts, and_from, or_cases, or_left, or_right, true≢false, cases_lt}
use Rattle.std.proofs.lemmas.Int.{ints}
use Rattle.std.proofs.lemmas.List.Folds.{list_any-append}
use Rattle.asp_base.proofs.Bools.{same_test}
use Rattle.asp_base.specs.Literal.{Literal, Pos, Neg, literal_holds}
use Rattle.asp_base.specs.Sets.{Set, none, union, Same, Within}
use Rattle.ground_program.specs.Stable.{weight_of, holds, head_has, derives, step, rounds, grown}
use Rattle.ground_program.specs.declared.program.Body.{Body}
use Rattle.ground_program.specs.declared.program.Body.TheVariants.{All, Sum}
use Rattle.ground_program.specs.declared.program.Rule.{Rule}
use Rattle.ground_program.specs.Closed.{HasWeights, Weighed, Closed}
use Rattle.ground_program.proofs.Passing.{list_any-weaker, list_all-weaker, passing, passing_le-length, passing-same}
use Rattle.asp_base.proofs.Each.{each, each-weaker}

pub step-append : (rules more : List Rule) (M X : Set) (a : ℕ) → step (rules ++ more) M X a ≡ (step rules M X a || step more M X a)
step-append rules more M X a = list_any-append (λ rule. derives rule M X a) rules more

pub literal_holds-mono : (l : Literal) (X Y M : Set) → Within X Y → literal_holds l X M ≡ true → literal_holds l Y M ≡ true
literal_holds-mono (Pos a) X Y M h e = h a e
literal_holds-mono (Neg a) X Y M h e = e

cond_le : (b c : Bool) (w s t : ℤ) → pos 0 ≤ℤ w → (b ≡ true → c ≡ true) → s ≤ℤ t → (cond b w (pos 0) +ℤ s) ≤ℤ (cond c w (pos 0) +ℤ t)
cond_le true true w s t p h k = omega (arith, ints)
cond_le true false w s t p h k = absurd (true≢false (sym (h refl)))
cond_le false true w s t p h k = omega (arith, ints)
cond_le false false w s t p h k = omega (arith, ints)

pub weight_of-mono : (items : List (Literal × ℤ)) (X Y M : Set) → AllByRecursion (λ item. pos 0 ≤ℤ item.1) items → Within X Y → weight_of items X M ≤ℤ weight_of items Y M
weight_of-mono [] X Y M p h = omega (arith, ints)
weight_of-mono (item ∷ items) X Y M p h = cond_le _ _ _ _ _ p.0 (literal_holds-mono item.0 X Y M h) (weight_of-mono items X Y M p.1 h)

int_le-trans : (a b c : ℤ) → int_le a b ≡ true → b ≤ℤ c → int_le a c ≡ true
int_le-trans a b c e h = grind (arith, ints)

pub holds-mono : (body : Body) (X Y M : Set) → HasWeights body → Within X Y → holds body X M ≡ true → holds body Y M ≡ true
holds-mono (All lits) X Y M w h e = list_all-weaker _ _ lits (each _ (λ l. literal_holds-mono l X Y M h) lits) e
holds-mono (Sum bound items) X Y M w h e = int_le-trans bound _ _ e (weight_of-mono items X Y M w h)

derives-mono : (a : ℕ) (X Y M : Set) → Within X Y → (rule : Rule) → HasWeights rule.body → derives rule M X a ≡ true → derives rule M Y a ≡ true
derives-mono a X Y M h rule w e =
    let k : (head_has rule.head M a ≡ true) × (holds rule.body X M ≡ true) = and_parts _ _ e in
    and_from _ _ k.0 (holds-mono rule.body X Y M w h k.1)

pub step-mono : (rules : List Rule) (M X Y : Set) → Weighed rules → Within X Y → Within (step rules M X) (step rules M Y)
step-mono rules M X Y w h a e = list_any-weaker _ _ rules (each-weaker _ _ (derives-mono a X Y M h) rules w) e

pub rounds-more : (n : ℕ) (rules : List Rule) (M X : Set) → Within (rounds n rules M X) (rounds (suc n) rules M X)
rounds-more n rules M X a e = or_left _ _ e

-- what a closed set holds, each round stays within
pub rounds-within : (n : ℕ) (rules : List Rule) (M X Y : Set) → Weighed rules → Within X Y → Closed rules M Y → Within (rounds n rules M X) Y
rounds-within zero rules M X Y w h c a e = h a e
rounds-within (suc n) rules M X Y w h c a e =
    let ih : Within (rounds n rules M X) Y = rounds-within n rules M X Y w h c in
    ⊎_elim (λ p. ih a p) (λ p. c a (step-mono rules M (rounds n rules M X) Y w ih a p)) (or_cases _ _ e)

-- which rules fire at X
abbrev fires : Set → Set → Rule → Bool
fires X M rule = holds rule.body X M

derives-back : (a : ℕ) (X Y M : Set) (rule : Rule) → (fires Y M rule ≡ true → fires X M rule ≡ true) → derives rule M Y a ≡ true → derives rule M X a ≡ true
derives-back a X Y M rule h e =
    let k : (head_has rule.head M a ≡ true) × (holds rule.body Y M ≡ true) = and_parts _ _ e in
    and_from _ _ k.0 (h k.1)

-- where no more rules fire at Y, no more is derived there
step-same : (rules : List Rule) (M X Y : Set) → Weighed rules → Within X Y → passing (fires Y M) rules ≤ passing (fires X M) rules → Within (step rules M Y) (step rules M X)
step-same rules M X Y w h p a e =
    let back : AllByRecursion (λ rule. fires Y M rule ≡ true → fires X M rule ≡ true) rules =
    passing-same (fires X M) (fires Y M) rules (each-weaker _ _ (λ rule v. holds-mono rule.body X Y M v h) rules w) p in
    list_any-weaker _ _ rules (each-weaker _ _ (λ rule g. derives-back a X Y M rule g) rules back) e

fires-none : (rules : List Rule) (M X : Set) → passing (fires X M) rules ≤ 0 → Closed rules M X
fires-none [] M X p a e = absurd (true≢false (sym e))
fires-none (rule ∷ rules) M X p a e = go (fires X M rule) refl (λ k. fires-none rules M X k a)
  where
    n : ℕ
    n = passing (fires X M) rules

    go : (b : Bool) → fires X M rule ≡ b → (n ≤ 0 → step rules M X a ≡ true → X a ≡ true) → X a ≡ true
    go true q rest =
        let k : cond true (suc n) n ≤ 0 = subst (λ b. cond b (suc n) n ≤ 0) q p in absurd (omega arith)
    go false q rest =
        let k : n ≤ 0 = subst (λ b. cond b (suc n) n ≤ 0) q p in
        rest k (⊎_elim (λ s. absurd (true≢false (sym ((and_parts _ _ s).1) ∙ q))) (λ s. s) (or_cases _ _ e))

pub closed-next : (rules : List Rule) (M X : Set) → Weighed rules → Closed rules M X → Closed rules M (union X (step rules M X))
closed-next rules M X w c a e = or_left _ _ (c a (step-mono rules M (union X (step rules M X)) X w (λ b p. ⊎_elim (λ q. q) (λ q. c b q) (or_cases _ _ p)) a e))

-- each round fires one more rule, until nothing more comes
firing : (n : ℕ) (rules : List Rule) (M X : Set) → Weighed rules → Closed rules M (rounds n rules M X) ⊎ (n < passing (fires (rounds n rules M X) M) rules)
firing zero rules M X w = ⊎_elim (λ p. inr p) (λ p. inl (fires-none rules M X p)) (cases_lt 0 (passing (fires X M) rules))
firing (suc n) rules M X w =
    let R : Set = rounds n rules M X in
    let S : Set = rounds (suc n) rules M X in
    ⊎_elim (λ c. inl (closed-next rules M R w c))
    (λ p. ⊎_elim (λ q. inr (omega arith))
    (λ q. inl (λ a e. or_right _ _ (step-same rules M R S w (rounds-more n rules M X) q a e)))
    (cases_lt (passing (fires R M) rules) (passing (fires S M) rules)))
    (firing n rules M X w)

-- as many rounds as there are rules reach the end
pub grown-closed : (rules : List Rule) (M X : Set) → Weighed rules → Closed rules M (grown rules M X)
grown-closed rules M X w =
    ⊎_elim (λ c. c) (λ p. absurd (omega (arith, passing_le-length (fires (grown rules M X) M) rules))) (firing (length rules) rules M X w)

-- nothing is in it that the rules don't derive
rounds-derived : (n : ℕ) (rules : List Rule) (M : Set) → Weighed rules → Within (rounds n rules M none) (step rules M (rounds n rules M none))
rounds-derived zero rules M w a e = absurd (true≢false (sym e))
rounds-derived (suc n) rules M w a e =
    step-mono rules M (rounds n rules M none) (rounds (suc n) rules M none) w (rounds-more n rules M none) a
    (⊎_elim (λ p. rounds-derived n rules M w a p) (λ p. p) (or_cases _ _ e))

pub grown-smallest : (rules : List Rule) (M X Y : Set) → Weighed rules → Within X Y → Closed rules M Y → Within (grown rules M X) Y
grown-smallest rules M X Y w h c = rounds-within (length rules) rules M X Y w h c

pub same_within : (X Y : Set) → Within X Y → Within Y X → Same X Y
same_within X Y h k a = same_test _ _ (h a) (k a)

-- the least model is a fixpoint of the step
pub grown-fixpoint : (rules : List Rule) (M : Set) → Weighed rules → Same (step rules M (grown rules M none)) (grown rules M none)
grown-fixpoint rules M w = same_within _ _ (grown-closed rules M none w) (rounds-derived (length rules) rules M w)
