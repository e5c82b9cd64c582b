-- The ranks by rounds are the one solution of the equations.
use Rattle.std.proofs.Common.{◌≡◌, refl, sym, ◌∙◌, ap, subst, ℕ, zero, suc, ◌≤◌, ◌<◌, Bool, true, false, cond, not, ◌&&◌, ◌||◌, ltb, leb, List, [], ◌∷◌, filter, ⊎_elim, arith, le_antisymm}
use Rattle.std.specs.List.{list_any, list_all, AllByRecursion}
use Rattle.std.proofs.lemmas.Bool.{and_parts, and_from, or_cases, or_left, or_right, true≢false, ltb-true, leb-true, le-leb, cases_Bool, eqb-true}
use Rattle.asp_base.specs.Literal.{Literal, Pos, Neg, all_hold}
use Rattle.asp_base.specs.Sets.{Set, Within}
use Rattle.ground_program.specs.Closed.{HasWeights, Weighed, Closed}
use Rattle.ground_program.specs.Stable.{holds, head_has, derives}
use Rattle.ground_program.specs.declared.program.Head.{Head}
use Rattle.ground_program.specs.declared.program.Head.TheVariants.{Nothing, One, Choice}
use Rattle.ground_program.specs.declared.program.Body.{Body}
use Rattle.ground_program.specs.declared.program.Body.TheVariants.{All, Sum}
use Rattle.ground_program.specs.declared.program.Rule.{Rule}
use Rattle.ground_program.proofs.Passing.{list_any-weaker}
use Rattle.asp_base.proofs.Each.{each, each-filter, each-weaker}
use Rattle.ground_program.proofs.Least.{rounds-within, holds-mono}
use Rattle.asp_base.proofs.Bools.{imply}
use Rattle.ground_program.proofs.FactLaws.{normal-weighed}
use Rattle.ground_program.specs.Normal.{IsNormalHead, IsNormalBody, AreNormal}
use Rattle.level_ranking.specs.Ranking.{is_head_in, inner, outside, ranked}
use Rattle.level_ranking.specs.Encoding.{positive_in, body_in}
use Rattle.level_ranking.proofs.Equations.{gives, is_below, near_one, is_near, IsRanking}

-- an element that passes one test, with what another test says of all
pub any_with_all : {A : Type 0} (p q : A → Bool) (xs : List A) (C : Type 0) → list_any p xs ≡ true → list_all q xs ≡ true → ((x : A) → p x ≡ true → q x ≡ true → C) → C
any_with_all p q [] C a b f = absurd (true≢false (sym a))
any_with_all p q (x ∷ xs) C a b f =
    let k : (q x ≡ true) × (list_all q xs ≡ true) = and_parts _ _ b in
    ⊎_elim (λ e. f x e k.0) (λ e. any_with_all p q xs C e k.1 f) (or_cases _ _ a)

-- the same with a fact of each element
pub any_with_each : {A : Type 0} (p : A → Bool) (Q : A → Type 0) (xs : List A) (C : Type 0) → list_any p xs ≡ true → AllByRecursion Q xs → ((x : A) → p x ≡ true → Q x → C) → C
any_with_each p Q [] C a b f = absurd (true≢false (sym a))
any_with_each p Q (x ∷ xs) C a b f = ⊎_elim (λ e. f x e b.0) (λ e. any_with_each p Q xs C e b.1 f) (or_cases _ _ a)

-- of a filter
pub list_any-filter : {A : Type 0} (f p : A → Bool) (xs : List A) → list_any p (filter f xs) ≡ list_any (λ x. f x && p x) xs
list_any-filter f p [] = refl
list_any-filter f p (x ∷ xs) = go (f x) ∙ ap (λ b. (f x && p x) || b) (list_any-filter f p xs)
  where
    go : (b : Bool) → list_any p (cond b (x ∷ filter f xs) (filter f xs)) ≡ ((b && p x) || list_any p (filter f xs))
    go true = refl
    go false = refl

pub inner-weighed : (S : Set) (rules : List Rule) → AreNormal rules → Weighed (inner S rules)
inner-weighed S rules n = each-filter _ _ rules (normal-weighed rules n)

-- a body that holds at M holds at X, where X has its positive atoms of the component and the rest of M
lits-hold : (S M X : Set) (p : ℕ → Bool) (lits : List Literal) → all_hold lits M M ≡ true → list_all p (positive_in S lits) ≡ true
    → ((b : ℕ) → S b ≡ true → M b ≡ true → p b ≡ true → X b ≡ true) → ((b : ℕ) → S b ≡ false → M b ≡ true → X b ≡ true) → all_hold lits X M ≡ true
lits-hold S M X p [] h q f g = refl
lits-hold S M X p (Neg b ∷ lits) h q f g =
    let k : (not (M b) ≡ true) × (all_hold lits M M ≡ true) = and_parts _ _ h in and_from _ _ k.0 (lits-hold S M X p lits k.1 q f g)
lits-hold S M X p (Pos b ∷ lits) h q f g =
    let k : (M b ≡ true) × (all_hold lits M M ≡ true) = and_parts _ _ h in go (S b) refl q k.0 (λ r. lits-hold S M X p lits k.1 r f g)
  where
    go : (t : Bool) → S b ≡ t → list_all p (cond t (b ∷ positive_in S lits) (positive_in S lits)) ≡ true → M b ≡ true
        → (list_all p (positive_in S lits) ≡ true → all_hold lits X M ≡ true) → (X b && all_hold lits X M) ≡ true
    go true s r m rest = let j : (p b ≡ true) × (list_all p (positive_in S lits) ≡ true) = and_parts _ _ r in and_from _ _ (f b s m j.0) (rest j.1)
    go false s r m rest = and_from _ _ (g b s m) (rest r)

pub body-holds : (S M X : Set) (p : ℕ → Bool) (body : Body) → IsNormalBody body → holds body M M ≡ true → list_all p (body_in S body) ≡ true
    → ((b : ℕ) → S b ≡ true → M b ≡ true → p b ≡ true → X b ≡ true) → ((b : ℕ) → S b ≡ false → M b ≡ true → X b ≡ true) → holds body X M ≡ true
body-holds S M X p (All lits) n h q f g = lits-hold S M X p lits h q f g
body-holds S M X p (Sum bound items) n h q f g = absurd n

-- the positive atoms of a body that holds at X are in X
lits-in : (S M X : Set) (p : ℕ → Bool) (lits : List Literal) → all_hold lits X M ≡ true → ((b : ℕ) → S b ≡ true → X b ≡ true → p b ≡ true) → list_all p (positive_in S lits) ≡ true
lits-in S M X p [] h f = refl
lits-in S M X p (Neg b ∷ lits) h f = lits-in S M X p lits ((and_parts _ _ h).1) f
lits-in S M X p (Pos b ∷ lits) h f =
    let k : (X b ≡ true) × (all_hold lits X M ≡ true) = and_parts _ _ h in go (S b) refl k.0 (lits-in S M X p lits k.1 f)
  where
    go : (t : Bool) → S b ≡ t → X b ≡ true → list_all p (positive_in S lits) ≡ true → list_all p (cond t (b ∷ positive_in S lits) (positive_in S lits)) ≡ true
    go true s x rest = and_from _ _ (f b s x) rest
    go false s x rest = rest

pub body-in : (S M X : Set) (p : ℕ → Bool) (body : Body) → holds body X M ≡ true → ((b : ℕ) → S b ≡ true → X b ≡ true → p b ≡ true) → list_all p (body_in S body) ≡ true
body-in S M X p (All lits) h f = lits-in S M X p lits h f
body-in S M X p (Sum bound items) h f = refl

-- a rule with a head in the component
pub head-inner : (S M : Set) (head : Head) (a : ℕ) → IsNormalHead head → S a ≡ true → head_has head M a ≡ true → is_head_in S head ≡ true
head-inner S M Nothing a n s e = absurd (true≢false (sym e))
head-inner S M (One b) a n s e = subst (λ c. S c ≡ true) (sym (eqb-true b a e)) s
head-inner S M (Choice as_) a n s e = absurd n

pub inner-head : (S M : Set) (head : Head) (a : ℕ) → is_head_in S head ≡ true → head_has head M a ≡ true → S a ≡ true
inner-head S M Nothing a n e = absurd (true≢false (sym e))
inner-head S M (One b) a n e = subst (λ c. S c ≡ true) (eqb-true b a e) n
inner-head S M (Choice as_) a n e = absurd (true≢false (sym n))

-- one more round has what a rule with its body in this round gives
pub ranked-next : (S : Set) (rules : List Rule) (M : Set) (k a : ℕ) → AreNormal rules → S a ≡ true → list_any (λ rule. head_has rule.head M a && holds rule.body (ranked S rules M k) M) rules ≡ true → ranked S rules M (suc k) a ≡ true
ranked-next S rules M k a n s e =
    or_right _ _ (list_any-filter (λ rule. is_head_in S rule.head) (λ rule. derives rule M (ranked S rules M k) a) rules
    ∙ list_any-weaker _ _ rules (each-weaker _ _ (λ rule h d. and_from _ _ (head-inner S M rule.head a h.0 s ((and_parts _ _ d).0)) d) rules n) e)

pub ranked-outside : (S : Set) (rules : List Rule) (M : Set) (k b : ℕ) → S b ≡ false → M b ≡ true → ranked S rules M k b ≡ true
ranked-outside S rules M zero b s m = and_from _ _ m (ap not s)
ranked-outside S rules M (suc k) b s m = or_left _ _ (ranked-outside S rules M k b s m)

-- the rounds reach an atom by the number that a ranking gives it
pub ranking-reached : (S : Set) (rules : List Rule) (M : Set) (r : ℕ → ℕ) → AreNormal rules → IsRanking S rules M r → (k a : ℕ) → S a ≡ true → M a ≡ true → r a ≤ k → ranked S rules M k a ≡ true
ranking-reached S rules M r n i zero a s m h = absurd (let k : 0 < r a = i.from_one a s m in omega arith)
ranking-reached S rules M r n i (suc k) a s m h =
    let ih : (b : ℕ) → S b ≡ true → M b ≡ true → r b ≤ k → ranked S rules M k b ≡ true = ranking-reached S rules M r n i k in
    ranked-next S rules M k a n s
    (list_any-weaker _ _ rules
    (each-weaker _ _ (λ rule nr d.
    let one : (gives M a rule ≡ true) × (is_below S r a rule ≡ true) = and_parts _ _ d in
    let two : (head_has rule.head M a ≡ true) × (holds rule.body M M ≡ true) = and_parts _ _ one.0 in
    and_from _ _ two.0
    (body-holds S M (ranked S rules M k) (λ b. ltb (r b) (r a)) rule.body nr.1 two.1 one.1
    (λ b sb mb lb. ih b sb mb (let j : r b < r a = ltb-true _ _ lb in omega arith))
    (λ b sb mb. ranked-outside S rules M k b sb mb))) rules n)
    (i.below a s m))

-- M without what the rules don't give is closed, so no round leaves it
pub ranked-within : (S : Set) (rules : List Rule) (M : Set) → AreNormal rules → Closed rules M M → (k : ℕ) → Within (ranked S rules M k) M
ranked-within S rules M n c k =
    rounds-within k (inner S rules) M (outside S M) M (inner-weighed S rules n) (λ a e. (and_parts _ _ e).0)
    (λ a e. c a (list_any-weaker _ _ rules (each _ (λ rule d. (and_parts _ _ d).1) rules) (sym (list_any-filter (λ rule. is_head_in S rule.head) (λ rule. derives rule M M a) rules) ∙ e)))

near-bound : (r : ℕ → ℕ) (a k : ℕ) (bs : List ℕ) → near_one r a bs ≡ true → list_all (λ b. leb (r b) k) bs ≡ true → r a ≤ suc k
near-bound r a k [] e h = let j : r a ≤ 1 = leb-true _ _ e in omega arith
near-bound r a k (b ∷ bs) e h =
    any_with_all (λ c. leb (r a) (suc (r c))) (λ c. leb (r c) k) (b ∷ bs) (r a ≤ suc k) e h
    (λ c p q. let i : r a ≤ suc (r c) = leb-true _ _ p in let j : r c ≤ k = leb-true _ _ q in omega arith)

-- an atom that a round has is given no larger number
pub ranking-least : (S : Set) (rules : List Rule) (M : Set) (r : ℕ → ℕ) → AreNormal rules → Closed rules M M → IsRanking S rules M r → (k a : ℕ) → S a ≡ true → ranked S rules M k a ≡ true → r a ≤ k
ranking-least S rules M r n c i zero a s e = absurd (true≢false (sym ((and_parts _ _ e).1) ∙ ap not s))
ranking-least S rules M r n c i (suc k) a s e =
    let ih : (b : ℕ) → S b ≡ true → ranked S rules M k b ≡ true → r b ≤ k = ranking-least S rules M r n c i k in
    ⊎_elim (λ p. let j : r a ≤ k = ih a s p in omega arith)
    (λ p.
    let given : list_any (λ rule. is_head_in S rule.head && derives rule M (ranked S rules M k) a) rules ≡ true = sym (list_any-filter (λ rule. is_head_in S rule.head) (λ rule. derives rule M (ranked S rules M k) a) rules) ∙ p in
    any_with_each (λ rule. is_head_in S rule.head && derives rule M (ranked S rules M k) a)
    (λ rule. (IsNormalHead rule.head × IsNormalBody rule.body) × ((not (gives M a rule) || is_near S r a rule) ≡ true)) rules (r a ≤ suc k) given
    (paired rules n (i.near a s (ranked-within S rules M n c (suc k) a e)))
    (λ rule d f.
    let one : (head_has rule.head M a ≡ true) × (holds rule.body (ranked S rules M k) M ≡ true) = and_parts _ _ ((and_parts _ _ d).1) in
    let full : holds rule.body M M ≡ true = holds-mono rule.body (ranked S rules M k) M M (weighed rule.body f.0.1) (ranked-within S rules M n c k) one.1 in
    near-bound r a k (body_in S rule.body) (imply _ _ f.1 (and_from _ _ one.0 full))
    (body-in S M (ranked S rules M k) (λ b. leb (r b) k) rule.body one.1 (λ b sb xb. le-leb _ _ (ih b sb xb)))))
    (or_cases _ _ e)
  where
    weighed : (body : Body) → IsNormalBody body → HasWeights body
    weighed (All lits) h = tt
    weighed (Sum bound items) h = absurd h

    paired : (xs : List Rule) → AreNormal xs → list_all (λ rule. not (gives M a rule) || is_near S r a rule) xs ≡ true
        → AllByRecursion (λ rule. (IsNormalHead rule.head × IsNormalBody rule.body) × ((not (gives M a rule) || is_near S r a rule) ≡ true)) xs
    paired [] m h = tt
    paired (x ∷ xs) m h = let k2 : ((not (gives M a x) || is_near S r a x) ≡ true) × (list_all (λ rule. not (gives M a rule) || is_near S r a rule) xs ≡ true) = and_parts _ _ h in ((m.0, k2.0), paired xs m.1 k2.1)

-- two rankings of one set are one
pub rankings-same : (S : Set) (rules : List Rule) (M : Set) (r q : ℕ → ℕ) → AreNormal rules → Closed rules M M → IsRanking S rules M r → IsRanking S rules M q → (a : ℕ) → S a ≡ true → r a ≡ q a
rankings-same S rules M r q n c i j a s =
    ⊎_elim
    (λ m. le_antisymm (ranking-least S rules M r n c i (q a) a s (ranking-reached S rules M q n j (q a) a s m (omega arith)))
    (ranking-least S rules M q n c j (r a) a s (ranking-reached S rules M r n i (r a) a s m (omega arith))))
    (λ m. i.out a s m ∙ sym (j.out a s m))
    (cases_Bool (M a))
