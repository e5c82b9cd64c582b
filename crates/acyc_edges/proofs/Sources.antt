-- Lists of indices, heads, and the atoms of bodies.
use Rattle.std.proofs.Common.{◌≡◌, refl, sym, ap, subst, ℕ, suc, Bool, true, false, not, ◌==◌, List, [], ◌∷◌, map, filter, ⊎_elim, inl, inr, ◌⊎◌}
use Rattle.std.proofs.lemmas.Bool.{true≢false, eqb-true}
use Rattle.asp_base.specs.Literal.{Literal, Pos, Neg}
use Rattle.asp_base.specs.Sets.{Set, members, once, In}
use Rattle.ground_program.specs.Facts.{Among, LiteralsFit, BodyFits}
use Rattle.ground_program.specs.Stable.{head_has}
use Rattle.ground_program.specs.declared.program.Head.{Head}
use Rattle.ground_program.specs.declared.program.Head.TheVariants.{Nothing, One, Choice}
use Rattle.ground_program.specs.declared.program.Body.{Body}
use Rattle.ground_program.specs.declared.program.Body.TheVariants.{All, Sum}
use Rattle.ground_program.specs.declared.program.Rule.{Rule}
use Rattle.ground_program.specs.Dependencies.{positives_of_literals, positives_of_body}
use Rattle.acyc_edges.specs.Encoding.{counted, rule_at, is_head, head_atom}
use Rattle.ground_program.specs.Normal.{IsNormalHead, IsNormalBody}
use Rattle.acyc_edges.proofs.Inside.{in-map, map-in, in-filter, filter-in}

-- ---- lists of indices, and each number once

pub counted-suc : {A : Type 0} (n : ℕ) (xs : List A) → counted (suc n) xs ≡ map suc (counted n xs)
counted-suc n [] = refl
counted-suc n (x ∷ xs) = ap (λ ys. suc n ∷ ys) (counted-suc (suc n) xs)

-- a rule stands at an index
pub rule-counted : (rules : List Rule) (rule : Rule) → In rule rules → (i : ℕ) × In i (counted 0 rules) × (rule_at rules i ≡ rule)
rule-counted [] rule h = absurd h
rule-counted (r ∷ rules) rule h = ⊎_elim (λ e. (0, inl refl, e))
    (λ e. let k : (i : ℕ) × In i (counted 0 rules) × (rule_at rules i ≡ rule) = rule-counted rules rule e in
    (suc k.0, inr (subst (λ xs. In (suc k.0) xs) (sym (counted-suc 0 rules)) (in-map suc (counted 0 rules) k.0 k.1)), k.2)) h

pub counted-rule : (rules : List Rule) (i : ℕ) → In i (counted 0 rules) → In (rule_at rules i) rules
counted-rule [] i h = absurd h
counted-rule (r ∷ rules) i h = ⊎_elim (λ e. inl (ap (rule_at (r ∷ rules)) e))
    (λ e. let k : (j : ℕ) × In j (counted 0 rules) × (suc j ≡ i) = map-in suc (counted 0 rules) i (subst (λ xs. In i xs) (counted-suc 0 rules) e) in
    inr (subst (λ j. In (rule_at (r ∷ rules) j) rules) k.2 (counted-rule rules k.0 k.1))) h

pub in-once : (xs : List ℕ) (x : ℕ) → In x xs → In x (once xs)
in-once [] x h = absurd h
in-once (y ∷ ys) x h = ⊎_elim (λ e. inl e) (λ e. go (y == x) refl (in-once ys x e)) h
  where
    go : (b : Bool) → (y == x) ≡ b → In x (once ys) → (y ≡ x) ⊎ In x (filter (λ z. not (y == z)) (once ys))
    go true e i = inl (eqb-true y x e)
    go false e i = inr (in-filter (λ z. not (y == z)) (once ys) x i (ap not e))

pub once-in : (xs : List ℕ) (x : ℕ) → In x (once xs) → In x xs
once-in [] x h = h
once-in (y ∷ ys) x h = ⊎_elim (λ e. inl e) (λ e. inr (once-in ys x ((filter-in (λ z. not (y == z)) (once ys) x e).0))) h

-- ---- heads

pub has-is_head : (head : Head) (M : Set) (a : ℕ) → IsNormalHead head → head_has head M a ≡ true → is_head head a ≡ true
has-is_head Nothing M a n h = h
has-is_head (One b) M a n h = h
has-is_head (Choice as_) M a n h = absurd n

pub is_head-has : (head : Head) (M : Set) (a : ℕ) → is_head head a ≡ true → head_has head M a ≡ true
is_head-has Nothing M a h = h
is_head-has (One b) M a h = h
is_head-has (Choice as_) M a h = absurd (true≢false (sym h))

pub is_head-atom : (head : Head) (a : ℕ) → is_head head a ≡ true → head_atom head ≡ a
is_head-atom Nothing a h = absurd (true≢false (sym h))
is_head-atom (One b) a h = eqb-true b a h
is_head-atom (Choice as_) a h = absurd (true≢false (sym h))

-- ---- atoms of bodies

pub literals-among : (atoms : List ℕ) (lits : List Literal) (b : ℕ) → LiteralsFit (Among atoms) lits → In b (positives_of_literals lits) → members atoms b ≡ true
literals-among atoms [] b f h = absurd h
literals-among atoms (Pos a ∷ lits) b f h = ⊎_elim (λ e. subst (λ c. members atoms c ≡ true) e f.0) (λ e. literals-among atoms lits b f.1 e) h
literals-among atoms (Neg a ∷ lits) b f h = literals-among atoms lits b f.1 h

pub body-among : (atoms : List ℕ) (body : Body) (b : ℕ) → IsNormalBody body → BodyFits (Among atoms) body → In b (positives_of_body body) → members atoms b ≡ true
body-among atoms (All lits) b n f h = literals-among atoms lits b f.1 h
body-among atoms (Sum bound items) b n f h = absurd n
