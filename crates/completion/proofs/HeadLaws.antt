-- The places of heads and rules are places, and under the place of an atom stand those of its rules.
use Rattle.std.proofs.Common.{◌≡◌, refl, sym, ◌∙◌, ap, ℕ, suc, ◌+◌, ◌-◌, ◌<◌, ◌≤◌, ◌==◌, Bool, true, false, cond, List, [], ◌∷◌, ◌++◌, length, map, get_or, filter, drop, append-nil, arith, eqb-true, eq-eqb}
use Rattle.std.specs.List.{AllByRecursion}
use Rattle.std.proofs.Math.ListN.{drop_of_length-le}
use Rattle.asp_base.specs.Sets.{members}
use Rattle.asp_base.proofs.Each.{each-get}
use Rattle.asp_base.proofs.Bools.{same_test}
use Rattle.rising_numbers.specs.Rising.{RisesFrom, place}
use Rattle.rising_numbers.proofs.PlaceLaws.{place-at, place-within}
use Rattle.rising_numbers.proofs.RisingLaws.{index_of_member}
use Rattle.graph_parts.specs.Groups.{pair_at, values_of}
use Rattle.ground_program.specs.Facts.{Among, RuleFits, HeadFits}
use Rattle.ground_program.specs.declared.program.Head.{Head}
use Rattle.ground_program.specs.declared.program.Head.TheVariants.{Nothing, One, Choice}
use Rattle.ground_program.specs.declared.program.Rule.{Rule}
use Rattle.completion.specs.Heads.{head_pairs, heads_from}

-- the heads so far are all of them where no rule is left
pub heads-done : (atoms : List ℕ) (rules : List Rule) (i : ℕ) (pairs : List (ℕ × ℕ)) → length rules ≤ i → pairs ++ heads_from atoms i (drop i rules) ≡ heads_from atoms 0 rules
    → pairs ≡ heads_from atoms 0 rules
heads-done atoms rules i pairs past e = sym (append-nil pairs) ∙ (ap (λ rest. pairs ++ heads_from atoms i rest) (sym (drop_of_length-le rules past)) ∙ e)

-- ---- how many there are, and their bounds

pub heads-few : (atoms : List ℕ) (rules : List Rule) (i : ℕ) → length (heads_from atoms i rules) ≤ length rules
heads-few atoms [] i = omega arith
heads-few atoms (rule ∷ rules) i = go rule.head (heads-few atoms rules (suc i))
  where
    go : (head : Head) → length (heads_from atoms (suc i) rules) ≤ length rules → length (head_pairs atoms head i ++ heads_from atoms (suc i) rules) ≤ suc (length rules)
    go Nothing k = omega arith
    go (One a) k = omega arith
    go (Choice as_) k = omega arith

pub heads-keys : (atoms : List ℕ) (rules : List Rule) (i : ℕ) → AllByRecursion (RuleFits (Among atoms)) rules → AllByRecursion (λ p. p.0 < length atoms) (heads_from atoms i rules)
heads-keys atoms [] i f = tt
heads-keys atoms (rule ∷ rules) i f = go rule.head f.0.0 (heads-keys atoms rules (suc i) f.1)
  where
    go : (head : Head) → HeadFits (Among atoms) head → AllByRecursion (λ p. p.0 < length atoms) (heads_from atoms (suc i) rules) → AllByRecursion (λ p. p.0 < length atoms) (head_pairs atoms head i ++ heads_from atoms (suc i) rules)
    go Nothing h k = k
    go (One a) h k = ((let p = place-within atoms a h in omega arith), k)
    go (Choice as_) h k = k

pub heads-below : (atoms : List ℕ) (rules : List Rule) (i m : ℕ) → i + length rules ≤ m → AllByRecursion (λ p. p.1 < m) (heads_from atoms i rules)
heads-below atoms [] i m h = tt
heads-below atoms (rule ∷ rules) i m h = go rule.head (heads-below atoms rules (suc i) m (omega arith))
  where
    go : (head : Head) → AllByRecursion (λ p. p.1 < m) (heads_from atoms (suc i) rules) → AllByRecursion (λ p. p.1 < m) (head_pairs atoms head i ++ heads_from atoms (suc i) rules)
    go Nothing k = k
    go (One a) k = (omega arith, k)
    go (Choice as_) k = k

pub each-pair : (P : ℕ × ℕ → Type 0) (pairs : List (ℕ × ℕ)) → AllByRecursion P pairs → (j : ℕ) → j < length pairs → P (pair_at pairs j)
each-pair P pairs h j l = each-get P pairs j (0, 0) l h

-- ---- the rules of an atom

-- at the place of an atom stands the atom, and so it tells it from the others
place-back : (atoms : List ℕ) → RisesFrom 0 atoms → (a : ℕ) → members atoms a ≡ true → get_or atoms (place atoms a - 1) 0 ≡ a
place-back atoms rise a among =
    let at : (i : ℕ) × (i < length atoms) × (get_or atoms i 0 ≡ a) = index_of_member atoms a among in
    let is : place atoms a ≡ suc at.0 = ap (place atoms) (sym at.2) ∙ place-at 0 atoms at.0 rise at.1 in
    let same : place atoms a - 1 ≡ at.0 = omega arith in
    ap (λ i. get_or atoms i 0) same ∙ at.2

pub same-place : (atoms : List ℕ) → RisesFrom 0 atoms → (a b : ℕ) → members atoms a ≡ true → members atoms b ≡ true → ((place atoms b - 1) == (place atoms a - 1)) ≡ (b == a)
same-place atoms rise a b ma mb = same_test ((place atoms b - 1) == (place atoms a - 1)) (b == a)
    (λ e. eq-eqb b a (sym (place-back atoms rise b mb) ∙ (ap (λ i. get_or atoms i 0) (eqb-true _ _ e) ∙ place-back atoms rise a ma)))
    (λ e. eq-eqb _ _ (ap (λ z. place atoms z - 1) (eqb-true b a e)))

-- whether it is the head
abbrev pub heads_it : ℕ → Head → Bool
heads_it a Nothing = false
heads_it a (One b) = b == a
heads_it a (Choice as_) = false

-- the places of an atom's rules; the first rule has the place i
abbrev pub places_from : ℕ → ℕ → List Rule → List ℕ
places_from a i [] = []
places_from a i (rule ∷ rules) =
    let rest : List ℕ = places_from a (suc i) rules in
    cond (heads_it a rule.head) (i ∷ rest) rest

pub heads-values : (atoms : List ℕ) → RisesFrom 0 atoms → (a : ℕ) → members atoms a ≡ true → (rules : List Rule) (i : ℕ) → AllByRecursion (RuleFits (Among atoms)) rules →
    values_of (place atoms a - 1) (heads_from atoms i rules) ≡ places_from a i rules
heads-values atoms rise a among [] i f = refl
heads-values atoms rise a among (rule ∷ rules) i f = go rule.head f.0.0 (heads-values atoms rise a among rules (suc i) f.1)
  where
    put : (x : ℕ) (b : Bool) → values_of (place atoms a - 1) (heads_from atoms (suc i) rules) ≡ places_from a (suc i) rules →
        map (λ p. p.1) (cond b ((x, i) ∷ filter (λ p. p.0 == (place atoms a - 1)) (heads_from atoms (suc i) rules)) (filter (λ p. p.0 == (place atoms a - 1)) (heads_from atoms (suc i) rules)))
        ≡ cond b (i ∷ places_from a (suc i) rules) (places_from a (suc i) rules)
    put x true e = ap (λ ps. i ∷ ps) e
    put x false e = e

    go : (head : Head) → HeadFits (Among atoms) head → values_of (place atoms a - 1) (heads_from atoms (suc i) rules) ≡ places_from a (suc i) rules →
        values_of (place atoms a - 1) (head_pairs atoms head i ++ heads_from atoms (suc i) rules)
        ≡ cond (heads_it a head) (i ∷ places_from a (suc i) rules) (places_from a (suc i) rules)
    go Nothing h e = e
    go (One b) h e =
        put (place atoms b - 1) ((place atoms b - 1) == (place atoms a - 1)) e
        ∙ ap (λ t. cond t (i ∷ places_from a (suc i) rules) (places_from a (suc i) rules)) (same-place atoms rise a b among h)
    go (Choice as_) h e = e
