-- The variables that the rankings add, by components.
use Rattle.std.proofs.Common.{◌≡◌, refl, sym, ◌∙◌, ap, ap₂, subst, ℕ, suc, ◌+◌, ◌*◌, ◌/◌, ◌≤◌, ◌<◌, ◌==◌, Bool, true, false, cond, ◌||◌, List, [], ◌∷◌, length, filter, Option, ⊎_elim, arith}
use Rattle.std.proofs.Math.Nat.{mul-suc, mul-zero, mul-add, mul_assoc}
use Rattle.std.proofs.lemmas.List.Sums.{sum_by-cons}
use Rattle.std.specs.List.{sum_by}
use Rattle.std.proofs.lemmas.Bool.{true≢false, eqb-true, eq-eqb, or_cases}
use Rattle.asp_base.specs.Literal.{Literal}
use Rattle.asp_base.specs.Sets.{Set, members}
use Rattle.ground_program.specs.Facts.{IsProgram}
use Rattle.rising_numbers.specs.Rising.{RisesFrom, place}
use Rattle.ground_program.specs.Ground.{Ground}
use Rattle.ground_program.specs.declared.program.Head.{Head}
use Rattle.ground_program.specs.declared.program.Head.TheVariants.{Nothing, One, Choice}
use Rattle.ground_program.specs.declared.program.Rule.{Rule}
use Rattle.completion.specs.Completion.{body_literals, completed}
use Rattle.ground_program.specs.Normal.{AreNormal}
use Rattle.digit_gates.specs.DigitGates.{less_vars}
use Rattle.level_ranking.specs.Components.{AreParts, atoms_of_part, component}
use Rattle.level_ranking.specs.Encoding.{inside, part_width, Row, is_head, rows_of, rows_at, width_of, ranked_atoms, with_digits, with_rankings}
use Rattle.level_ranking.specs.private.Counts.{support_vars, near_vars, atoms_vars, parts_vars}
use Rattle.level_ranking.specs.Ranked.{part_bound, AddsByParts}
use Rattle.level_ranking.specs.Ranking.{is_head_in, inner}
use Rattle.level_ranking.proofs.CountLaws.{mul-mono, total, total-add, total-zero, total-le, one-at}
use Rattle.level_ranking.proofs.NewDigits.{digits_vars}
use Rattle.level_ranking.proofs.RankedStore.{made, limits}
use Rattle.rising_numbers.proofs.RisingLaws.{rises-filter}

-- ---- the rules of an atom

-- what a rule with a head in the component may add
abbrev rule_bound : ℕ → Set → Rule → ℕ
rule_bound w S rule = (w + 2) * length (inside S rule) + 1

abbrev head_bound : ℕ → Set → ℕ → List Rule → ℕ
head_bound w S a [] = 0
head_bound w S a (rule ∷ rules) = cond (is_head a rule.head) (rule_bound w S rule) 0 + head_bound w S a rules

twice : (w k : ℕ) → less_vars w * k + less_vars w * k ≤ (w + 2) * k
twice w k =
    let e : 2 * less_vars w * k ≡ 2 * (less_vars w * k) = mul_assoc 2 (less_vars w) k in
    let h : 2 * less_vars w * k ≤ (w + 2) * k = mul-mono (2 * less_vars w) (w + 2) k (omega arith) in
    omega arith

rows-bound : (w : ℕ) (S : Set) (a : ℕ) (rules : List Rule) (bodies : List (Option Literal)) → support_vars w (rows_of S a rules bodies) + near_vars w (rows_of S a rules bodies) ≤ head_bound w S a rules
rows-bound w S a [] bodies = omega arith
rows-bound w S a (rule ∷ rules) [] = omega arith
rows-bound w S a (rule ∷ rules) (body ∷ bodies) = go (is_head a rule.head) (rows-bound w S a rules bodies) (twice w (length (inside S rule)))
  where
    go : (h : Bool) → support_vars w (rows_of S a rules bodies) + near_vars w (rows_of S a rules bodies) ≤ head_bound w S a rules
        → less_vars w * length (inside S rule) + less_vars w * length (inside S rule) ≤ (w + 2) * length (inside S rule)
        → support_vars w (cond h (record { body = body; inside = inside S rule } ∷ rows_of S a rules bodies) (rows_of S a rules bodies)) + near_vars w (cond h (record { body = body; inside = inside S rule } ∷ rows_of S a rules bodies) (rows_of S a rules bodies))
        ≤ cond h (rule_bound w S rule) 0 + head_bound w S a rules
    go true i j = omega arith
    go false i j = omega arith

-- ---- the atoms of a component

absent-at : (k x : ℕ) (xs : List ℕ) → members xs k ≡ false → total (λ y. cond (k == y) x 0) xs ≡ 0
absent-at k x [] h = refl
absent-at k x (y ∷ xs) h = go (k == y) refl (y == k) refl (members xs k) refl (absent-at k x xs)
  where
    go : (b : Bool) → (k == y) ≡ b → (c : Bool) → (y == k) ≡ c → (m : Bool) → members xs k ≡ m → (members xs k ≡ false → total (λ z. cond (k == z) x 0) xs ≡ 0)
        → cond b x 0 + total (λ z. cond (k == z) x 0) xs ≡ 0
    go true e c f m g i = absurd (true≢false (sym (ap (λ t. t || members xs k) (eq-eqb y k (sym (eqb-true k y e)))) ∙ h))
    go false e true f m g i = absurd (true≢false (sym (ap (λ t. t || members xs k) f) ∙ h))
    go false e false f true g i = absurd (true≢false (sym (ap₂ ◌||◌ f g) ∙ h))
    go false e false f false g i = let j : total (λ z. cond (k == z) x 0) xs ≡ 0 = i g in omega arith

module _ (w : ℕ) (atoms : List ℕ) (low : ℕ) (rise : RisesFrom low atoms) where
  by_head : (head : Head) (x : ℕ) → total (λ a. cond (is_head a head) x 0) atoms ≤ cond (is_head_in (members atoms) head) x 0
  by_head Nothing x = let z : total (λ a. 0) atoms ≡ 0 = total-zero atoms in omega arith
  by_head (One b) x = go (members atoms b) refl
    where
      go : (t : Bool) → members atoms b ≡ t → total (λ a. cond (b == a) x 0) atoms ≤ cond t x 0
      go true e = one-at b x low atoms rise
      go false e = let z : total (λ a. cond (b == a) x 0) atoms ≡ 0 = absent-at b x atoms e in omega arith
  by_head (Choice bs) x = let z : total (λ a. 0) atoms ≡ 0 = total-zero atoms in omega arith

  -- each rule has one head
  heads-total : (rules : List Rule) → total (λ a. head_bound w (members atoms) a rules) atoms
      ≤ (w + 2) * sum_by (λ rule. length (inside (members atoms) rule)) (inner (members atoms) rules) + length (inner (members atoms) rules)
  heads-total [] = let z : total (λ a. 0) atoms ≡ 0 = total-zero atoms in omega (arith, mul-zero (w + 2))
  heads-total (rule ∷ rules) =
      let sum : total (λ a. cond (is_head a rule.head) (rule_bound w (members atoms) rule) 0 + head_bound w (members atoms) a rules) atoms
      ≡ total (λ a. cond (is_head a rule.head) (rule_bound w (members atoms) rule) 0) atoms + total (λ a. head_bound w (members atoms) a rules) atoms =
      total-add (λ a. cond (is_head a rule.head) (rule_bound w (members atoms) rule) 0) (λ a. head_bound w (members atoms) a rules) atoms in
      let here : total (λ a. cond (is_head a rule.head) (rule_bound w (members atoms) rule) 0) atoms ≤ cond (is_head_in (members atoms) rule.head) (rule_bound w (members atoms) rule) 0 = by_head rule.head (rule_bound w (members atoms) rule) in
      let i = heads-total rules in
      let k : cond (is_head_in (members atoms) rule.head) (rule_bound w (members atoms) rule) 0
      + ((w + 2) * sum_by (λ r. length (inside (members atoms) r)) (inner (members atoms) rules) + length (inner (members atoms) rules))
      ≡ (w + 2) * sum_by (λ r. length (inside (members atoms) r)) (inner (members atoms) (rule ∷ rules)) + length (inner (members atoms) (rule ∷ rules)) = go (is_head_in (members atoms) rule.head) in
      omega arith
    where
      go : (t : Bool) → cond t (rule_bound w (members atoms) rule) 0 + ((w + 2) * sum_by (λ r. length (inside (members atoms) r)) (inner (members atoms) rules) + length (inner (members atoms) rules))
          ≡ (w + 2) * sum_by (λ r. length (inside (members atoms) r)) (cond t (rule ∷ inner (members atoms) rules) (inner (members atoms) rules)) + length (cond t (rule ∷ inner (members atoms) rules) (inner (members atoms) rules))
      go true =
          let s = sum_by-cons (λ r. length (inside (members atoms) r)) rule (inner (members atoms) rules) in
          let m = mul-add (w + 2) (length (inside (members atoms) rule)) (sum_by (λ r. length (inside (members atoms) r)) (inner (members atoms) rules)) in
          let e = ap (λ n. (w + 2) * n) s in
          omega arith
      go false = omega arith

  module _ (P : Ground) (rows : ℕ → List Row) (bound : (a : ℕ) → support_vars w (rows a) + near_vars w (rows a) ≤ head_bound w (members atoms) a P.rules) where
    atoms-by : (xs : List ℕ) → atoms_vars w rows xs ≤ 2 * (w * length xs) + total (λ a. head_bound w (members atoms) a P.rules) xs
    atoms-by [] = omega (arith, mul-zero w)
    atoms-by (a ∷ xs) =
        let i : atoms_vars w rows xs ≤ 2 * (w * length xs) + total (λ b. head_bound w (members atoms) b P.rules) xs = atoms-by xs in
        let b : support_vars w (rows a) + near_vars w (rows a) ≤ head_bound w (members atoms) a P.rules = bound a in
        let e : w * suc (length xs) ≡ w * length xs + w = mul-suc w (length xs) in
        omega arith

-- ---- digits

least-at : (k x : ℕ) (xs : List ℕ) → members xs k ≡ true → x ≤ total (λ y. cond (k == y) x 0) xs
least-at k x [] h = absurd (true≢false (sym h))
least-at k x (y ∷ xs) h = go (k == y) refl (or_cases _ _ h) (least-at k x xs)
  where
    go : (b : Bool) → (k == y) ≡ b → Rattle.std.proofs.Common.◌⊎◌ ((y == k) ≡ true) (members xs k ≡ true) → (members xs k ≡ true → x ≤ total (λ z. cond (k == z) x 0) xs) → x ≤ cond b x 0 + total (λ z. cond (k == z) x 0) xs
    go true e c i = omega arith
    go false e c i = ⊎_elim (λ f. absurd (true≢false (sym (eq-eqb k y (sym (eqb-true y k f))) ∙ e))) (λ f. let j : x ≤ total (λ z. cond (k == z) x 0) xs = i f in omega arith) c

-- what stands in one of the parts is counted there
total-parts : (f part : ℕ → ℕ) (parts xs : List ℕ) → total f (filter (λ a. members parts (part a)) xs) ≤ total (λ c. total f (filter (λ a. part a == c) xs)) parts
total-parts f part parts [] = omega arith
total-parts f part parts (x ∷ xs) =
    let split : total (λ c. cond (part x == c) (f x) 0 + total f (filter (λ a. part a == c) xs)) parts ≤ total (λ c. total f (filter (λ a. part a == c) (x ∷ xs))) parts = total-le _ _ parts (λ c. go (part x == c) c) in
    let sum : total (λ c. cond (part x == c) (f x) 0 + total f (filter (λ a. part a == c) xs)) parts ≡ total (λ c. cond (part x == c) (f x) 0) parts + total (λ c. total f (filter (λ a. part a == c) xs)) parts =
    total-add (λ c. cond (part x == c) (f x) 0) (λ c. total f (filter (λ a. part a == c) xs)) parts in
    let i : total f (filter (λ a. members parts (part a)) xs) ≤ total (λ c. total f (filter (λ a. part a == c) xs)) parts = total-parts f part parts xs in
    let k : total f (filter (λ a. members parts (part a)) (x ∷ xs)) ≤ total (λ c. cond (part x == c) (f x) 0) parts + total f (filter (λ a. members parts (part a)) xs) = here (members parts (part x)) refl in
    omega arith
  where
    go : (b : Bool) (c : ℕ) → cond b (f x) 0 + total f (filter (λ a. part a == c) xs) ≤ total f (cond b (x ∷ filter (λ a. part a == c) xs) (filter (λ a. part a == c) xs))
    go true c = omega arith
    go false c = omega arith

    here : (b : Bool) → members parts (part x) ≡ b → total f (cond b (x ∷ filter (λ a. members parts (part a)) xs) (filter (λ a. members parts (part a)) xs)) ≤ total (λ c. cond (part x == c) (f x) 0) parts + total f (filter (λ a. members parts (part a)) xs)
    here true e = let l : f x ≤ total (λ c. cond (part x == c) (f x) 0) parts = least-at (part x) (f x) parts e in omega arith
    here false e = omega arith

-- all atoms of a component have the same width
widths-same : (part wide : ℕ → ℕ) (c : ℕ) (xs : List ℕ) → total (λ a. wide (part a)) (filter (λ a. part a == c) xs) ≡ wide c * length (filter (λ a. part a == c) xs)
widths-same part wide c [] = sym (mul-zero (wide c))
widths-same part wide c (x ∷ xs) = go (part x == c) refl (widths-same part wide c xs)
  where
    go : (b : Bool) → (part x == c) ≡ b → total (λ a. wide (part a)) (filter (λ a. part a == c) xs) ≡ wide c * length (filter (λ a. part a == c) xs)
        → total (λ a. wide (part a)) (cond b (x ∷ filter (λ a. part a == c) xs) (filter (λ a. part a == c) xs)) ≡ wide c * length (cond b (x ∷ filter (λ a. part a == c) xs) (filter (λ a. part a == c) xs))
    go true e i =
        let q : wide (part x) ≡ wide c = ap wide (eqb-true (part x) c e) in
        let m : wide c * suc (length (filter (λ a. part a == c) xs)) ≡ wide c * length (filter (λ a. part a == c) xs) + wide c = mul-suc (wide c) (length (filter (λ a. part a == c) xs)) in
        omega arith
    go false e i = i

digits-total : (var width : ℕ → ℕ) (xs : List ℕ) → digits_vars var width xs ≡ total width xs
digits-total var width [] = refl
digits-total var width (x ∷ xs) = let i : digits_vars var width xs ≡ total width xs = digits-total var width xs in omega arith

-- ---- all together

module _ (P : Ground) (program : IsProgram P) (normal : AreNormal P.rules) (part : ℕ → ℕ) (parts : List ℕ) (are : AreParts P.rules P.atoms part (members parts)) where
  part-by : (c : ℕ) → atoms_vars (part_width P part parts c) (rows_at P part parts c) (atoms_of_part part c P.atoms) + part_width P part parts c * length (atoms_of_part part c P.atoms) ≤ part_bound P part parts c
  part-by c =
      let rise : RisesFrom 0 (atoms_of_part part c P.atoms) = rises-filter (λ a. part a == c) 0 P.atoms program.atoms_rise in
      let h = atoms-by (part_width P part parts c) (atoms_of_part part c P.atoms) 0 rise P (rows_at P part parts c) (λ a. rows-bound (part_width P part parts c) (component P part c) a P.rules (body_literals P)) (atoms_of_part part c P.atoms) in
      let t = heads-total (part_width P part parts c) (atoms_of_part part c P.atoms) 0 rise P.rules in
      omega arith

  parts-by : (cs : List ℕ) → parts_vars P part parts cs + total (λ c. part_width P part parts c * length (atoms_of_part part c P.atoms)) cs ≤ sum_by (part_bound P part parts) cs
  parts-by [] = omega arith
  parts-by (c ∷ cs) =
      let i : parts_vars P part parts cs + total (λ e. part_width P part parts e * length (atoms_of_part part e P.atoms)) cs ≤ sum_by (part_bound P part parts) cs = parts-by cs in
      let s : sum_by (part_bound P part parts) (c ∷ cs) ≡ part_bound P part parts c + sum_by (part_bound P part parts) cs = sum_by-cons (part_bound P part parts) c cs in
      let h : atoms_vars (part_width P part parts c) (rows_at P part parts c) (atoms_of_part part c P.atoms) + part_width P part parts c * length (atoms_of_part part c P.atoms) ≤ part_bound P part parts c = part-by c in
      omega arith

  widths : digits_vars (place P.atoms) (width_of P part parts) (ranked_atoms P part parts) ≤ total (λ c. part_width P part parts c * length (atoms_of_part part c P.atoms)) parts
  widths =
      let d : digits_vars (place P.atoms) (width_of P part parts) (ranked_atoms P part parts) ≡ total (width_of P part parts) (ranked_atoms P part parts) = digits-total (place P.atoms) (width_of P part parts) (ranked_atoms P part parts) in
      let h : total (width_of P part parts) (ranked_atoms P part parts) ≤ total (λ c. total (width_of P part parts) (filter (λ a. part a == c) P.atoms)) parts = total-parts (width_of P part parts) part parts P.atoms in
      let k : total (λ c. total (width_of P part parts) (filter (λ a. part a == c) P.atoms)) parts ≤ total (λ c. part_width P part parts c * length (atoms_of_part part c P.atoms)) parts =
      total-le _ _ parts (λ c. let e : total (width_of P part parts) (filter (λ a. part a == c) P.atoms) ≡ part_width P part parts c * length (atoms_of_part part c P.atoms) = widths-same part (part_width P part parts) c P.atoms in omega arith) in
      omega arith

  pub adds-by_parts : AddsByParts P part parts (completed P) (with_rankings P part parts)
  adds-by_parts =
      let m : (with_digits P part parts).vars ≤ (completed P).vars + digits_vars (place P.atoms) (width_of P part parts) (ranked_atoms P part parts) = (made P program normal part parts are).grows.vars in
      let l : (with_rankings P part parts).vars ≤ (with_digits P part parts).vars + parts_vars P part parts parts = (limits P program normal part parts are).grows.vars in
      let b : parts_vars P part parts parts + total (λ c. part_width P part parts c * length (atoms_of_part part c P.atoms)) parts ≤ sum_by (part_bound P part parts) parts = parts-by parts in
      let w : digits_vars (place P.atoms) (width_of P part parts) (ranked_atoms P part parts) ≤ total (λ c. part_width P part parts c * length (atoms_of_part part c P.atoms)) parts = widths in
      omega arith
