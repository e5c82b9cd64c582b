-- How many variables and clauses the rankings add.
use Rattle.std.proofs.Common.{◌≡◌, refl, subst₂, ℕ, zero, suc, ◌+◌, ◌*◌, ◌≤◌, ◌<◌, ◌==◌, Bool, true, false, cond, not, List, [], ◌∷◌, length, filter, Option, arith}
use Rattle.std.proofs.Math.Nat.{mul-suc, mul-zero, mul-add, mul_assoc, mul_comm}
use Rattle.std.proofs.lemmas.List.Sums.{sum_by-cons}
use Rattle.std.specs.List.{sum_by}
use Rattle.std.proofs.lemmas.Bool.{eqb-true}
use Rattle.asp_base.specs.Literal.{Literal, Pos, Neg}
use Rattle.asp_base.specs.Sets.{Set, members, once}
use Rattle.ground_program.specs.Facts.{IsProgram}
use Rattle.rising_numbers.specs.Rising.{RisesFrom, place}
use Rattle.ground_program.specs.Ground.{Ground}
use Rattle.ground_program.specs.Size.{size, rule_size, entries}
use Rattle.ground_program.specs.declared.program.Head.{Head}
use Rattle.ground_program.specs.declared.program.Head.TheVariants.{Nothing, One, Choice}
use Rattle.ground_program.specs.declared.program.Body.{Body}
use Rattle.ground_program.specs.declared.program.Body.TheVariants.{All, Sum}
use Rattle.ground_program.specs.declared.program.Rule.{Rule}
use Rattle.completion.specs.Completion.{body_literals}
use Rattle.digit_gates.specs.DigitGates.{less_vars}
use Rattle.level_ranking.specs.Encoding.{positive_in, body_in, inside, Row, is_head, rows_of, width_of, ranked_atoms, rows_at, part_width}
use Rattle.level_ranking.specs.Components.{atoms_of_part, component}
use Rattle.ground_program.specs.Digits.{digits}
use Rattle.level_ranking.proofs.NewDigits.{digits_vars, digits_clauses}
use Rattle.ground_program.proofs.DigitLaws.{digits-mono}
use Rattle.level_ranking.specs.private.Counts.{support_vars, support_clauses, near_vars, near_clauses, atom_vars, atom_clauses, atoms_vars, atoms_clauses, parts_vars, parts_clauses}

-- ---- products

pub mul-mono : (w d k : ℕ) → w ≤ d → w * k ≤ d * k
mul-mono w d zero h = omega (arith, mul-zero w, mul-zero d)
mul-mono w d (suc k) h = let i : w * k ≤ d * k = mul-mono w d k h in omega (arith, mul-suc w k, mul-suc d k)

mul-mono-right : (d j k : ℕ) → j ≤ k → d * j ≤ d * k
mul-mono-right d j k h = subst₂ (λ x y. x ≤ y) (mul_comm j d) (mul_comm k d) (mul-mono j k d h)

at_least : (d k : ℕ) → 1 ≤ d → k ≤ d * k
at_least d zero h = omega arith
at_least d (suc k) h = let i : k ≤ d * k = at_least d k h in omega (arith, mul-suc d k)

-- ---- lists with fewer elements

pub filter-le : (p : ℕ → Bool) (xs : List ℕ) → length (filter p xs) ≤ length xs
filter-le p [] = omega arith
filter-le p (x ∷ xs) = go (p x) (filter-le p xs)
  where
    go : (b : Bool) → length (filter p xs) ≤ length xs → length (cond b (x ∷ filter p xs) (filter p xs)) ≤ suc (length xs)
    go true h = omega arith
    go false h = omega arith

once-le : (xs : List ℕ) → length (once xs) ≤ length xs
once-le [] = omega arith
once-le (x ∷ xs) = let h : length (once xs) ≤ length xs = once-le xs in let k : length (filter (λ y. not (x == y)) (once xs)) ≤ length (once xs) = filter-le (λ y. not (x == y)) (once xs) in omega arith

positive-le : (S : Set) (lits : List Literal) → length (positive_in S lits) ≤ length lits
positive-le S [] = omega arith
positive-le S (Neg b ∷ lits) = let h : length (positive_in S lits) ≤ length lits = positive-le S lits in omega arith
positive-le S (Pos b ∷ lits) = go (S b) (positive-le S lits)
  where
    go : (t : Bool) → length (positive_in S lits) ≤ length lits → length (cond t (b ∷ positive_in S lits) (positive_in S lits)) ≤ suc (length lits)
    go true h = omega arith
    go false h = omega arith

body-le : (S : Set) (body : Body) → length (body_in S body) ≤ entries body
body-le S (All lits) = positive-le S lits
body-le S (Sum bound items) = omega arith

inside-le : (S : Set) (rule : Rule) → length (inside S rule) ≤ entries rule.body
inside-le S rule = let h : length (once (body_in S rule.body)) ≤ length (body_in S rule.body) = once-le (body_in S rule.body) in let k : length (body_in S rule.body) ≤ entries rule.body = body-le S rule.body in omega arith

-- ---- the rules of an atom

-- each rule counts one, and each of its atoms inside
abbrev rows_weight : List Row → ℕ
rows_weight [] = 0
rows_weight (row ∷ rows) = suc (length row.inside) + rows_weight rows

abbrev rules_weight : ℕ → List Rule → ℕ
rules_weight a [] = 0
rules_weight a (rule ∷ rules) = cond (is_head a rule.head) (suc (entries rule.body)) 0 + rules_weight a rules

rows-weigh : (S : Set) (a : ℕ) (rules : List Rule) (bodies : List (Option Literal)) → rows_weight (rows_of S a rules bodies) ≤ rules_weight a rules
rows-weigh S a [] bodies = omega arith
rows-weigh S a (rule ∷ rules) [] = omega arith
rows-weigh S a (rule ∷ rules) (body ∷ bodies) = go (is_head a rule.head) (rows-weigh S a rules bodies) (inside-le S rule)
  where
    go : (h : Bool) → rows_weight (rows_of S a rules bodies) ≤ rules_weight a rules → length (inside S rule) ≤ entries rule.body
        → rows_weight (cond h (record { body = body; inside = inside S rule } ∷ rows_of S a rules bodies) (rows_of S a rules bodies)) ≤ cond h (suc (entries rule.body)) 0 + rules_weight a rules
    go true i j = omega arith
    go false i j = omega arith

module _ (w d : ℕ) (some : 1 ≤ d) (wide : w ≤ d) where
  less-le : less_vars w ≤ d
  less-le = omega arith

  rows-vars : (rows : List Row) → support_vars w rows + near_vars w rows ≤ 3 * (d * rows_weight rows)
  rows-vars [] = omega arith
  rows-vars (row ∷ rows) =
      let k : ℕ = length row.inside in
      let i : support_vars w rows + near_vars w rows ≤ 3 * (d * rows_weight rows) = rows-vars rows in
      let m : less_vars w * length row.inside ≤ d * length row.inside = mul-mono (less_vars w) d (length row.inside) less-le in
      let e : d * (suc (length row.inside) + rows_weight rows) ≡ d * suc (length row.inside) + d * rows_weight rows = mul-add d (suc (length row.inside)) (rows_weight rows) in
      let f : d * suc (length row.inside) ≡ d * length row.inside + d = mul-suc d (length row.inside) in
      omega arith

  rows-clauses : (rows : List Row) → support_clauses w rows + near_clauses w rows ≤ 30 * (d * rows_weight rows)
  rows-clauses [] = omega arith
  rows-clauses (row ∷ rows) =
      let i : support_clauses w rows + near_clauses w rows ≤ 30 * (d * rows_weight rows) = rows-clauses rows in
      let m : w * length row.inside ≤ d * length row.inside = mul-mono w d (length row.inside) wide in
      let n : length row.inside ≤ d * length row.inside = at_least d (length row.inside) some in
      let g : 7 * w * length row.inside ≡ 7 * (w * length row.inside) = mul_assoc 7 w (length row.inside) in
      let e : d * (suc (length row.inside) + rows_weight rows) ≡ d * suc (length row.inside) + d * rows_weight rows = mul-add d (suc (length row.inside)) (rows_weight rows) in
      let f : d * suc (length row.inside) ≡ d * length row.inside + d = mul-suc d (length row.inside) in
      omega arith

-- ---- sums over lists without repetition

abbrev pub total : (ℕ → ℕ) → List ℕ → ℕ
total f [] = 0
total f (x ∷ xs) = f x + total f xs

-- at most one element of a rising list is a given number
none-at : (k x low : ℕ) (xs : List ℕ) → RisesFrom low xs → k ≤ low → total (λ y. cond (k == y) x 0) xs ≡ 0
none-at k x low [] r h = refl
none-at k x low (y ∷ xs) r h = go (k == y) refl (none-at k x y xs r.1 (let l : low < y = r.0 in omega arith))
  where
    go : (b : Bool) → (k == y) ≡ b → total (λ z. cond (k == z) x 0) xs ≡ 0 → cond b x 0 + total (λ z. cond (k == z) x 0) xs ≡ 0
    go true e i = absurd (let q : k ≡ y = eqb-true k y e in let l : low < y = r.0 in omega arith)
    go false e i = omega arith

pub one-at : (k x low : ℕ) (xs : List ℕ) → RisesFrom low xs → total (λ y. cond (k == y) x 0) xs ≤ x
one-at k x low [] r = omega arith
one-at k x low (y ∷ xs) r = go (k == y) refl (one-at k x y xs r.1)
  where
    go : (b : Bool) → (k == y) ≡ b → total (λ z. cond (k == z) x 0) xs ≤ x → cond b x 0 + total (λ z. cond (k == z) x 0) xs ≤ x
    go true e i = let q : k ≡ y = eqb-true k y e in let n : total (λ z. cond (k == z) x 0) xs ≡ 0 = none-at k x y xs r.1 (omega arith) in omega arith
    go false e i = omega arith

pub total-add : (f g : ℕ → ℕ) (xs : List ℕ) → total (λ x. f x + g x) xs ≡ total f xs + total g xs
total-add f g [] = refl
total-add f g (x ∷ xs) = let i : total (λ y. f y + g y) xs ≡ total f xs + total g xs = total-add f g xs in omega arith

pub total-zero : (xs : List ℕ) → total (λ x. 0) xs ≡ 0
total-zero [] = refl
total-zero (x ∷ xs) = let i : total (λ y. 0) xs ≡ 0 = total-zero xs in omega arith

pub total-le : (f g : ℕ → ℕ) (xs : List ℕ) → ((x : ℕ) → f x ≤ g x) → total f xs ≤ total g xs
total-le f g [] h = omega arith
total-le f g (x ∷ xs) h = let i : total f xs ≤ total g xs = total-le f g xs h in let j : f x ≤ g x = h x in omega arith

-- what the parts of a list add up to is at most what the list does
parts-total : (f part : ℕ → ℕ) (parts xs : List ℕ) (low : ℕ) → RisesFrom low parts → total (λ c. total f (filter (λ a. part a == c) xs)) parts ≤ total f xs
parts-total f part parts [] low r = let z : total (λ c. 0) parts ≡ 0 = total-zero parts in omega arith
parts-total f part parts (x ∷ xs) low r =
    let split : total (λ c. total f (filter (λ a. part a == c) (x ∷ xs))) parts ≤ total (λ c. cond (part x == c) (f x) 0 + total f (filter (λ a. part a == c) xs)) parts =
    total-le _ _ parts (λ c. go (part x == c) c) in
    let sum : total (λ c. cond (part x == c) (f x) 0 + total f (filter (λ a. part a == c) xs)) parts ≡ total (λ c. cond (part x == c) (f x) 0) parts + total (λ c. total f (filter (λ a. part a == c) xs)) parts =
    total-add (λ c. cond (part x == c) (f x) 0) (λ c. total f (filter (λ a. part a == c) xs)) parts in
    let one : total (λ c. cond (part x == c) (f x) 0) parts ≤ f x = one-at (part x) (f x) low parts r in
    let i : total (λ c. total f (filter (λ a. part a == c) xs)) parts ≤ total f xs = parts-total f part parts xs low r in
    omega arith
  where
    go : (b : Bool) (c : ℕ) → total f (cond b (x ∷ filter (λ a. part a == c) xs) (filter (λ a. part a == c) xs)) ≤ cond b (f x) 0 + total f (filter (λ a. part a == c) xs)
    go true c = omega arith
    go false c = omega arith

-- each rule has one head at most
rules-total : (rules : List Rule) (atoms : List ℕ) (low : ℕ) → RisesFrom low atoms → total (λ a. rules_weight a rules) atoms ≤ sum_by rule_size rules
rules-total [] atoms low r = let z : total (λ a. 0) atoms ≡ 0 = total-zero atoms in omega arith
rules-total (rule ∷ rules) atoms low r =
    let sum : total (λ a. cond (is_head a rule.head) (suc (entries rule.body)) 0 + rules_weight a rules) atoms ≡ total (λ a. cond (is_head a rule.head) (suc (entries rule.body)) 0) atoms + total (λ a. rules_weight a rules) atoms =
    total-add (λ a. cond (is_head a rule.head) (suc (entries rule.body)) 0) (λ a. rules_weight a rules) atoms in
    let here : total (λ a. cond (is_head a rule.head) (suc (entries rule.body)) 0) atoms ≤ suc (entries rule.body) = by_head rule.head (suc (entries rule.body)) in
    let i : total (λ a. rules_weight a rules) atoms ≤ sum_by rule_size rules = rules-total rules atoms low r in
    let s : sum_by rule_size (rule ∷ rules) ≡ rule_size rule + sum_by rule_size rules = sum_by-cons rule_size rule rules in
    omega arith
  where
    by_head : (head : Head) (x : ℕ) → total (λ a. cond (is_head a head) x 0) atoms ≤ x
    by_head Nothing x = let z : total (λ a. 0) atoms ≡ 0 = total-zero atoms in omega arith
    by_head (One b) x = one-at b x low atoms r
    by_head (Choice bs) x = let z : total (λ a. 0) atoms ≡ 0 = total-zero atoms in omega arith

-- ---- all together

total-scaled : (d n : ℕ) (f : ℕ → ℕ) (xs : List ℕ) → total (λ x. n + d * f x) xs ≡ n * length xs + d * total f xs
total-scaled d n f [] = omega (arith, mul-zero n, mul-zero d)
total-scaled d n f (x ∷ xs) =
    let i : total (λ y. n + d * f y) xs ≡ n * length xs + d * total f xs = total-scaled d n f xs in
    let e : d * (f x + total f xs) ≡ d * f x + d * total f xs = mul-add d (f x) (total f xs) in
    let g : n * suc (length xs) ≡ n * length xs + n = mul-suc n (length xs) in
    omega arith

module _ (P : Ground) (program : IsProgram P) (part : ℕ → ℕ) (parts : List ℕ) (rise : RisesFrom 0 parts) where
  atoms-le : length P.atoms ≤ size P
  atoms-le = omega arith

  pub part-le : (c : ℕ) → part_width P part parts c ≤ digits (size P)
  part-le c = digits-mono (length (atoms_of_part part c P.atoms)) (size P)
      (let h : length (atoms_of_part part c P.atoms) ≤ length P.atoms = filter-le (λ a. part a == c) P.atoms in let k : length P.atoms ≤ size P = atoms-le in omega arith)

  weight : ℕ → ℕ
  weight a = rules_weight a P.rules

  module _ (d : ℕ) (some : 1 ≤ d) (wide : (c : ℕ) → part_width P part parts c ≤ d) where
    atom-vars : (c a : ℕ) → atom_vars (part_width P part parts c) (rows_at P part parts c a) ≤ 2 * d + (3 * d) * weight a
    unfolding weight
    atom-vars c a =
        let v : support_vars (part_width P part parts c) (rows_at P part parts c a) + near_vars (part_width P part parts c) (rows_at P part parts c a) ≤ 3 * (d * rows_weight (rows_at P part parts c a)) =
        rows-vars (part_width P part parts c) d some (wide c) (rows_at P part parts c a) in
        let h : rows_weight (rows_at P part parts c a) ≤ rules_weight a P.rules = rows-weigh (component P part c) a P.rules (body_literals P) in
        let m : d * rows_weight (rows_at P part parts c a) ≤ d * rules_weight a P.rules = mul-mono-right d (rows_weight (rows_at P part parts c a)) (rules_weight a P.rules) h in
        let e : 3 * d * rules_weight a P.rules ≡ 3 * (d * rules_weight a P.rules) = mul_assoc 3 d (rules_weight a P.rules) in
        let w : part_width P part parts c ≤ d = wide c in
        omega arith

    atom-clauses : (c a : ℕ) → atom_clauses (part_width P part parts c) (rows_at P part parts c a) ≤ (7 * d + 1) + (30 * d) * weight a
    unfolding weight
    atom-clauses c a =
        let v : support_clauses (part_width P part parts c) (rows_at P part parts c a) + near_clauses (part_width P part parts c) (rows_at P part parts c a) ≤ 30 * (d * rows_weight (rows_at P part parts c a)) =
        rows-clauses (part_width P part parts c) d some (wide c) (rows_at P part parts c a) in
        let h : rows_weight (rows_at P part parts c a) ≤ rules_weight a P.rules = rows-weigh (component P part c) a P.rules (body_literals P) in
        let m : d * rows_weight (rows_at P part parts c a) ≤ d * rules_weight a P.rules = mul-mono-right d (rows_weight (rows_at P part parts c a)) (rules_weight a P.rules) h in
        let e : 30 * d * rules_weight a P.rules ≡ 30 * (d * rules_weight a P.rules) = mul_assoc 30 d (rules_weight a P.rules) in
        let w : part_width P part parts c ≤ d = wide c in
        omega arith

    atoms-vars : (c : ℕ) (atoms : List ℕ) → atoms_vars (part_width P part parts c) (rows_at P part parts c) atoms ≤ total (λ a. 2 * d + (3 * d) * weight a) atoms
    atoms-vars c [] = omega arith
    atoms-vars c (a ∷ atoms) = let i : atoms_vars (part_width P part parts c) (rows_at P part parts c) atoms ≤ total (λ b. 2 * d + (3 * d) * weight b) atoms = atoms-vars c atoms in
        let j : atom_vars (part_width P part parts c) (rows_at P part parts c a) ≤ 2 * d + (3 * d) * weight a = atom-vars c a in omega arith

    atoms-clauses : (c : ℕ) (atoms : List ℕ) → atoms_clauses (part_width P part parts c) (rows_at P part parts c) atoms ≤ total (λ a. (7 * d + 1) + (30 * d) * weight a) atoms
    atoms-clauses c [] = omega arith
    atoms-clauses c (a ∷ atoms) = let i : atoms_clauses (part_width P part parts c) (rows_at P part parts c) atoms ≤ total (λ b. (7 * d + 1) + (30 * d) * weight b) atoms = atoms-clauses c atoms in
        let j : atom_clauses (part_width P part parts c) (rows_at P part parts c a) ≤ (7 * d + 1) + (30 * d) * weight a = atom-clauses c a in omega arith

    parts-vars : (cs : List ℕ) → parts_vars P part parts cs ≤ total (λ c. total (λ a. 2 * d + (3 * d) * weight a) (filter (λ a. part a == c) P.atoms)) cs
    parts-vars [] = omega arith
    parts-vars (c ∷ cs) = let i : parts_vars P part parts cs ≤ total (λ e. total (λ a. 2 * d + (3 * d) * weight a) (filter (λ a. part a == e) P.atoms)) cs = parts-vars cs in
        let j : atoms_vars (part_width P part parts c) (rows_at P part parts c) (atoms_of_part part c P.atoms) ≤ total (λ a. 2 * d + (3 * d) * weight a) (atoms_of_part part c P.atoms) = atoms-vars c (atoms_of_part part c P.atoms) in omega arith

    parts-clauses : (cs : List ℕ) → parts_clauses P part parts cs ≤ total (λ c. total (λ a. (7 * d + 1) + (30 * d) * weight a) (filter (λ a. part a == c) P.atoms)) cs
    parts-clauses [] = omega arith
    parts-clauses (c ∷ cs) = let i : parts_clauses P part parts cs ≤ total (λ e. total (λ a. (7 * d + 1) + (30 * d) * weight a) (filter (λ a. part a == e) P.atoms)) cs = parts-clauses cs in
        let j : atoms_clauses (part_width P part parts c) (rows_at P part parts c) (atoms_of_part part c P.atoms) ≤ total (λ a. (7 * d + 1) + (30 * d) * weight a) (atoms_of_part part c P.atoms) = atoms-clauses c (atoms_of_part part c P.atoms) in omega arith

    digits-vars : (atoms : List ℕ) → digits_vars (place P.atoms) (width_of P part parts) atoms ≤ d * length atoms
    digits-vars [] = omega arith
    digits-vars (a ∷ atoms) = let i : digits_vars (place P.atoms) (width_of P part parts) atoms ≤ d * length atoms = digits-vars atoms in
        let w : width_of P part parts a ≤ d = wide (part a) in let e : d * suc (length atoms) ≡ d * length atoms + d = mul-suc d (length atoms) in omega arith

    digits-clauses : (atoms : List ℕ) → digits_clauses (place P.atoms) (width_of P part parts) atoms ≤ (d + 1) * length atoms
    digits-clauses [] = omega arith
    digits-clauses (a ∷ atoms) = let i : digits_clauses (place P.atoms) (width_of P part parts) atoms ≤ (d + 1) * length atoms = digits-clauses atoms in
        let w : width_of P part parts a ≤ d = wide (part a) in let e : (d + 1) * suc (length atoms) ≡ (d + 1) * length atoms + (d + 1) = mul-suc (d + 1) (length atoms) in omega arith

    weights : total weight P.atoms ≤ sum_by rule_size P.rules
    unfolding weight
    weights = rules-total P.rules P.atoms 0 program.atoms_rise

    pub vars-bound : parts_vars P part parts parts + digits_vars (place P.atoms) (width_of P part parts) (ranked_atoms P part parts) ≤ 3 * (d * size P)
    vars-bound =
        let n : ℕ = length P.atoms in
        let a : parts_vars P part parts parts ≤ total (λ c. total (λ x. 2 * d + (3 * d) * weight x) (filter (λ x. part x == c) P.atoms)) parts = parts-vars parts in
        let b : total (λ c. total (λ x. 2 * d + (3 * d) * weight x) (filter (λ x. part x == c) P.atoms)) parts ≤ total (λ x. 2 * d + (3 * d) * weight x) P.atoms = parts-total (λ x. 2 * d + (3 * d) * weight x) part parts P.atoms 0 rise in
        let e : total (λ x. 2 * d + (3 * d) * weight x) P.atoms ≡ 2 * d * length P.atoms + 3 * d * total weight P.atoms = total-scaled (3 * d) (2 * d) weight P.atoms in
        let f : 3 * d * total weight P.atoms ≡ 3 * (d * total weight P.atoms) = mul_assoc 3 d (total weight P.atoms) in
        let g : 2 * d * length P.atoms ≡ 2 * (d * length P.atoms) = mul_assoc 2 d (length P.atoms) in
        let h : d * total weight P.atoms ≤ d * sum_by rule_size P.rules = mul-mono-right d (total weight P.atoms) (sum_by rule_size P.rules) weights in
        let i : digits_vars (place P.atoms) (width_of P part parts) (ranked_atoms P part parts) ≤ d * length (ranked_atoms P part parts) = digits-vars (ranked_atoms P part parts) in
        let j : d * length (ranked_atoms P part parts) ≤ d * length P.atoms = mul-mono-right d (length (ranked_atoms P part parts)) (length P.atoms) (filter-le (λ x. members parts (part x)) P.atoms) in
        let k : d * (length P.atoms + sum_by rule_size P.rules) ≡ d * length P.atoms + d * sum_by rule_size P.rules = mul-add d (length P.atoms) (sum_by rule_size P.rules) in
        let l : d * (length P.atoms + sum_by rule_size P.rules) ≤ d * size P = mul-mono-right d (length P.atoms + sum_by rule_size P.rules) (size P) (omega arith) in
        omega arith

    pub clauses-bound : parts_clauses P part parts parts + digits_clauses (place P.atoms) (width_of P part parts) (ranked_atoms P part parts) ≤ 30 * (d * size P)
    clauses-bound =
        let a : parts_clauses P part parts parts ≤ total (λ c. total (λ x. (7 * d + 1) + (30 * d) * weight x) (filter (λ x. part x == c) P.atoms)) parts = parts-clauses parts in
        let b : total (λ c. total (λ x. (7 * d + 1) + (30 * d) * weight x) (filter (λ x. part x == c) P.atoms)) parts ≤ total (λ x. (7 * d + 1) + (30 * d) * weight x) P.atoms = parts-total (λ x. (7 * d + 1) + (30 * d) * weight x) part parts P.atoms 0 rise in
        let e : total (λ x. (7 * d + 1) + (30 * d) * weight x) P.atoms ≡ (7 * d + 1) * length P.atoms + 30 * d * total weight P.atoms = total-scaled (30 * d) (7 * d + 1) weight P.atoms in
        let f : 30 * d * total weight P.atoms ≡ 30 * (d * total weight P.atoms) = mul_assoc 30 d (total weight P.atoms) in
        let g : (7 * d + 1) * length P.atoms ≤ 8 * d * length P.atoms = mul-mono (7 * d + 1) (8 * d) (length P.atoms) (omega arith) in
        let g2 : 8 * d * length P.atoms ≡ 8 * (d * length P.atoms) = mul_assoc 8 d (length P.atoms) in
        let h : d * total weight P.atoms ≤ d * sum_by rule_size P.rules = mul-mono-right d (total weight P.atoms) (sum_by rule_size P.rules) weights in
        let i : digits_clauses (place P.atoms) (width_of P part parts) (ranked_atoms P part parts) ≤ (d + 1) * length (ranked_atoms P part parts) = digits-clauses (ranked_atoms P part parts) in
        let j : (d + 1) * length (ranked_atoms P part parts) ≤ (d + 1) * length P.atoms = mul-mono-right (d + 1) (length (ranked_atoms P part parts)) (length P.atoms) (filter-le (λ x. members parts (part x)) P.atoms) in
        let j2 : (d + 1) * length P.atoms ≤ 2 * d * length P.atoms = mul-mono (d + 1) (2 * d) (length P.atoms) (omega arith) in
        let j3 : 2 * d * length P.atoms ≡ 2 * (d * length P.atoms) = mul_assoc 2 d (length P.atoms) in
        let k : d * (length P.atoms + sum_by rule_size P.rules) ≡ d * length P.atoms + d * sum_by rule_size P.rules = mul-add d (length P.atoms) (sum_by rule_size P.rules) in
        let l : d * (length P.atoms + sum_by rule_size P.rules) ≤ d * size P = mul-mono-right d (length P.atoms + sum_by rule_size P.rules) (size P) (omega arith) in
        omega arith
