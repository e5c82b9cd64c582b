-- The atoms of a component: how they are found, and what it means to be one of them.
use Rattle.std.proofs.Common.{◌≡◌, ℕ, zero, suc, ◌+◌, ◌-◌, ◌<◌, ◌≤◌, Bool, true, ◌==◌, ◌&&◌, ◌||◌, List, [], ◌∷◌, length, map, take, drop, cond, get_or, arith, refl, sym, ◌∙◌, ap, ap₂, eqb-true}
use Rattle.std.proofs.lemmas.Bool.{eq-eqb, ne_eqb, cond-true, cond-false}
use Rattle.std.specs.List.{AllByRecursion, count_by, filter, list_any, range_with_len, slice_range}
use Rattle.std.proofs.lemmas.List.{ext_get_or}
use Rattle.std.proofs.lemmas.List.FromFn.{get_or-map-range_with_len, length-map-range_with_len}
use Rattle.std.proofs.lemmas.List.Sums.{length-filter, sum_by-cons}
use Rattle.std.proofs.lemmas.Map.Views.{any-filter_same}
use Rattle.asp_base.specs.Sets.{members}
use Rattle.asp_base.proofs.Bools.{and_true}
use Rattle.asp_base.proofs.Each.{each-weaker}
use Rattle.rising_numbers.specs.Rising.{RisesFrom}
use Rattle.graph_parts.specs.Groups.{AreGroups}
use Rattle.graph_parts.proofs.KeyLaws.{picked}
use Rattle.ground_program.specs.Dependencies.{positives_of_body}
use Rattle.ground_program.specs.Facts.{Among, RuleFits}
use Rattle.ground_program.specs.Occurrences.{atoms_of_head}
use Rattle.ground_program.specs.Tangle.{enters, occurrences}
use Rattle.ground_program.specs.declared.program.Rule.{Rule}
use Rattle.components.specs.Components.{number_of}
use Rattle.components.specs.Divided.{members_of}
use Rattle.components.specs.private.Kept.{CountUp, numbered}
use Rattle.components.proofs.AtomLaws.{heads-fit, node-at, positives-fit}

whole : (xs : List ℕ) → map (λ j. get_or xs j 0) (range_with_len 0 (length xs)) ≡ xs
whole xs =
    let long : length (map (λ j. get_or xs j 0) (range_with_len 0 (length xs))) ≡ length xs = length-map-range_with_len (λ j. get_or xs j 0) 0 (length xs) in
    ext_get_or 0 (map (λ j. get_or xs j 0) (range_with_len 0 (length xs))) xs long
    (λ i low. get_or-map-range_with_len (λ j. get_or xs j 0) 0 (length xs) i i 0 (omega arith) (omega arith))

pub members-are : (atoms numbers : List ℕ) (count : ℕ) (starts members : List ℕ) → RisesFrom 0 atoms → AreGroups (numbered atoms numbers) (count + 1) starts members → (i : ℕ) → i ≤ count → slice_range members (get_or starts i 0) (get_or starts (i + 1) 0) ≡ members_of i atoms numbers
members-are atoms numbers count starts members rise groups i within =
    groups.each i (omega arith)
    ∙ picked (λ j. get_or numbers j 0) (λ j. get_or atoms j 0) (number_of atoms numbers) i (length atoms) 0 (λ j low high. ap (λ u. get_or numbers u 0) (node-at atoms rise j (omega arith)))
    ∙ ap (filter (λ a. number_of atoms numbers a == i)) (whole atoms)

-- elements with the numbers after k, in order: none has a lower one, and each is where its number says
abbrev AreFound : (ℕ → ℕ) → ℕ → ℕ → List ℕ → Type 0
AreFound number i k xs =
    (i ≤ k → filter (λ a. number a == i) xs ≡ [])
    × ((d : ℕ) → d < length xs → i ≡ k + suc d → filter (λ a. number a == i) xs ≡ slice_range xs d (suc d))

find-number : (number : ℕ → ℕ) (i k : ℕ) (xs : List ℕ) → ((j : ℕ) → j < length xs → number (get_or xs j 0) ≡ k + suc j) → AreFound number i k xs
find-number number i k [] is = ((λ low. refl), λ d h e. absurd (omega arith))
find-number number i k (x ∷ xs) is =
    let here : number x ≡ k + 1 = is 0 (omega arith) in
    let rest : AreFound number i (suc k) xs = find-number number i (suc k) xs (λ j h. omega (arith, is (suc j) (omega arith))) in
    (lower here rest, there here rest)
  where
    other : (number x ≡ i → ⊥) → filter (λ a. number a == i) (x ∷ xs) ≡ filter (λ a. number a == i) xs
    other n = cond-false (number x == i) (x ∷ filter (λ a. number a == i) xs) (filter (λ a. number a == i) xs) (ne_eqb (number x) i n)

    lower : number x ≡ k + 1 → AreFound number i (suc k) xs → i ≤ k → filter (λ a. number a == i) (x ∷ xs) ≡ []
    lower here rest low = other (λ e. omega (arith, here, e, low)) ∙ rest.0 (omega arith)

    there : number x ≡ k + 1 → AreFound number i (suc k) xs → (d : ℕ) → d < suc (length xs) → i ≡ k + suc d → filter (λ a. number a == i) (x ∷ xs) ≡ slice_range (x ∷ xs) d (suc d)
    there here rest zero h e =
        cond-true (number x == i) (x ∷ filter (λ a. number a == i) xs) (filter (λ a. number a == i) xs) (eq-eqb (number x) i (omega (arith, here, e)))
        ∙ ap (λ ys. x ∷ ys) (rest.0 (omega (arith, e)))
    there here rest (suc d) h e =
        other (λ s. omega (arith, here, e, s)) ∙ rest.1 d (omega arith) (omega (arith, e))
        ∙ ap (λ n. take n (drop d xs)) (omega arith)

-- where the numbers are those of the places, each component is one atom
pub only-member : (atoms numbers : List ℕ) → RisesFrom 0 atoms → length numbers ≡ length atoms → CountUp numbers → (i : ℕ) → i ≤ length atoms
    → slice_range atoms (i - 1) i ≡ members_of i atoms numbers
only-member atoms numbers rise sized up i within = go i within
  where
    is : (j : ℕ) → j < length atoms → number_of atoms numbers (get_or atoms j 0) ≡ 0 + suc j
    is j h = ap (λ u. get_or numbers u 0) (node-at atoms rise j h) ∙ omega (arith, up j (omega (arith, sized, h)))

    go : (n : ℕ) → n ≤ length atoms → slice_range atoms (n - 1) n ≡ members_of n atoms numbers
    go zero h = sym ((find-number (number_of atoms numbers) 0 0 atoms is).0 (omega arith))
    go (suc n) h = ap (λ m. slice_range atoms m (suc n)) (omega arith)
        ∙ sym ((find-number (number_of atoms numbers) (suc n) 0 atoms is).1 n (omega arith) (omega arith))

-- ---- membership by numbers

-- an atom is in a component where it has its number
pub member-numbered : (atoms numbers : List ℕ) (i a : ℕ) → members atoms a ≡ true → members (members_of i atoms numbers) a ≡ (number_of atoms numbers a == i)
member-numbered atoms numbers i a member =
    any-filter_same (λ x. x == a) (λ x. number_of atoms numbers x == i) (number_of atoms numbers a == i) (λ k e. ap (λ x. number_of atoms numbers x == i) (eqb-true k a e)) atoms
    ∙ ap (λ (b : Bool). (number_of atoms numbers a == i) && b) member ∙ and_true (number_of atoms numbers a == i)

-- tests that agree on each element of a list

any-same : (f g : ℕ → Bool) (xs : List ℕ) → AllByRecursion (λ x. f x ≡ g x) xs → list_any f xs ≡ list_any g xs
any-same f g [] same = refl
any-same f g (x ∷ xs) same = ap₂ (λ (a b : Bool). a || b) same.0 (any-same f g xs same.1)

count-same : (f g : ℕ → Bool) (xs : List ℕ) → AllByRecursion (λ x. f x ≡ g x) xs → count_by f xs ≡ count_by g xs
count-same f g [] same = refl
count-same f g (x ∷ xs) same =
    sum_by-cons (λ y. cond (f y) 1 0) x xs ∙ ap₂ (λ (b : Bool) (n : ℕ). cond b 1 0 + n) same.0 (count-same f g xs same.1)
    ∙ sym (sum_by-cons (λ y. cond (g y) 1 0) x xs)

agree : (atoms numbers : List ℕ) (i : ℕ) (xs : List ℕ) → AllByRecursion (Among atoms) xs → AllByRecursion (λ a. members (members_of i atoms numbers) a ≡ (number_of atoms numbers a == i)) xs
agree atoms numbers i xs among = each-weaker (Among atoms) (λ a. members (members_of i atoms numbers) a ≡ (number_of atoms numbers a == i)) (λ a member. member-numbered atoms numbers i a member) xs among

pub enters-numbered : (atoms numbers : List ℕ) (i : ℕ) (rule : Rule) → RuleFits (Among atoms) rule → enters (members_of i atoms numbers) rule ≡ list_any (λ a. number_of atoms numbers a == i) (atoms_of_head rule.head)
enters-numbered atoms numbers i rule fits = any-same _ _ (atoms_of_head rule.head) (agree atoms numbers i (atoms_of_head rule.head) (heads-fit (Among atoms) rule.head fits.0))

pub occurrences-numbered : (atoms numbers : List ℕ) (i : ℕ) (rule : Rule) → RuleFits (Among atoms) rule → occurrences (members_of i atoms numbers) rule ≡ count_by (λ a. number_of atoms numbers a == i) (positives_of_body rule.body)
occurrences-numbered atoms numbers i rule fits =
    length-filter (λ a. members (members_of i atoms numbers) a) (positives_of_body rule.body)
    ∙ count-same _ _ (positives_of_body rule.body) (agree atoms numbers i (positives_of_body rule.body) (positives-fit (Among atoms) rule.body fits.1))
