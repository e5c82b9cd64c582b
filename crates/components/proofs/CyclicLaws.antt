-- The cyclic components of a program, told as lists of atoms.
use Rattle.std.proofs.Common.{◌≡◌, ℕ, zero, suc, ◌+◌, ◌<◌, ◌≤◌, Bool, true, false, ◌==◌, cond, List, [], ◌∷◌, ◌++◌, map, ◌≢◌, arith, refl, sym, ◌∙◌, ap, subst, ⊎_elim, inr, eq-eqb, eqb-true, ne_eqb}
use Rattle.std.specs.List.{AllByRecursion, IsDistinct, filter, flat_map, list_any, range_with_len}
use Rattle.std.proofs.lemmas.Bool.{cases_eq, or_left, or_right, true≢false}
use Rattle.asp_base.specs.Sets.{members}
use Rattle.asp_base.specs.Walks.{IsWalk, Reaches}
use Rattle.asp_base.proofs.Each.{each-append, each-filter, each-flat_map, each-map, each-member, each-weaker}
use Rattle.rising_numbers.specs.Rising.{RisesFrom}
use Rattle.graph_parts.specs.Divided.{is_cyclic_at}
use Rattle.ground_program.specs.Dependencies.{depends}
use Rattle.ground_program.specs.Facts.{IsProgram}
use Rattle.ground_program.specs.Ground.{Ground}
use Rattle.ground_program.specs.Tangle.{AreCyclicComponents, IsCyclicComponent}
use Rattle.components.specs.Components.{AreComponents, number_of}
use Rattle.components.specs.Divided.{Divided, cyclic_parts, members_of}
use Rattle.components.specs.Parts.{ArePartsOf}
use Rattle.components.proofs.AtomLaws.{heads-among, rises-above}
use Rattle.components.proofs.LinkLaws.{depends-found}
use Rattle.components.proofs.MemberLaws.{member-numbered}
use Rattle.components.proofs.SumLaws.{range-each}

-- ---- lists without repetition

abbrev Distinct : List ℕ → Type 0
Distinct xs = IsDistinct (λ a b. a == b) xs

distinct-append : (xs ys : List ℕ) → Distinct xs → Distinct ys → AllByRecursion (λ x. AllByRecursion (λ y. (x == y) ≡ false) ys) xs → Distinct (xs ++ ys)
unfolding IsDistinct
distinct-append [] ys one other apart = other
distinct-append (x ∷ xs) ys one other apart = (each-append (λ y. (x == y) ≡ false) xs ys one.0 apart.0, distinct-append xs ys one.1 other apart.1)

distinct-filter : (test : ℕ → Bool) (xs : List ℕ) → Distinct xs → Distinct (filter test xs)
unfolding IsDistinct
distinct-filter test [] d = tt
distinct-filter test (x ∷ xs) d = go (test x) (each-filter (λ y. (x == y) ≡ false) test xs d.0) (distinct-filter test xs d.1)
  where
    go : (b : Bool) → AllByRecursion (λ y. (x == y) ≡ false) (filter test xs) → Distinct (filter test xs) → Distinct (cond b (x ∷ filter test xs) (filter test xs))
    go true differ rest = (differ, rest)
    go false differ rest = rest

distinct-rising : (low : ℕ) (xs : List ℕ) → RisesFrom low xs → Distinct xs
unfolding IsDistinct
distinct-rising low [] rise = tt
distinct-rising low (x ∷ xs) rise = (
  each-weaker (λ y. x < y) (λ y. (x == y) ≡ false) (λ y (more : x < y). ne_eqb x y (λ (same : x ≡ y). omega arith)) xs (rises-above x xs rise.1),
  distinct-rising x xs rise.1,
)

-- what is kept passes the test
kept-pass : (test : ℕ → Bool) (xs : List ℕ) → AllByRecursion (λ x. test x ≡ true) (filter test xs)
kept-pass test [] = tt
kept-pass test (x ∷ xs) = go (test x) refl (kept-pass test xs)
  where
    go : (b : Bool) → test x ≡ b → AllByRecursion (λ y. test y ≡ true) (filter test xs) → AllByRecursion (λ y. test y ≡ true) (cond b (x ∷ filter test xs) (filter test xs))
    go true passes rest = (passes, rest)
    go false fails rest = rest

-- ---- components in the order of their numbers

module _ (atoms numbers : List ℕ) (test : ℕ → Bool) where
  abbrev parts_from : ℕ → ℕ → List (List ℕ)
  parts_from a n = map (λ i. members_of i atoms numbers) (filter test (range_with_len a n))

  have-number : (i : ℕ) → AllByRecursion (λ x. number_of atoms numbers x ≡ i) (members_of i atoms numbers)
  have-number i = each-weaker (λ x. (number_of atoms numbers x == i) ≡ true) (λ x. number_of atoms numbers x ≡ i) (λ x. eqb-true (number_of atoms numbers x) i) (members_of i atoms numbers) (kept-pass (λ x. number_of atoms numbers x == i) atoms)

  -- the atoms of components from a number on
  have-numbers : (a n : ℕ) → AllByRecursion (λ x. a ≤ number_of atoms numbers x) (flat_map (λ part. part) (parts_from a n))
  have-numbers a n =
      each-flat_map (λ x. a ≤ number_of atoms numbers x) (λ part. part) (parts_from a n)
      (each-map (AllByRecursion (λ x. a ≤ number_of atoms numbers x)) (λ i. members_of i atoms numbers) (filter test (range_with_len a n))
      (each-filter (λ i. AllByRecursion (λ x. a ≤ number_of atoms numbers x) (members_of i atoms numbers)) test (range_with_len a n)
      (range-each _ a n (λ i low high. each-weaker (λ x. number_of atoms numbers x ≡ i) (λ x. a ≤ number_of atoms numbers x) (λ x (is : number_of atoms numbers x ≡ i). omega arith) (members_of i atoms numbers) (have-number i)))))

  apart : (i n : ℕ) → AllByRecursion (λ x. AllByRecursion (λ y. (x == y) ≡ false) (flat_map (λ part. part) (parts_from (i + 1) n))) (members_of i atoms numbers)
  apart i n = each-weaker (λ x. number_of atoms numbers x ≡ i) (λ x. AllByRecursion (λ y. (x == y) ≡ false) (flat_map (λ part. part) (parts_from (i + 1) n)))
      (λ x (is : number_of atoms numbers x ≡ i). each-weaker (λ y. i + 1 ≤ number_of atoms numbers y) (λ y. (x == y) ≡ false)
      (λ y (high : i + 1 ≤ number_of atoms numbers y). ne_eqb x y (λ (same : x ≡ y). let e : number_of atoms numbers x ≡ number_of atoms numbers y = ap (number_of atoms numbers) same in absurd (omega arith)))
      (flat_map (λ part. part) (parts_from (i + 1) n)) (have-numbers (i + 1) n))
      (members_of i atoms numbers) (have-number i)

  once-from : RisesFrom 0 atoms → (a n : ℕ) → Distinct (flat_map (λ part. part) (parts_from a n))
  unfolding IsDistinct
  once-from rise a zero = tt
  once-from rise a (suc n) = go (test a) (once-from rise (a + 1) n)
    where
      go : (b : Bool) → Distinct (flat_map (λ part. part) (parts_from (a + 1) n)) → Distinct (flat_map (λ part. part) (map (λ i. members_of i atoms numbers) (cond b (a ∷ filter test (range_with_len (a + 1) n)) (filter test (range_with_len (a + 1) n)))))
      go true rest = distinct-append (members_of a atoms numbers) (flat_map (λ part. part) (parts_from (a + 1) n)) (distinct-filter (λ x. number_of atoms numbers x == a) atoms (distinct-rising 0 atoms rise)) rest (apart a n)
      go false rest = rest

  -- a number that is kept gives its component
  found-from : (i x : ℕ) → test i ≡ true → members (members_of i atoms numbers) x ≡ true → (a n : ℕ) → a ≤ i → i < a + n → list_any (λ part. members part x) (parts_from a n) ≡ true
  found-from i x passes member a zero low high = absurd (omega arith)
  found-from i x passes member a (suc n) low high = go (test a) refl (λ (differ : i ≢ a). found-from i x passes member (a + 1) n (omega arith) (omega arith))
    where
      go : (b : Bool) → test a ≡ b → (i ≢ a → list_any (λ part. members part x) (parts_from (a + 1) n) ≡ true) → list_any (λ part. members part x) (map (λ j. members_of j atoms numbers) (cond b (a ∷ filter test (range_with_len (a + 1) n)) (filter test (range_with_len (a + 1) n)))) ≡ true
      go true kept later = ⊎_elim
          (λ (here : i ≡ a). or_left _ _ (subst (λ j. members (members_of j atoms numbers) x ≡ true) here member))
          (λ (differ : i ≢ a). or_right _ _ (later differ))
          (cases_eq i a)
      go false left later = later (λ (here : i ≡ a). true≢false (sym passes ∙ ap test here ∙ left))

-- ---- the components of a program

-- what depends on something stands in a head
pub head-of_walk : (P : Ground) → IsProgram P → (a : ℕ) (by : List ℕ) (b : ℕ) → IsWalk (depends P.rules) a by b → members P.atoms a ≡ true
head-of_walk P program a [] b walk = let f = depends-found P.rules a b walk in heads-among P.atoms P.rules program.rules f.place f.rule a f.at f.head
head-of_walk P program a (next ∷ by) b walk = let f = depends-found P.rules a next walk.0 in heads-among P.atoms P.rules program.rules f.place f.rule a f.at f.head

module _ (P : Ground) (program : IsProgram P) (numbers : List ℕ) (count : ℕ) (cyclic : List Bool) (are : AreComponents P numbers count cyclic) where
  -- what it is to be in a component
  numbered-in : (i a : ℕ) → members P.atoms a ≡ true → number_of P.atoms numbers a ≡ i → members (members_of i P.atoms numbers) a ≡ true
  numbered-in i a member is = member-numbered P.atoms numbers i a member ∙ eq-eqb (number_of P.atoms numbers a) i is

  in-number : (i a : ℕ) → members (members_of i P.atoms numbers) a ≡ true → number_of P.atoms numbers a ≡ i
  in-number i a member = each-member (λ x. number_of P.atoms numbers x ≡ i) (members_of i P.atoms numbers) a (have-number P.atoms numbers (λ j. is_cyclic_at cyclic j) i) member

  in-atoms : (i a : ℕ) → members (members_of i P.atoms numbers) a ≡ true → members P.atoms a ≡ true
  in-atoms i a member = each-member (λ x. members P.atoms x ≡ true) (members_of i P.atoms numbers) a
      (each-filter (λ x. members P.atoms x ≡ true) (λ x. number_of P.atoms numbers x == i) P.atoms (themselves P.atoms)) member
    where
      themselves : (xs : List ℕ) → AllByRecursion (λ x. members xs x ≡ true) xs
      themselves [] = tt
      themselves (x ∷ xs) = (or_left _ _ (eq-eqb x x refl), each-weaker (λ y. members xs y ≡ true) (λ y. members (x ∷ xs) y ≡ true) (λ y m. or_right _ _ m) xs (themselves xs))

  one-cyclic : (i : ℕ) → 1 ≤ i → i ≤ count → is_cyclic_at cyclic i ≡ true → IsCyclicComponent P.rules (members_of i P.atoms numbers)
  one-cyclic i low high passes = record {
    some = let e = are.each i low high in (e.0, numbered-in i e.0 e.1 e.2);
    connected = λ a b in_a in_b.
        let member_a = in-atoms i a in_a in
        let member_b = in-atoms i b in_b in
        let number_a = in-number i a in_a in
        let number_b = in-number i b in_b in
        ⊎_elim
        (λ (same : a ≡ b). subst (Reaches (depends P.rules) a) same ((are.cycles a member_a).0 (ap (is_cyclic_at cyclic) number_a ∙ passes)))
        (λ (both : Reaches (depends P.rules) a b × Reaches (depends P.rules) b a). both.0)
        ((are.together a b member_a member_b).0 (number_a ∙ sym number_b));
    whole = λ a b in_a there back.
        let member_b = head-of_walk P program b back.0 a back.1 in
        numbered-in i b member_b (sym ((are.together a b (in-atoms i a in_a) member_b).1 (inr (there, back))) ∙ in-number i a in_a);
  }

  each-cyclic : (a n : ℕ) → 1 ≤ a → a + n ≤ count + 1 → AllByRecursion (IsCyclicComponent P.rules) (parts_from P.atoms numbers (λ i. is_cyclic_at cyclic i) a n)
  each-cyclic a zero low high = tt
  each-cyclic a (suc n) low high = go (is_cyclic_at cyclic a) refl (each-cyclic (a + 1) n (omega arith) (omega arith))
    where
      go : (b : Bool) → is_cyclic_at cyclic a ≡ b → AllByRecursion (IsCyclicComponent P.rules) (parts_from P.atoms numbers (λ i. is_cyclic_at cyclic i) (a + 1) n) → AllByRecursion (IsCyclicComponent P.rules) (map (λ i. members_of i P.atoms numbers) (cond b (a ∷ filter (λ i. is_cyclic_at cyclic i) (range_with_len (a + 1) n)) (filter (λ i. is_cyclic_at cyclic i) (range_with_len (a + 1) n))))
      go true passes rest = (one-cyclic a low (omega arith) passes, rest)
      go false fails rest = rest

  cyclic-listed : AreCyclicComponents P.rules (parts_from P.atoms numbers (λ i. is_cyclic_at cyclic i) 1 count)
  cyclic-listed = record {
    each = each-cyclic 1 count (omega arith) (omega arith);
    all = λ a reaches.
        let member = head-of_walk P program a reaches.0 a reaches.1 in
        let least = are.least a member in
        let most = are.most a member in
        found-from P.atoms numbers (λ i. is_cyclic_at cyclic i) (number_of P.atoms numbers a) a ((are.cycles a member).1 reaches) (numbered-in (number_of P.atoms numbers a) a member refl) 1 count least (omega arith);
    once = once-from P.atoms numbers (λ i. is_cyclic_at cyclic i) program.atoms_rise 1 count;
  }

pub cyclic-are : (P : Ground) → IsProgram P → (d : Divided) → ArePartsOf P d → AreCyclicComponents P.rules (cyclic_parts d)
cyclic-are P program d are =
    subst (λ (atoms : List ℕ). AreCyclicComponents P.rules (map (λ i. members_of i atoms d.numbers) (filter (λ i. is_cyclic_at d.cyclic i) (range_with_len 1 d.count)))) (sym are.atoms)
    (cyclic-listed P program d.numbers d.count d.cyclic are.components)
