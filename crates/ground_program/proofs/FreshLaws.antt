-- The least number that is not taken: it is unique, `least_free` finds it, and new atoms rise.
use Rattle.std.proofs.Common.{◌≡◌, refl, sym, ◌∙◌, ap, subst, ℕ, zero, suc, ◌+◌, ◌<◌, ◌≤◌, true, false, ◌||◌, List, [], ◌∷◌, ◌++◌, length, ⊎_elim, eqb, length-append, arith}
use Rattle.std.specs.List.{list_any}
use Rattle.std.proofs.lemmas.Bool.{or_cases, or_left, or_right, or_parts, true≢false, eq-eqb, eqb-true, cases_lt, cond_both, false_from_ne_true}
use Rattle.std.proofs.lemmas.Map.Steps.{le-length_from_below}
use Rattle.rising_numbers.proofs.RisingLaws.{members-append}
use Rattle.asp_base.specs.Sets.{members}
use Rattle.ground_program.specs.Fresh.{IsLeastFree, first_free, least_free, given_by, new_atom}

-- ---- members of two lists

flipped : (xs : List ℕ) (a : ℕ) → members xs a ≡ true → list_any (eqb a) xs ≡ true
flipped [] a m = m
flipped (x ∷ xs) a m = ⊎_elim (λ e. or_left _ _ (eq-eqb a x (sym (eqb-true x a e)))) (λ e. or_right _ _ (flipped xs a e)) (or_cases _ _ m)

-- ---- how many numbers are taken

-- a list has at least as many entries as there are positive numbers below a bound, where it has all of these
pub taken-many : (xs : List ℕ) (n : ℕ) → ((b : ℕ) → 0 < b → b < n → members xs b ≡ true) → n ≤ length xs + 1
taken-many xs n h =
    let few : n ≤ length (0 ∷ xs) = le-length_from_below (0 ∷ xs) n each in omega arith
  where
    each : (q : ℕ) → q < n → list_any (eqb q) (0 ∷ xs) ≡ true
    each zero l = refl
    each (suc q) l = or_right _ _ (flipped xs (suc q) (h (suc q) (omega arith) l))

pub least_free-most : (xs : List ℕ) (a : ℕ) → IsLeastFree xs a → a ≤ length xs + 1
least_free-most xs a f = taken-many xs a f.least

-- ---- there is one

not_less : (xs : List ℕ) (a b : ℕ) → IsLeastFree xs a → IsLeastFree xs b → a < b → ⊥
not_less xs a b f g l = true≢false (sym (g.least a f.positive l) ∙ f.free)

pub least_free-unique : (xs : List ℕ) (a b : ℕ) → IsLeastFree xs a → IsLeastFree xs b → a ≡ b
least_free-unique xs a b f g =
    ⊎_elim (λ l. absurd (not_less xs a b f g l)) (λ le. ⊎_elim (λ l. absurd (not_less xs b a g f l)) (λ ge. omega arith) (cases_lt b a)) (cases_lt a b)

-- ---- the search finds it

first_free-is : (more n : ℕ) (xs : List ℕ) → 0 < n → length xs + 1 ≤ more + n → ((b : ℕ) → 0 < b → b < n → members xs b ≡ true) → IsLeastFree xs (first_free more n xs)
first_free-is zero n xs p room h = record { positive = p; free = false_from_ne_true (members xs n) none; least = h }
  where
    none : members xs n ≡ true → ⊥
    none m = let many : suc n ≤ length xs + 1 = taken-many xs (suc n) (λ b q l. ⊎_elim (λ e. h b q e) (λ e. let same : n ≡ b = omega arith in subst (λ z. members xs z ≡ true) same m) (cases_lt b n)) in omega arith
first_free-is (suc more) n xs p room h =
    cond_both (members xs n) (first_free more (suc n) xs) n (IsLeastFree xs)
    (λ m. first_free-is more (suc n) xs (omega arith) (omega arith) (λ b q l. ⊎_elim (λ e. h b q e) (λ e. let same : n ≡ b = omega arith in subst (λ z. members xs z ≡ true) same m) (cases_lt b n)))
    (λ m. record { positive = p; free = m; least = h })

pub least_free-is : (xs : List ℕ) → IsLeastFree xs (least_free xs)
least_free-is xs = first_free-is (length xs) 1 xs (omega arith) (omega arith) (λ b p l. absurd (omega arith))

pub is-least_free : (xs : List ℕ) (a : ℕ) → IsLeastFree xs a → a ≡ least_free xs
is-least_free xs a f = least_free-unique xs a (least_free xs) f (least_free-is xs)

-- ---- new atoms

pub length-given_by : (n : ℕ) (atoms : List ℕ) → length (given_by n atoms) ≡ n
length-given_by zero atoms = refl
length-given_by (suc n) atoms = let k : length (given_by n atoms) ≡ n = length-given_by n atoms in
    length-append (given_by n atoms) (new_atom atoms n ∷ []) ∙ omega arith

pub new_atom-least : (atoms : List ℕ) (n : ℕ) → IsLeastFree (given_by n atoms ++ atoms) (new_atom atoms n)
new_atom-least atoms n = least_free-is (given_by n atoms ++ atoms)

pub new_atom-new : (atoms : List ℕ) (n : ℕ) → members atoms (new_atom atoms n) ≡ false
new_atom-new atoms n =
    (or_parts _ _ (sym (members-append (given_by n atoms) atoms (new_atom atoms n)) ∙ (new_atom-least atoms n).free)).1

pub new_atom-most : (atoms : List ℕ) (n : ℕ) → new_atom atoms n ≤ length atoms + n + 1
new_atom-most atoms n =
    let few : new_atom atoms n ≤ length (given_by n atoms ++ atoms) + 1 = least_free-most (given_by n atoms ++ atoms) (new_atom atoms n) (new_atom-least atoms n) in
    omega (arith, length-append (given_by n atoms) atoms, length-given_by n atoms)

-- what is free of more numbers is no lower, and is none of these
new_atom-step : (atoms : List ℕ) (n : ℕ) → new_atom atoms n < new_atom atoms (suc n)
new_atom-step atoms n =
    let a : ℕ = new_atom atoms n in
    let b : ℕ = new_atom atoms (suc n) in
    let before : IsLeastFree (given_by n atoms ++ atoms) a = new_atom-least atoms n in
    let after : IsLeastFree ((given_by n atoms ++ (a ∷ [])) ++ atoms) b = new_atom-least atoms (suc n) in
    let parts : (members (given_by n atoms ++ (a ∷ [])) b ≡ false) × (members atoms b ≡ false) =
    or_parts _ _ (sym (members-append (given_by n atoms ++ (a ∷ [])) atoms b) ∙ after.free) in
    let given : (members (given_by n atoms) b ≡ false) × (members (a ∷ []) b ≡ false) =
    or_parts _ _ (sym (members-append (given_by n atoms) (a ∷ []) b) ∙ parts.0) in
    let other : a ≡ b → ⊥ = λ e. true≢false (sym (or_left _ _ (eq-eqb a b e)) ∙ given.1) in
    let free : members (given_by n atoms ++ atoms) b ≡ false = members-append (given_by n atoms) atoms b ∙ ap (λ m. m || members atoms b) given.0 ∙ parts.1 in
    ⊎_elim (λ l. l) (λ le. absurd (true≢false (sym (before.least b after.positive (omega arith)) ∙ free))) (cases_lt a b)

pub new_atom-rise : (atoms : List ℕ) (i j : ℕ) → i < j → new_atom atoms i < new_atom atoms j
new_atom-rise atoms i zero l = absurd (omega arith)
new_atom-rise atoms i (suc j) l =
    let step : new_atom atoms j < new_atom atoms (suc j) = new_atom-step atoms j in
    ⊎_elim (λ k. let before : new_atom atoms i < new_atom atoms j = new_atom-rise atoms i j k in omega arith)
    (λ k. let same : i ≡ j = omega arith in subst (λ z. new_atom atoms z < new_atom atoms (suc j)) (sym same) step)
    (cases_lt i j)

pub new_atom-positive : (atoms : List ℕ) (n : ℕ) → 0 < new_atom atoms n
new_atom-positive atoms n = (new_atom-least atoms n).positive

pub new_atom-apart : (atoms : List ℕ) (i j : ℕ) → (i ≡ j → ⊥) → new_atom atoms i ≡ new_atom atoms j → ⊥
new_atom-apart atoms i j ne e =
    ⊎_elim (λ l. let up : new_atom atoms i < new_atom atoms j = new_atom-rise atoms i j l in omega arith)
    (λ l. let up : new_atom atoms j < new_atom atoms i = new_atom-rise atoms j i (omega arith) in omega arith)
    (cases_lt i j)

-- the numbers that were given are the new atoms up to here
pub given_by-has : (atoms : List ℕ) (n i : ℕ) → i < n → members (given_by n atoms) (new_atom atoms i) ≡ true
given_by-has atoms zero i l = absurd (omega arith)
given_by-has atoms (suc n) i l =
    members-append (given_by n atoms) (new_atom atoms n ∷ []) (new_atom atoms i)
    ∙ ⊎_elim (λ k. or_left _ _ (given_by-has atoms n i k))
    (λ k. let same : n ≡ i = omega arith in or_right _ _ (or_left _ _ (eq-eqb (new_atom atoms n) (new_atom atoms i) (ap (new_atom atoms) same))))
    (cases_lt i n)

pub given_by-only : (atoms : List ℕ) (n b : ℕ) → members (given_by n atoms) b ≡ true → (i : ℕ) × (i < n) × (new_atom atoms i ≡ b)
given_by-only atoms zero b m = absurd (true≢false (sym m))
given_by-only atoms (suc n) b m =
    ⊎_elim (λ k. let r : (i : ℕ) × (i < n) × (new_atom atoms i ≡ b) = given_by-only atoms n b k in (r.0, let l : r.0 < n = r.1 in omega arith, r.2))
    (λ k. ⊎_elim (λ e. (n, omega arith, eqb-true (new_atom atoms n) b e)) (λ e. absurd (true≢false (sym e))) (or_cases _ _ k))
    (or_cases _ _ (sym (members-append (given_by n atoms) (new_atom atoms n ∷ []) b) ∙ m))
