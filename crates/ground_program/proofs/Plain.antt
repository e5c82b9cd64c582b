-- A plain test for founded sets, which computes, so that small programs are settled by computation.
use Rattle.std.proofs.Common.{◌≡◌, refl, sym, ◌∙◌, ap, subst, ℕ, zero, suc, Bool, true, false, cond, not, ◌||◌, ◌&&◌, ◌==◌, List, [], ◌∷◌, ◌++◌, length, map, filter, ⊎_elim, Decides}
use Rattle.std.specs.List.{list_any, list_all, flat_map}
use Rattle.std.specs.Str.{bytes_eq}
use Rattle.std.proofs.lemmas.Slice.Eq.{bytes_eq-Decides}
use Rattle.std.proofs.lemmas.Bool.{and_parts, and_from, or_cases, or_left, or_right, true≢false, eqb-true, not-true, not_from_false}
use Rattle.std.proofs.lemmas.List.Folds.{list_any-append}
use mathlib.Core.Path.{fun_ext}
use Rattle.asp_base.specs.Literal.{all_hold}
use Rattle.asp_base.specs.Sets.{Set, none, members, Same, Within}
use Rattle.ground_program.specs.Facts.{IsProgram}
use Rattle.ground_program.specs.Ground.{Ground}
use Rattle.ground_program.specs.Occurrences.{atoms_of_head}
use Rattle.ground_program.specs.Stable.{holds, head_has, is_headless, step, rounds, least, Founded}
use Rattle.ground_program.specs.declared.program.Head.{Head}
use Rattle.ground_program.specs.declared.program.Head.TheVariants.{Nothing, One, Choice}
use Rattle.ground_program.specs.declared.program.Rule.{Rule}
use Rattle.ground_program.proofs.FactLaws.{Founded-among}

abbrev pub both_or_none : Bool → Bool → Bool
both_or_none true b = b
both_or_none false b = not b

abbrev pub atoms_of_heads : List Rule → List ℕ
atoms_of_heads rules = flat_map (λ rule. atoms_of_head rule.head) rules

-- The least model of the reduct has just the atoms of the list, no headless rule's body holds, and what is required does.
abbrev pub founded_test : Ground → List ℕ → Bool
founded_test P xs =
    list_all (λ a. both_or_none (least P (members xs) a) (members xs a)) (atoms_of_heads P.rules ++ xs)
    && (not (list_any (λ rule. is_headless rule.head && holds rule.body (members xs) (members xs)) P.rules)
    && all_hold P.required (members xs) (members xs))

-- every list that leaves out elements of this one
abbrev pub sublists : List ℕ → List (List ℕ)
sublists [] = [] ∷ []
sublists (x ∷ xs) = sublists xs ++ map (λ ys. x ∷ ys) (sublists xs)

-- of all sets of the program's atoms, those that are founded
abbrev pub founded_sets : Ground → List (List ℕ)
founded_sets P = filter (founded_test P) (sublists P.atoms)

-- a test that all numbers of a list pass
pub at_member : (p : ℕ → Bool) (xs : List ℕ) (a : ℕ) → list_all p xs ≡ true → members xs a ≡ true → p a ≡ true
at_member p [] a h m = absurd (true≢false (sym m))
at_member p (x ∷ xs) a h m =
    let k : (p x ≡ true) × (list_all p xs ≡ true) = and_parts _ _ h in
    ⊎_elim (λ e. subst (λ y. p y ≡ true) (eqb-true x a e) k.0) (λ e. at_member p xs a k.1 e) (or_cases _ _ m)

pub members-append_left : (xs ys : List ℕ) (a : ℕ) → members xs a ≡ true → members (xs ++ ys) a ≡ true
members-append_left xs ys a h = list_any-append (λ x. x == a) xs ys ∙ or_left _ _ h

pub members-append_right : (xs ys : List ℕ) (a : ℕ) → members ys a ≡ true → members (xs ++ ys) a ≡ true
members-append_right xs ys a h = list_any-append (λ x. x == a) xs ys ∙ or_right _ _ h

pub head_has-members : (head : Head) (M : Set) (a : ℕ) → head_has head M a ≡ true → members (atoms_of_head head) a ≡ true
head_has-members Nothing M a e = absurd (true≢false (sym e))
head_has-members (One b) M a e = or_left _ _ e
head_has-members (Choice bs) M a e = (and_parts _ _ e).0

step-members : (rules : List Rule) (M X : Set) → Within (step rules M X) (members (atoms_of_heads rules))
step-members [] M X a e = absurd (true≢false (sym e))
step-members (rule ∷ rules) M X a e =
    ⊎_elim (λ d. members-append_left (atoms_of_head rule.head) (atoms_of_heads rules) a (head_has-members rule.head M a ((and_parts _ _ d).0)))
    (λ s. members-append_right (atoms_of_head rule.head) (atoms_of_heads rules) a (step-members rules M X a s))
    (or_cases _ _ e)

pub rounds-members : (n : ℕ) (rules : List Rule) (M : Set) → Within (rounds n rules M none) (members (atoms_of_heads rules))
rounds-members zero rules M a e = absurd (true≢false (sym e))
rounds-members (suc n) rules M a e =
    ⊎_elim (λ p. rounds-members n rules M a p) (λ p. step-members rules M (rounds n rules M none) a p) (or_cases _ _ e)

both_or_none-same : (x y : Bool) → both_or_none x y ≡ true → x ≡ y
both_or_none-same true true e = refl
both_or_none-same true false e = sym e
both_or_none-same false true e = e
both_or_none-same false false e = refl

same-both_or_none : (x y : Bool) → x ≡ y → both_or_none x y ≡ true
same-both_or_none true y e = sym e
same-both_or_none false y e = ap not (sym e)

neither : (x y : Bool) → (x ≡ true → ⊥) → (y ≡ true → ⊥) → x ≡ y
neither true y h k = absurd (h refl)
neither false true h k = absurd (k refl)
neither false false h k = refl

-- two sets within one list are the same where they agree on it
pub same_on : (X Y : Set) (ks : List ℕ) → Within X (members ks) → Within Y (members ks) → list_all (λ a. both_or_none (X a) (Y a)) ks ≡ true → Same X Y
same_on X Y ks h k t a = go (members ks a) refl
  where
    go : (b : Bool) → members ks a ≡ b → X a ≡ Y a
    go true e = both_or_none-same _ _ (at_member (λ x. both_or_none (X x) (Y x)) ks a t e)
    go false e = neither _ _ (λ x. true≢false (sym (h a x) ∙ e)) (λ y. true≢false (sym (k a y) ∙ e))

pub Founded-from_test : (P : Ground) (xs : List ℕ) → founded_test P xs ≡ true → Founded P (members xs)
Founded-from_test P xs t =
    let M : Set = members xs in
    let heads : List ℕ = atoms_of_heads P.rules in
    let k : (list_all (λ a. both_or_none (least P M a) (M a)) (heads ++ xs) ≡ true)
    × ((not (list_any (λ rule. is_headless rule.head && holds rule.body M M) P.rules) && all_hold P.required M M) ≡ true) = and_parts _ _ t in
    let j : (not (list_any (λ rule. is_headless rule.head && holds rule.body M M) P.rules) ≡ true) × (all_hold P.required M M ≡ true) = and_parts _ _ k.1 in
    record {
      least_is = same_on (least P M) M (heads ++ xs)
          (λ a e. members-append_left heads xs a (rounds-members (length P.rules) P.rules M a e))
          (λ a e. members-append_right heads xs a e) k.0;
      keeps = record { headless = not-true _ j.0; required = j.1 };
    }

list_all_from : {A : Type 0} (p : A → Bool) (xs : List A) → ((x : A) → p x ≡ true) → list_all p xs ≡ true
list_all_from p [] h = refl
list_all_from p (x ∷ xs) h = and_from _ _ (h x) (list_all_from p xs h)

pub test-from_Founded : (P : Ground) (xs : List ℕ) → Founded P (members xs) → founded_test P xs ≡ true
test-from_Founded P xs f =
    and_from _ _ (list_all_from _ (atoms_of_heads P.rules ++ xs) (λ a. same-both_or_none _ _ (f.least_is a)))
    (and_from _ _ (not_from_false _ f.keeps.headless) f.keeps.required)

pub founded_test-decides : (P : Ground) (xs : List ℕ) → Decides (founded_test P xs) (Founded P (members xs))
founded_test-decides P xs = (Founded-from_test P xs, test-from_Founded P xs)

kept : (e m n b : Bool) → (e ≡ true → b ≡ true) → n ≡ (m && b) → (e || n) ≡ ((e || m) && b)
kept true m n b h i = sym (h refl)
kept false m n b h i = i

left_out : (e m n b : Bool) → (e ≡ true → b ≡ false) → n ≡ (m && b) → n ≡ ((e || m) && b)
left_out true true n b h i = i
left_out true false n b h i = i ∙ sym (h refl)
left_out false m n b h i = i

pub members-filter : (M : Set) (xs : List ℕ) (a : ℕ) → members (filter M xs) a ≡ (members xs a && M a)
members-filter M [] a = refl
members-filter M (x ∷ xs) a = go (M x) refl (members-filter M xs a)
  where
    go : (b : Bool) → M x ≡ b → members (filter M xs) a ≡ (members xs a && M a) → members (cond b (x ∷ filter M xs) (filter M xs)) a ≡ (((x == a) || members xs a) && M a)
    go true e i = kept (x == a) (members xs a) _ (M a) (λ k. ap M (sym (eqb-true x a k)) ∙ e) i
    go false e i = left_out (x == a) (members xs a) _ (M a) (λ k. ap M (sym (eqb-true x a k)) ∙ e) i

-- the same with the test first
pub members-filtered : (M : Set) (xs : List ℕ) (a : ℕ) → members (filter M xs) a ≡ (M a && members xs a)
members-filtered M xs a = members-filter M xs a ∙ go (members xs a) (M a)
  where
    go : (m b : Bool) → (m && b) ≡ (b && m)
    go true true = refl
    go true false = refl
    go false true = refl
    go false false = refl

filter-same : (M : Set) (xs : List ℕ) → Within M (members xs) → Same (members (filter M xs)) M
filter-same M xs h a = members-filter M xs a ∙ go (members xs a) (M a) (h a)
  where
    go : (m b : Bool) → (b ≡ true → m ≡ true) → (m && b) ≡ b
    go true b k = refl
    go false true k = k refl
    go false false k = refl

list_any-map : (p : List ℕ → Bool) (x : ℕ) (yss : List (List ℕ)) → list_any p (map (λ ys. x ∷ ys) yss) ≡ list_any (λ ys. p (x ∷ ys)) yss
list_any-map p x [] = refl
list_any-map p x (ys ∷ yss) = ap (λ r. p (x ∷ ys) || r) (list_any-map p x yss)

-- what a set has of a list is one of its sublists
any-sublist : (p : List ℕ → Bool) (M : Set) (xs : List ℕ) → p (filter M xs) ≡ true → list_any p (sublists xs) ≡ true
any-sublist p M [] e = or_left _ _ e
any-sublist p M (x ∷ xs) e =
    list_any-append p (sublists xs) (map (λ ys. x ∷ ys) (sublists xs))
    ∙ go (M x) e (λ k. any-sublist p M xs k) (λ k. list_any-map p x (sublists xs) ∙ any-sublist (λ ys. p (x ∷ ys)) M xs k)
  where
    low : Bool
    low = list_any p (sublists xs)

    high : Bool
    high = list_any p (map (λ ys. x ∷ ys) (sublists xs))

    go : (b : Bool) → p (cond b (x ∷ filter M xs) (filter M xs)) ≡ true → (p (filter M xs) ≡ true → low ≡ true) → (p (x ∷ filter M xs) ≡ true → high ≡ true) → (low || high) ≡ true
    go true k l h = or_right _ _ (h k)
    go false k l h = or_left _ _ (l k)

list_any-filter : (p q : List ℕ → Bool) (xss : List (List ℕ)) → list_any (λ xs. p xs && q xs) xss ≡ true → list_any q (filter p xss) ≡ true
list_any-filter p q [] e = e
list_any-filter p q (xs ∷ xss) e = go (p xs) e (list_any-filter p q xss)
  where
    go : (b : Bool) → ((b && q xs) || list_any (λ ys. p ys && q ys) xss) ≡ true → (list_any (λ ys. p ys && q ys) xss ≡ true → list_any q (filter p xss) ≡ true)
        → list_any q (cond b (xs ∷ filter p xss) (filter p xss)) ≡ true
    go true k rest = ⊎_elim (λ l. or_left _ _ l) (λ l. or_right _ _ (rest l)) (or_cases _ _ k)
    go false k rest = rest k

-- each founded set is listed
pub founded_sets-has : (P : Ground) (M : Set) → IsProgram P → Founded P M → list_any (bytes_eq (filter M P.atoms)) (founded_sets P) ≡ true
founded_sets-has P M f s =
    let xs : List ℕ = filter M P.atoms in
    let same : members xs ≡ M = fun_ext (filter-same M P.atoms (Founded-among P M f s)) in
    let t : founded_test P xs ≡ true = test-from_Founded P xs (subst (Founded P) (sym same) s) in
    list_any-filter (founded_test P) (bytes_eq xs) (sublists P.atoms)
    (any-sublist (λ ys. founded_test P ys && bytes_eq xs ys) M P.atoms (and_from _ _ t ((bytes_eq-Decides xs xs).1 refl)))
