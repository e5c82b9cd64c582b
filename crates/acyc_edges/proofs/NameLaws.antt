-- Different names have different atoms.
use Rattle.std.proofs.Common.{◌≡◌, refl, sym, ◌∙◌, ap, ap₂, subst, ℕ, suc, ◌<◌, Bool, true, false, cond, ◌&&◌, ◌==◌, List, [], ◌∷◌, filter, get_or, ⊎_elim, arith}
use Rattle.std.proofs.lemmas.Bool.{and_parts, and_from, true≢false, eqb-true, eq-eqb, cases_lt, cond-true, cond-false}
use Rattle.asp_base.specs.Sets.{members, In}
use Rattle.ground_program.specs.Fresh.{new_atom}
use Rattle.ground_program.proofs.FreshLaws.{new_atom-rise, new_atom-new}
use Rattle.acyc_edges.specs.declared.name.Name.{Name}
use Rattle.acyc_edges.specs.declared.name.Name.TheVariants.{Atom, Complement, Fires, Chosen, Left, Backed, NoLater, Backs}
use Rattle.acyc_edges.specs.Names.{kind_of, first_of_name, second_of_name, same_name, is_new, index_by, atom_of_name}
use Rattle.acyc_edges.proofs.Inside.{in-filter, not-both}

-- ---- equality of names

name_from : ℕ → ℕ → ℕ → Name
name_from k a b =
    cond (k == 0) (Atom a) (cond (k == 1) (Complement a) (cond (k == 2) (Fires a) (cond (k == 3) (Chosen a b)
    (cond (k == 4) (Left a b) (cond (k == 5) (Backed a) (cond (k == 6) (NoLater a b) (Backs a)))))))

name-from : (n : Name) → name_from (kind_of n) (first_of_name n) (second_of_name n) ≡ n
unfolding name_from
name-from (Atom a) = refl
name-from (Complement a) = refl
name-from (Fires i) = refl
name-from (Chosen a b) = refl
name-from (Left a b) = refl
name-from (Backed a) = refl
name-from (NoLater a c) = refl
name-from (Backs i) = refl

pub same_name-is : (m n : Name) → same_name m n ≡ true → m ≡ n
same_name-is m n h =
    let k : ((kind_of m == kind_of n) ≡ true) × (((first_of_name m == first_of_name n) && (second_of_name m == second_of_name n)) ≡ true) = and_parts _ _ h in
    let j : ((first_of_name m == first_of_name n) ≡ true) × ((second_of_name m == second_of_name n) ≡ true) = and_parts _ _ k.1 in
    sym (name-from m)
    ∙ (ap (λ x. name_from x (first_of_name m) (second_of_name m)) (eqb-true _ _ k.0)
    ∙ (ap₂ (λ x y. name_from (kind_of n) x y) (eqb-true _ _ j.0) (eqb-true _ _ j.1) ∙ name-from n))

pub is-same_name : (n : Name) → same_name n n ≡ true
is-same_name n =
    and_from _ _ (eq-eqb (kind_of n) (kind_of n) refl)
    (and_from _ _ (eq-eqb (first_of_name n) (first_of_name n) refl) (eq-eqb (second_of_name n) (second_of_name n) refl))

-- ---- indices

module _ {A : Type 0} (same : A → A → Bool) (says : (x y : A) → same x y ≡ true → x ≡ y) (again : (x : A) → same x x ≡ true) where
  pub at-index : (xs : List A) (x d : A) → In x xs → get_or xs (index_by same xs x) d ≡ x
  at-index [] x d h = absurd h
  at-index (y ∷ ys) x d h = go (same x y) refl (λ e. at-index ys x d e)
    where
      go : (b : Bool) → same x y ≡ b → (In x ys → get_or ys (index_by same ys x) d ≡ x) → get_or (y ∷ ys) (cond b 0 (suc (index_by same ys x))) d ≡ x
      go true e rest = sym (says x y e)
      go false e rest = ⊎_elim (λ k. absurd (true≢false (sym (subst (λ z. same x z ≡ true) (sym k) (again x)) ∙ e))) rest h

  pub index-one : (xs : List A) (x y : A) → In x xs → In y xs → index_by same xs x ≡ index_by same xs y → x ≡ y
  index-one xs x y h k e = sym (at-index xs x x h) ∙ (ap (λ i. get_or xs i x) e ∙ at-index xs y x k)

pub new_atom-one : (atoms : List ℕ) (i j : ℕ) → new_atom atoms i ≡ new_atom atoms j → i ≡ j
new_atom-one atoms i j e =
    ⊎_elim (λ l. let up : new_atom atoms i < new_atom atoms j = new_atom-rise atoms i j l in absurd (omega arith))
    (λ l. ⊎_elim (λ k. let up : new_atom atoms j < new_atom atoms i = new_atom-rise atoms j i k in absurd (omega arith)) (λ k. omega arith) (cases_lt j i))
    (cases_lt i j)

-- ---- atoms of names

pub old-name : (n : Name) → is_new n ≡ false → n ≡ Atom (first_of_name n)
old-name (Atom a) h = refl
old-name (Complement a) h = absurd (true≢false h)
old-name (Fires i) h = absurd (true≢false h)
old-name (Chosen a b) h = absurd (true≢false h)
old-name (Left a b) h = absurd (true≢false h)
old-name (Backed a) h = absurd (true≢false h)
old-name (NoLater a c) h = absurd (true≢false h)
old-name (Backs i) h = absurd (true≢false h)

module _ (atoms : List ℕ) (names : List Name) where
  pub num-new : (n : Name) → is_new n ≡ true → members atoms (atom_of_name atoms names n) ≡ false
  num-new n h = ap (members atoms) (cond-true (is_new n) _ _ h) ∙ new_atom-new atoms (index_by same_name (filter is_new names) n)

  module _ (old : (a : ℕ) → In (Atom a) names → members atoms a ≡ true) where
    num-old : (n : Name) → In n names → is_new n ≡ false → members atoms (atom_of_name atoms names n) ≡ true
    num-old n i h = ap (members atoms) (cond-false (is_new n) _ _ h) ∙ old (first_of_name n) (subst (λ m. In m names) (old-name n h) i)

    pub num-one : (m n : Name) → In m names → In n names → atom_of_name atoms names m ≡ atom_of_name atoms names n → m ≡ n
    num-one m n i j e = go (is_new m) refl (is_new n) refl
      where
        go : (x : Bool) → is_new m ≡ x → (y : Bool) → is_new n ≡ y → m ≡ n
        go true h true k =
            index-one same_name same_name-is is-same_name (filter is_new names) m n (in-filter is_new names m i h) (in-filter is_new names n j k)
            (new_atom-one atoms _ _ (sym (cond-true (is_new m) _ _ h) ∙ (e ∙ cond-true (is_new n) _ _ k)))
        go true h false k = absurd (not-both (members atoms (atom_of_name atoms names n)) (num-old n j k) (ap (members atoms) (sym e) ∙ num-new m h))
        go false h true k = absurd (not-both (members atoms (atom_of_name atoms names m)) (num-old m i h) (ap (members atoms) e ∙ num-new n k))
        go false h false k =
            old-name m h ∙ (ap Atom (sym (cond-false (is_new m) _ _ h) ∙ (e ∙ cond-false (is_new n) _ _ k)) ∙ sym (old-name n k))
