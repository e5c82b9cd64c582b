-- The map of new names goes by the equality of names.
use Rattle.std.proofs.Common.{◌≡◌, refl, sym, ◌∙◌, ap, ℕ, Bool, true, false, cond, ◌&&◌, ◌==◌, ◌<◌, ◌≤◌, ◌^◌, List, [], ◌∷◌, ◌++◌, Some, None, arith}
use Rattle.std.specs.Map.{lookup}
use Rattle.std.proofs.lemmas.Bool.{or_parts}
use Rattle.acyc_edges.specs.declared.name.Name.{Name}
use Rattle.acyc_edges.specs.declared.name.Name.TheVariants.{Atom, Complement, Fires, Chosen, Left, Backed, NoLater, Backs}
use Rattle.acyc_edges.specs.Names.{same_name}
use Rattle.acyc_edges.specs.private.Numbers.{is_numbered, number_in, AreAtoms}
use Rattle.acyc_edges.specs.contracts.name.NamePartialEq.TheImpl as name

and_true : (b : Bool) → b ≡ (b && true)
and_true true = refl
and_true false = refl

pub eq-is : (m n : Name) → (name.ghosts).eq m n ≡ same_name m n
eq-is (Atom a) (Atom c) = and_true (a == c)
eq-is (Atom a) (Complement c) = refl
eq-is (Atom a) (Fires c) = refl
eq-is (Atom a) (Chosen c d) = refl
eq-is (Atom a) (Left c d) = refl
eq-is (Atom a) (Backed c) = refl
eq-is (Atom a) (NoLater c d) = refl
eq-is (Atom a) (Backs c) = refl
eq-is (Complement a) (Atom c) = refl
eq-is (Complement a) (Complement c) = and_true (a == c)
eq-is (Complement a) (Fires c) = refl
eq-is (Complement a) (Chosen c d) = refl
eq-is (Complement a) (Left c d) = refl
eq-is (Complement a) (Backed c) = refl
eq-is (Complement a) (NoLater c d) = refl
eq-is (Complement a) (Backs c) = refl
eq-is (Fires a) (Atom c) = refl
eq-is (Fires a) (Complement c) = refl
eq-is (Fires a) (Fires c) = and_true (a == c)
eq-is (Fires a) (Chosen c d) = refl
eq-is (Fires a) (Left c d) = refl
eq-is (Fires a) (Backed c) = refl
eq-is (Fires a) (NoLater c d) = refl
eq-is (Fires a) (Backs c) = refl
eq-is (Chosen a b) (Atom c) = refl
eq-is (Chosen a b) (Complement c) = refl
eq-is (Chosen a b) (Fires c) = refl
eq-is (Chosen a b) (Chosen c d) = refl
eq-is (Chosen a b) (Left c d) = refl
eq-is (Chosen a b) (Backed c) = refl
eq-is (Chosen a b) (NoLater c d) = refl
eq-is (Chosen a b) (Backs c) = refl
eq-is (Left a b) (Atom c) = refl
eq-is (Left a b) (Complement c) = refl
eq-is (Left a b) (Fires c) = refl
eq-is (Left a b) (Chosen c d) = refl
eq-is (Left a b) (Left c d) = refl
eq-is (Left a b) (Backed c) = refl
eq-is (Left a b) (NoLater c d) = refl
eq-is (Left a b) (Backs c) = refl
eq-is (Backed a) (Atom c) = refl
eq-is (Backed a) (Complement c) = refl
eq-is (Backed a) (Fires c) = refl
eq-is (Backed a) (Chosen c d) = refl
eq-is (Backed a) (Left c d) = refl
eq-is (Backed a) (Backed c) = and_true (a == c)
eq-is (Backed a) (NoLater c d) = refl
eq-is (Backed a) (Backs c) = refl
eq-is (NoLater a b) (Atom c) = refl
eq-is (NoLater a b) (Complement c) = refl
eq-is (NoLater a b) (Fires c) = refl
eq-is (NoLater a b) (Chosen c d) = refl
eq-is (NoLater a b) (Left c d) = refl
eq-is (NoLater a b) (Backed c) = refl
eq-is (NoLater a b) (NoLater c d) = refl
eq-is (NoLater a b) (Backs c) = refl
eq-is (Backs a) (Atom c) = refl
eq-is (Backs a) (Complement c) = refl
eq-is (Backs a) (Fires c) = refl
eq-is (Backs a) (Chosen c d) = refl
eq-is (Backs a) (Left c d) = refl
eq-is (Backs a) (Backed c) = refl
eq-is (Backs a) (NoLater c d) = refl
eq-is (Backs a) (Backs c) = and_true (a == c)

pub lookup-some : (entries : List (Name × ℕ)) (n : Name) (a : ℕ) → lookup (λ m. (name.ghosts).eq n m) entries ≡ Some a → number_in entries n ≡ a
lookup-some [] n a h = absurd (cc)
lookup-some (entry ∷ entries) n a h = go (same_name n entry.0) ((ap (λ b. cond b (Some entry.1) (lookup (λ m. (name.ghosts).eq n m) entries)) (sym (eq-is n entry.0))) ∙ h) (λ k. lookup-some entries n a k)
  where
    go : (b : Bool) → cond b (Some entry.1) (lookup (λ m. (name.ghosts).eq n m) entries) ≡ Some a → (lookup (λ m. (name.ghosts).eq n m) entries ≡ Some a → number_in entries n ≡ a)
        → cond b entry.1 (number_in entries n) ≡ a
    go true e rest = cc
    go false e rest = rest e

pub lookup-none : (entries : List (Name × ℕ)) (n : Name) → lookup (λ m. (name.ghosts).eq n m) entries ≡ None → number_in entries n ≡ 1
lookup-none [] n h = refl
lookup-none (entry ∷ entries) n h = go (same_name n entry.0) ((ap (λ b. cond b (Some entry.1) (lookup (λ m. (name.ghosts).eq n m) entries)) (sym (eq-is n entry.0))) ∙ h) (λ k. lookup-none entries n k)
  where
    go : (b : Bool) → cond b (Some entry.1) (lookup (λ m. (name.ghosts).eq n m) entries) ≡ None → (lookup (λ m. (name.ghosts).eq n m) entries ≡ None → number_in entries n ≡ 1)
        → cond b entry.1 (number_in entries n) ≡ 1
    go true e rest = absurd (cc)
    go false e rest = rest e

pub lookup-new : (entries : List (Name × ℕ)) (n : Name) → is_numbered entries n ≡ false → lookup (λ m. (name.ghosts).eq n m) entries ≡ None
lookup-new [] n h = refl
lookup-new (entry ∷ entries) n h =
    let k : (same_name n entry.0 ≡ false) × (is_numbered entries n ≡ false) = or_parts (same_name n entry.0) (is_numbered entries n) h in
    ap (λ b. cond b (Some entry.1) (lookup (λ m. (name.ghosts).eq n m) entries)) (eq-is n entry.0 ∙ k.0) ∙ lookup-new entries n k.1

-- what is found is an atom
pub number-fits : (entries : List (Name × ℕ)) (n : Name) → AreAtoms entries → (0 < number_in entries n) × (number_in entries n ≤ 2 ^ 30)
number-fits [] n h = (omega arith, omega arith)
number-fits (entry ∷ entries) n h = go (same_name n entry.0) (number-fits entries n h.1)
  where
    go : (b : Bool) → (0 < number_in entries n) × (number_in entries n ≤ 2 ^ 30) → (0 < cond b entry.1 (number_in entries n)) × (cond b entry.1 (number_in entries n) ≤ 2 ^ 30)
    go true r = h.0
    go false r = r

pub more-fit : (entries : List (Name × ℕ)) (n : Name) (a : ℕ) → AreAtoms entries → 0 < a → a ≤ 2 ^ 30 → AreAtoms (entries ++ ((n, a) ∷ []))
more-fit [] n a h p q = ((p, q), tt)
more-fit (entry ∷ entries) n a h p q = (h.0, more-fit entries n a h.1 p q)
