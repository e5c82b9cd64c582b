-- The atoms of an encoding that have new rules, by what they say.
use Rattle.std.specs.Prelude.{ℕ, suc, Bool, true, false, cond, ◌&&◌, ◌==◌, List, [], ◌∷◌}
use Rattle.std.specs.List.{filter}
use Rattle.ground_program.specs.Fresh.{new_atom}
use Rattle.acyc_edges.specs.declared.name.Name.{Name}
use Rattle.acyc_edges.specs.declared.name.Name.TheVariants.{Atom, Complement, Fires, Chosen, Left, Backed, NoLater, Backs}

abbrev pub kind_of : Name → ℕ
kind_of (Atom a) = 0
kind_of (Complement a) = 1
kind_of (Fires i) = 2
kind_of (Chosen a b) = 3
kind_of (Left a b) = 4
kind_of (Backed a) = 5
kind_of (NoLater a c) = 6
kind_of (Backs i) = 7

abbrev pub first_of_name : Name → ℕ
first_of_name (Atom a) = a
first_of_name (Complement a) = a
first_of_name (Fires i) = i
first_of_name (Chosen a b) = a
first_of_name (Left a b) = a
first_of_name (Backed a) = a
first_of_name (NoLater a c) = a
first_of_name (Backs i) = i

abbrev pub second_of_name : Name → ℕ
second_of_name (Atom a) = 0
second_of_name (Complement a) = 0
second_of_name (Fires i) = 0
second_of_name (Chosen a b) = b
second_of_name (Left a b) = b
second_of_name (Backed a) = 0
second_of_name (NoLater a c) = c
second_of_name (Backs i) = 0

abbrev pub same_name : Name → Name → Bool
same_name m n =
    (kind_of m == kind_of n)
    && ((first_of_name m == first_of_name n) && (second_of_name m == second_of_name n))

abbrev pub is_new : Name → Bool
is_new (Atom a) = false
is_new (Complement a) = true
is_new (Fires i) = true
is_new (Chosen a b) = true
is_new (Left a b) = true
is_new (Backed a) = true
is_new (NoLater a c) = true
is_new (Backs i) = true

-- the index of an element in a list, by an equality test; the length where it is not there
abbrev pub index_by : {A : Type 0} → (A → A → Bool) → List A → A → ℕ
index_by same [] x = 0
index_by same (y ∷ ys) x = cond (same x y) 0 (suc (index_by same ys x))

-- the atom of a name: new names get new atoms in their order
abbrev pub atom_of_name : List ℕ → List Name → Name → ℕ
atom_of_name atoms names n =
    cond (is_new n) (new_atom atoms (index_by same_name (filter is_new names) n)) (first_of_name n)
