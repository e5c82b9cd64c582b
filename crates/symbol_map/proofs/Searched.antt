-- Places whose atoms rise, searched for an atom.
use Rattle.std.proofs.Common.{◌≡◌, refl, ℕ, zero, suc, ◌<◌, ◌≤◌, ◌==◌, true, false, List, [], ◌∷◌, length, get_or, add-one, Less, Equal, Greater, ⊎_elim, arith}
use Rattle.std.specs.List.Sorted.{IsNonDecreasingBy, IsPartitionPoint}
use Rattle.std.specs.Ordering.{is_lt, nat_cmp, ordering_index}
use Rattle.std.proofs.lemmas.Bool.{eq-eqb, ne_eqb, cases_lt}
use Rattle.std.proofs.lemmas.Bool.Decides.{nat_tests}
use Rattle.std.proofs.lemmas.Cmp.{nat_cmp_total}
use Rattle.std.proofs.lemmas.List.Sorted.{searchable_from_sorted}
use Rattle.asp_base.proofs.Bools.{or_false}
use Rattle.asp_base.specs.Sets.{Set}
use Rattle.clause_store.specs.Models.{is_true}
use Rattle.symbol_map.specs.declared.map.Place.{Place}
use Rattle.symbol_map.specs.IsMap.{PlacesRise}
use Rattle.symbol_map.specs.Restrict.{atoms_true}

rises_at : (places : List Place) (low i : ℕ) (d : Place) → PlacesRise low places → i < length places → low < (get_or places i d).atom
rises_at [] low i d r h = absurd (omega arith)
rises_at (place ∷ places) low zero d r h = r.0
rises_at (place ∷ places) low (suc i) d r h =
    let above : place.atom < (get_or places i d).atom = rises_at places place.atom i d r.1 (omega arith) in
    let first : low < place.atom = r.0 in
    omega arith

absent_below : (places : List Place) (A : Set) (low a : ℕ) → PlacesRise low places → a ≤ low → atoms_true places A a ≡ false
absent_below [] A low a r h = refl
absent_below (place ∷ places) A low a r h =
    let first : low < place.atom = r.0 in
    let apart : (place.atom == a) ≡ false = ne_eqb place.atom a (λ e. omega arith) in
    rw apart (absent_below places A place.atom a r.1 (omega arith))

-- an atom that is there is true where its literal is
pub atoms_true_at : (places : List Place) (A : Set) (low a i : ℕ) (d : Place) → PlacesRise low places → i < length places
    → (get_or places i d).atom ≡ a → atoms_true places A a ≡ is_true (get_or places i d).lit A
atoms_true_at [] A low a i d r h e = absurd (omega arith)
atoms_true_at (place ∷ places) A low a zero d r h e =
    let here : (place.atom == a) ≡ true = eq-eqb place.atom a e in
    let rest : atoms_true places A a ≡ false = absent_below places A place.atom a r.1 (omega arith) in
    rw here (rw rest (or_false (is_true place.lit A)))
atoms_true_at (place ∷ places) A low a (suc i) d r h e =
    let above : place.atom < (get_or places i d).atom = rises_at places place.atom i d r.1 (omega arith) in
    let apart : (place.atom == a) ≡ false = ne_eqb place.atom a (λ same. omega arith) in
    rw apart (atoms_true_at places A place.atom a i d r.1 (omega arith) e)

-- an atom that is not there is false
pub atoms_true_nowhere : (places : List Place) (A : Set) (a : ℕ) → ((k : ℕ) (d : Place) → k < length places → (get_or places k d).atom ≡ a → ⊥) → atoms_true places A a ≡ false
atoms_true_nowhere [] A a h = refl
atoms_true_nowhere (place ∷ places) A a h =
    let apart : (place.atom == a) ≡ false = ne_eqb place.atom a (h 0 place (omega arith)) in
    rw apart (atoms_true_nowhere places A a (λ k d within e. h (suc k) d (omega arith) e))

rising_pair : (places : List Place) (low k : ℕ) (d : Place) → PlacesRise low places → suc k < length places → (get_or places k d).atom < (get_or places (suc k) d).atom
rising_pair [] low k d r h = absurd (omega arith)
rising_pair (place ∷ places) low zero d r h = rises_at places place.atom 0 d r.1 (omega arith)
rising_pair (place ∷ places) low (suc k) d r h = rising_pair places place.atom k d r.1 (omega arith)

not_less : (m n : ℕ) → m < n → is_lt (nat_cmp n m) ≡ false
not_less m n h = grind (arith, nat_tests)

-- what a binary search for the atom asks
pub searchable : (places : List Place) (low a : ℕ) → PlacesRise low places → IsNonDecreasingBy (λ place. ordering_index (nat_cmp place.atom a)) places
searchable places low a r =
    searchable_from_sorted nat_cmp_total (λ (place : Place). place.atom) places a (λ k d zero_le within.
    rw add-one (not_less _ _ (rising_pair places low k d r (omega arith))))

pub equal_from_cmp : (m n : ℕ) → nat_cmp m n ≡ Equal → m ≡ n
equal_from_cmp m n h = grind (arith, nat_tests)

apart_from_less : (m n : ℕ) → nat_cmp m n ≡ Less → m ≡ n → ⊥
apart_from_less m n h e = grind (arith, nat_tests)

apart_from_greater : (m n : ℕ) → nat_cmp m n ≡ Greater → m ≡ n → ⊥
apart_from_greater m n h e = grind (arith, nat_tests)

-- a place to insert the atom: it is nowhere
pub nowhere_from_search : (places : List Place) (low a i : ℕ) → PlacesRise low places
    → (IsNonDecreasingBy (λ place. ordering_index (nat_cmp place.atom a)) places → IsPartitionPoint (λ place. nat_cmp place.atom a ≡ Less) (λ place. nat_cmp place.atom a ≡ Greater) places i)
    → (k : ℕ) (d : Place) → k < length places → (get_or places k d).atom ≡ a → ⊥
nowhere_from_search places low a i r found k d within e =
    let parts : IsPartitionPoint (λ (place : Place). nat_cmp place.atom a ≡ Less) (λ (place : Place). nat_cmp place.atom a ≡ Greater) places i = found (searchable places low a r) in
    ⊎_elim (λ below. apart_from_less _ _ (parts.0 k d (omega arith) below) e) (λ above. apart_from_greater _ _ (parts.1 k d above within) e) (cases_lt k i)
