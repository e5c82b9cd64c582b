-- The loops over the atoms of a component and over components: what is still to be done leads to the whole.
use Rattle.std.proofs.Common.{◌≡◌, refl, sym, ◌∙◌, ap, ap₂, subst, ℕ, suc, ◌+◌, ◌-◌, ◌≤◌, ◌<◌, Bool, true, false, cond, List, ◌∷◌, length, drop, get_or, arith}
use Rattle.std.proofs.Math.Seq.{drop-cons}
use Rattle.std.proofs.lemmas.List.{drop_all}
use Rattle.std.specs.List.{AllByRecursion, filter, range_with_len}
use Rattle.asp_base.specs.Sets.{members}
use Rattle.graph_parts.specs.Divided.{is_cyclic_at}
use Rattle.ground_program.specs.Ground.{Ground}
use Rattle.rising_numbers.specs.Rising.{place}
use Rattle.clause_store.specs.Stored.{Stored}
use Rattle.components.specs.Divided.{Divided, cyclic_numbers, part_of}
use Rattle.level_ranking.specs.private.Counts.{atom_vars, atoms_vars, parts_vars}
use Rattle.level_ranking.specs.Encoding.{after_atom, after_atoms, after_parts}
use Rattle.level_ranking.specs.private.Sources.{in_component, atoms_in, ranking_digits, ranking_rows, ranking_width}
use Rattle.level_ranking.proofs.RankedStore.{each-from_members}
use Rattle.level_ranking.proofs.SourceLaws.{members-cyclic}

-- ---- the atoms of a component

pub record Atoms (P : Ground) (d : Divided) (c : ℕ) (first now : Stored) (atoms : List ℕ) (i : ℕ) : Type 0 where
  pub store : after_atoms (place P.atoms) (ranking_digits P d) (ranking_rows P d c) (drop i atoms) now ≡ after_atoms (place P.atoms) (ranking_digits P d) (ranking_rows P d c) atoms first
  pub vars : now.vars + atoms_vars (ranking_width P d c) (ranking_rows P d c) (drop i atoms) ≤ first.vars + atoms_vars (ranking_width P d c) (ranking_rows P d c) atoms
  pub from : first.vars ≤ now.vars
  pub inside : AllByRecursion (λ a. in_component P d c a ≡ true) (drop i atoms)

pub atoms-start : (P : Ground) (d : Divided) (c : ℕ) (first : Stored) → Atoms P d c first first (atoms_in P d c) 0
atoms-start P d c first = record { store = refl; vars = omega arith; from = omega arith; inside = each-from_members (λ a. in_component P d c a ≡ true) (atoms_in P d c) (λ a h. h) }

module _ (P : Ground) (d : Divided) (c : ℕ) (first now : Stored) (atoms : List ℕ) (i a : ℕ) (h : i < length atoms) (e : a ≡ get_or atoms i 0) (k : Atoms P d c first now atoms i) where
  here : drop i atoms ≡ a ∷ drop (suc i) atoms
  here = drop-cons atoms i 0 h ∙ ap (λ y. y ∷ drop (suc i) atoms) (sym e)

  both : AllByRecursion (λ b. in_component P d c b ≡ true) (a ∷ drop (suc i) atoms)
  both = subst (AllByRecursion (λ b. in_component P d c b ≡ true)) here k.inside

  pub atoms-inside : in_component P d c a ≡ true
  atoms-inside = both.0

  pub atoms-room : (n : ℕ) → first.vars + atoms_vars (ranking_width P d c) (ranking_rows P d c) atoms < n → now.vars + atom_vars (ranking_width P d c) (ranking_rows P d c a) < n
  atoms-room n r =
      let v : now.vars + atoms_vars (ranking_width P d c) (ranking_rows P d c) (drop i atoms) ≤ first.vars + atoms_vars (ranking_width P d c) (ranking_rows P d c) atoms = k.vars in
      let g : atoms_vars (ranking_width P d c) (ranking_rows P d c) (drop i atoms) ≡ atom_vars (ranking_width P d c) (ranking_rows P d c a) + atoms_vars (ranking_width P d c) (ranking_rows P d c) (drop (suc i) atoms) =
      ap (atoms_vars (ranking_width P d c) (ranking_rows P d c)) here in
      omega arith

  pub atoms-next : (j : ℕ) → j ≡ suc i → (t : Stored) → t ≡ after_atom (place P.atoms a) (ranking_digits P d a) (ranking_digits P d) (ranking_rows P d c a) now → now.vars ≤ t.vars
      → t.vars ≤ now.vars + atom_vars (ranking_width P d c) (ranking_rows P d c a) → Atoms P d c first t atoms j
  atoms-next j q t f up few =
      let v : now.vars + atoms_vars (ranking_width P d c) (ranking_rows P d c) (drop i atoms) ≤ first.vars + atoms_vars (ranking_width P d c) (ranking_rows P d c) atoms = k.vars in
      let g : atoms_vars (ranking_width P d c) (ranking_rows P d c) (drop i atoms) ≡ atom_vars (ranking_width P d c) (ranking_rows P d c a) + atoms_vars (ranking_width P d c) (ranking_rows P d c) (drop (suc i) atoms) =
      ap (atoms_vars (ranking_width P d c) (ranking_rows P d c)) here in
      let b : first.vars ≤ now.vars = k.from in
      rw q (record {
        store = ap (after_atoms (place P.atoms) (ranking_digits P d) (ranking_rows P d c) (drop (suc i) atoms)) f ∙ (sym (ap (λ xs. after_atoms (place P.atoms) (ranking_digits P d) (ranking_rows P d c) xs now) here) ∙ k.store);
        vars = omega arith;
        from = omega arith;
        inside = both.1;
      })

pub atoms-done : (P : Ground) (d : Divided) (c : ℕ) (first now : Stored) (atoms : List ℕ) (i : ℕ) → length atoms ≤ i → Atoms P d c first now atoms i
    → now ≡ after_atoms (place P.atoms) (ranking_digits P d) (ranking_rows P d c) atoms first
atoms-done P d c first now atoms i h k = ap (λ xs. after_atoms (place P.atoms) (ranking_digits P d) (ranking_rows P d c) xs now) (sym (drop_all i atoms h)) ∙ k.store

pub atoms-few : (P : Ground) (d : Divided) (c : ℕ) (first now : Stored) (atoms : List ℕ) (i : ℕ) → Atoms P d c first now atoms i → now.vars ≤ first.vars + atoms_vars (ranking_width P d c) (ranking_rows P d c) atoms
atoms-few P d c first now atoms i k = let v : now.vars + atoms_vars (ranking_width P d c) (ranking_rows P d c) (drop i atoms) ≤ first.vars + atoms_vars (ranking_width P d c) (ranking_rows P d c) atoms = k.vars in omega arith

-- ---- components

-- the cyclic ones of so many numbers from n on
abbrev pub cyclic_from : List Bool → ℕ → ℕ → List ℕ
cyclic_from cyclic n k = filter (λ i. is_cyclic_at cyclic i) (range_with_len n k)

pub record Parts (P : Ground) (d : Divided) (first now : Stored) (i : ℕ) : Type 0 where
  pub store : after_parts P (part_of d) (cyclic_numbers d) (cyclic_from d.cyclic (i + 1) (d.count - i)) now ≡ after_parts P (part_of d) (cyclic_numbers d) (cyclic_numbers d) first
  pub vars : now.vars + parts_vars P (part_of d) (cyclic_numbers d) (cyclic_from d.cyclic (i + 1) (d.count - i)) ≤ first.vars + parts_vars P (part_of d) (cyclic_numbers d) (cyclic_numbers d)
  pub from : first.vars ≤ now.vars

pub parts-start : (P : Ground) (d : Divided) (first : Stored) → Parts P d first first 0
parts-start P d first = let e : d.count - 0 ≡ d.count = omega arith in let one : 0 + 1 ≡ 1 = omega arith in
    record {
      store = ap₂ (λ k n. after_parts P (part_of d) (cyclic_numbers d) (cyclic_from d.cyclic k n) first) one e;
      vars = let v : parts_vars P (part_of d) (cyclic_numbers d) (cyclic_from d.cyclic (0 + 1) (d.count - 0)) ≡ parts_vars P (part_of d) (cyclic_numbers d) (cyclic_numbers d) = ap₂ (λ k n. parts_vars P (part_of d) (cyclic_numbers d) (cyclic_from d.cyclic k n)) one e in omega arith;
      from = omega arith;
    }

module _ (P : Ground) (d : Divided) (first now : Stored) (i : ℕ) (h : i < d.count) (k : Parts P d first now i) where
  abbrev later : List ℕ
  later = cyclic_from d.cyclic (suc i + 1) (d.count - suc i)

  unfolds : cyclic_from d.cyclic (i + 1) (d.count - i) ≡ cond (is_cyclic_at d.cyclic (i + 1)) ((i + 1) ∷ cyclic_from d.cyclic (suc i + 1) (d.count - suc i)) (cyclic_from d.cyclic (suc i + 1) (d.count - suc i))
  unfolds =
      let e : d.count - i ≡ suc (d.count - suc i) = omega arith in
      let f : i + 1 + 1 ≡ suc i + 1 = omega arith in
      ap (cyclic_from d.cyclic (i + 1)) e
      ∙ ap (λ m. cond (is_cyclic_at d.cyclic (i + 1)) ((i + 1) ∷ cyclic_from d.cyclic m (d.count - suc i)) (cyclic_from d.cyclic m (d.count - suc i))) f

  pub part-cyclic : is_cyclic_at d.cyclic (i + 1) ≡ true → members (cyclic_numbers d) (i + 1) ≡ true
  part-cyclic e = members-cyclic d (i + 1) (omega arith) (omega arith) ∙ e

  at_cyclic : is_cyclic_at d.cyclic (i + 1) ≡ true → cyclic_from d.cyclic (i + 1) (d.count - i) ≡ (i + 1) ∷ cyclic_from d.cyclic (suc i + 1) (d.count - suc i)
  at_cyclic e = unfolds ∙ ap (λ b. cond b ((i + 1) ∷ cyclic_from d.cyclic (suc i + 1) (d.count - suc i)) (cyclic_from d.cyclic (suc i + 1) (d.count - suc i))) e

  at_other : is_cyclic_at d.cyclic (i + 1) ≡ false → cyclic_from d.cyclic (i + 1) (d.count - i) ≡ cyclic_from d.cyclic (suc i + 1) (d.count - suc i)
  at_other e = unfolds ∙ ap (λ b. cond b ((i + 1) ∷ cyclic_from d.cyclic (suc i + 1) (d.count - suc i)) (cyclic_from d.cyclic (suc i + 1) (d.count - suc i))) e

  pub parts-room : is_cyclic_at d.cyclic (i + 1) ≡ true → (n : ℕ) → first.vars + parts_vars P (part_of d) (cyclic_numbers d) (cyclic_numbers d) < n
      → now.vars + atoms_vars (ranking_width P d (i + 1)) (ranking_rows P d (i + 1)) (atoms_in P d (i + 1)) < n
  parts-room e n r =
      let v : now.vars + parts_vars P (part_of d) (cyclic_numbers d) (cyclic_from d.cyclic (i + 1) (d.count - i)) ≤ first.vars + parts_vars P (part_of d) (cyclic_numbers d) (cyclic_numbers d) = k.vars in
      let g : parts_vars P (part_of d) (cyclic_numbers d) (cyclic_from d.cyclic (i + 1) (d.count - i))
      ≡ atoms_vars (ranking_width P d (i + 1)) (ranking_rows P d (i + 1)) (atoms_in P d (i + 1)) + parts_vars P (part_of d) (cyclic_numbers d) (cyclic_from d.cyclic (suc i + 1) (d.count - suc i)) = ap (parts_vars P (part_of d) (cyclic_numbers d)) (at_cyclic e) in
      omega arith

  pub parts-next : is_cyclic_at d.cyclic (i + 1) ≡ true → (j : ℕ) → j ≡ suc i → (t : Stored) → t ≡ after_atoms (place P.atoms) (ranking_digits P d) (ranking_rows P d (i + 1)) (atoms_in P d (i + 1)) now
      → now.vars ≤ t.vars → t.vars ≤ now.vars + atoms_vars (ranking_width P d (i + 1)) (ranking_rows P d (i + 1)) (atoms_in P d (i + 1)) → Parts P d first t j
  parts-next e j q t f up few =
      let v : now.vars + parts_vars P (part_of d) (cyclic_numbers d) (cyclic_from d.cyclic (i + 1) (d.count - i)) ≤ first.vars + parts_vars P (part_of d) (cyclic_numbers d) (cyclic_numbers d) = k.vars in
      let g : parts_vars P (part_of d) (cyclic_numbers d) (cyclic_from d.cyclic (i + 1) (d.count - i))
      ≡ atoms_vars (ranking_width P d (i + 1)) (ranking_rows P d (i + 1)) (atoms_in P d (i + 1)) + parts_vars P (part_of d) (cyclic_numbers d) (cyclic_from d.cyclic (suc i + 1) (d.count - suc i)) = ap (parts_vars P (part_of d) (cyclic_numbers d)) (at_cyclic e) in
      let b : first.vars ≤ now.vars = k.from in
      rw q (record {
        store = ap (after_parts P (part_of d) (cyclic_numbers d) (cyclic_from d.cyclic (suc i + 1) (d.count - suc i))) f ∙ (sym (ap (λ cs. after_parts P (part_of d) (cyclic_numbers d) cs now) (at_cyclic e)) ∙ k.store);
        vars = omega arith;
        from = omega arith;
      })

  pub parts-skip : is_cyclic_at d.cyclic (i + 1) ≡ false → (j : ℕ) → j ≡ suc i → Parts P d first now j
  parts-skip e j q =
      let v : now.vars + parts_vars P (part_of d) (cyclic_numbers d) (cyclic_from d.cyclic (i + 1) (d.count - i)) ≤ first.vars + parts_vars P (part_of d) (cyclic_numbers d) (cyclic_numbers d) = k.vars in
      let g : parts_vars P (part_of d) (cyclic_numbers d) (cyclic_from d.cyclic (i + 1) (d.count - i)) ≡ parts_vars P (part_of d) (cyclic_numbers d) (cyclic_from d.cyclic (suc i + 1) (d.count - suc i)) = ap (parts_vars P (part_of d) (cyclic_numbers d)) (at_other e) in
      rw q (record {
        store = sym (ap (λ cs. after_parts P (part_of d) (cyclic_numbers d) cs now) (at_other e)) ∙ k.store;
        vars = omega arith;
        from = k.from;
      })

pub parts-done : (P : Ground) (d : Divided) (first now : Stored) (i : ℕ) → d.count ≤ i → Parts P d first now i → now ≡ after_parts P (part_of d) (cyclic_numbers d) (cyclic_numbers d) first
parts-done P d first now i h k =
    let z : d.count - i ≡ 0 = omega arith in
    ap (λ n. after_parts P (part_of d) (cyclic_numbers d) (cyclic_from d.cyclic (i + 1) n) now) (sym z) ∙ k.store
