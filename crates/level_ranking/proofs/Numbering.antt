-- The digits of atoms, one after another: what is still to be done leads to the whole.
use Rattle.std.proofs.Common.{◌≡◌, refl, sym, ◌∙◌, ap, ap₂, subst, ℕ, suc, ◌+◌, ◌≤◌, ◌<◌, Bool, true, false, cond, List, [], ◌∷◌, ◌++◌, map, length, drop, get_or, filter, arith, append_assoc}
use Rattle.std.proofs.Math.Seq.{drop-cons}
use Rattle.std.proofs.lemmas.List.{drop_all, append-nil}
use Rattle.std.specs.List.{AllByRecursion}
use Rattle.asp_base.specs.Literal.{Literal, Pos, Neg, negation}
use Rattle.rising_numbers.specs.Rising.{place}
use Rattle.clause_store.specs.Facts.{IsOver}
use Rattle.clause_store.specs.Stored.{Stored, with_clause, with_clauses}
use Rattle.clause_store.proofs.GateLaws.{negation-over}
use Rattle.level_ranking.specs.Encoding.{digit_clauses, after_atom_digits, after_digits}
use Rattle.components.specs.Divided.{Divided}
use Rattle.digit_gates.specs.DigitGates.{variables_from}
use Rattle.level_ranking.specs.private.Sources.{is_ranked, width_among, digit_table}

-- ---- the clauses of an atom's digits

abbrev zero_clauses : ℕ → List Literal → List (List Literal)
zero_clauses v lits = map (λ l. Pos v ∷ negation l ∷ []) lits

pub record Zeroed (v : ℕ) (lits : List Literal) (first now : Stored) (made : List Literal) (i : ℕ) : Type 0 where
  pub store : with_clauses (zero_clauses v (drop i lits)) now ≡ with_clauses (zero_clauses v lits) first
  pub vars : now.vars ≡ first.vars
  pub some : made ++ drop i lits ≡ Neg v ∷ lits
  pub over : AllByRecursion (IsOver first.vars) (drop i lits)

module _ (v : ℕ) (lits : List Literal) (first now : Stored) (made : List Literal) (i : ℕ) (l : Literal) (h : i < length lits) (e : l ≡ get_or lits i l) (z : Zeroed v lits first now made i) where
  at_literal : drop i lits ≡ l ∷ drop (suc i) lits
  at_literal = drop-cons lits i l h ∙ ap (λ x. x ∷ drop (suc i) lits) (sym e)

  rest_over : AllByRecursion (IsOver first.vars) (l ∷ drop (suc i) lits)
  rest_over = subst (AllByRecursion (IsOver first.vars)) at_literal z.over

  pub zeroed-over : 0 < v → v ≤ first.vars → AllByRecursion (IsOver now.vars) (Pos v ∷ negation l ∷ [])
  zeroed-over low high = rw z.vars ((low, high), (negation-over l first.vars rest_over.0, tt))

  pub zeroed-next : (j : ℕ) → j ≡ suc i → Zeroed v lits first (with_clause (Pos v ∷ negation l ∷ []) now) (made ++ (l ∷ [])) j
  zeroed-next j q = rw q (record {
    store = ap (λ cs. record now { hard = cs }) (append_assoc now.hard ((Pos v ∷ negation l ∷ []) ∷ []) (zero_clauses v (drop (suc i) lits)))
        ∙ (sym (ap (λ ls. with_clauses (zero_clauses v ls) now) at_literal) ∙ z.store);
    vars = z.vars;
    some = append_assoc made (l ∷ []) (drop (suc i) lits) ∙ (sym (ap (λ ls. made ++ ls) at_literal) ∙ z.some);
    over = rest_over.1;
  })

pub zeroed-some : (v : ℕ) (lits : List Literal) (first now : Stored) (made : List Literal) (i : ℕ) → length lits ≤ i → Zeroed v lits first now made i → made ≡ Neg v ∷ lits
zeroed-some v lits first now made i h z = sym (append-nil made) ∙ (ap (λ ls. made ++ ls) (sym (drop_all i lits h)) ∙ z.some)

pub zeroed-done : (v : ℕ) (lits : List Literal) (first now : Stored) (made : List Literal) (i : ℕ) → length lits ≤ i → Zeroed v lits first now made i
    → with_clause made now ≡ with_clauses (digit_clauses v lits) first
zeroed-done v lits first now made i h z =
    let d : drop i lits ≡ [] = drop_all i lits h in
    let e : now ≡ with_clauses (zero_clauses v lits) first = ap (λ cs. record now { hard = cs }) (sym (append-nil now.hard)) ∙ (ap (λ ls. with_clauses (zero_clauses v ls) now) (sym d) ∙ z.store) in
    ap₂ with_clause (zeroed-some v lits first now made i h z) e
    ∙ ap (λ cs. record first { hard = cs }) (append_assoc first.hard (zero_clauses v lits) ((Neg v ∷ lits) ∷ []))

pub zeroed-last : (v : ℕ) (lits : List Literal) (first now : Stored) (made : List Literal) (i : ℕ) → length lits ≤ i → 0 < v → v ≤ first.vars → AllByRecursion (IsOver first.vars) lits → Zeroed v lits first now made i
    → AllByRecursion (IsOver now.vars) made
zeroed-last v lits first now made i h low high o z = rw (z.vars, zeroed-some v lits first now made i h z) ((low, high), o)

-- ---- the atoms

abbrev numbered_from : List ℕ → Divided → List ℕ → Stored → Stored
numbered_from atoms d rest s = after_digits (place atoms) (width_among d atoms) (filter (is_ranked d) rest) s

digits-grow : (var width : ℕ → ℕ) (xs : List ℕ) (s : Stored) → s.vars ≤ (after_digits var width xs s).vars
digits-grow var width [] s = omega arith
digits-grow var width (x ∷ xs) s = let h : s.vars + width x ≤ (after_digits var width xs (after_atom_digits (var x) (width x) s)).vars = digits-grow var width xs (after_atom_digits (var x) (width x) s) in omega arith

pub record Numbering (atoms : List ℕ) (d : Divided) (first now : Stored) (made : List (List Literal)) (i : ℕ) : Type 0 where
  pub store : after_digits (place atoms) (width_among d atoms) (filter (is_ranked d) (drop i atoms)) now ≡ after_digits (place atoms) (width_among d atoms) (filter (is_ranked d) atoms) first
  pub table : made ++ digit_table (is_ranked d) (width_among d atoms) (drop i atoms) now.vars ≡ digit_table (is_ranked d) (width_among d atoms) atoms first.vars
  pub up : first.vars ≤ now.vars

-- the store after an atom, where it is ranked or not
abbrev after_one : List ℕ → Divided → ℕ → Bool → Stored → Stored
after_one atoms d x b s = cond b (after_atom_digits (place atoms x) (width_among d atoms x) s) s

module _ (atoms : List ℕ) (d : Divided) (first now : Stored) (made : List (List Literal)) (i x : ℕ) (h : i < length atoms) (e : x ≡ get_or atoms i 0) (n : Numbering atoms d first now made i) where
  at_atom : drop i atoms ≡ x ∷ drop (suc i) atoms
  at_atom = drop-cons atoms i 0 h ∙ ap (λ y. y ∷ drop (suc i) atoms) (sym e)

  one-store : (b : Bool) → after_digits (place atoms) (width_among d atoms) (filter (is_ranked d) (drop (suc i) atoms)) (after_one atoms d x b now)
      ≡ after_digits (place atoms) (width_among d atoms) (cond b (x ∷ filter (is_ranked d) (drop (suc i) atoms)) (filter (is_ranked d) (drop (suc i) atoms))) now
  one-store true = refl
  one-store false = refl

  one-vars : (b : Bool) → (after_one atoms d x b now).vars ≡ now.vars + cond b (width_among d atoms x) 0
  one-vars true = refl
  one-vars false = omega arith

  next-store : after_digits (place atoms) (width_among d atoms) (filter (is_ranked d) (drop (suc i) atoms)) (after_one atoms d x (is_ranked d x) now)
      ≡ after_digits (place atoms) (width_among d atoms) (filter (is_ranked d) atoms) first
  next-store = one-store (is_ranked d x) ∙ (sym (ap (λ xs. after_digits (place atoms) (width_among d atoms) (filter (is_ranked d) xs) now) at_atom) ∙ n.store)

  pub numbering-room : (m : ℕ) → (after_digits (place atoms) (width_among d atoms) (filter (is_ranked d) atoms) first).vars < m → now.vars + cond (is_ranked d x) (width_among d atoms x) 0 < m
  numbering-room m r =
      let g : (after_one atoms d x (is_ranked d x) now).vars ≤ (after_digits (place atoms) (width_among d atoms) (filter (is_ranked d) (drop (suc i) atoms)) (after_one atoms d x (is_ranked d x) now)).vars =
      digits-grow (place atoms) (width_among d atoms) (filter (is_ranked d) (drop (suc i) atoms)) (after_one atoms d x (is_ranked d x) now) in
      let v : (after_one atoms d x (is_ranked d x) now).vars ≡ now.vars + cond (is_ranked d x) (width_among d atoms x) 0 = one-vars (is_ranked d x) in
      let s : (after_digits (place atoms) (width_among d atoms) (filter (is_ranked d) (drop (suc i) atoms)) (after_one atoms d x (is_ranked d x) now)).vars
      ≡ (after_digits (place atoms) (width_among d atoms) (filter (is_ranked d) atoms) first).vars = ap (λ t. t.vars) next-store in
      omega arith

  pub numbering-next : (j : ℕ) → j ≡ suc i → (t : Stored) (number : List Literal) → t ≡ after_one atoms d x (is_ranked d x) now → number ≡ cond (is_ranked d x) (variables_from (width_among d atoms x) now.vars) []
      → Numbering atoms d first t (made ++ (number ∷ [])) j
  numbering-next j q t number f g = rw (q, f, g) (record {
    store = next-store;
    table = ap (λ m. (made ++ (cond (is_ranked d x) (variables_from (width_among d atoms x) now.vars) [] ∷ [])) ++ digit_table (is_ranked d) (width_among d atoms) (drop (suc i) atoms) m) (one-vars (is_ranked d x))
        ∙ (append_assoc made (cond (is_ranked d x) (variables_from (width_among d atoms x) now.vars) [] ∷ []) (digit_table (is_ranked d) (width_among d atoms) (drop (suc i) atoms) (now.vars + cond (is_ranked d x) (width_among d atoms x) 0))
        ∙ (sym (ap (λ xs. made ++ digit_table (is_ranked d) (width_among d atoms) xs now.vars) at_atom) ∙ n.table));
    up =
        let u : first.vars ≤ now.vars = n.up in
        let v : (after_one atoms d x (is_ranked d x) now).vars ≡ now.vars + cond (is_ranked d x) (width_among d atoms x) 0 = one-vars (is_ranked d x) in
        omega arith;
  })

pub numbering-done : (atoms : List ℕ) (d : Divided) (first now : Stored) (made : List (List Literal)) (i : ℕ) → length atoms ≤ i → Numbering atoms d first now made i
    → (now ≡ after_digits (place atoms) (width_among d atoms) (filter (is_ranked d) atoms) first) × (made ≡ digit_table (is_ranked d) (width_among d atoms) atoms first.vars)
numbering-done atoms d first now made i h n =
    let e : drop i atoms ≡ [] = drop_all i atoms h in (
      ap (λ xs. after_digits (place atoms) (width_among d atoms) (filter (is_ranked d) xs) now) (sym e) ∙ n.store,
      sym (append-nil made) ∙ (ap (λ xs. made ++ digit_table (is_ranked d) (width_among d atoms) xs now.vars) (sym e) ∙ n.table),
    )
