-- A table has just one output for each list of values of its inputs.
use Rattle.std.proofs.Common.{◌≡◌, refl, sym, ◌∙◌, ap, ℕ, zero, suc, ℤ, Bool, true, false, not, List, [], ◌∷◌, ◌++◌, map, length, arith}
use Rattle.std.specs.List.{list_all}
use Rattle.std.proofs.lemmas.Bool.{and_parts, true≢false}
use Rattle.std.proofs.lemmas.List.Folds.{list_all-append, list_all-map}
use Rattle.gate_tables.specs.Rows.{rows_true, table_value, all_values, differs, IsTable}

halves : (p : List Bool → Bool) (vs : List (List Bool)) → list_all p (map (λ values. true ∷ values) vs ++ map (λ values. false ∷ values) vs) ≡ true
    → (list_all p (map (λ values. true ∷ values) vs) ≡ true) × (list_all p (map (λ values. false ∷ values) vs) ≡ true)
halves p vs h = and_parts _ _ (sym (list_all-append p (map (λ values. true ∷ values) vs) (map (λ values. false ∷ values) vs)) ∙ h)

-- what holds of all lists of so many values holds of each
at_values : (k : ℕ) (p : List Bool → Bool) → list_all p (all_values k) ≡ true → (values : List Bool) → length values ≡ k → p values ≡ true
at_values zero p h [] e = (and_parts _ _ h).0
at_values zero p h (v ∷ values) e = absurd (omega arith)
at_values (suc k) p h [] e = absurd (omega arith)
at_values (suc k) p h (true ∷ values) e = at_values k (λ vs. p (true ∷ vs)) (sym (list_all-map p (λ vs. true ∷ vs) (all_values k)) ∙ (halves p (all_values k) h).0) values (omega arith)
at_values (suc k) p h (false ∷ values) e = at_values k (λ vs. p (false ∷ vs)) (sym (list_all-map p (λ vs. false ∷ vs) (all_values k)) ∙ (halves p (all_values k) h).1) values (omega arith)

differs-not : (x y : Bool) → differs x y ≡ true → y ≡ not x
differs-not true true e = sym e
differs-not true false e = refl
differs-not false true e = refl
differs-not false false e = e

-- with the output false the clauses are true just where the value is false
pub false_output : (k : ℕ) (rows : List (List ℤ × ℤ)) → IsTable k rows → (values : List Bool) → length values ≡ k → rows_true rows values false ≡ not (table_value rows values)
false_output k rows t values e = differs-not _ _ (at_values k (λ vs. differs (rows_true rows vs true) (rows_true rows vs false)) t.one_output values e)

-- the value is an output that the clauses take
pub value-taken : (k : ℕ) (rows : List (List ℤ × ℤ)) → IsTable k rows → (values : List Bool) → length values ≡ k → rows_true rows values (table_value rows values) ≡ true
value-taken k rows t values e = go (table_value rows values) refl
  where
    go : (b : Bool) → table_value rows values ≡ b → rows_true rows values b ≡ true
    go true h = h
    go false h = false_output k rows t values e ∙ ap not h

-- and no other output is
pub value-only : (k : ℕ) (rows : List (List ℤ × ℤ)) → IsTable k rows → (values : List Bool) → length values ≡ k → (output : Bool) → rows_true rows values output ≡ true → output ≡ table_value rows values
value-only k rows t values e true h = sym h
value-only k rows t values e false h = go (table_value rows values) refl (sym (false_output k rows t values e) ∙ h)
  where
    go : (b : Bool) → table_value rows values ≡ b → not (table_value rows values) ≡ true → false ≡ table_value rows values
    go true q r = absurd (true≢false (sym r ∙ ap not q))
    go false q r = sym q
