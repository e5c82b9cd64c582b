-- Calls that add to a store, one after another: what they add is added up.
use Rattle.std.proofs.Common.{◌≡◌, refl, sym, ◌∙◌, ap, subst, ℕ, zero, suc, ℤ, pos, negsuc, ◌+◌, ◌≤◌, ◌<◌, ◌==◌, true, ◌&&◌, List, [], ◌∷◌, ◌++◌, map, length, Option, Some, None, ⊎_elim, arith, length-append, append_assoc}
use Rattle.std.specs.List.{list_any, list_all, AllByRecursion}
use Rattle.std.proofs.lemmas.Bool.{and_parts, or_left, or_right, eq-eqb, cases_lt, true≢false}
use Rattle.std.proofs.lemmas.List.{append-nil, length-map}
use Rattle.std.proofs.lemmas.List.Folds.{list_any-append}
use Rattle.asp_base.specs.Literal.{Literal, Pos, Neg, negation, atom_of}
use Rattle.gate_tables.specs.Rows.{is_row, is_entry, is_sign, entry_literals, entries_literals, row_clause, table_clauses, IsTable}
use Rattle.clause_store.specs.Additions.{Adds, IsSound, stands_in}
use Rattle.clause_store.specs.Facts.{IsOver}
use Rattle.clause_store.specs.Gates.{after_gate}
use Rattle.clause_store.specs.Stored.{Stored, find_known, gate_clauses, with_gate, conjunction, after_conjunction}
use Rattle.clause_store.proofs.GateLaws.{Extends-same, Extends-compose, Conjunction, conjunction-is}
use Rattle.clause_store.proofs.TableGates.{gate-is, gate-sound, length-gate}

-- ---- variables that stand in clauses

pub stands-front : (v : ℕ) (cs ds : List (List Literal)) → stands_in v cs ≡ true → stands_in v (cs ++ ds) ≡ true
stands-front v cs ds h = list_any-append (λ clause. list_any (λ l. atom_of l == v) clause) cs ds ∙ or_left _ _ h

pub stands-back : (v : ℕ) (cs ds : List (List Literal)) → stands_in v ds ≡ true → stands_in v (cs ++ ds) ≡ true
stands-back v cs ds h = list_any-append (λ clause. list_any (λ l. atom_of l == v) clause) cs ds ∙ or_right _ _ h

-- ---- calls in turn

pub Adds-nothing : (s : Stored) → IsSound s → Adds 0 0 s s
Adds-nothing s x = record {
  extends = Extends-same s;
  sound = x;
  behind = ([], sym (append-nil s.hard));
  vars = omega arith;
  clauses = omega arith;
  stand = λ v h k. absurd (omega arith);
}

-- with larger numbers
pub Adds-more : (m n k l : ℕ) (s t : Stored) → m ≤ k → n ≤ l → Adds m n s t → Adds k l s t
Adds-more m n k l s t g h a = record {
  extends = a.extends;
  sound = a.sound;
  behind = a.behind;
  vars = let v : t.vars ≤ s.vars + m = a.vars in omega arith;
  clauses = let c : length t.hard ≤ length s.hard + n = a.clauses in omega arith;
  stand = a.stand;
}

pub Adds-compose : (m n k l : ℕ) (s t u : Stored) → Adds m n s t → Adds k l t u → Adds (m + k) (n + l) s u
Adds-compose m n k l s t u a b = record {
  extends = Extends-compose s t u a.extends b.extends;
  sound = b.sound;
  behind = (a.behind.0 ++ b.behind.0, b.behind.1 ∙ (ap (λ cs. cs ++ b.behind.0) a.behind.1 ∙ append_assoc s.hard a.behind.0 b.behind.0));
  vars = let v : t.vars ≤ s.vars + m = a.vars in let w : u.vars ≤ t.vars + k = b.vars in omega arith;
  clauses = let c : length t.hard ≤ length s.hard + n = a.clauses in let d : length u.hard ≤ length t.hard + l = b.clauses in omega arith;
  stand = λ v g h. ⊎_elim (λ e. b.stand v e h)
      (λ e. subst (λ cs. stands_in v cs ≡ true) (sym b.behind.1) (stands-front v t.hard b.behind.0 (a.stand v g e)))
      (cases_lt t.vars v);
}

-- ---- one gate

entry-stands : (entry : ℤ) (g : ℕ) → is_sign entry ≡ true → list_any (λ l. atom_of l == g) (entry_literals entry (Pos g)) ≡ true
entry-stands (pos zero) g h = absurd (true≢false (sym h))
entry-stands (pos (suc n)) g h = or_left _ _ (eq-eqb g g refl)
entry-stands (negsuc n) g h = or_left _ _ (eq-eqb g g refl)

row-stands : (k : ℕ) (row : List ℤ × ℤ) (inputs : List Literal) (g : ℕ) → is_row k row ≡ true → list_any (λ l. atom_of l == g) (row_clause row inputs (Pos g)) ≡ true
row-stands k row inputs g h =
    let entries : (list_all is_entry row.0 && is_sign row.1) ≡ true = (and_parts _ _ h).1 in
    let sign : is_sign row.1 ≡ true = (and_parts _ _ entries).1 in
    list_any-append (λ l. atom_of l == g) (entries_literals row.0 inputs) (entry_literals row.1 (Pos g)) ∙ or_right _ _ (entry-stands row.1 g sign)

table-stands : (k : ℕ) (rows : List (List ℤ × ℤ)) (inputs : List Literal) (g : ℕ) → IsTable k rows → 0 < length rows → stands_in g (table_clauses rows inputs (Pos g)) ≡ true
table-stands k [] inputs g t h = absurd (omega arith)
table-stands k (row ∷ rows) inputs g t h = or_left _ _ (row-stands k row inputs g (and_parts _ _ t.rows).0)

-- a gate adds one variable, and a clause for each row
pub gate-adds : (k : ℕ) (rows : List (List ℤ × ℤ)) → IsTable k rows → 0 < length rows → (inputs : List Literal) → length inputs ≡ k → (s : Stored) → IsSound s → AllByRecursion (IsOver s.vars) inputs
    → Adds 1 (length rows) s (after_gate rows inputs s)
gate-adds k rows t some inputs e s x o =
    let g : ℕ = suc s.vars in
    let cs : List (List Literal) = table_clauses rows inputs (Pos g) in
    record {
      extends = (gate-is k rows t inputs e s x.over o).extends;
      sound = gate-sound rows inputs s o x;
      behind = (cs, refl);
      vars = omega arith;
      clauses = omega (arith, length-gate rows inputs s);
      stand = λ v h j. let q : suc s.vars ≡ v = omega arith in
          stands-back v s.hard cs (subst (λ w. stands_in w cs ≡ true) q (table-stands k rows inputs g t some));
    }

-- ---- one conjunction

pub gate_clauses-stand : (g : ℕ) (inputs : List Literal) → stands_in g (gate_clauses g inputs) ≡ true
gate_clauses-stand g inputs = stands-back g (map (λ l. Neg g ∷ l ∷ []) inputs) ((Pos g ∷ map negation inputs) ∷ []) (or_left _ _ (or_left _ _ (eq-eqb g g refl)))

length-gate_clauses : (g : ℕ) (inputs : List Literal) → length (gate_clauses g inputs) ≡ suc (length inputs)
length-gate_clauses g inputs =
    let parts : length (gate_clauses g inputs) ≡ length (map (λ l. Neg g ∷ l ∷ []) inputs) + 1 = length-append (map (λ l. Neg g ∷ l ∷ []) inputs) ((Pos g ∷ map negation inputs) ∷ []) in
    let first : length (map (λ l. Neg g ∷ l ∷ []) inputs) ≡ length inputs = length-map inputs (λ l. Neg g ∷ l ∷ []) in
    omega arith

-- how a store grows, whatever its clauses say
record Grown (n : ℕ) (s t : Stored) : Type 0 where
  behind : (cs : List (List Literal)) × (t.hard ≡ s.hard ++ cs)
  vars : t.vars ≤ s.vars + 1
  clauses : length t.hard ≤ length s.hard + n
  stand : (v : ℕ) → s.vars < v → v ≤ t.vars → stands_in v t.hard ≡ true

grown-not : (n : ℕ) (s : Stored) → Grown n s s
grown-not n s = record { behind = ([], sym (append-nil s.hard)); vars = omega arith; clauses = omega arith; stand = λ v h k. absurd (omega arith) }

with_gate-grown : (inputs : List Literal) (s : Stored) (found : Option ℕ) → Grown (suc (length inputs)) s (with_gate inputs s found)
with_gate-grown inputs s (Some g) = grown-not (suc (length inputs)) s
with_gate-grown inputs s None =
    let cs : List (List Literal) = gate_clauses (suc s.vars) inputs in
    let count : length (s.hard ++ cs) ≡ length s.hard + length cs = length-append s.hard cs in
    record {
      behind = (cs, refl);
      vars = omega arith;
      clauses = omega (arith, length-gate_clauses (suc s.vars) inputs);
      stand = λ v h k. let q : suc s.vars ≡ v = omega arith in
          stands-back v s.hard cs (subst (λ w. stands_in w cs ≡ true) q (gate_clauses-stand (suc s.vars) inputs));
    }

after_conjunction-grown : (inputs : List Literal) (s : Stored) → Grown (suc (length inputs)) s (after_conjunction inputs s)
after_conjunction-grown [] s =
    let cs : List (List Literal) = (Pos (suc s.vars) ∷ []) ∷ [] in
    record {
      behind = (cs, refl);
      vars = omega arith;
      clauses = omega (arith, length-append s.hard cs);
      stand = λ v h k. let q : suc s.vars ≡ v = omega arith in
          stands-back v s.hard cs (subst (λ w. stands_in w cs ≡ true) q (or_left _ _ (or_left _ _ (eq-eqb (suc s.vars) (suc s.vars) refl))));
    }
after_conjunction-grown (l ∷ []) s = grown-not (suc (length (l ∷ []))) s
after_conjunction-grown (l ∷ k ∷ lits) s = with_gate-grown (l ∷ k ∷ lits) s (find_known (l ∷ k ∷ lits) s.known)

-- a conjunction adds at most one variable, and a clause more than it has literals
pub conjunction-adds : (inputs : List Literal) (s : Stored) → AllByRecursion (IsOver s.vars) inputs → IsSound s → Adds 1 (suc (length inputs)) s (after_conjunction inputs s)
conjunction-adds inputs s o x =
    let is : Conjunction inputs s (after_conjunction inputs s) (conjunction inputs s) = conjunction-is s inputs o x in
    let grown : Grown (suc (length inputs)) s (after_conjunction inputs s) = after_conjunction-grown inputs s in
    record {
      extends = is.stands.extends;
      sound = is.sound;
      behind = grown.behind;
      vars = grown.vars;
      clauses = grown.clauses;
      stand = grown.stand;
    }
