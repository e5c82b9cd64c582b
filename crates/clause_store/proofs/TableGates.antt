-- The gate of a table gives each assignment one value more, the table's.
use Rattle.std.proofs.Common.{◌≡◌, refl, sym, ◌∙◌, ap, ap₂, ℕ, suc, ℤ, pos, negsuc, zero, ◌+◌, ◌-◌, ◌^◌, ◌<◌, Bool, true, false, not, ◌&&◌, ◌||◌, List, [], ◌∷◌, ◌++◌, length, arith, length-append}
use Rattle.std.specs.List.{AllByRecursion}
use Rattle.std.proofs.lemmas.List.{length-map}
use Rattle.std.proofs.lemmas.List.Folds.{list_any-append}
use Rattle.asp_base.specs.Literal.{Literal, Pos}
use Rattle.asp_base.specs.Sets.{Set}
use Rattle.asp_base.proofs.Bools.{or_false}
use Rattle.asp_base.proofs.Each.{each, each-weaker, each-append, each-map, map-same}
use Rattle.asp_base.proofs.LiteralLaws.{literal_holds-negation}
use Rattle.gate_tables.specs.Rows.{entry_true, entries_true, row_true, rows_true, table_value, entry_literals, entries_literals, row_clause, table_clauses, IsTable}
use Rattle.gate_tables.proofs.TableLaws.{false_output}
use Rattle.clause_store.specs.Additions.{IsSound}
use Rattle.clause_store.specs.Extension.{Agree}
use Rattle.clause_store.specs.Facts.{IsOver}
use Rattle.clause_store.specs.Gates.{IsGateOf, after_gate, values_at}
use Rattle.clause_store.specs.Models.{is_true, clause_true, clauses_true}
use Rattle.clause_store.specs.Stored.{Stored}
use Rattle.clause_store.specs.private.Kept.{IsStore}
use Rattle.clause_store.proofs.GateLaws.{is_true-agree, agree, agree-same, clauses_true-back, Extends-variable, literals-up, clauses-up, negation-over, known-more}
use Rattle.clause_store.proofs.StoreLaws.{IsStore-clauses}

-- ---- what the clauses say

entry_says : (entry : ℤ) (l : Literal) (A : Set) → clause_true (entry_literals entry l) A ≡ entry_true entry (is_true l A)
entry_says (pos zero) l A = refl
entry_says (pos (suc n)) l A = or_false (is_true l A)
entry_says (negsuc n) l A = ap (λ b. b || false) (literal_holds-negation l A) ∙ or_false (not (is_true l A))

entries_say : (entries : List ℤ) (lits : List Literal) (A : Set) → clause_true (entries_literals entries lits) A ≡ entries_true entries (values_at A lits)
entries_say [] lits A = refl
entries_say (entry ∷ entries) [] A = refl
entries_say (entry ∷ entries) (l ∷ lits) A =
    list_any-append (λ k. is_true k A) (entry_literals entry l) (entries_literals entries lits) ∙ ap₂ ◌||◌ (entry_says entry l A) (entries_say entries lits A)

row_says : (row : List ℤ × ℤ) (inputs : List Literal) (output : Literal) (A : Set) → clause_true (row_clause row inputs output) A ≡ row_true row (values_at A inputs) (is_true output A)
row_says row inputs output A =
    list_any-append (λ k. is_true k A) (entries_literals row.0 inputs) (entry_literals row.1 output) ∙ ap₂ ◌||◌ (entries_say row.0 inputs A) (entry_says row.1 output A)

rows_say : (rows : List (List ℤ × ℤ)) (inputs : List Literal) (output : Literal) (A : Set) → clauses_true (table_clauses rows inputs output) A ≡ rows_true rows (values_at A inputs) (is_true output A)
rows_say [] inputs output A = refl
rows_say (row ∷ rows) inputs output A = ap₂ ◌&&◌ (row_says row inputs output A) (rows_say rows inputs output A)

pub length-values : (A : Set) (lits : List Literal) → length (values_at A lits) ≡ length lits
length-values A lits = length-map lits (λ l. is_true l A)

agree-true : (b : Bool) → b ≡ agree true b
agree-true true = refl
agree-true false = refl

table_says : (k : ℕ) (rows : List (List ℤ × ℤ)) → IsTable k rows → (values : List Bool) → length values ≡ k → (output : Bool) → rows_true rows values output ≡ agree output (table_value rows values)
table_says k rows t values e true = agree-true (table_value rows values)
table_says k rows t values e false = false_output k rows t values e

-- the clauses of the gate say that its variable has the table's value
gate_says : (k : ℕ) (rows : List (List ℤ × ℤ)) → IsTable k rows → (inputs : List Literal) → length inputs ≡ k → (g : ℕ) (A : Set)
    → clauses_true (table_clauses rows inputs (Pos g)) A ≡ agree (A g) (table_value rows (values_at A inputs))
gate_says k rows t inputs e g A = rows_say rows inputs (Pos g) A ∙ table_says k rows t (values_at A inputs) (length-values A inputs ∙ e) (A g)

pub values-agree : (n : ℕ) (A B : Set) → Agree n A B → (lits : List Literal) → AllByRecursion (IsOver n) lits → values_at A lits ≡ values_at B lits
values-agree n A B h lits o = map-same _ _ lits (each-weaker _ _ (is_true-agree n A B h) lits o)

-- ---- over which variables

entry-over : (n : ℕ) (entry : ℤ) (l : Literal) → IsOver n l → AllByRecursion (IsOver n) (entry_literals entry l)
entry-over n (pos zero) l o = tt
entry-over n (pos (suc m)) l o = (o, tt)
entry-over n (negsuc m) l o = (negation-over l n o, tt)

entries-over : (n : ℕ) (entries : List ℤ) (lits : List Literal) → AllByRecursion (IsOver n) lits → AllByRecursion (IsOver n) (entries_literals entries lits)
entries-over n [] lits o = tt
entries-over n (entry ∷ entries) [] o = tt
entries-over n (entry ∷ entries) (l ∷ lits) o = each-append (IsOver n) (entry_literals entry l) (entries_literals entries lits) (entry-over n entry l o.0) (entries-over n entries lits o.1)

table-over : (n : ℕ) (rows : List (List ℤ × ℤ)) (inputs : List Literal) (output : Literal) → AllByRecursion (IsOver n) inputs → IsOver n output
    → AllByRecursion (AllByRecursion (IsOver n)) (table_clauses rows inputs output)
table-over n rows inputs output o h = each-map _ (λ row. row_clause row inputs output) rows (each _
    (λ row. each-append (IsOver n) (entries_literals row.0 inputs) (entry_literals row.1 output) (entries-over n row.0 inputs o) (entry-over n row.1 output h)) rows)

-- the clauses of a gate are over the variables and its own
gate-over : (rows : List (List ℤ × ℤ)) (inputs : List Literal) (n : ℕ) → AllByRecursion (IsOver n) inputs → AllByRecursion (AllByRecursion (IsOver (suc n))) (table_clauses rows inputs (Pos (suc n)))
gate-over rows inputs n o = table-over (suc n) rows inputs (Pos (suc n)) (literals-up n (suc n) (omega arith) inputs o) (omega arith, omega arith)

-- ---- the gate in a store

pub gate-is : (k : ℕ) (rows : List (List ℤ × ℤ)) → IsTable k rows → (inputs : List Literal) → length inputs ≡ k → (s : Stored) → AllByRecursion (AllByRecursion (IsOver s.vars)) s.hard
    → AllByRecursion (IsOver s.vars) inputs → IsGateOf rows inputs s (after_gate rows inputs s) (Pos (suc s.vars))
gate-is k rows t inputs e s over o =
    let g : ℕ = suc s.vars in
    let cs : List (List Literal) = table_clauses rows inputs (Pos g) in
    record {
      extends = Extends-variable s cs s.known (λ A. table_value rows (values_at A inputs)) over
          (λ A B h. ap (table_value rows) (values-agree s.vars A B h inputs o)) (gate_says k rows t inputs e g);
      over = (omega arith, omega arith);
      says = λ A h. agree-same _ _ (sym (gate_says k rows t inputs e g A) ∙ clauses_true-back s.hard cs A h);
    }

pub gate-sound : (rows : List (List ℤ × ℤ)) (inputs : List Literal) (s : Stored) → AllByRecursion (IsOver s.vars) inputs → IsSound s → IsSound (after_gate rows inputs s)
gate-sound rows inputs s o x =
    let cs : List (List Literal) = table_clauses rows inputs (Pos (suc s.vars)) in
    record {
      over = each-append _ s.hard cs (clauses-up s.vars (suc s.vars) (omega arith) s.hard x.over) (gate-over rows inputs s.vars o);
      known = known-more s.vars (suc s.vars) s.hard cs s.known (omega arith) x.known;
    }

pub length-gate : (rows : List (List ℤ × ℤ)) (inputs : List Literal) (s : Stored) → length (after_gate rows inputs s).hard ≡ length s.hard + length rows
length-gate rows inputs s =
    length-append s.hard (table_clauses rows inputs (Pos (suc s.vars))) ∙ ap (λ n. length s.hard + n) (length-map rows (λ row. row_clause row inputs (Pos (suc s.vars))))

-- ---- the same with the new variable as one number

pub gate-store : (rows : List (List ℤ × ℤ)) (inputs : List Literal) (s : Stored) (vars : ℕ) → vars ≡ suc s.vars → IsStore s → AllByRecursion (IsOver s.vars) inputs → s.vars < 2 ^ 31 - 1
    → IsStore (record { vars = vars; hard = s.hard ++ table_clauses rows inputs (Pos vars); edges = s.edges; soft = s.soft; known = s.known })
gate-store rows inputs s vars e store over room =
    rw e (IsStore-clauses s (suc s.vars) (table_clauses rows inputs (Pos (suc s.vars))) (omega arith) (omega (arith, room)) store (gate-over rows inputs s.vars over))

pub gate-at : (k : ℕ) (rows : List (List ℤ × ℤ)) → IsTable k rows → (inputs : List Literal) → length inputs ≡ k → (s new : Stored) (l : Literal) → IsStore s → AllByRecursion (IsOver s.vars) inputs
    → new ≡ after_gate rows inputs s → l ≡ Pos (suc s.vars) → IsGateOf rows inputs s new l
gate-at k rows t inputs e s new l store o is named = rw (is, named) (gate-is k rows t inputs e s store.formula.hard o)
