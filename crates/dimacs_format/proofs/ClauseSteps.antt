-- The clauses of a text along a walk, number by number and clause by clause.
use Rattle.std.proofs.Common.{◌≡◌, refl, sym, ◌∙◌, ap, subst, ℕ, suc, ◌+◌, ◌-◌, ◌≤◌, ◌<◌, ◌↔◌, nat_lt, ℤ, pos, nat_abs, Bool, true, false, cond, List, [], ◌∷◌, ◌++◌, length, append_assoc, Option, Some, None, IsSome, IsNone, IfSome, Ok, Err, arith}
use Rattle.std.specs.List.{AllByRecursion}
use Rattle.std.specs.Ordering.{int_eq}
use Rattle.std.proofs.lemmas.Bool.{cond-true, cond-false, le-ltb, lt-ltb}
use Rattle.std.proofs.lemmas.Bool.Decides.{Decides-int_eq}
use Rattle.asp_base.proofs.Each.{each-push}
use Rattle.asp_base.specs.Literal.{Literal, literal_of}
use Rattle.asp_scan.specs.Scanning.{Scanning}
use Rattle.asp_scan.specs.Tokens.{token_at, number_of, number_at}
use Rattle.asp_scan.proofs.Numerals.{Numbered, numbered, Unnumbered, unnumbered}
use Rattle.asp_scan.specs.declared.scan.ScanFault.{ScanFault}
use Rattle.clause_store.specs.Facts.{IsOver}
use Rattle.dimacs_format.specs.Read.{Reading, Item, Word, Token, literal, clause, next_clause, clauses}
use Rattle.asp_base.specs.Faults.{fault, ◌>>=◌, Refuses}
use Rattle.dimacs_format.specs.private.Walks.{items_left, skipped, onto, clause_from}
use Rattle.dimacs_format.specs.declared.kind.FormulaKind.{FormulaKind}
use Rattle.dimacs_format.specs.declared.kind.FormulaKind.TheVariants.{BadNumber, LiteralOutOfRange, NoEnd}
use Rattle.asp_base.specs.declared.faults.Refusal.{Refusal}
use Rattle.asp_base.specs.declared.faults.Refusal.TheVariants.{At, Memory}
use Rattle.dimacs_format.proofs.Left.{items_left-some, clause-skipped, next-found}

-- ---- a number of a clause

pub after_number : (last vars : ℕ) (token : Token) (n : ℤ) (items : List Item) → number_of token.text ≡ Some n
    → clause last vars (Word token ∷ items) ≡ cond (int_eq n (pos 0)) (Ok ([], items)) (literal vars token.line n >>= λ l. onto (l ∷ []) (clause last vars items))
after_number last vars token n items h =
    let k : ℤ → Reading (List Literal × List Item) = λ m. cond (int_eq m (pos 0)) (Ok ([], items)) (literal vars token.line m >>= λ l. onto (l ∷ []) (clause last vars items)) in
    ap (λ o. elim o as (λ x. Reading ℤ) [ None ↦ fault token.line BadNumber | Some m ↦ Ok m ] >>= k) h

after_no_number : (last vars : ℕ) (token : Token) (items : List Item) → number_of token.text ≡ None → clause last vars (Word token ∷ items) ≡ fault token.line BadNumber
after_no_number last vars token items h =
    let k : ℤ → Reading (List Literal × List Item) = λ m. cond (int_eq m (pos 0)) (Ok ([], items)) (literal vars token.line m >>= λ l. onto (l ∷ []) (clause last vars items)) in
    ap (λ o. elim o as (λ x. Reading ℤ) [ None ↦ fault token.line BadNumber | Some m ↦ Ok m ] >>= k) h

zero_is : (n : ℤ) → n ≡ pos 0 → int_eq n (pos 0) ≡ true
zero_is n e = ap (λ m. int_eq m (pos 0)) e

pub not_zero : (n : ℤ) → ¬ (n ≡ pos 0) → int_eq n (pos 0) ≡ false
not_zero n h = by (int_eq n (pos 0)) refl
  where
    by : (b : Bool) → int_eq n (pos 0) ≡ b → b ≡ false
    by true e = absurd (h ((Decides-int_eq n (pos 0)).0 e))
    by false e = refl

-- ---- the number that stands next in the stream

pub record NumberAt (start found new : Scanning) (n : ℤ) : Type 0 where
  pub token : Token
  pub at : skipped (items_left start) ≡ Word token ∷ items_left new
  pub line : token.line ≡ found.line.number
  pub value : number_of token.text ≡ Some n

pub number_found : (start found new : Scanning) → skipped (items_left start) ≡ items_left found → new ≡ record found { left = new.left } → (n : ℤ) → number_at found.left ≡ Ok (n, new.left) → NumberAt start found new n
number_found start found new same rest n is =
    let word : Numbered found.left n new.left = numbered found.left n new.left is in
    let token : Token = record { line = found.line.number; text = word.word } in
    record { token = token; at = same ∙ items_left-some found (word.word, new.left) word.at ∙ ap (λ s. Word token ∷ items_left s) (sym rest); line = refl; value = word.value }

pub record NoNumberAt (start found : Scanning) : Type 0 where
  pub token : Token
  pub rest : List Item
  pub at : skipped (items_left start) ≡ Word token ∷ rest
  pub line : token.line ≡ found.line.number
  pub none : number_of token.text ≡ None

pub no_number_found : (start found : Scanning) (f : ScanFault) → skipped (items_left start) ≡ items_left found → IsSome (token_at found.left) → number_at found.left ≡ Err f → NoNumberAt start found
no_number_found start found f same some is =
    let word : Unnumbered found.left = unnumbered found.left f some is in
    record {
      token = record { line = found.line.number; text = word.token.0 };
      rest = items_left (record found { left = word.token.1 });
      at = same ∙ items_left-some found word.token word.at;
      line = refl;
      none = word.none;
    }

module _ (last vars : ℕ) (start found new : Scanning) (n : ℤ) (number : NumberAt start found new n) where
  pub shorter_left : skipped (items_left start) ≡ items_left found → length (items_left found) ≤ length (items_left start) → length (items_left new) < length (items_left start)
  shorter_left same h = omega (arith, h, ap length (sym same ∙ number.at))

  step : clause last vars (items_left start) ≡ cond (int_eq n (pos 0)) (Ok ([], items_left new)) (literal vars found.line.number n >>= λ l. onto (l ∷ []) (clause last vars (items_left new)))
  step =
      sym (clause-skipped last vars (items_left start)) ∙ ap (clause last vars) number.at ∙ after_number last vars number.token n (items_left new) number.value
      ∙ ap (λ line. cond (int_eq n (pos 0)) (Ok ([], items_left new)) (literal vars line n >>= λ l. onto (l ∷ []) (clause last vars (items_left new)))) number.line

  pub literal_step : nat_abs n ≤ vars → (lit : Option Literal) (m : ℤ) → m ≡ n → IsNone lit ↔ (m ≡ pos 0) → IfSome lit (λ l. l ≡ literal_of m)
      → clause last vars (items_left start) ≡ clause_from last vars lit (items_left new)
  literal_step within None m same none value = step ∙ cond-true (int_eq n (pos 0)) (Ok ([], items_left new)) _ (zero_is n (sym same ∙ none.0 refl))
  literal_step within (Some l) m same none value =
      step
      ∙ cond-false (int_eq n (pos 0)) (Ok ([], items_left new)) _ (not_zero n (λ e. let k : IsNone (Some l) = none.1 (same ∙ e) in cc))
      ∙ ap (λ r. r >>= λ l. onto (l ∷ []) (clause last vars (items_left new))) (cond-false (nat_lt vars (nat_abs n)) _ _ (le-ltb vars (nat_abs n) within))
      ∙ ap (λ x. onto (x ∷ []) (clause last vars (items_left new))) (sym (value ∙ ap literal_of same))

  pub above_vars : vars < nat_abs n → clause last vars (items_left start) ≡ fault found.line.number LiteralOutOfRange
  above_vars above =
      step
      ∙ cond-false (int_eq n (pos 0)) (Ok ([], items_left new)) _ (not_zero n (λ e. let zero : nat_abs n ≡ 0 = ap nat_abs e in omega (arith, above, zero)))
      ∙ ap (λ r. r >>= λ l. onto (l ∷ []) (clause last vars (items_left new))) (cond-true (nat_lt vars (nat_abs n)) _ _ (lt-ltb vars (nat_abs n) above))

pub bad_number : (last vars : ℕ) (start found : Scanning) → NoNumberAt start found → clause last vars (items_left start) ≡ fault found.line.number BadNumber
bad_number last vars start found word =
    sym (clause-skipped last vars (items_left start)) ∙ ap (clause last vars) word.at ∙ after_no_number last vars word.token word.rest word.none ∙ ap (λ n. fault n BadNumber) word.line

-- ---- a further clause

pub no_token : (last vars : ℕ) (items : List Item) → skipped items ≡ [] → clause last vars items ≡ fault last NoEnd
no_token last vars items e = sym (clause-skipped last vars items) ∙ ap (clause last vars) e

pub next_step : (last vars : ℕ) (start found : Scanning) → skipped (items_left start) ≡ items_left found → IsSome (token_at found.left)
    → next_clause last vars (items_left start) ≡ clause last vars (items_left found)
next_step last vars start found same some = by (token_at found.left) refl some
  where
    by : (o : Option (List ℕ × List ℕ)) → token_at found.left ≡ o → IsSome o → next_clause last vars (items_left start) ≡ clause last vars (items_left found)
    by None t h = absurd (cc)
    by (Some token) t h =
        let one : items_left found ≡ Word (record { line = found.line.number; text = token.0 }) ∷ items_left (record found { left = token.1 }) = items_left-some found token t in
        next-found last vars (items_left start) (record { line = found.line.number; text = token.0 }) (items_left (record found { left = token.1 })) (same ∙ one) ∙ ap (clause last vars) (sym one)

-- ---- what was read so far, in front of what is still to be read

pub onto-next : {A B : Type 0} (front : List A) (x : A) (read : Reading (List A × B)) → onto front (onto (x ∷ []) read) ≡ onto (front ++ (x ∷ [])) read
onto-next front x (Ok read) = ap (λ xs. Ok (xs, read.1)) (sym (append_assoc front (x ∷ []) read.0))
onto-next front x (Err e) = refl

-- a fault of what is still to be read is one of the whole
pub refused-onto : {A B : Type 0} (front : List A) (read whole : Reading (List A × B)) (refusal : Refusal FormulaKind) → onto front read ≡ whole → Refuses read refusal → Refuses whole refusal
refused-onto front read whole (At line kind) e h = sym e ∙ ap (onto front) h
refused-onto front read whole Memory e h = tt

pub one_more : (n i : ℕ) → i < n → n - i ≡ suc (n - (i + 1))
one_more n i more = omega arith

-- what the loop over the clauses keeps
pub record ClausesSoFar (vars n i : ℕ) (start now : Scanning) (hard : List (List Literal)) : Type 0 where
  pub same : onto hard (clauses now.last vars (n - i) (items_left now)) ≡ clauses start.last vars n (items_left start)
  pub over : AllByRecursion (AllByRecursion (IsOver vars)) hard
  pub last : now.last ≡ start.last

pub ClausesSoFar-next : {vars n i : ℕ} {start now after : Scanning} {hard longer : List (List Literal)} {lits pushed : List Literal} → ClausesSoFar vars n i start now hard → i < n
    → next_clause now.last vars (items_left now) ≡ Ok (lits, items_left after) → AllByRecursion (IsOver vars) lits
    → after.last ≡ now.last → pushed ≡ lits → longer ≡ hard ++ (pushed ∷ []) → ClausesSoFar vars n (i + 1) start after longer
ClausesSoFar-next {vars = vars} {n = n} {i = i} {start = start} {now = now} {after = after} {hard = hard} {lits = lits} h more is over last same grown =
    let first : clauses now.last vars (suc (n - (i + 1))) (items_left now) ≡ onto (lits ∷ []) (clauses now.last vars (n - (i + 1)) (items_left after)) =
    ap (λ r. r >>= λ first. clauses now.last vars (n - (i + 1)) first.1 >>= λ rest. Ok (first.0 ∷ rest.0, rest.1)) is in
    let next : ClausesSoFar vars n (i + 1) start after (hard ++ (lits ∷ [])) = record {
      same = sym (onto-next hard lits (clauses after.last vars (n - (i + 1)) (items_left after)))
          ∙ ap (λ end. onto hard (onto (lits ∷ []) (clauses end vars (n - (i + 1)) (items_left after)))) last
          ∙ ap (onto hard) (sym first)
          ∙ ap (λ m. onto hard (clauses now.last vars m (items_left now))) (sym (one_more n i more))
          ∙ h.same;
      over = each-push (AllByRecursion (IsOver vars)) hard lits h.over over;
      last = last ∙ h.last;
    } in
    subst (λ xs. ClausesSoFar vars n (i + 1) start after xs) (sym (grown ∙ ap (λ xs. hard ++ (xs ∷ [])) same)) next

refused-clauses : (last vars n : ℕ) (items : List Item) (refusal : Refusal FormulaKind) → Refuses (next_clause last vars items) refusal → Refuses (clauses last vars (suc n) items) refusal
refused-clauses last vars n items (At line kind) h = ap (λ r. r >>= λ first. clauses last vars n first.1 >>= λ rest. Ok (first.0 ∷ rest.0, rest.1)) h
refused-clauses last vars n items Memory h = tt

pub ClausesSoFar-fails : {vars n i : ℕ} {start now : Scanning} {hard : List (List Literal)} (refusal : Refusal FormulaKind) → ClausesSoFar vars n i start now hard → i < n
    → Refuses (next_clause now.last vars (items_left now)) refusal → Refuses (clauses start.last vars n (items_left start)) refusal
ClausesSoFar-fails {vars = vars} {n = n} {i = i} {start = start} {now = now} {hard = hard} refusal h more is =
    refused-onto hard (clauses now.last vars (suc (n - (i + 1))) (items_left now)) (clauses start.last vars n (items_left start)) refusal
    (ap (λ m. onto hard (clauses now.last vars m (items_left now))) (sym (one_more n i more)) ∙ h.same)
    (refused-clauses now.last vars (n - (i + 1)) (items_left now) refusal is)
