-- The clauses with weights of a text along a walk, and their parts.
use Rattle.std.proofs.Common.{◌≡◌, refl, sym, ◌∙◌, ap, ap₂, subst, ℕ, suc, ◌+◌, ◌-◌, ◌<◌, nat_lt, nat_le, ℤ, pos, nat_abs, int_lt, Bool, true, false, cond, List, [], ◌∷◌, ◌++◌, map, append_assoc, Ok, Err, Some, None, ◌≤ℤ◌, ◌<ℤ◌, arith}
use Rattle.std.proofs.lemmas.Int.{ints}
use Rattle.std.specs.List.{AllByRecursion, filter}
use Rattle.std.proofs.lemmas.Bool.{cond-true, cond-false}
use Rattle.asp_base.proofs.Each.{each-append}
use Rattle.asp_base.specs.Faults.{fault, ◌>>=◌, Refuses}
use Rattle.asp_base.specs.Literal.{Literal}
use Rattle.asp_base.specs.declared.faults.Refusal.{Refusal}
use Rattle.asp_base.specs.declared.faults.Refusal.TheVariants.{At, Memory}
use Rattle.asp_scan.specs.Scanning.{Scanning}
use Rattle.asp_scan.specs.Tokens.{number_of}
use Rattle.clause_store.specs.Facts.{IsOver}
use Rattle.clause_store.specs.declared.formula.SoftClause.{SoftClause}
use Rattle.dimacs_format.specs.Read.{Reading, Item, Word, Token, weight, clause, weighted, hard_of, soft_of}
use Rattle.dimacs_format.specs.private.Walks.{items_left, skipped, onto, parts_onto}
use Rattle.dimacs_format.specs.declared.kind.FormulaKind.{FormulaKind}
use Rattle.dimacs_format.specs.declared.kind.FormulaKind.TheVariants.{BadNumber, WrongCount, ZeroWeight}
use Rattle.dimacs_format.proofs.ClauseSteps.{one_more, NumberAt, NoNumberAt}
use Rattle.dimacs_format.proofs.Left.{weight-skipped}

-- ---- a weight

pub not_below : (n : ℤ) → pos 1 ≤ℤ n → int_lt n (pos 1) ≡ false
not_below n h = grind (arith, ints)

pub below : (n : ℤ) → n <ℤ pos 1 → int_lt n (pos 1) ≡ true
below n h = grind (arith, ints)

pub no_weight : (last : ℕ) (items : List Item) → skipped items ≡ [] → weight last items ≡ fault last WrongCount
no_weight last items e = sym (weight-skipped last items) ∙ ap (weight last) e

pub after_weight : (last : ℕ) (token : Token) (n : ℤ) (items : List Item) → number_of token.text ≡ Some n
    → weight last (Word token ∷ items) ≡ cond (int_lt n (pos 1)) (fault token.line ZeroWeight) (Ok (nat_abs n, items))
after_weight last token n items h =
    let k : ℤ → Reading (ℕ × List Item) = λ m. cond (int_lt m (pos 1)) (fault token.line ZeroWeight) (Ok (nat_abs m, items)) in
    ap (λ o. elim o as (λ x. Reading ℤ) [ None ↦ fault token.line BadNumber | Some m ↦ Ok m ] >>= k) h

module _ (last : ℕ) (start found new : Scanning) (n : ℤ) (number : NumberAt start found new n) where
  weight_step : weight last (items_left start) ≡ cond (int_lt n (pos 1)) (fault found.line.number ZeroWeight) (Ok (nat_abs n, items_left new))
  weight_step =
      sym (weight-skipped last (items_left start)) ∙ ap (weight last) number.at ∙ after_weight last number.token n (items_left new) number.value
      ∙ ap (λ line. cond (int_lt n (pos 1)) (fault line ZeroWeight) (Ok (nat_abs n, items_left new))) number.line

  pub weight_read : int_lt n (pos 1) ≡ false → (w : ℕ) → w ≡ nat_abs n → weight last (items_left start) ≡ Ok (w, items_left new)
  weight_read h w same = weight_step ∙ cond-false (int_lt n (pos 1)) _ _ h ∙ ap (λ k. Ok (k, items_left new)) (sym same)

  pub weight_below : int_lt n (pos 1) ≡ true → weight last (items_left start) ≡ fault found.line.number ZeroWeight
  weight_below h = weight_step ∙ cond-true (int_lt n (pos 1)) _ _ h

pub bad_weight : (last : ℕ) (start found : Scanning) → NoNumberAt start found → weight last (items_left start) ≡ fault found.line.number BadNumber
bad_weight last start found word =
    let k : ℤ → Reading (ℕ × List Item) = λ m. cond (int_lt m (pos 1)) (fault word.token.line ZeroWeight) (Ok (nat_abs m, word.rest)) in
    sym (weight-skipped last (items_left start)) ∙ ap (weight last) word.at
    ∙ ap (λ o. elim o as (λ x. Reading ℤ) [ None ↦ fault word.token.line BadNumber | Some m ↦ Ok m ] >>= k) word.none
    ∙ ap (λ n. fault n BadNumber) word.line

-- ---- a clause with its weight

abbrev pub then_clause : ℕ → ℕ → ℕ → Reading (ℕ × List Item) → Reading (List SoftClause × List Item)
then_clause last vars n read =
    read >>= λ first. clause last vars first.1 >>= λ lits. weighted last vars n lits.1 >>= λ rest. Ok (record { weight = first.0; lits = lits.0 } ∷ rest.0, rest.1)

abbrev pub then_rest : ℕ → ℕ → ℕ → ℕ → Reading (List Literal × List Item) → Reading (List SoftClause × List Item)
then_rest last vars n w read = read >>= λ lits. weighted last vars n lits.1 >>= λ rest. Ok (record { weight = w; lits = lits.0 } ∷ rest.0, rest.1)

module _ (last vars n : ℕ) (items : List Item) where
  pub weighted_step : (w : ℕ) (behind : List Item) (lits : List Literal) (left : List Item) → weight last items ≡ Ok (w, behind) → clause last vars behind ≡ Ok (lits, left)
      → weighted last vars (suc n) items ≡ onto (record { weight = w; lits = lits } ∷ []) (weighted last vars n left)
  weighted_step w behind lits left first second = ap (then_clause last vars n) first ∙ ap (then_rest last vars n w) second

  pub weight_fails : (refusal : Refusal FormulaKind) → Refuses (weight last items) refusal → Refuses (weighted last vars (suc n) items) refusal
  weight_fails (At line kind) h = ap (then_clause last vars n) h
  weight_fails Memory h = tt

  pub clause_fails : (w : ℕ) (behind : List Item) (refusal : Refusal FormulaKind) → weight last items ≡ Ok (w, behind) → Refuses (clause last vars behind) refusal → Refuses (weighted last vars (suc n) items) refusal
  clause_fails w behind (At line kind) first h = ap (then_clause last vars n) first ∙ ap (then_rest last vars n w) h
  clause_fails w behind Memory first h = tt

-- ---- parts

hard_of-more : (top : ℕ) (c : SoftClause) (cs : List SoftClause) → hard_of top (c ∷ cs) ≡ hard_of top (c ∷ []) ++ hard_of top cs
hard_of-more top c cs = by (nat_le top c.weight)
  where
    by : (b : Bool) → map (λ (x : SoftClause). x.lits) (cond b (c ∷ filter (λ (x : SoftClause). nat_le top x.weight) cs) (filter (λ (x : SoftClause). nat_le top x.weight) cs))
        ≡ map (λ (x : SoftClause). x.lits) (cond b (c ∷ []) []) ++ map (λ (x : SoftClause). x.lits) (filter (λ (x : SoftClause). nat_le top x.weight) cs)
    by true = refl
    by false = refl

soft_of-more : (top : ℕ) (c : SoftClause) (cs : List SoftClause) → soft_of top (c ∷ cs) ≡ soft_of top (c ∷ []) ++ soft_of top cs
soft_of-more top c cs = by (nat_lt c.weight top)
  where
    by : (b : Bool) → cond b (c ∷ filter (λ (x : SoftClause). nat_lt x.weight top) cs) (filter (λ (x : SoftClause). nat_lt x.weight top) cs) ≡ cond b (c ∷ []) [] ++ filter (λ (x : SoftClause). nat_lt x.weight top) cs
    by true = refl
    by false = refl

parts_onto-next : (top : ℕ) (hard : List (List Literal)) (soft : List SoftClause) (c : SoftClause) (read : Reading (List SoftClause × List Item))
    → parts_onto top hard soft (onto (c ∷ []) read) ≡ parts_onto top (hard ++ hard_of top (c ∷ [])) (soft ++ soft_of top (c ∷ [])) read
parts_onto-next top hard soft c (Ok read) =
    ap₂ (λ h s. Ok (h, s, read.1))
    (ap (λ cs. hard ++ cs) (hard_of-more top c read.0) ∙ sym (append_assoc hard (hard_of top (c ∷ [])) (hard_of top read.0)))
    (ap (λ cs. soft ++ cs) (soft_of-more top c read.0) ∙ sym (append_assoc soft (soft_of top (c ∷ [])) (soft_of top read.0)))
parts_onto-next top hard soft c (Err e) = refl

-- a fault of what is still to be read is one of the whole
refused-parts : (top : ℕ) (hard : List (List Literal)) (soft : List SoftClause) (read whole : Reading (List SoftClause × List Item)) (refusal : Refusal FormulaKind)
    → parts_onto top hard soft read ≡ parts_onto top [] [] whole → Refuses read refusal → Refuses whole refusal
refused-parts top hard soft read whole Memory e h = tt
refused-parts top hard soft read (Ok found) (At line kind) e h = absurd (let k : parts_onto top hard soft (fault line kind) ≡ parts_onto top [] [] (Ok found) = ap (parts_onto top hard soft) (sym h) ∙ e in cc)
refused-parts top hard soft read (Err f) (At line kind) e h =
    let k : parts_onto top hard soft (fault line kind) ≡ parts_onto top [] [] (Err f) = ap (parts_onto top hard soft) (sym h) ∙ e in
    sym (ap (λ r. elim r as (λ x. Reading (List SoftClause × List Item)) [ Ok x ↦ Ok ([], []) | Err g ↦ Err g ]) k)

abbrev pub IsSoft : ℕ → SoftClause → Type 0
IsSoft vars c = (0 < c.weight) × AllByRecursion (IsOver vars) c.lits

hard-over : (vars top : ℕ) (c : SoftClause) → AllByRecursion (IsOver vars) c.lits → AllByRecursion (AllByRecursion (IsOver vars)) (hard_of top (c ∷ []))
hard-over vars top c o = by (nat_le top c.weight)
  where
    by : (b : Bool) → AllByRecursion (AllByRecursion (IsOver vars)) (map (λ (x : SoftClause). x.lits) (cond b (c ∷ []) []))
    by true = (o, tt)
    by false = tt

soft-over : (vars top : ℕ) (c : SoftClause) → IsSoft vars c → AllByRecursion (IsSoft vars) (soft_of top (c ∷ []))
soft-over vars top c o = by (nat_lt c.weight top)
  where
    by : (b : Bool) → AllByRecursion (IsSoft vars) (cond b (c ∷ []) [])
    by true = (o, tt)
    by false = tt

-- what the loop over the clauses keeps
pub record PartsSoFar (vars top n i : ℕ) (start now : Scanning) (hard : List (List Literal)) (soft : List SoftClause) : Type 0 where
  pub same : parts_onto top hard soft (weighted now.last vars (n - i) (items_left now)) ≡ parts_onto top [] [] (weighted start.last vars n (items_left start))
  pub hard_over : AllByRecursion (AllByRecursion (IsOver vars)) hard
  pub soft_over : AllByRecursion (IsSoft vars) soft
  pub last : now.last ≡ start.last

pub PartsSoFar-next : {vars top n i : ℕ} {start now after : Scanning} {hard hard_after : List (List Literal)} {soft soft_after : List SoftClause} {w : ℕ} {lits pushed : List Literal} → PartsSoFar vars top n i start now hard soft → i < n
    → ((k : ℕ) → weighted now.last vars (suc k) (items_left now) ≡ onto (record { weight = w; lits = lits } ∷ []) (weighted now.last vars k (items_left after)))
    → 0 < w → AllByRecursion (IsOver vars) lits → after.last ≡ now.last → pushed ≡ lits
    → hard_after ≡ hard ++ hard_of top (record { weight = w; lits = pushed } ∷ []) → soft_after ≡ soft ++ soft_of top (record { weight = w; lits = pushed } ∷ [])
    → PartsSoFar vars top n (i + 1) start after hard_after soft_after
PartsSoFar-next {vars = vars} {top = top} {n = n} {i = i} {start = start} {now = now} {after = after} {hard = hard} {soft = soft} {soft_after = soft_after} {w = w} {lits = lits} h more is positive over last same hard_grown soft_grown =
    let c : SoftClause = record { weight = w; lits = lits } in
    let next : PartsSoFar vars top n (i + 1) start after (hard ++ hard_of top (c ∷ [])) (soft ++ soft_of top (c ∷ [])) = record {
      same = sym (parts_onto-next top hard soft c (weighted after.last vars (n - (i + 1)) (items_left after)))
          ∙ ap (λ end. parts_onto top hard soft (onto (c ∷ []) (weighted end vars (n - (i + 1)) (items_left after)))) last
          ∙ ap (parts_onto top hard soft) (sym (is (n - (i + 1))))
          ∙ ap (λ m. parts_onto top hard soft (weighted now.last vars m (items_left now))) (sym (one_more n i more))
          ∙ h.same;
      hard_over = each-append (AllByRecursion (IsOver vars)) hard (hard_of top (c ∷ [])) h.hard_over (hard-over vars top c over);
      soft_over = each-append (IsSoft vars) soft (soft_of top (c ∷ [])) h.soft_over (soft-over vars top c (positive, over));
      last = last ∙ h.last;
    } in
    let hard_is = hard_grown ∙ ap (λ ls. hard ++ hard_of top (record { weight = w; lits = ls } ∷ [])) same in
    let soft_is = soft_grown ∙ ap (λ ls. soft ++ soft_of top (record { weight = w; lits = ls } ∷ [])) same in
    subst (λ xs. PartsSoFar vars top n (i + 1) start after xs soft_after) (sym hard_is) (subst (λ ys. PartsSoFar vars top n (i + 1) start after (hard ++ hard_of top (c ∷ [])) ys) (sym soft_is) next)

pub PartsSoFar-fails : {vars top n i : ℕ} {start now : Scanning} {hard : List (List Literal)} {soft : List SoftClause} (refusal : Refusal FormulaKind) → PartsSoFar vars top n i start now hard soft → i < n
    → ((k : ℕ) → Refuses (weighted now.last vars (suc k) (items_left now)) refusal) → Refuses (weighted start.last vars n (items_left start)) refusal
PartsSoFar-fails {vars = vars} {top = top} {n = n} {i = i} {start = start} {now = now} {hard = hard} {soft = soft} refusal h more is =
    refused-parts top hard soft (weighted now.last vars (suc (n - (i + 1))) (items_left now)) (weighted start.last vars n (items_left start)) refusal
    (ap (λ m. parts_onto top hard soft (weighted now.last vars m (items_left now))) (sym (one_more n i more)) ∙ h.same) (is (n - (i + 1)))
