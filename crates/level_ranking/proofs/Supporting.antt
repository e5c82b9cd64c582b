-- The loop over supports: what is still to be done leads to the whole.
use Rattle.std.proofs.Common.{◌≡◌, refl, sym, ◌∙◌, ap, ap₂, subst, ℕ, suc, ◌+◌, ◌*◌, ◌≤◌, ◌<◌, List, [], ◌∷◌, ◌++◌, length, drop, get_or, arith, append_assoc}
use Rattle.std.proofs.Math.Seq.{drop-cons}
use Rattle.std.proofs.lemmas.List.{drop_all, append-nil}
use Rattle.std.specs.List.{AllByRecursion}
use Rattle.asp_base.specs.Literal.{Literal}
use Rattle.clause_store.specs.Facts.{IsOver}
use Rattle.clause_store.specs.Stored.{Stored}
use Rattle.clause_store.proofs.GateLaws.{literals-up}
use Rattle.asp_base.proofs.Each.{each-weaker, each-append}
use Rattle.digit_gates.specs.DigitGates.{less_vars}
use Rattle.level_ranking.specs.private.Counts.{support_vars}
use Rattle.level_ranking.specs.Encoding.{Row, body_list, support, after_support, supports_in, after_supports}
use Rattle.level_ranking.specs.declared.comparisons.First.TheVariants.{Own, Other}
use Rattle.level_ranking.specs.private.Pairs.{IsPair, paired, digits_in, CanSupport, CanRank}
use Rattle.level_ranking.proofs.CompareLaws.{pair-up}

pub can-up : (m n : ℕ) (x : List Literal) (digits : List (List Literal)) (row : Row) → m ≤ n → CanSupport m x digits row → CanSupport n x digits row
can-up m n x digits row h c = record {
  body = literals-up m n h (body_list row.body) c.body;
  places = c.places;
  below = pair-up (length x) m n h (paired Own x digits row.inside) c.below;
  near = pair-up (length x) m n h (paired Other x digits row.inside) c.near;
}

pub record Supporting (x : List Literal) (digits : List (List Literal)) (rules : List Row) (first now : Stored) (start supports : List Literal) (i : ℕ) : Type 0 where
  pub store : after_supports x (digits_in digits) (drop i rules) now ≡ after_supports x (digits_in digits) rules first
  pub literals : supports ++ supports_in x (digits_in digits) (drop i rules) now ≡ start ++ supports_in x (digits_in digits) rules first
  pub can : AllByRecursion (CanSupport now.vars x digits) (drop i rules)
  pub over : AllByRecursion (IsOver now.vars) supports
  pub from : first.vars ≤ now.vars
  pub vars : now.vars + support_vars (length x) (drop i rules) ≤ first.vars + support_vars (length x) rules

module _ (x : List Literal) (digits : List (List Literal)) (rules : List Row) (first now : Stored) (start supports : List Literal) (i : ℕ) (row : Row) (inside : i < length rules) (read : row ≡ get_or rules i row)
    (c : Supporting x digits rules first now start supports i) where
  here : drop i rules ≡ row ∷ drop (suc i) rules
  here = drop-cons rules i row inside ∙ ap (λ y. y ∷ drop (suc i) rules) (sym read)

  both : AllByRecursion (CanSupport now.vars x digits) (row ∷ drop (suc i) rules)
  both = subst (λ rs. AllByRecursion (CanSupport now.vars x digits) rs) here c.can

  pub supporting-can : CanSupport now.vars x digits row
  supporting-can = both.0

  pub supporting-room : (n : ℕ) → first.vars + support_vars (length x) rules < n → now.vars + less_vars (length x) * length row.inside + 1 < n
  supporting-room n h =
      let v : now.vars + support_vars (length x) (drop i rules) ≤ first.vars + support_vars (length x) rules = c.vars in
      let e : support_vars (length x) (drop i rules) ≡ (less_vars (length x) * length row.inside + 1) + support_vars (length x) (drop (suc i) rules) = ap (support_vars (length x)) here in
      omega arith

  pub supporting-next : (j : ℕ) → j ≡ suc i → (t : Stored) (l : Literal) → t ≡ after_support x (digits_in digits) row now → l ≡ support x (digits_in digits) row now
      → now.vars ≤ t.vars → t.vars ≤ now.vars + less_vars (length x) * length row.inside + 1 → IsOver t.vars l
      → Supporting x digits rules first t start (supports ++ (l ∷ [])) j
  supporting-next j q t l e f up more o =
      let v : now.vars + support_vars (length x) (drop i rules) ≤ first.vars + support_vars (length x) rules = c.vars in
      let g : support_vars (length x) (drop i rules) ≡ (less_vars (length x) * length row.inside + 1) + support_vars (length x) (drop (suc i) rules) = ap (support_vars (length x)) here in
      let b : first.vars ≤ now.vars = c.from in
      rw q (record {
        from = omega arith;
        store = ap (after_supports x (digits_in digits) (drop (suc i) rules)) e ∙ (sym (ap (λ rs. after_supports x (digits_in digits) rs now) here) ∙ c.store);
        literals = append_assoc supports (l ∷ []) (supports_in x (digits_in digits) (drop (suc i) rules) t)
            ∙ (ap₂ (λ k u. supports ++ (k ∷ supports_in x (digits_in digits) (drop (suc i) rules) u)) f e
            ∙ (sym (ap (λ rs. supports ++ supports_in x (digits_in digits) rs now) here) ∙ c.literals));
        can = each-weaker (CanSupport now.vars x digits) (CanSupport t.vars x digits) (λ r k. can-up now.vars t.vars x digits r up k) (drop (suc i) rules) both.1;
        over = each-append (IsOver t.vars) supports (l ∷ []) (literals-up now.vars t.vars up supports c.over) (o, tt);
        vars = omega arith;
      })

pub supporting-done : (x : List Literal) (digits : List (List Literal)) (rules : List Row) (first now : Stored) (start supports : List Literal) (i : ℕ) → length rules ≤ i → Supporting x digits rules first now start supports i
    → (now ≡ after_supports x (digits_in digits) rules first) × (supports ≡ start ++ supports_in x (digits_in digits) rules first)
supporting-done x digits rules first now start supports i h c =
    let d : drop i rules ≡ [] = drop_all i rules h in
    (ap (λ rs. after_supports x (digits_in digits) rs now) (sym d) ∙ c.store, sym (append-nil supports) ∙ (ap (λ rs. supports ++ supports_in x (digits_in digits) rs now) (sym d) ∙ c.literals))

pub supporting-few : (x : List Literal) (digits : List (List Literal)) (rules : List Row) (first now : Stored) (start supports : List Literal) (i : ℕ) → Supporting x digits rules first now start supports i
    → now.vars ≤ first.vars + support_vars (length x) rules
supporting-few x digits rules first now start supports i c = let v : now.vars + support_vars (length x) (drop i rules) ≤ first.vars + support_vars (length x) rules = c.vars in omega arith

-- an atom's rules can be supported by numbers below the one with the digits x
pub can-support : (n : ℕ) (x : List Literal) (digits : List (List Literal)) (row : Row) → 0 < length x → AllByRecursion (IsOver n) x → CanRank n (length x) digits row → CanSupport n x digits row
can-support n x digits row some o c = record {
  body = c.body;
  places = c.places;
  below = below row.inside c.counts c.over;
  near = near row.inside c.counts c.over;
}
  where
    below : (places : List ℕ) → AllByRecursion (λ i. length (digits_in digits i) ≡ length x) places → AllByRecursion (λ i. AllByRecursion (IsOver n) (digits_in digits i)) places → AllByRecursion (IsPair (length x) n) (paired Own x digits places)
    below [] e k = tt
    below (i ∷ places) e k = (record { some = some; first = refl; second = e.0; over_first = o; over_second = k.0 }, below places e.1 k.1)

    near : (places : List ℕ) → AllByRecursion (λ i. length (digits_in digits i) ≡ length x) places → AllByRecursion (λ i. AllByRecursion (IsOver n) (digits_in digits i)) places → AllByRecursion (IsPair (length x) n) (paired Other x digits places)
    near [] e k = tt
    near (i ∷ places) e k = (record { some = subst (λ m. 0 < m) (sym e.0) some; first = e.0; second = refl; over_first = k.0; over_second = o }, near places e.1 k.1)

pub rank-up : (m n w : ℕ) (digits : List (List Literal)) (row : Row) → m ≤ n → CanRank m w digits row → CanRank n w digits row
rank-up m n w digits row h c = record {
  body = literals-up m n h (body_list row.body) c.body;
  places = c.places;
  counts = c.counts;
  over = each-weaker _ _ (λ i o. literals-up m n h (digits_in digits i) o) row.inside c.over;
}

-- the same for all rules, at a later store and with other digits of as many
pub all-can : (m n : ℕ) (w : ℕ) (x : List Literal) (digits : List (List Literal)) (rules : List Row) → m ≤ n → length x ≡ w → 0 < w → AllByRecursion (IsOver n) x → AllByRecursion (CanRank m w digits) rules → AllByRecursion (CanSupport n x digits) rules
all-can m n w x digits rules h e some o c = each-weaker (CanRank m w digits) (CanSupport n x digits)
    (λ row k. can-support n x digits row (subst (λ j. 0 < j) (sym e) some) o (subst (λ j. CanRank n j digits row) (sym e) (rank-up m n w digits row h k))) rules c
