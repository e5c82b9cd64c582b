-- The calls for near numbers.
use Rattle.std.proofs.Common.{◌≡◌, sym, ◌∙◌, ap, ap₂, subst, ℕ, suc, ◌+◌, ◌*◌, ◌≤◌, ◌<◌, List, [], ◌∷◌, ◌++◌, map, length, drop, get_or, Option, arith}
use Rattle.std.proofs.Math.Seq.{drop-cons}
use Rattle.std.specs.List.{AllByRecursion}
use Rattle.asp_base.specs.Literal.{Literal, negation}
use Rattle.clause_store.specs.Additions.{IsSound}
use Rattle.clause_store.specs.Facts.{IsOver}
use Rattle.clause_store.specs.Stored.{Stored, with_clause, with_clauses}
use Rattle.asp_base.proofs.Each.{each-append, each-weaker}
use Rattle.clause_store.proofs.GateLaws.{literals-up}
use Rattle.level_ranking.specs.Encoding.{Row, negated_body, after_compared, compared, after_near, after_nears}
use Rattle.digit_gates.specs.DigitGates.{less_vars}
use Rattle.level_ranking.specs.declared.comparisons.First.TheVariants.{Other}
use Rattle.level_ranking.specs.private.Pairs.{paired, digits_in, CanSupport}
use Rattle.level_ranking.proofs.CompareLaws.{AreCompared, compared-are}
use Rattle.level_ranking.proofs.Pushed.{length-paired}
use Rattle.level_ranking.specs.private.Counts.{near_vars}
use Rattle.level_ranking.proofs.Supporting.{can-up}
use Rattle.level_ranking.proofs.Zeroing.{negated-over}

pub near-none : (r p : List Literal) (d : ℕ → List Literal) (body : Option Literal) (inside : List ℕ) (s : Stored) → inside ≡ []
    → with_clauses (map (λ l. negated_body body ++ (negation l ∷ [])) (drop 1 r)) s ≡ after_near r p d body inside s
near-none r p d body inside s e = ap (λ bs. after_near r p d body bs s) (sym e)

pub near-some : (r p : List Literal) (digits : List (List Literal)) (body : Option Literal) (inside : List ℕ) (s t : Stored) (clause : List Literal) → 0 < length inside
    → t ≡ after_compared (paired Other p digits inside) s → clause ≡ negated_body body ++ compared (paired Other p digits inside) s
    → with_clause clause t ≡ after_near r p (digits_in digits) body inside s
near-some r p digits body [] s t clause h e f = absurd (omega arith)
near-some r p digits body (b ∷ bs) s t clause h e f = ap₂ (λ c u. with_clause c u) f e

module _ (x : List Literal) (digits : List (List Literal)) (row : Row) (s : Stored) (sound : IsSound s) (can : CanSupport s.vars x digits row) where
  abbrev pairs : List (List Literal × List Literal)
  pairs = paired Other x digits row.inside

  are : AreCompared (length x) pairs s (after_compared pairs s) (compared pairs s)
  are = compared-are (length x) pairs s sound can.near

  pub near-over : (t : Stored) (clause : List Literal) → t ≡ after_compared pairs s → clause ≡ negated_body row.body ++ compared pairs s → AllByRecursion (IsOver t.vars) clause
  near-over t clause e f = rw (e, f)
      (each-append (IsOver (after_compared pairs s).vars) (negated_body row.body) (compared pairs s)
      (literals-up s.vars (after_compared pairs s).vars are.adds.extends.vars (negated_body row.body) (negated-over s.vars row.body can.body)) are.over)

  pub near-grows : (t : Stored) → t ≡ after_compared pairs s → (s.vars ≤ t.vars) × (t.vars ≤ s.vars + less_vars (length x) * length row.inside)
  near-grows t e = rw e (are.adds.extends.vars, subst (λ n. (after_compared pairs s).vars ≤ s.vars + less_vars (length x) * n) (length-paired Other x digits row.inside) are.adds.vars)

-- ---- the loop over rules

pub record Nearing (r x : List Literal) (digits : List (List Literal)) (rules : List Row) (first now : Stored) (i : ℕ) : Type 0 where
  pub store : after_nears r x (digits_in digits) (drop i rules) now ≡ after_nears r x (digits_in digits) rules first
  pub can : AllByRecursion (CanSupport now.vars x digits) (drop i rules)
  pub own : AllByRecursion (IsOver now.vars) r
  pub vars : now.vars + near_vars (length x) (drop i rules) ≤ first.vars + near_vars (length x) rules
  pub from : first.vars ≤ now.vars

module _ (r x : List Literal) (digits : List (List Literal)) (rules : List Row) (first now : Stored) (i : ℕ) (row : Row) (inside : i < length rules) (read : row ≡ get_or rules i row)
    (c : Nearing r x digits rules first now i) where
  at_rule : drop i rules ≡ row ∷ drop (suc i) rules
  at_rule = drop-cons rules i row inside ∙ ap (λ y. y ∷ drop (suc i) rules) (sym read)

  rest : AllByRecursion (CanSupport now.vars x digits) (row ∷ drop (suc i) rules)
  rest = subst (λ rs. AllByRecursion (CanSupport now.vars x digits) rs) at_rule c.can

  pub nearing-can : CanSupport now.vars x digits row
  nearing-can = rest.0

  pub nearing-room : (n : ℕ) → first.vars + near_vars (length x) rules < n → now.vars + less_vars (length x) * length row.inside < n
  nearing-room n h =
      let v : now.vars + near_vars (length x) (drop i rules) ≤ first.vars + near_vars (length x) rules = c.vars in
      let e : near_vars (length x) (drop i rules) ≡ less_vars (length x) * length row.inside + near_vars (length x) (drop (suc i) rules) = ap (near_vars (length x)) at_rule in
      omega arith

  pub nearing-next : (j : ℕ) → j ≡ suc i → (t : Stored) → t ≡ after_near r x (digits_in digits) row.body row.inside now → now.vars ≤ t.vars → t.vars ≤ now.vars + less_vars (length x) * length row.inside
      → Nearing r x digits rules first t j
  nearing-next j q t e up more =
      let v : now.vars + near_vars (length x) (drop i rules) ≤ first.vars + near_vars (length x) rules = c.vars in
      let g : near_vars (length x) (drop i rules) ≡ less_vars (length x) * length row.inside + near_vars (length x) (drop (suc i) rules) = ap (near_vars (length x)) at_rule in
      let b : first.vars ≤ now.vars = c.from in
      rw q (record {
        from = omega arith;
        store = ap (after_nears r x (digits_in digits) (drop (suc i) rules)) e ∙ (sym (ap (λ rs. after_nears r x (digits_in digits) rs now) at_rule) ∙ c.store);
        can = each-weaker (CanSupport now.vars x digits) (CanSupport t.vars x digits) (λ k o. can-up now.vars t.vars x digits k up o) (drop (suc i) rules) rest.1;
        own = literals-up now.vars t.vars up r c.own;
        vars = omega arith;
      })
