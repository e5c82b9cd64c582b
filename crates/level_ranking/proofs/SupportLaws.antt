-- What the calls for one rule ask of the store.
use Rattle.std.proofs.Common.{◌≡◌, sym, ap, subst, subst₂, suc, ◌+◌, ◌*◌, ◌≤◌, List, length, arith}
use Rattle.std.specs.List.{AllByRecursion}
use Rattle.asp_base.specs.Literal.{Literal}
use Rattle.clause_store.specs.Facts.{IsOver}
use Rattle.clause_store.specs.Additions.{Adds, IsSound}
use Rattle.clause_store.specs.Stored.{Stored, conjunction, after_conjunction}
use Rattle.asp_base.proofs.Each.{each-append}
use Rattle.clause_store.proofs.GateLaws.{literals-up, conjunction-is}
use Rattle.clause_store.proofs.AddLaws.{conjunction-adds}
use Rattle.digit_gates.specs.DigitGates.{less_vars}
use Rattle.level_ranking.specs.Encoding.{Row, body_list, after_compared, compared, support_inputs}
use Rattle.level_ranking.specs.declared.comparisons.First.TheVariants.{Own}
use Rattle.level_ranking.specs.private.Pairs.{paired, digits_in, CanSupport}
use Rattle.level_ranking.proofs.CompareLaws.{AreCompared, compared-are}
use Rattle.level_ranking.proofs.Pushed.{length-paired}

module _ (x : List Literal) (digits : List (List Literal)) (row : Row) (s : Stored) (sound : IsSound s) (can : CanSupport s.vars x digits row) where
  abbrev pairs : List (List Literal × List Literal)
  pairs = paired Own x digits row.inside

  are : AreCompared (length x) pairs s (after_compared pairs s) (compared pairs s)
  are = compared-are (length x) pairs s sound can.below

  pub support-over : AllByRecursion (IsOver (after_compared pairs s).vars) (support_inputs x (digits_in digits) row s)
  support-over = each-append (IsOver (after_compared pairs s).vars) (body_list row.body) (compared pairs s)
      (literals-up s.vars (after_compared pairs s).vars are.adds.extends.vars (body_list row.body) can.body) are.over

  pub support-vars : (after_compared pairs s).vars ≤ s.vars + less_vars (length x) * length row.inside
  support-vars = subst (λ n. (after_compared pairs s).vars ≤ s.vars + less_vars (length x) * n) (length-paired Own x digits row.inside) are.adds.vars

  abbrev inputs : List Literal
  inputs = support_inputs x (digits_in digits) row s

  pub support-over_literal : (l : Literal) (t : Stored) → t ≡ after_conjunction (support_inputs x (digits_in digits) row s) (after_compared pairs s) → l ≡ conjunction (support_inputs x (digits_in digits) row s) (after_compared pairs s)
      → IsOver t.vars l
  support-over_literal l t e f = subst₂ (λ n m. IsOver n m) (sym (ap (λ u. u.vars) e)) (sym f) (conjunction-is (after_compared pairs s) inputs support-over are.adds.sound).stands.over

  pub support-grows : (t : Stored) → t ≡ after_conjunction (support_inputs x (digits_in digits) row s) (after_compared pairs s) → (s.vars ≤ t.vars) × (t.vars ≤ s.vars + less_vars (length x) * length row.inside + 1)
  support-grows t e =
      let g : Adds 1 (suc (length inputs)) (after_compared pairs s) (after_conjunction inputs (after_compared pairs s)) = conjunction-adds inputs (after_compared pairs s) support-over are.adds.sound in
      let a : (after_compared pairs s).vars ≤ (after_conjunction inputs (after_compared pairs s)).vars = g.extends.vars in
      let b : (after_conjunction inputs (after_compared pairs s)).vars ≤ (after_compared pairs s).vars + 1 = g.vars in
      let u : s.vars ≤ (after_compared pairs s).vars = are.adds.extends.vars in
      let v : (after_compared pairs s).vars ≤ s.vars + less_vars (length x) * length row.inside = support-vars in
      rw e (omega arith, omega arith)
