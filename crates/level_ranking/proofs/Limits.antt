-- Variables with one value each and clauses that limit the earlier variables, added to a store.
use Rattle.std.proofs.Common.{◌≡◌, refl, sym, ◌∙◌, ap₂, ℕ, ◌+◌, ◌≤◌, Bool, true, ◌&&◌, List, length, arith}
use Rattle.std.specs.List.{AllByRecursion}
use Rattle.std.proofs.lemmas.Bool.{and_parts, and_from}
use Rattle.asp_base.specs.Literal.{Literal}
use Rattle.asp_base.specs.Sets.{Set}
use Rattle.clause_store.specs.Extension.{Agree}
use Rattle.clause_store.specs.Additions.{IsSound, Adds}
use Rattle.clause_store.specs.Facts.{IsOver}
use Rattle.clause_store.specs.Models.{clauses_true, IsAssignment}
use Rattle.clause_store.specs.Stored.{Stored, with_clauses}
use Rattle.clause_store.proofs.GateLaws.{clauses_true-front, clauses_true-back, clauses_true-both}
use Rattle.clause_store.proofs.AddLaws.{Adds-nothing}
use Rattle.level_ranking.proofs.Grows.{Grows, grows-adds, grows-clauses, grows-more, grows-compose}

-- Of the assignments that the earlier clauses take, those have an extension that meet a test of the first n0 variables, and
-- just one.
pub record Limits (n0 m n : ℕ) (test : Set → Bool) (s t : Stored) : Type 0 where
  pub base : n0 ≤ s.vars
  pub grows : Grows m n s t
  pub only : (A : Set) → clauses_true t.hard A ≡ true → test A ≡ true
  pub local : (A B : Set) → Agree n0 A B → test A ≡ test B
  pub some : (A : Set) → IsAssignment s.vars A → clauses_true s.hard A ≡ true → test A ≡ true → (B : Set) × IsAssignment t.vars B × (clauses_true t.hard B ≡ true) × Agree s.vars A B
  pub one : (A B : Set) → clauses_true t.hard A ≡ true → clauses_true t.hard B ≡ true → Agree s.vars A B → Agree t.vars A B

pub limits-adds : (n0 m n : ℕ) (s t : Stored) → n0 ≤ s.vars → Adds m n s t → Limits n0 m n (λ A. true) s t
limits-adds n0 m n s t h a = record {
  base = h;
  grows = grows-adds m n s t a;
  only = λ A k. refl;
  local = λ A B k. refl;
  some = λ A o k p. a.extends.some A o k;
  one = a.extends.one;
}

pub limits-nothing : (n0 : ℕ) (s : Stored) → n0 ≤ s.vars → IsSound s → Limits n0 0 0 (λ A. true) s s
limits-nothing n0 s h x = limits-adds n0 0 0 s s h (Adds-nothing s x)

-- clauses over what stands in the store, which say what the test says
pub limits-clauses : (n0 n : ℕ) (test : Set → Bool) (s : Stored) (cs : List (List Literal)) → n0 ≤ s.vars → IsSound s → AllByRecursion (AllByRecursion (IsOver s.vars)) cs → length cs ≤ n
    → ((A B : Set) → Agree n0 A B → test A ≡ test B) → ((A : Set) → clauses_true s.hard A ≡ true → clauses_true cs A ≡ test A) → Limits n0 0 n test s (with_clauses cs s)
limits-clauses n0 n test s cs h x over few local says = record {
  base = h;
  grows = grows-clauses n s cs x over few;
  only = λ A k. sym (says A (clauses_true-front s.hard cs A k)) ∙ clauses_true-back s.hard cs A k;
  local = local;
  some = λ A o k p. (A, o, clauses_true-both s.hard cs A k (says A k ∙ p), λ v l. refl);
  one = λ A B k l e. e;
}

-- the same test in other words, and larger numbers
pub limits-more : (n0 m n k l : ℕ) (p q : Set → Bool) (s t : Stored) → m ≤ k → n ≤ l → ((A : Set) → p A ≡ q A) → Limits n0 m n p s t → Limits n0 k l q s t
limits-more n0 m n k l p q s t g h e x = record {
  base = x.base;
  grows = grows-more m n k l s t g h x.grows;
  only = λ A j. sym (e A) ∙ x.only A j;
  local = λ A B j. sym (e A) ∙ (x.local A B j ∙ e B);
  some = λ A o j i. x.some A o j (e A ∙ i);
  one = x.one;
}

pub limits-compose : (n0 m n k l : ℕ) (p q : Set → Bool) (s t u : Stored) → Limits n0 m n p s t → Limits n0 k l q t u → Limits n0 (m + k) (n + l) (λ A. p A && q A) s u
limits-compose n0 m n k l p q s t u x y =
    let low : s.vars ≤ t.vars = x.grows.up in
    let base : n0 ≤ s.vars = x.base in
    record {
      base = x.base;
      grows = grows-compose m n k l s t u x.grows y.grows;
      only = λ A h. and_from _ _ (x.only A (y.grows.keeps A h)) (y.only A h);
      local = λ A B h. ap₂ ◌&&◌ (x.local A B h) (y.local A B h);
      some = λ A o h j.
          let both : (p A ≡ true) × (q A ≡ true) = and_parts _ _ j in
          let mid : (B : Set) × IsAssignment t.vars B × (clauses_true t.hard B ≡ true) × Agree s.vars A B = x.some A o h both.0 in
          let low_agree : Agree n0 A mid.0 = λ v g. mid.3 v (omega arith) in
          let top : (C : Set) × IsAssignment u.vars C × (clauses_true u.hard C ≡ true) × Agree t.vars mid.0 C = y.some mid.0 mid.1 mid.2 (sym (y.local A mid.0 low_agree) ∙ both.1) in
          (top.0, top.1, top.2, λ v g. mid.3 v g ∙ top.3 v (omega arith));
      one = λ A B h j e. y.one A B h j (x.one A B (y.grows.keeps A h) (y.grows.keeps B j) e);
    }
