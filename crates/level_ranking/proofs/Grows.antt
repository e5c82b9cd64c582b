-- How a store grows by variables and clauses behind the earlier ones, whatever the clauses say.
use Rattle.std.proofs.Common.{◌≡◌, refl, ◌∙◌, ap, subst, sym, ℕ, ◌+◌, ◌≤◌, ◌<◌, true, List, ◌++◌, length, ⊎_elim, arith, length-append, append_assoc}
use Rattle.std.specs.List.{AllByRecursion}
use Rattle.std.proofs.lemmas.Bool.{cases_lt}
use Rattle.asp_base.specs.Literal.{Literal}
use Rattle.asp_base.specs.Sets.{Set}
use Rattle.clause_store.specs.Additions.{IsSound, Adds, stands_in}
use Rattle.clause_store.specs.Facts.{IsOver}
use Rattle.clause_store.specs.Models.{clauses_true}
use Rattle.clause_store.specs.Stored.{Stored, with_clauses}
use Rattle.clause_store.proofs.GateLaws.{IsSound-clauses, clauses_true-front}
use Rattle.clause_store.proofs.AddLaws.{Adds-nothing, stands-front}

-- at most m variables and n clauses more, and each new variable stands in a clause
pub record Grows (m n : ℕ) (s t : Stored) : Type 0 where
  pub up : s.vars ≤ t.vars
  pub edges : t.edges ≡ s.edges
  pub soft : t.soft ≡ s.soft
  pub sound : IsSound t
  pub behind : (cs : List (List Literal)) × (t.hard ≡ s.hard ++ cs)
  pub vars : t.vars ≤ s.vars + m
  pub clauses : length t.hard ≤ length s.hard + n
  pub stand : (v : ℕ) → s.vars < v → v ≤ t.vars → stands_in v t.hard ≡ true
  pub keeps : (A : Set) → clauses_true t.hard A ≡ true → clauses_true s.hard A ≡ true

pub grows-adds : (m n : ℕ) (s t : Stored) → Adds m n s t → Grows m n s t
grows-adds m n s t a = record {
  up = a.extends.vars;
  edges = a.extends.edges;
  soft = a.extends.soft;
  sound = a.sound;
  behind = a.behind;
  vars = a.vars;
  clauses = a.clauses;
  stand = a.stand;
  keeps = a.extends.keeps;
}

pub grows-nothing : (s : Stored) → IsSound s → Grows 0 0 s s
grows-nothing s x = grows-adds 0 0 s s (Adds-nothing s x)

-- clauses over what stands in the store
pub grows-clauses : (n : ℕ) (s : Stored) (cs : List (List Literal)) → IsSound s → AllByRecursion (AllByRecursion (IsOver s.vars)) cs → length cs ≤ n → Grows 0 n s (with_clauses cs s)
grows-clauses n s cs x over few = record {
  up = omega arith;
  edges = refl;
  soft = refl;
  sound = IsSound-clauses s cs over x;
  behind = (cs, refl);
  vars = omega arith;
  clauses = let c : length (s.hard ++ cs) ≡ length s.hard + length cs = length-append s.hard cs in omega arith;
  stand = λ v g k. absurd (omega arith);
  keeps = λ A k. clauses_true-front s.hard cs A k;
}

-- with larger numbers
pub grows-more : (m n k l : ℕ) (s t : Stored) → m ≤ k → n ≤ l → Grows m n s t → Grows k l s t
grows-more m n k l s t g h x = record {
  up = x.up;
  edges = x.edges;
  soft = x.soft;
  sound = x.sound;
  behind = x.behind;
  vars = let v : t.vars ≤ s.vars + m = x.vars in omega arith;
  clauses = let c : length t.hard ≤ length s.hard + n = x.clauses in omega arith;
  stand = x.stand;
  keeps = x.keeps;
}

pub grows-compose : (m n k l : ℕ) (s t u : Stored) → Grows m n s t → Grows k l t u → Grows (m + k) (n + l) s u
grows-compose m n k l s t u x y = record {
  up = let low : s.vars ≤ t.vars = x.up in let high : t.vars ≤ u.vars = y.up in omega arith;
  edges = y.edges ∙ x.edges;
  soft = y.soft ∙ x.soft;
  sound = y.sound;
  behind = (x.behind.0 ++ y.behind.0, y.behind.1 ∙ (ap (λ cs. cs ++ y.behind.0) x.behind.1 ∙ append_assoc s.hard x.behind.0 y.behind.0));
  vars = let v : t.vars ≤ s.vars + m = x.vars in let w : u.vars ≤ t.vars + k = y.vars in omega arith;
  clauses = let c : length t.hard ≤ length s.hard + n = x.clauses in let d : length u.hard ≤ length t.hard + l = y.clauses in omega arith;
  stand = λ v g h. ⊎_elim (λ e. y.stand v e h)
      (λ e. subst (λ cs. stands_in v cs ≡ true) (sym y.behind.1) (stands-front v t.hard y.behind.0 (x.stand v g e)))
      (cases_lt t.vars v);
  keeps = λ A h. x.keeps A (y.keeps A h);
}
