-- Edges under literals that stand for their conditions give the graph of the program, and what defines these literals extends a
-- store.
use Rattle.std.proofs.Common.{◌≡◌, refl, sym, ◌∙◌, ap, ap₂, subst, ℕ, suc, ℤ, ◌+◌, ◌≤◌, Bool, true, false, ◌&&◌, ◌||◌, List, [], ◌∷◌, ◌++◌, length, Result, Ok, Err, OnOk, arith}
use Rattle.std.specs.List.{list_any, sum_by, AllByRecursion}
use Rattle.std.specs.Ordering.{int_eq}
use Rattle.std.proofs.lemmas.List.{length-append, length-map}
use Rattle.std.proofs.lemmas.List.Sums.{sum_by-cons}
use Rattle.asp_base.specs.Literal.{Literal}
use Rattle.asp_base.specs.Sets.{Set}
use Rattle.ground_program.specs.Stable.{edge_joins}
use Rattle.ground_program.specs.declared.program.Edge.{Edge}
use Rattle.clause_store.specs.Additions.{IsSound, Adds}
use Rattle.clause_store.specs.Extension.{Agree, StandsForAll}
use Rattle.clause_store.specs.Facts.{IsOver}
use Rattle.clause_store.specs.Models.{is_true, clauses_true, linked, IsAssignment}
use Rattle.clause_store.specs.Stored.{Stored, after_conjunction}
use Rattle.clause_store.specs.declared.formula.LitEdge.{LitEdge}
use Rattle.clause_store.proofs.AddLaws.{conjunction-adds}
use Rattle.completion.specs.Completion.{atoms_at}
use Rattle.clause_store.proofs.GateLaws.{literals-up}
use Rattle.ground_program.specs.Facts.{Among, LiteralsFit}
use Rattle.completion.proofs.Places.{all-over, all_true-over}
use Rattle.sat_translation.specs.InputMap.{literals_over}
use Rattle.acyc_translation.specs.private.Linked.{Defines, LinksOne, Linked}

-- ---- stores

pub Defines-nothing : (s : Stored) → Defines 0 0 s s
Defines-nothing s = record {
  grows = omega arith;
  vars = omega arith;
  hard = omega arith;
  soft = refl;
  keeps = λ A t. t;
  some = λ A a t. (A, a, t, λ v l. refl);
  one = λ A B t u e. e;
}

pub Defines-compose : (m n k l : ℕ) (s t u : Stored) → Defines m n s t → Defines k l t u → Defines (m + k) (n + l) s u
Defines-compose m n k l s t u d e =
    let dg : s.vars ≤ t.vars = d.grows in
    let eg : t.vars ≤ u.vars = e.grows in
    let dv : t.vars ≤ s.vars + m = d.vars in
    let ev : u.vars ≤ t.vars + k = e.vars in
    let dh : length t.hard ≤ length s.hard + n = d.hard in
    let eh : length u.hard ≤ length t.hard + l = e.hard in
    record {
      grows = omega arith;
      vars = omega arith;
      hard = omega arith;
      soft = e.soft ∙ d.soft;
      keeps = λ A h. d.keeps A (e.keeps A h);
      some = λ A a h.
          let B : (B : Set) × IsAssignment t.vars B × (clauses_true t.hard B ≡ true) × Agree s.vars A B = d.some A a h in
          let C : (C : Set) × IsAssignment u.vars C × (clauses_true u.hard C ≡ true) × Agree t.vars B.0 C = e.some B.0 B.1 B.2 in
          (C.0, C.1, C.2, λ v w. B.3 v w ∙ C.3 v (omega arith));
      one = λ A B h i same. e.one A B h i (d.one A B (e.keeps A h) (e.keeps B i) same);
    }

-- ---- one edge

-- the literal of a condition, and the edge under it
pub links-one : (atoms : List ℕ) (edge : Edge) (s t u : Stored) (l : Literal) → IsSound s → AllByRecursion (IsOver s.vars) (literals_over atoms edge.condition)
    → StandsForAll (literals_over atoms edge.condition) s t l → t ≡ after_conjunction (literals_over atoms edge.condition) s
    → u ≡ record t { edges = t.edges ++ (record { from = edge.from; to = edge.to; lit = l } ∷ []) }
    → LinksOne atoms edge s u
links-one atoms edge s t u l sound over stands after is =
    subst (LinksOne atoms edge s) (sym is) made
  where
    lits : List Literal
    lits = literals_over atoms edge.condition

    counts : Adds 1 (suc (length lits)) s (after_conjunction lits s)
    counts = conjunction-adds lits s over sound

    counted : Adds 1 (suc (length lits)) s t
    counted = subst (Adds 1 (suc (length lits)) s) (sym after) counts

    made : LinksOne atoms edge s (record t { edges = t.edges ++ (record { from = edge.from; to = edge.to; lit = l } ∷ []) })
    made =
        let v : t.vars ≤ s.vars + 1 = counted.vars in
        let c : length t.hard ≤ length s.hard + suc (length (literals_over atoms edge.condition)) = counted.clauses in
        let e : length (literals_over atoms edge.condition) ≡ length edge.condition = length-map edge.condition _ in
        record {
          defines = record {
            grows = stands.extends.vars;
            vars = v;
            hard = omega arith;
            soft = stands.extends.soft;
            keeps = stands.extends.keeps;
            some = stands.extends.some;
            one = stands.extends.one;
          };
          lit = l;
          behind = ap (λ es. es ++ (record { from = edge.from; to = edge.to; lit = l } ∷ [])) stands.extends.edges;
          says = λ A h. stands.literal A h ∙ all_true-over atoms edge.condition A;
        }

pub links-after : {E : Type 0} (atoms : List ℕ) (edge : Edge) (lits : List Literal) (s t u : Stored) (l : Literal) (from to : ℤ) (r : Result (Unit {0}) E) → lits ≡ edge.condition
    → from ≡ edge.from → to ≡ edge.to → length atoms ≤ s.vars → LiteralsFit (Among atoms) edge.condition → IsSound s
    → StandsForAll (literals_over atoms lits) s t l → t ≡ after_conjunction (literals_over atoms lits) s
    → OnOk r (u ≡ record t { edges = t.edges ++ (record { from = from; to = to; lit = l } ∷ []) }) → OnOk r (LinksOne atoms edge s u)
links-after atoms edge lits s t u l from to (Err e) same a b up fit sound stands after is = is
links-after atoms edge lits s t u l from to (Ok x) same a b up fit sound stands after is =
    links-one atoms edge s t u l sound (literals-up (length atoms) s.vars up (literals_over atoms edge.condition) (all-over atoms edge.condition fit))
    (subst (λ ls. StandsForAll (literals_over atoms ls) s t l) same stands) (after ∙ ap (λ ls. after_conjunction (literals_over atoms ls) s) same)
    (is ∙ ap₂ (λ f g. record t { edges = t.edges ++ (record { from = f; to = g; lit = l } ∷ []) }) a b)

-- ---- the edges

any-snoc : {X : Type 0} (f : X → Bool) (xs : List X) (x : X) → list_any f (xs ++ (x ∷ [])) ≡ (list_any f xs || f x)
any-snoc f [] x = one (f x)
  where
    one : (b : Bool) → (b || false) ≡ (false || b)
    one true = refl
    one false = refl
any-snoc f (y ∷ xs) x = ap (λ b. f y || b) (any-snoc f xs x) ∙ turn (f y) (list_any f xs) (f x)
  where
    turn : (a b c : Bool) → (a || (b || c)) ≡ ((a || b) || c)
    turn true b c = refl
    turn false b c = refl

sum-snoc : (xs : List Edge) (x : Edge) → sum_by (λ edge. 1 + length edge.condition) (xs ++ (x ∷ [])) ≡ sum_by (λ edge. 1 + length edge.condition) xs + (1 + length x.condition)
sum-snoc [] x = refl
sum-snoc (y ∷ xs) x =
    let a : sum_by (λ edge. 1 + length edge.condition) (y ∷ (xs ++ (x ∷ []))) ≡ 1 + length y.condition + sum_by (λ edge. 1 + length edge.condition) (xs ++ (x ∷ [])) = sum_by-cons _ y (xs ++ (x ∷ [])) in
    let b : sum_by (λ edge. 1 + length edge.condition) (y ∷ xs) ≡ 1 + length y.condition + sum_by (λ edge. 1 + length edge.condition) xs = sum_by-cons _ y xs in
    let c : sum_by (λ edge. 1 + length edge.condition) (xs ++ (x ∷ [])) ≡ sum_by (λ edge. 1 + length edge.condition) xs + (1 + length x.condition) = sum-snoc xs x in
    omega arith

pub Linked-nothing : (atoms : List ℕ) (s : Stored) → s.edges ≡ [] → Linked atoms [] s s
Linked-nothing atoms s e = record { defines = Defines-nothing s; graph = λ A h u v. ap (λ es. linked es A u v) e }

pub Linked-next : (atoms : List ℕ) (edges : List Edge) (edge : Edge) (s t u : Stored) → Linked atoms edges s t → LinksOne atoms edge t u → Linked atoms (edges ++ (edge ∷ [])) s u
Linked-next atoms edges edge s t u h one =
    let both : Defines (length edges + 1) (sum_by (λ e. 1 + length e.condition) edges + (1 + length edge.condition)) s u =
    Defines-compose (length edges) _ 1 _ s t u h.defines one.defines in
    record {
      defines = subst (λ n. Defines n (sum_by (λ e. 1 + length e.condition) (edges ++ (edge ∷ []))) s u) (sym (length-append edges (edge ∷ [])))
          (subst (λ n. Defines (length edges + 1) n s u) (sym (sum-snoc edges edge)) both);
      graph = λ A c x y.
          let own : LitEdge = record { from = edge.from; to = edge.to; lit = one.lit } in
          ap (λ es. linked es A x y) one.behind
          ∙ (any-snoc (λ e. int_eq e.from x && (int_eq e.to y && is_true e.lit A)) t.edges own
          ∙ (ap₂ ◌||◌ (h.graph A (one.defines.keeps A c) x y) (ap (λ b. int_eq edge.from x && (int_eq edge.to y && b)) (one.says A c))
          ∙ sym (any-snoc (λ e. edge_joins e (atoms_at atoms A) x y) edges edge)));
    }
