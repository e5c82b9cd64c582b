-- Truth of literals and clauses under assignments that agree, and conjunctions: each gives one value
-- more to each assignment.
use Rattle.std.proofs.Common.{◌≡◌, refl, sym, ◌∙◌, ap, ap₂, subst, subst₂, ℕ, suc, ◌≤◌, ◌<◌, Bool, true, false, cond, not, ◌&&◌, ◌||◌, ◌==◌, List, [], ◌∷◌, ◌++◌, map, Option, Some, None, arith}
use Rattle.std.specs.List.{list_all, AllByRecursion, flat_map}
use Rattle.std.proofs.lemmas.Bool.{and_parts, and_from, true≢false, eqb-true, eq-eqb, ne_eqb, cond-true, cond-false}
use Rattle.std.proofs.lemmas.List.Folds.{list_all-append}
use Rattle.asp_base.specs.Literal.{Literal, Pos, Neg, negation, atom_of, same_literal}
use Rattle.asp_base.specs.Sets.{Set}
use Rattle.asp_base.proofs.Bools.{and_true}
use Rattle.asp_base.proofs.Each.{each-weaker, each-append, each-map}
use Rattle.asp_base.proofs.LiteralLaws.{equal_from_same, literal_holds-negation}
pub use Rattle.clause_store.specs.Additions.{IsSound}
use Rattle.clause_store.specs.Additions.{IsGate}
use Rattle.clause_store.specs.Extension.{Agree, Extends, StandsForAll}
use Rattle.clause_store.specs.Facts.{IsOver}
use Rattle.clause_store.specs.Models.{is_true, all_true, clause_true, clauses_true, IsAssignment}
use Rattle.clause_store.specs.Stored.{Stored, same_literals, find_known, gate_clauses, with_gate, gate_output, conjunction, after_conjunction}

-- ---- truth

pub is_true-agree : (n : ℕ) (A B : Set) → Agree n A B → (l : Literal) → IsOver n l → is_true l A ≡ is_true l B
is_true-agree n A B h (Pos a) o = h a o.1
is_true-agree n A B h (Neg a) o = ap not (h a o.1)

pub clause_true-agree : (n : ℕ) (A B : Set) → Agree n A B → (c : List Literal) → AllByRecursion (IsOver n) c → clause_true c A ≡ clause_true c B
clause_true-agree n A B h [] o = refl
clause_true-agree n A B h (l ∷ c) o = ap₂ ◌||◌ (is_true-agree n A B h l o.0) (clause_true-agree n A B h c o.1)

pub all_true-agree : (n : ℕ) (A B : Set) → Agree n A B → (c : List Literal) → AllByRecursion (IsOver n) c → all_true c A ≡ all_true c B
all_true-agree n A B h [] o = refl
all_true-agree n A B h (l ∷ c) o = ap₂ ◌&&◌ (is_true-agree n A B h l o.0) (all_true-agree n A B h c o.1)

pub clauses_true-agree : (n : ℕ) (A B : Set) → Agree n A B → (cs : List (List Literal)) → AllByRecursion (AllByRecursion (IsOver n)) cs → clauses_true cs A ≡ clauses_true cs B
clauses_true-agree n A B h [] o = refl
clauses_true-agree n A B h (c ∷ cs) o = ap₂ ◌&&◌ (clause_true-agree n A B h c o.0) (clauses_true-agree n A B h cs o.1)

not_and : (x y : Bool) → (not x || not y) ≡ not (x && y)
not_and true y = refl
not_and false y = refl

-- a clause of negations is false just where all are true
pub clause_true-negations : (lits : List Literal) (A : Set) → clause_true (map negation lits) A ≡ not (all_true lits A)
clause_true-negations [] A = refl
clause_true-negations (l ∷ lits) A = ap₂ ◌||◌ (literal_holds-negation l A) (clause_true-negations lits A) ∙ not_and (is_true l A) (all_true lits A)

pub clauses_true-flat_map : {X : Type 0} (f : X → List (List Literal)) (xs : List X) (A : Set) → clauses_true (flat_map f xs) A ≡ list_all (λ x. clauses_true (f x) A) xs
clauses_true-flat_map f [] A = refl
clauses_true-flat_map f (x ∷ xs) A =
    list_all-append (λ c. clause_true c A) (f x) (flat_map f xs) ∙ ap (λ b. clauses_true (f x) A && b) (clauses_true-flat_map f xs A)

pub clauses_true-front : (cs ds : List (List Literal)) (A : Set) → clauses_true (cs ++ ds) A ≡ true → clauses_true cs A ≡ true
clauses_true-front cs ds A h = (and_parts _ _ (sym (list_all-append (λ c. clause_true c A) cs ds) ∙ h)).0

pub clauses_true-back : (cs ds : List (List Literal)) (A : Set) → clauses_true (cs ++ ds) A ≡ true → clauses_true ds A ≡ true
clauses_true-back cs ds A h = (and_parts _ _ (sym (list_all-append (λ c. clause_true c A) cs ds) ∙ h)).1

pub clauses_true-both : (cs ds : List (List Literal)) (A : Set) → clauses_true cs A ≡ true → clauses_true ds A ≡ true → clauses_true (cs ++ ds) A ≡ true
clauses_true-both cs ds A h k = list_all-append (λ c. clause_true c A) cs ds ∙ and_from _ _ h k

-- ---- over which variables

pub IsOver-up : (m n : ℕ) → m ≤ n → (l : Literal) → IsOver m l → IsOver n l
IsOver-up m n h l o = (o.0, let k : atom_of l ≤ m = o.1 in omega arith)

pub literals-up : (m n : ℕ) → m ≤ n → (lits : List Literal) → AllByRecursion (IsOver m) lits → AllByRecursion (IsOver n) lits
literals-up m n h lits o = each-weaker _ _ (IsOver-up m n h) lits o

pub clauses-up : (m n : ℕ) → m ≤ n → (cs : List (List Literal)) → AllByRecursion (AllByRecursion (IsOver m)) cs → AllByRecursion (AllByRecursion (IsOver n)) cs
clauses-up m n h cs o = each-weaker _ _ (literals-up m n h) cs o

pub negation-over : (l : Literal) (n : ℕ) → IsOver n l → IsOver n (negation l)
negation-over (Pos a) n h = h
negation-over (Neg a) n h = h

pub negations-over : (lits : List Literal) (n : ℕ) → AllByRecursion (IsOver n) lits → AllByRecursion (IsOver n) (map negation lits)
negations-over lits n h = each-map _ negation lits (each-weaker _ _ (λ l o. negation-over l n o) lits h)

-- ---- equal lists of literals

pub same_literals-true : (xs ys : List Literal) → same_literals xs ys ≡ true → xs ≡ ys
same_literals-true [] [] e = refl
same_literals-true (x ∷ xs) (y ∷ ys) e =
    let k : (same_literal x y ≡ true) × (same_literals xs ys ≡ true) = and_parts _ _ e in ap₂ ◌∷◌ (equal_from_same x y k.0) (same_literals-true xs ys k.1)
same_literals-true [] (y ∷ ys) e = absurd (true≢false (sym e))
same_literals-true (x ∷ xs) [] e = absurd (true≢false (sym e))

-- ---- what the clauses of a conjunction say

-- x just where y
abbrev pub agree : Bool → Bool → Bool
agree x y = (not x || y) && (x || not y)

pub agree-same : (x y : Bool) → agree x y ≡ true → x ≡ y
agree-same true true e = refl
agree-same true false e = sym e
agree-same false true e = e
agree-same false false e = refl

pub same-agree : (x y : Bool) → x ≡ y → agree x y ≡ true
same-agree true true e = refl
same-agree true false e = sym e
same-agree false true e = e
same-agree false false e = refl

spread : (x y z : Bool) → ((not x || (y || false)) && (not x || z)) ≡ (not x || (y && z))
spread true true z = refl
spread true false z = refl
spread false y z = refl

pub at_least : (x : Bool) → true ≡ (not x || true)
at_least true = refl
at_least false = refl

pairs_say : (g : ℕ) (inputs : List Literal) (A : Set) → clauses_true (map (λ l. Neg g ∷ l ∷ []) inputs) A ≡ (not (A g) || all_true inputs A)
pairs_say g [] A = at_least (A g)
pairs_say g (l ∷ inputs) A =
    ap (λ b. (not (A g) || (is_true l A || false)) && b) (pairs_say g inputs A) ∙ spread (A g) (is_true l A) (all_true inputs A)

pub gate_clauses-say : (g : ℕ) (inputs : List Literal) (A : Set) → clauses_true (gate_clauses g inputs) A ≡ agree (A g) (all_true inputs A)
gate_clauses-say g inputs A =
    list_all-append (λ c. clause_true c A) (map (λ l. Neg g ∷ l ∷ []) inputs) ((Pos g ∷ map negation inputs) ∷ [])
    ∙ ap₂ ◌&&◌ (pairs_say g inputs A) (and_true _ ∙ ap (λ b. A g || b) (clause_true-negations inputs A))

unit_says : (x : Bool) → ((x || false) && true) ≡ agree x true
unit_says true = refl
unit_says false = refl

-- ---- extensions

pub Extends-same : (s : Stored) → Extends s s
Extends-same s = record { vars = omega arith; edges = refl; soft = refl; keeps = λ A t. t; some = λ A a t. (A, a, t, λ v h. refl); one = λ A B t u e. e }

pub Extends-compose : (s t u : Stored) → Extends s t → Extends t u → Extends s u
Extends-compose s t u x y =
    let low : s.vars ≤ t.vars = x.vars in
    let high : t.vars ≤ u.vars = y.vars in
    record {
      vars = omega arith;
      edges = y.edges ∙ x.edges;
      soft = y.soft ∙ x.soft;
      keeps = λ A h. x.keeps A (y.keeps A h);
      some = λ A a h.
          let mid : (B : Set) × IsAssignment t.vars B × (clauses_true t.hard B ≡ true) × Agree s.vars A B = x.some A a h in
          let top : (C : Set) × IsAssignment u.vars C × (clauses_true u.hard C ≡ true) × Agree t.vars mid.0 C = y.some mid.0 mid.1 mid.2 in
          (top.0, top.1, top.2, λ v k. mid.3 v k ∙ top.3 v (omega arith));
      one = λ A B h k e. y.one A B h k (x.one A B (y.keeps A h) (y.keeps B k) e);
    }

-- an assignment with a value for one more variable
abbrev pub with_value : ℕ → Bool → Set → Set
with_value g b A v = cond (v == g) b (A v)

pub with_value-agree : (n : ℕ) (b : Bool) (A : Set) → Agree n A (with_value (suc n) b A)
with_value-agree n b A v h = sym (cond-false (v == suc n) b (A v) (ne_eqb v (suc n) (λ e. omega arith)))

pub with_value-at : (n : ℕ) (b : Bool) (A : Set) → with_value (suc n) b A (suc n) ≡ b
with_value-at n b A = cond-true (suc n == suc n) b (A (suc n)) (eq-eqb (suc n) (suc n) refl)

pub with_value-over : (n : ℕ) (b : Bool) (A : Set) → IsAssignment n A → IsAssignment (suc n) (with_value (suc n) b A)
with_value-over n b A h v = go (v == suc n) refl
  where
    go : (q : Bool) → (v == suc n) ≡ q → cond q b (A v) ≡ true → (0 < v) × (v ≤ suc n)
    go true e t = let k : v ≡ suc n = eqb-true v (suc n) e in (omega arith, omega arith)
    go false e t = let k : (0 < v) × (v ≤ n) = h v t in let low : 0 < v = k.0 in let high : v ≤ n = k.1 in (low, omega arith)

-- what holds of the numbers up to n, and of the next one
pub up_to-next : (n v : ℕ) → v ≤ suc n → (P : ℕ → Type 0) → ((u : ℕ) → u ≤ n → P u) → P (suc n) → P v
up_to-next n v h P below here = go (v == suc n) refl
  where
    go : (q : Bool) → (v == suc n) ≡ q → P v
    go true e = subst P (sym (eqb-true v (suc n) e)) here
    go false e = below v (let d : v ≡ suc n → ⊥ = λ k. true≢false (sym (eq-eqb v (suc n) k) ∙ e) in omega arith)

-- one more variable, whose clauses say that it is what the earlier variables make it
pub Extends-variable : (s : Stored) (cs : List (List Literal)) (known : List (List Literal × ℕ)) (value : Set → Bool) → AllByRecursion (AllByRecursion (IsOver s.vars)) s.hard
    → ((A B : Set) → Agree s.vars A B → value A ≡ value B) → ((A : Set) → clauses_true cs A ≡ agree (A (suc s.vars)) (value A))
    → Extends s (record { vars = suc s.vars; hard = s.hard ++ cs; edges = s.edges; soft = s.soft; known = known })
Extends-variable s cs known value over same says =
    let is : (A : Set) → clauses_true (s.hard ++ cs) A ≡ true → A (suc s.vars) ≡ value A = λ A t. agree-same _ _ (sym (says A) ∙ clauses_true-back s.hard cs A t) in
    record {
      vars = omega arith;
      edges = refl;
      soft = refl;
      keeps = λ A t. clauses_true-front s.hard cs A t;
      some = λ A a t.
          let B : Set = with_value (suc s.vars) (value A) A in
          let agrees : Agree s.vars A B = with_value-agree s.vars (value A) A in (
            B,
            with_value-over s.vars (value A) A a,
            clauses_true-both s.hard cs B (sym (clauses_true-agree s.vars A B agrees s.hard over) ∙ t)
                (says B ∙ same-agree _ _ (with_value-at s.vars (value A) A ∙ same A B agrees)),
            agrees,
          );
      one = λ A B t u e v k. up_to-next s.vars v k (λ w. A w ≡ B w) e (is A t ∙ (same A B e ∙ sym (is B u)));
    }

-- what conjunctions mean stays so with more variables and clauses
pub known-more : (m n : ℕ) (cs ds : List (List Literal)) (known : List (List Literal × ℕ)) → m ≤ n → AllByRecursion (IsGate m cs) known → AllByRecursion (IsGate n (cs ++ ds)) known
known-more m n cs ds known h o = each-weaker _ _ (λ gate g. record {
  output = (g.output.0, let k : gate.1 ≤ m = g.output.1 in omega arith);
  says = λ A t. g.says A (clauses_true-front cs ds A t);
}) known o

-- a store with further clauses over its variables
pub IsSound-clauses : (s : Stored) (ds : List (List Literal)) → AllByRecursion (AllByRecursion (IsOver s.vars)) ds → IsSound s → IsSound (record s { hard = s.hard ++ ds })
IsSound-clauses s ds h x = record { over = each-append _ s.hard ds x.over h; known = known-more s.vars s.vars s.hard ds s.known (omega arith) x.known }

-- ---- conjunctions

gate_clauses-over : (n : ℕ) (inputs : List Literal) → AllByRecursion (IsOver n) inputs → AllByRecursion (AllByRecursion (IsOver (suc n))) (gate_clauses (suc n) inputs)
gate_clauses-over n inputs h =
    let more : AllByRecursion (IsOver (suc n)) inputs = literals-up n (suc n) (omega arith) inputs h in
    let here : IsOver (suc n) (Neg (suc n)) = (omega arith, omega arith) in
    each-append _ (map (λ l. Neg (suc n) ∷ l ∷ []) inputs) ((Pos (suc n) ∷ map negation inputs) ∷ [])
    (each-map _ (λ l. Neg (suc n) ∷ l ∷ []) inputs (each-weaker (IsOver (suc n)) (λ l. AllByRecursion (IsOver (suc n)) (Neg (suc n) ∷ l ∷ [])) (λ l o. (here, (o, tt))) inputs more))
    ((here, negations-over inputs (suc n) more), tt)

-- the literal stands for the conjunction of the inputs in the later store
pub record Conjunction (inputs : List Literal) (before after : Stored) (l : Literal) : Type 0 where
  pub sound : IsSound after
  pub stands : StandsForAll inputs before after l

-- the conjunction that is found is the one that is looked for
pub find_known-found : (vars : ℕ) (hard : List (List Literal)) (inputs : List Literal) (gates : List (List Literal × ℕ)) (g : ℕ) → AllByRecursion (IsGate vars hard) gates
    → find_known inputs gates ≡ Some g → IsGate vars hard (inputs, g)
find_known-found vars hard inputs [] g o e = absurd (cc)
find_known-found vars hard inputs (gate ∷ gates) g o e = go (same_literals gate.0 inputs) refl e (λ t. find_known-found vars hard inputs gates g o.1 t)
  where
    go : (q : Bool) → same_literals gate.0 inputs ≡ q → cond q (Some gate.1) (find_known inputs gates) ≡ Some g
        → (find_known inputs gates ≡ Some g → IsGate vars hard (inputs, g)) → IsGate vars hard (inputs, g)
    go true s t rest =
        let j : gate.1 ≡ g = cc in
        let k : gate.0 ≡ inputs = same_literals-true gate.0 inputs s in
        subst₂ (λ x y. IsGate vars hard (x, y)) k j o.0
    go false s t rest = rest t

-- one more variable, by whose clauses it is true just where all inputs are
by_clauses : (s : Stored) (inputs : List Literal) (cs : List (List Literal)) (known : List (List Literal × ℕ)) → AllByRecursion (IsOver s.vars) inputs → IsSound s
    → AllByRecursion (AllByRecursion (IsOver (suc s.vars))) cs → ((A : Set) → clauses_true cs A ≡ agree (A (suc s.vars)) (all_true inputs A))
    → (IsGate (suc s.vars) (s.hard ++ cs) (inputs, suc s.vars) → AllByRecursion (IsGate (suc s.vars) (s.hard ++ cs)) known)
    → Conjunction inputs s (record { vars = suc s.vars; hard = s.hard ++ cs; edges = s.edges; soft = s.soft; known = known }) (Pos (suc s.vars))
by_clauses s inputs cs known h x over says gates =
    let here : IsGate (suc s.vars) (s.hard ++ cs) (inputs, suc s.vars) = record {
      output = (omega arith, omega arith);
      says = λ A t. agree-same _ _ (sym (says A) ∙ clauses_true-back s.hard cs A t);
    } in
    record {
      sound = record { over = each-append _ s.hard cs (clauses-up s.vars (suc s.vars) (omega arith) s.hard x.over) over; known = gates here };
      stands = record {
        extends = Extends-variable s cs known (all_true inputs) x.over (λ A B agrees. all_true-agree s.vars A B agrees inputs h) says;
        over = here.output;
        literal = here.says;
      };
    }

pub new_gate : (s : Stored) (inputs : List Literal) → AllByRecursion (IsOver s.vars) inputs → IsSound s → Conjunction inputs s (with_gate inputs s None) (Pos (suc s.vars))
new_gate s inputs h x =
    let g : ℕ = suc s.vars in
    let cs : List (List Literal) = gate_clauses g inputs in
    by_clauses s inputs cs (s.known ++ ((inputs, g) ∷ [])) h x (gate_clauses-over s.vars inputs h) (gate_clauses-say g inputs)
    (λ here. each-append _ s.known ((inputs, g) ∷ []) (known-more s.vars g s.hard cs s.known (omega arith) x.known) (here, tt))

pub by_gate : (s : Stored) (inputs : List Literal) → AllByRecursion (IsOver s.vars) inputs → IsSound s
    → (found : Option ℕ) → find_known inputs s.known ≡ found → Conjunction inputs s (with_gate inputs s found) (Pos (gate_output s found))
by_gate s inputs h x (Some g) e =
    let o : IsGate s.vars s.hard (inputs, g) = find_known-found s.vars s.hard inputs s.known g x.known e in
    record { sound = x; stands = record { extends = Extends-same s; over = o.output; literal = λ A t. o.says A t } }
by_gate s inputs h x None e = new_gate s inputs h x

of_none : (s : Stored) → IsSound s → Conjunction [] s (after_conjunction [] s) (conjunction [] s)
of_none s x =
    by_clauses s [] ((Pos (suc s.vars) ∷ []) ∷ []) s.known tt x (((omega arith, omega arith), tt), tt) (λ A. unit_says (A (suc s.vars)))
    (λ here. known-more s.vars (suc s.vars) s.hard ((Pos (suc s.vars) ∷ []) ∷ []) s.known (omega arith) x.known)

pub conjunction-is : (s : Stored) (inputs : List Literal) → AllByRecursion (IsOver s.vars) inputs → IsSound s → Conjunction inputs s (after_conjunction inputs s) (conjunction inputs s)
conjunction-is s [] h x = of_none s x
conjunction-is s (l ∷ []) h x = record { sound = x; stands = record { extends = Extends-same s; over = h.0; literal = λ A t. sym (and_true (is_true l A)) } }
conjunction-is s (l ∷ k ∷ lits) h x = by_gate s (l ∷ k ∷ lits) h x (find_known (l ∷ k ∷ lits) s.known) refl
