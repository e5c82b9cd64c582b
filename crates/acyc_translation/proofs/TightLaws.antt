-- Where no atom of a program of normal rules depends on itself, its supported sets are its founded sets (F. Fages, Consistency of
-- Clark's completion and existence of stable models, 1994); so the completion with its edges has the stable models.
use Rattle.std.proofs.Common.{◌≡◌, refl, sym, ◌∙◌, ap, subst, ℕ, ℤ, ◌≤◌, ◌<◌, Bool, true, false, List, length, ⊎_elim, arith}
use mathlib.Core.Path.{fun_ext}
use Rattle.std.proofs.lemmas.Bool.{and_parts, true≢false, cases_Bool}
use Rattle.asp_base.specs.Sets.{Set, none, members, Same, In}
use Rattle.asp_base.specs.Walks.{Acyclic}
use Rattle.ground_program.specs.Dependencies.{depends}
use Rattle.ground_program.specs.Facts.{IsProgram}
use Rattle.ground_program.specs.Ground.{Ground}
use Rattle.ground_program.specs.Normal.{AreNormal, IsNormalHead, IsNormalBody}
use Rattle.ground_program.specs.Stable.{holds, head_has, derives, least, joined, Founded, Supported, Stable}
use Rattle.ground_program.specs.declared.program.Rule.{Rule}
use Rattle.ground_program.proofs.Least.{grown-smallest, same_within}
use Rattle.ground_program.proofs.Negative.{Supported-from_Stable}
use Rattle.ground_program.proofs.FactLaws.{step-among, normal-weighed}
use Rattle.rising_numbers.specs.Rising.{place}
use Rattle.rising_numbers.proofs.PlaceLaws.{place-within, place-outside}
use Rattle.clause_store.specs.Clauses.{Clauses}
use Rattle.clause_store.specs.Extension.{Agree}
use Rattle.clause_store.specs.Models.{clauses_true, linked, IsAssignment, IsModel}
use Rattle.clause_store.specs.Stored.{Stored, formula_of_store}
use Rattle.completion.specs.Completion.{atoms_at, completed, completion}
use Rattle.completion.specs.Supported.{HasSupported, HasStable}
use Rattle.completion.proofs.CompletionLaws.{zero_false, supported-from_clauses, completed-one, completed-has_atoms, completion-has_supported}
use Rattle.acyc_edges.proofs.Covered.{rule-depends}
use Rattle.acyc_edges.proofs.Founding.{Picks, within-least}
use Rattle.acyc_edges.proofs.Inside.{any-in, each-in, member-in}
use Rattle.acyc_edges.proofs.Sources.{has-is_head}
use Rattle.acyc_translation.specs.private.Linked.{Linked}

module _ (P : Ground) (program : IsProgram P) (normal : AreNormal P.rules) (tight : Acyclic (depends P.rules)) (M : Set) (supported : Supported P M) where
  picks : (a : ℕ) → M a ≡ true → Picks P.rules M (depends P.rules) a
  picks a m =
      let k : (rule : Rule) × In rule P.rules × (derives rule M M a ≡ true) = any-in (λ rule. derives rule M M a) P.rules (supported.step_is a ∙ m) in
      let d : (head_has k.0.head M a ≡ true) × (holds k.0.body M M ≡ true) = and_parts _ _ k.2 in
      let n : IsNormalHead k.0.head × IsNormalBody k.0.body = each-in (λ rule. IsNormalHead rule.head × IsNormalBody rule.body) P.rules k.0 normal k.1 in
      record { rule = k.0; there = k.1; head = d.0; body = d.1; steps = λ b i. rule-depends P.rules k.0 a b k.1 (has-is_head k.0.head M a n.0 d.0) i }

  among : (a : ℕ) → M a ≡ true → In a P.atoms
  among a m = member-in P.atoms a (step-among P.atoms P.rules M M program.rules a (supported.step_is a ∙ m))

  pub tight-founded : Founded P M
  tight-founded = record {
    least_is = same_within (least P M) M
        (grown-smallest P.rules M none M (normal-weighed P.rules normal) (λ a e. absurd (true≢false (sym e))) (λ a e. sym (supported.step_is a) ∙ e))
        (within-least P.rules normal M P.atoms among (depends P.rules) tight picks);
    keeps = supported.keeps;
  }

-- ---- assignments

-- what two assignments that agree on the variables say
all-agree : (n : ℕ) (A B : Set) → IsAssignment n A → IsAssignment n B → Agree n A B → Same A B
all-agree n A B a b e v = go (A v) refl (B v) refl
  where
    go : (s : Bool) → A v ≡ s → (t : Bool) → B v ≡ t → A v ≡ B v
    go true p t q = e v (a v p).1
    go false p true q = e v (b v q).1
    go false p false q = p ∙ sym q

-- what they say of atoms whose variables are among these
atoms-agree : (atoms : List ℕ) (n : ℕ) (A B : Set) → length atoms ≤ n → Agree n A B → Same (atoms_at atoms A) (atoms_at atoms B)
atoms-agree atoms n A B few e a = ⊎_elim
    (λ m. let w : (0 < place atoms a) × (place atoms a ≤ length atoms) = place-within atoms a m in e (place atoms a) (omega arith))
    (λ m. let z : place atoms a ≡ 0 = place-outside atoms a m in e (place atoms a) (omega arith))
    (cases_Bool (members atoms a))

same-graph : (f g : ℤ → ℤ → Bool) → ((u v : ℤ) → f u v ≡ g u v) → Acyclic f → Acyclic g
same-graph f g e c = subst (λ (h : ℤ → ℤ → Bool). Acyclic h) (fun_ext (λ u. fun_ext (λ v. e u v))) c

-- ---- the completion with edges

module _ (P : Ground) (program : IsProgram P) (normal : AreNormal P.rules) (tight : Acyclic (depends P.rules)) (s : Stored) (before : s ≡ completed P) (t : Stored)
    (links : Linked P.atoms P.edges s t) where
  abbrev pub F : Clauses
  F = formula_of_store t 1

  earlier : (A : Set) → clauses_true t.hard A ≡ true → clauses_true (completed P).hard A ≡ true
  earlier A c = subst (λ (k : Stored). clauses_true k.hard A ≡ true) before (links.defines.keeps A c)

  enough : length P.atoms ≤ s.vars
  enough = subst (λ (k : Stored). length P.atoms ≤ k.vars) (sym before) (completed-has_atoms P program)

  is-stable : (A : Set) → IsModel F A → Stable P (atoms_at P.atoms A)
  is-stable A m =
      let supported : Supported P (atoms_at P.atoms A) = supported-from_clauses P program normal A (zero_false _ A m.over) (earlier A m.clauses) in
      let founded : Founded P (atoms_at P.atoms A) = tight-founded P program normal tight (atoms_at P.atoms A) supported in
      record {
        least_is = founded.least_is;
        keeps = founded.keeps;
        acyclic = same-graph (linked t.edges A) (joined P.edges (atoms_at P.atoms A)) (links.graph A m.clauses) m.acyclic;
      }

  one : (A B : Set) → IsModel F A → IsModel F B → Same (atoms_at P.atoms A) (atoms_at P.atoms B) → Same A B
  one A B m k e = all-agree t.vars A B m.over k.over
      (links.defines.one A B m.clauses k.clauses (subst (λ (x : Stored). Agree x.vars A B) (sym before)
      (completed-one P program A B (zero_false _ A m.over) (zero_false _ B k.over) (earlier A m.clauses) (earlier B k.clauses) e)))

  onto : (M : Set) → Stable P M → (A : Set) × IsModel F A × Same (atoms_at P.atoms A) M
  onto M h =
      let has : HasSupported P (completion P) = completion-has_supported P program normal in
      let first : (A : Set) × IsModel (completion P) A × Same (atoms_at P.atoms A) M = has.onto M (Supported-from_Stable P M program h) in
      let more : (B : Set) × IsAssignment t.vars B × (clauses_true t.hard B ≡ true) × Agree s.vars first.0 B =
      links.defines.some first.0 (subst (λ (x : Stored). IsAssignment x.vars first.0) (sym before) first.1.over)
      (subst (λ (x : Stored). clauses_true x.hard first.0 ≡ true) (sym before) first.1.clauses) in
      let same : Same (atoms_at P.atoms more.0) M = λ a. sym (atoms-agree P.atoms s.vars first.0 more.0 enough more.3 a) ∙ first.2 a in (
        more.0,
        record {
          over = more.1;
          clauses = more.2;
          acyclic = same-graph (joined P.edges M) (linked t.edges more.0)
              (λ u v. ap (λ (X : Set). joined P.edges X u v) (sym (fun_ext same)) ∙ sym (links.graph more.0 more.2 u v)) h.acyclic;
        },
        same,
      )

  pub edges-stable : HasStable P F
  edges-stable = record { stable = is-stable; one = one; onto = onto }
