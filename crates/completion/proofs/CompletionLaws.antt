-- The models of the completion, cut to the atoms, are one to one the supported models.
use Rattle.std.proofs.Common.{◌≡◌, refl, sym, ◌∙◌, ap, ap₂, subst, ℕ, zero, suc, ◌≤◌, ◌<◌, Bool, true, false, cond, not, ◌&&◌, ◌||◌, ◌==◌, List, [], ◌∷◌, ◌++◌, map, length, filter, Option, Some, None, ⊎_elim, arith, slice_get}
use Rattle.std.specs.List.{list_any, list_all, AllByRecursion, flat_map}
use Rattle.std.proofs.lemmas.Bool.{and_parts, and_from, or_cases, or_left, or_right, true≢false, not-true, not_from_false, cases_Bool}
use mathlib.Core.Path.{fun_ext}
use Rattle.completion.proofs.BodyLaws.{IsOverIfAny}
use Rattle.asp_base.proofs.Bools.{or_true, or_false, or_again, and_true}
use Rattle.asp_base.proofs.Each.{list_all-each}
use Rattle.asp_base.specs.Literal.{Literal, Pos, negation, same_literal, all_hold}
use Rattle.asp_base.specs.Sets.{Set, members, Same}
use Rattle.asp_base.specs.Walks.{Acyclic}
use Rattle.ground_program.specs.Ground.{Ground}
use Rattle.rising_numbers.specs.Rising.{place}
use Rattle.ground_program.specs.Facts.{IsProgram, Among, BodyFits, RuleFits}
use Rattle.ground_program.specs.Normal.{IsNormalHead, IsNormalBody, AreNormal}
use Rattle.ground_program.specs.Stable.{holds, head_has, step, is_headless, Supported}
use Rattle.ground_program.proofs.FactLaws.{step-among}
use Rattle.ground_program.proofs.Plain.{at_member}
use Rattle.rising_numbers.proofs.PlaceLaws.{place-within, place-outside}
use Rattle.ground_program.specs.declared.program.Head.{Head}
use Rattle.ground_program.specs.declared.program.Head.TheVariants.{Nothing, One, Choice}
use Rattle.ground_program.specs.declared.program.Body.{Body}
use Rattle.ground_program.specs.declared.program.Body.TheVariants.{All, Sum}
use Rattle.ground_program.specs.declared.program.Rule.{Rule}
use Rattle.asp_base.proofs.LiteralLaws.{equal_from_same, literal_holds-negation}
use Rattle.clause_store.specs.Extension.{Agree, Extends}
use Rattle.clause_store.specs.Facts.{IsOver}
use Rattle.clause_store.specs.Models.{is_true, all_true, clause_true, clauses_true, IsAssignment, IsModel, linked}
use Rattle.clause_store.specs.Stored.{Stored, inputs_only, conjunction, after_conjunction}
use Rattle.clause_store.proofs.GateLaws.{agree, agree-same, same-agree, clauses_true-flat_map, clause_true-negations, clauses_true-front, clauses_true-back, clauses_true-both, literals-up, IsOver-up, IsSound, Extends-same, Extends-compose, Conjunction, conjunction-is}
use Rattle.completion.specs.Completion.{atoms_at, inputs_of, body_literal, after_body, after_head, head_literal, after_rules, literals_of_rules, Support, with_support, supports_of, is_empty, is_sure, literal_if, bodies_of, each_once, defined_by, atom_clauses, headless_clause, headless_clauses, required_clauses, atoms_only, with_bodies, body_literals, support_clauses, completed, completion}
use Rattle.ground_program.specs.Normal.{literals_of}
use Rattle.ground_program.specs.Occurrences.{over_variables}
use Rattle.completion.specs.Supported.{HasSupported, DeterminedByAtoms, ExtendsOnce, HasBodyLiterals, SaysSupported}
use Rattle.completion.proofs.Places.{place-onto, inputs_from, inputs_from-over, inputs_from-place, all-over, is_true-over, all_true-over}

-- ---- the conjunctions of all rules

-- the later store has the conjunctions that the earlier one lacks
pub record Done (before after : Stored) : Type 0 where
  pub sound : IsSound after
  pub extends : Extends before after

Done-same : (s : Stored) → IsSound s → Done s s
Done-same s x = record { sound = x; extends = Extends-same s }

-- what stands for a body
abbrev pub body_true : Option Literal → Set → Bool
body_true None A = true
body_true (Some l) A = is_true l A

-- the literal of a body, where it has one, stands for the conjunction
pub record BodySays (inputs : List Literal) (before after : Stored) (body : Option Literal) : Type 0 where
  pub done : Done before after
  pub over : IsOverIfAny after.vars body
  pub says : (A : Set) → clauses_true after.hard A ≡ true → body_true body A ≡ all_true inputs A

pub after_body-says : (inputs : List Literal) (s : Stored) → AllByRecursion (IsOver s.vars) inputs → IsSound s → BodySays inputs s (after_body inputs s) (body_literal inputs s)
after_body-says [] s h x = record { done = Done-same s x; over = tt; says = λ A t. refl }
after_body-says (l ∷ lits) s h x =
    let k : Conjunction (l ∷ lits) s (after_conjunction (l ∷ lits) s) (conjunction (l ∷ lits) s) = conjunction-is s (l ∷ lits) h x in
    record { done = record { sound = k.sound; extends = k.stands.extends }; over = k.stands.over; says = λ A t. k.stands.literal A t }

inputs-over : (atoms : List ℕ) (body : Body) → BodyFits (Among atoms) body → AllByRecursion (IsOver (length atoms)) (map (over_variables atoms) (literals_of body))
inputs-over atoms (All lits) h = all-over atoms lits h.1
inputs-over atoms (Sum bound items) h = tt

pub inputs-up : (atoms : List ℕ) (s : Stored) → length atoms ≤ s.vars → (rule : Rule) → RuleFits (Among atoms) rule → AllByRecursion (IsOver s.vars) (inputs_of atoms rule)
inputs-up atoms s up rule h = literals-up (length atoms) s.vars up _ (inputs-over atoms rule.body h.1)

after_head-done : (head : Head) (inputs : List Literal) (s : Stored) → AllByRecursion (IsOver s.vars) inputs → IsSound s → Done s (after_head head inputs s)
after_head-done Nothing inputs s h x = Done-same s x
after_head-done (One a) inputs s h x = (after_body-says inputs s h x).done
after_head-done (Choice as_) inputs s h x = Done-same s x

-- what is known of a store between the rules
pub record Ready (atoms : List ℕ) (s : Stored) : Type 0 where
  pub sound : IsSound s
  pub up : length atoms ≤ s.vars

pub Ready-next : (atoms : List ℕ) (rule : Rule) (s : Stored) → RuleFits (Among atoms) rule → Ready atoms s
    → Done s (after_head rule.head (inputs_of atoms rule) s) × Ready atoms (after_head rule.head (inputs_of atoms rule) s)
Ready-next atoms rule s f r =
    let d : Done s (after_head rule.head (inputs_of atoms rule) s) = after_head-done rule.head (inputs_of atoms rule) s (inputs-up atoms s r.up rule f) r.sound in
    let low : length atoms ≤ s.vars = r.up in
    let high : s.vars ≤ (after_head rule.head (inputs_of atoms rule) s).vars = d.extends.vars in
    (d, record { sound = d.sound; up = omega arith })

pub after_rules-done : (atoms : List ℕ) (rules : List Rule) (s : Stored) → AllByRecursion (RuleFits (Among atoms)) rules → Ready atoms s → Done s (after_rules atoms rules s)
after_rules-done atoms [] s f r = Done-same s r.sound
after_rules-done atoms (rule ∷ rules) s f r =
    let next : Stored = after_head rule.head (inputs_of atoms rule) s in
    let one : Done s next × Ready atoms next = Ready-next atoms rule s f.0 r in
    let rest : Done next (after_rules atoms rules next) = after_rules-done atoms rules next f.1 one.1 in
    record { sound = rest.sound; extends = Extends-compose s next (after_rules atoms rules next) one.0.extends rest.extends }

-- ---- what the literals of the bodies say

pub holds-inputs : (atoms : List ℕ) (body : Body) (A : Set) → IsNormalBody body → all_true (map (over_variables atoms) (literals_of body)) A ≡ holds body (atoms_at atoms A) (atoms_at atoms A)
holds-inputs atoms (All lits) A n = all_true-over atoms lits A
holds-inputs atoms (Sum bound items) A n = absurd n

-- a rule with this literal
abbrev supports_it : ℕ → Set → Support → Bool
supports_it a A support = (support.atom == a) && body_true support.body A

with_support-says : (atoms : List ℕ) (rule : Rule) (s : Stored) (A : Set) (a : ℕ) (rest : List Support) (tail : Bool)
    → IsNormalHead rule.head → IsNormalBody rule.body → AllByRecursion (IsOver s.vars) (inputs_of atoms rule) → IsSound s
    → clauses_true (after_head rule.head (inputs_of atoms rule) s).hard A ≡ true
    → list_any (supports_it a A) rest ≡ tail
    → list_any (supports_it a A) (with_support rule.head (head_literal rule.head (inputs_of atoms rule) s) rest)
    ≡ ((head_has rule.head (atoms_at atoms A) a && holds rule.body (atoms_at atoms A) (atoms_at atoms A)) || tail)
with_support-says atoms rule s A a rest tail n m h x t e = go rule.head n t
  where
    go : (head : Head) → IsNormalHead head → clauses_true (after_head head (inputs_of atoms rule) s).hard A ≡ true
        → list_any (supports_it a A) (with_support head (head_literal head (inputs_of atoms rule) s) rest)
        ≡ ((head_has head (atoms_at atoms A) a && holds rule.body (atoms_at atoms A) (atoms_at atoms A)) || tail)
    go Nothing k u = e
    go (One b) k u =
        let says : BodySays (inputs_of atoms rule) s (after_body (inputs_of atoms rule) s) (body_literal (inputs_of atoms rule) s) = after_body-says (inputs_of atoms rule) s h x in
        ap₂ (λ p q. ((b == a) && p) || q) (says.says A u ∙ holds-inputs atoms rule.body A m) e
    go (Choice as_) k u = absurd k

pub supports-say : (atoms : List ℕ) (rules : List Rule) (s : Stored) (A : Set) (a : ℕ) → AreNormal rules → AllByRecursion (RuleFits (Among atoms)) rules → Ready atoms s
    → clauses_true (after_rules atoms rules s).hard A ≡ true
    → list_any (supports_it a A) (supports_of atoms rules s) ≡ step rules (atoms_at atoms A) (atoms_at atoms A) a
supports-say atoms [] s A a n f r t = refl
supports-say atoms (rule ∷ rules) s A a n f r t =
    let next : Stored = after_head rule.head (inputs_of atoms rule) s in
    let one : Done s next × Ready atoms next = Ready-next atoms rule s f.0 r in
    let rest : Done next (after_rules atoms rules next) = after_rules-done atoms rules next f.1 one.1 in
    with_support-says atoms rule s A a (supports_of atoms rules next) _ n.0.0 n.0.1 (inputs-up atoms s r.up rule f.0) r.sound (rest.extends.keeps A t)
    (supports-say atoms rules next A a n.1 f.1 one.1 t)

-- the literal at the index of a rule with a head and a body that is not empty
pub literals-say : (atoms : List ℕ) (rules : List Rule) (s : Stored) → AllByRecursion (RuleFits (Among atoms)) rules → Ready atoms s
    → (i a : ℕ) (k : Literal) (lits : List Literal) → slice_get rules i ≡ Some (record { head = One a; body = All (k ∷ lits) })
    → (l : Literal) × (slice_get (literals_of_rules atoms rules s) i ≡ Some (Some l)) × IsOver (after_rules atoms rules s).vars l
    × ((A : Set) → clauses_true (after_rules atoms rules s).hard A ≡ true → is_true l A ≡ all_hold (k ∷ lits) (atoms_at atoms A) (atoms_at atoms A))
literals-say atoms [] s f r i a k lits e = absurd (cc)
literals-say atoms (rule ∷ rules) s f r zero a k lits e =
    let same : rule ≡ record { head = One a; body = All (k ∷ lits) } = cc in subst (λ given. RuleFits (Among atoms) given → Claim given) (sym same) go f.0
  where
    Claim : Rule → Type 0
    Claim given = (l : Literal) × (slice_get (literals_of_rules atoms (given ∷ rules) s) 0 ≡ Some (Some l)) × IsOver (after_rules atoms (given ∷ rules) s).vars l
        × ((A : Set) → clauses_true (after_rules atoms (given ∷ rules) s).hard A ≡ true → is_true l A ≡ all_hold (k ∷ lits) (atoms_at atoms A) (atoms_at atoms A))

    go : RuleFits (Among atoms) (record { head = One a; body = All (k ∷ lits) }) → Claim (record { head = One a; body = All (k ∷ lits) })
    go g =
        let inputs : List Literal = map (over_variables atoms) (k ∷ lits) in
        let next : Stored = after_conjunction inputs s in
        let here : Conjunction inputs s next (conjunction inputs s) = conjunction-is s inputs (inputs-up atoms s r.up (record { head = One a; body = All (k ∷ lits) }) g) r.sound in
        let low : length atoms ≤ s.vars = r.up in
        let high : s.vars ≤ next.vars = here.stands.extends.vars in
        let rest : Done next (after_rules atoms rules next) = after_rules-done atoms rules next f.1 (record { sound = here.sound; up = omega arith }) in (
          conjunction inputs s,
          refl,
          IsOver-up next.vars (after_rules atoms rules next).vars rest.extends.vars (conjunction inputs s) here.stands.over,
          λ A t. here.stands.literal A (rest.extends.keeps A t) ∙ all_true-over atoms (k ∷ lits) A,
        )
literals-say atoms (rule ∷ rules) s f r (suc i) a k lits e =
    literals-say atoms rules (after_head rule.head (inputs_of atoms rule) s) f.1 ((Ready-next atoms rule s f.0 r).1) i a k lits e

-- ---- the clauses of an atom

abbrev any_true : List Literal → Set → Bool
any_true lits A = clause_true lits A

spread_or : (x y z : Bool) → ((x || (not y || false)) && (x || not z)) ≡ (x || not (y || z))
spread_or true y z = refl
spread_or false true z = refl
spread_or false false z = refl

each_says : (v : ℕ) (bodies : List Literal) (A : Set) → clauses_true (map (λ b. Pos v ∷ negation b ∷ []) bodies) A ≡ (A v || not (any_true bodies A))
each_says v [] A = sym (or_true (A v))
each_says v (b ∷ bodies) A =
    ap₂ (λ p q. (A v || (p || false)) && q) (literal_holds-negation b A) (each_says v bodies A) ∙ spread_or (A v) (is_true b A) (any_true bodies A)

defined_by-says : (v : ℕ) (bodies : List Literal) (A : Set) → clauses_true (defined_by v bodies) A ≡ agree (A v) (any_true bodies A)
defined_by-says v bodies A = ap (λ q. (not (A v) || any_true bodies A) && q) (each_says v bodies A)

-- what is left out again stands there already
or_keep : (x y p q : Bool) → (x || p) ≡ (x || q) → (x || (y || p)) ≡ (x || (y || q))
or_keep true y p q e = refl
or_keep false true p q e = refl
or_keep false false p q e = e

filter-others : (l : Literal) (lits : List Literal) (A : Set) → (is_true l A || any_true (filter (λ k. not (same_literal l k)) lits) A) ≡ (is_true l A || any_true lits A)
filter-others l [] A = refl
filter-others l (k ∷ lits) A = go (same_literal l k) refl (filter-others l lits A)
  where
    rest : List Literal
    rest = filter (λ j. not (same_literal l j)) lits

    go : (q : Bool) → same_literal l k ≡ q → (is_true l A || any_true rest A) ≡ (is_true l A || any_true lits A)
        → (is_true l A || any_true (cond (not q) (k ∷ rest) rest) A) ≡ (is_true l A || (is_true k A || any_true lits A))
    go true e h = h ∙ (sym (or_again (is_true l A) (any_true lits A)) ∙ ap (λ j. is_true l A || (is_true j A || any_true lits A)) (equal_from_same l k e))
    go false e h = or_keep (is_true l A) (is_true k A) _ _ h

each_once-says : (lits : List Literal) (A : Set) → any_true (each_once lits) A ≡ any_true lits A
each_once-says [] A = refl
each_once-says (l ∷ lits) A = filter-others l (each_once lits) A ∙ ap (λ b. is_true l A || b) (each_once-says lits A)

sure-says : (a : ℕ) (supports : List Support) (A : Set) → is_sure a supports ≡ true → list_any (supports_it a A) supports ≡ true
sure-says a [] A e = e
sure-says a (support ∷ supports) A e =
    ⊎_elim (λ p. or_left _ _ (here support.body (and_parts _ _ p))) (λ q. or_right _ _ (sure-says a supports A q)) (or_cases _ _ e)
  where
    here : (body : Option Literal) → ((support.atom == a) ≡ true) × (is_empty body ≡ true) → ((support.atom == a) && body_true body A) ≡ true
    here None k = and_from _ _ k.0 refl
    here (Some l) k = absurd (true≢false (sym k.1))

unsure-says : (a : ℕ) (supports : List Support) (A : Set) → is_sure a supports ≡ false → any_true (bodies_of a supports) A ≡ list_any (supports_it a A) supports
unsure-says a [] A e = refl
unsure-says a (support ∷ supports) A e = go (support.atom == a) support.body e (λ h. unsure-says a supports A h)
  where
    go : (q : Bool) (body : Option Literal) → ((q && is_empty body) || is_sure a supports) ≡ false
        → (is_sure a supports ≡ false → any_true (bodies_of a supports) A ≡ list_any (supports_it a A) supports)
        → any_true (literal_if q body (bodies_of a supports)) A ≡ ((q && body_true body A) || list_any (supports_it a A) supports)
    go true (Some l) h rest = ap (λ b. is_true l A || b) (rest h)
    go true None h rest = absurd (true≢false h)
    go false body h rest = rest h

alone : (x y : Bool) → y ≡ true → ((x || false) && true) ≡ agree x y
alone true true e = refl
alone false true e = refl
alone true false e = absurd (true≢false (sym e))
alone false false e = absurd (true≢false (sym e))

atom_clauses-say : (atoms : List ℕ) (supports : List Support) (A : Set) (a : ℕ) → clauses_true (atom_clauses atoms supports a) A ≡ agree (A (place atoms a)) (list_any (supports_it a A) supports)
atom_clauses-say atoms supports A a = go (is_sure a supports) refl
  where
    go : (q : Bool) → is_sure a supports ≡ q
        → clauses_true (cond q ((Pos (place atoms a) ∷ []) ∷ []) (defined_by (place atoms a) (each_once (bodies_of a supports)))) A ≡ agree (A (place atoms a)) (list_any (supports_it a A) supports)
    go true e = alone (A (place atoms a)) _ (sure-says a supports A e)
    go false e = defined_by-says (place atoms a) (each_once (bodies_of a supports)) A
        ∙ ap (agree (A (place atoms a))) (each_once-says (bodies_of a supports) A ∙ unsure-says a supports A e)

-- ---- headless rules and required literals

headless_clause-says : (atoms : List ℕ) (head : Head) (body : Body) (A : Set) → IsNormalHead head → IsNormalBody body
    → clauses_true (headless_clause atoms head (map (over_variables atoms) (literals_of body))) A ≡ not (is_headless head && holds body (atoms_at atoms A) (atoms_at atoms A))
headless_clause-says atoms Nothing body A n m = and_true _ ∙ (clause_true-negations (map (over_variables atoms) (literals_of body)) A ∙ ap not (holds-inputs atoms body A m))
headless_clause-says atoms (One a) body A n m = refl
headless_clause-says atoms (Choice as_) body A n m = absurd n

not_or : (x y : Bool) → (not x && not y) ≡ not (x || y)
not_or true y = refl
not_or false y = refl

each_headless : (atoms : List ℕ) (rules : List Rule) (A : Set) → AreNormal rules
    → list_all (λ rule. clauses_true (headless_clause atoms rule.head (inputs_of atoms rule)) A) rules
    ≡ not (list_any (λ rule. is_headless rule.head && holds rule.body (atoms_at atoms A) (atoms_at atoms A)) rules)
each_headless atoms [] A n = refl
each_headless atoms (rule ∷ rules) A n =
    ap₂ ◌&&◌ (headless_clause-says atoms rule.head rule.body A n.0.0 n.0.1) (each_headless atoms rules A n.1) ∙ not_or _ _

headless-say : (atoms : List ℕ) (rules : List Rule) (A : Set) → AreNormal rules
    → clauses_true (headless_clauses atoms rules) A ≡ not (list_any (λ rule. is_headless rule.head && holds rule.body (atoms_at atoms A) (atoms_at atoms A)) rules)
headless-say atoms rules A n = clauses_true-flat_map (λ rule. headless_clause atoms rule.head (inputs_of atoms rule)) rules A ∙ each_headless atoms rules A n

required-say : (atoms : List ℕ) (lits : List Literal) (A : Set) → clauses_true (required_clauses atoms lits) A ≡ all_hold lits (atoms_at atoms A) (atoms_at atoms A)
required-say atoms [] A = refl
required-say atoms (l ∷ lits) A = ap₂ ◌&&◌ (or_false _ ∙ is_true-over atoms l A) (required-say atoms lits A)

-- ---- all together

list_all-same : {X : Type 0} (p q : X → Bool) (xs : List X) → ((x : X) → p x ≡ q x) → list_all p xs ≡ list_all q xs
list_all-same p q [] h = refl
list_all-same p q (x ∷ xs) h = ap₂ ◌&&◌ (h x) (list_all-same p q xs h)

pub Ready-inputs : (atoms : List ℕ) → Ready atoms (inputs_only (length atoms))
Ready-inputs atoms = record { sound = record { over = tt; known = tt }; up = omega arith }

none_from : (b c : Bool) → (b ≡ true → c ≡ true) → c ≡ false → b ≡ false
none_from true c h e = absurd (true≢false (sym (h refl) ∙ e))
none_from false c h e = refl

-- without edges there is no walk
no_edges : (A : Set) → Acyclic (linked [] A)
no_edges A node [] e = absurd (true≢false (sym e))
no_edges A node (next ∷ rest) e = absurd (true≢false (sym e.0))

-- an assignment has no variable 0
pub zero_false : (n : ℕ) (A : Set) → IsAssignment n A → A 0 ≡ false
zero_false n A h = go (A 0) refl
  where
    go : (b : Bool) → A 0 ≡ b → b ≡ false
    go true e = absurd (let k : 0 < 0 = (h 0 e).0 in omega arith)
    go false e = refl

module _ (P : Ground) (fits : IsProgram P) where
  -- the conjunctions alone: each assignment of the atoms' variables has one extension
  pub bodies-done : Done (atoms_only P) (with_bodies P)
  bodies-done = after_rules-done P.atoms P.rules (atoms_only P) fits.rules (Ready-inputs P.atoms)

  pub with_bodies-extends : ExtendsOnce (length P.atoms) (with_bodies P).vars (with_bodies P).hard
  with_bodies-extends = record { some = λ A a. bodies-done.extends.some A a refl; one = bodies-done.extends.one }

  pub with_bodies-literals : HasBodyLiterals P (with_bodies P).vars (with_bodies P).hard
  with_bodies-literals = literals-say P.atoms P.rules (atoms_only P) fits.rules (Ready-inputs P.atoms)

  pub completed-bodies : (A : Set) → clauses_true (completed P).hard A ≡ true → clauses_true (with_bodies P).hard A ≡ true
  completed-bodies A t = clauses_true-front (with_bodies P).hard (support_clauses P) A t

  pub completed-literals : HasBodyLiterals P (completed P).vars (completed P).hard
  completed-literals i a k lits e =
      let found : (l : Literal) × (slice_get (body_literals P) i ≡ Some (Some l)) × IsOver (with_bodies P).vars l
      × ((A : Set) → clauses_true (with_bodies P).hard A ≡ true → is_true l A ≡ all_hold (k ∷ lits) (atoms_at P.atoms A) (atoms_at P.atoms A)) = with_bodies-literals i a k lits e in
      (found.0, found.1, found.2, λ A t. found.3 A (completed-bodies A t))

  -- two assignments that say the same of the atoms agree on the atoms' variables
  pub inputs-agree : (A B : Set) → A 0 ≡ false → B 0 ≡ false → Same (atoms_at P.atoms A) (atoms_at P.atoms B) → Agree (length P.atoms) A B
  inputs-agree A B y z e zero l = y ∙ sym z
  inputs-agree A B y z e (suc v) l =
      let at : (a : ℕ) × (0 < a) × (members P.atoms a ≡ true) × (place P.atoms a ≡ suc v) = place-onto 0 P.atoms fits.atoms_rise (suc v) (omega arith) l in
      subst (λ u. A u ≡ B u) at.3 (e at.0)

  -- and, where the clauses are true, on all variables of the store
  pub completed-one : DeterminedByAtoms P (completed P).vars (completed P).hard
  completed-one A B y z t u e = bodies-done.extends.one A B (completed-bodies A t) (completed-bodies B u) (inputs-agree A B y z e)

  pub completed-edges : (completed P).edges ≡ []
  completed-edges = bodies-done.extends.edges

  -- there is a variable for each atom
  pub completed-has_atoms : length P.atoms ≤ (completed P).vars
  completed-has_atoms = bodies-done.extends.vars

  pub completed-soft : (completed P).soft ≡ []
  completed-soft = bodies-done.extends.soft

module _ (P : Ground) (fits : IsProgram P) (normal : AreNormal P.rules) where
  abbrev supports : List Support
  supports = supports_of P.atoms P.rules (atoms_only P)

  -- the clauses of the atoms
  abbrev firsts : List (List Literal)
  firsts = flat_map (atom_clauses P.atoms supports) P.atoms

  -- at an assignment that the gates take, the other clauses say that the atoms are a supported set
  atoms-say : (A : Set) → clauses_true (with_bodies P).hard A ≡ true
      → clauses_true firsts A ≡ list_all (λ a. agree (A (place P.atoms a)) (step P.rules (atoms_at P.atoms A) (atoms_at P.atoms A) a)) P.atoms
  atoms-say A t = clauses_true-flat_map _ P.atoms A
      ∙ list_all-same _ _ P.atoms (λ a. atom_clauses-say P.atoms supports A a
      ∙ ap (agree (A (place P.atoms a))) (supports-say P.atoms P.rules (atoms_only P) A a normal fits.rules (Ready-inputs P.atoms) t))

  -- outside the atoms nothing is derived, and nothing is true
  outside : (A : Set) → A 0 ≡ false → (a : ℕ) → members P.atoms a ≡ false → step P.rules (atoms_at P.atoms A) (atoms_at P.atoms A) a ≡ atoms_at P.atoms A a
  outside A z a e = none_from _ (members P.atoms a) (λ s. step-among P.atoms P.rules _ _ fits.rules a s) e ∙ sym (ap A (place-outside P.atoms a e) ∙ z)

  -- where the clauses are true, the atoms are a supported set
  pub supported-from_clauses : (A : Set) → A 0 ≡ false → clauses_true (completed P).hard A ≡ true → Supported P (atoms_at P.atoms A)
  supported-from_clauses A z t =
      let others : clauses_true (support_clauses P) A ≡ true = clauses_true-back (with_bodies P).hard (support_clauses P) A t in
      let lasts : clauses_true (headless_clauses P.atoms P.rules ++ required_clauses P.atoms P.required) A ≡ true = clauses_true-back firsts _ A others in
      let each : list_all (λ a. agree (A (place P.atoms a)) (step P.rules (atoms_at P.atoms A) (atoms_at P.atoms A) a)) P.atoms ≡ true =
      sym (atoms-say A (completed-bodies P fits A t)) ∙ clauses_true-front firsts _ A others in
      record {
        step_is = λ a. ⊎_elim
            (λ e. sym (agree-same _ _ (at_member (λ x. agree (A (place P.atoms x)) (step P.rules (atoms_at P.atoms A) (atoms_at P.atoms A) x)) P.atoms a each e)))
            (λ e. outside A z a e)
            (cases_Bool (members P.atoms a));
        keeps = record {
          headless = not-true _ (sym (headless-say P.atoms P.rules A normal) ∙ clauses_true-front (headless_clauses P.atoms P.rules) _ A lasts);
          required = sym (required-say P.atoms P.required A) ∙ clauses_true-back (headless_clauses P.atoms P.rules) _ A lasts;
        };
      }

  pub clauses-from_supported : (A : Set) → clauses_true (with_bodies P).hard A ≡ true → Supported P (atoms_at P.atoms A) → clauses_true (completed P).hard A ≡ true
  clauses-from_supported A t s =
      clauses_true-both (with_bodies P).hard (support_clauses P) A t
      (clauses_true-both firsts _ A
      (atoms-say A t ∙ list_all-each _ P.atoms (λ a. same-agree _ _ (sym (s.step_is a))))
      (clauses_true-both (headless_clauses P.atoms P.rules) (required_clauses P.atoms P.required) A
      (headless-say P.atoms P.rules A normal ∙ not_from_false _ s.keeps.headless)
      (required-say P.atoms P.required A ∙ s.keeps.required)))

  pub completed-says : SaysSupported P (with_bodies P).hard (completed P).hard
  completed-says = record { defines = completed-bodies P fits; supported = supported-from_clauses; back = clauses-from_supported }

  models-one : (A B : Set) → IsModel (completion P) A → IsModel (completion P) B → Same (atoms_at P.atoms A) (atoms_at P.atoms B) → Same A B
  models-one A B m k e v =
      let below : Agree (completion P).vars A B = completed-one P fits A B (zero_false _ A m.over) (zero_false _ B k.over) m.clauses k.clauses e in
      both (A v) refl (B v) refl below
    where
      both : (x : Bool) → A v ≡ x → (y : Bool) → B v ≡ y → Agree (completion P).vars A B → x ≡ y
      both true p true q h = refl
      both false p false q h = refl
      both true p false q h = sym p ∙ (h v (m.over v p).1 ∙ q)
      both false p true q h = sym p ∙ (h v (k.over v q).1 ∙ q)

  models-onto : (M : Set) → Supported P M → (A : Set) × IsModel (completion P) A × Same (atoms_at P.atoms A) M
  models-onto M s =
      let found : (B : Set) × IsAssignment (with_bodies P).vars B × (clauses_true (with_bodies P).hard B ≡ true) × Agree (length P.atoms) (inputs_from P.atoms M) B =
      (bodies-done P fits).extends.some (inputs_from P.atoms M) (inputs_from-over P.atoms M) refl in
      let B : Set = found.0 in
      let same : Same (atoms_at P.atoms B) M = λ a. ⊎_elim
      (λ e. sym (found.3 (place P.atoms a) (place-within P.atoms a e).1) ∙ inputs_from-place P.atoms M a e)
      (λ e. ap B (place-outside P.atoms a e) ∙ (zero_false _ B found.1 ∙ sym (none_from (M a) (members P.atoms a) (λ t. step-among P.atoms P.rules M M fits.rules a (s.step_is a ∙ t)) e)))
      (cases_Bool (members P.atoms a)) in (
        B,
        record {
          over = found.1;
          clauses = clauses-from_supported B found.2 (subst (Supported P) (sym (fun_ext same)) s);
          acyclic = subst (λ edges. Acyclic (linked edges B)) (sym (completed-edges P fits)) (no_edges B);
        },
        same,
      )

pub completion-has_supported : (P : Ground) → IsProgram P → AreNormal P.rules → HasSupported P (completion P)
completion-has_supported P f n = record { supported = λ A m. supported-from_clauses P f n A (zero_false _ A m.over) m.clauses; one = models-one P f n; onto = models-onto P f n }
