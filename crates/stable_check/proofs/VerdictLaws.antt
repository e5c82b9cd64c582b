-- The parts of a verdict, and that the last one stands for the stable models.
use Rattle.std.proofs.Common.{◌≡◌, ◌↔◌, refl, sym, ◌∙◌, ap, ℕ, suc, ℤ, pos, int_le, ◌-◌, ◌==◌, Bool, true, false, cond, not, ◌&&◌, ◌||◌, List, [], ◌∷◌, map, Option, Some, None, ⊎_elim}
use mathlib.Core.Path.{fun_ext}
use Rattle.std.specs.List.{list_any, list_all, filter, AllByRecursion}
use Rattle.std.specs.Option.{option_map}
use Rattle.std.specs.Ordering.{int_eq}
use Rattle.std.specs.List.Sorted.{IsStrictlyIncreasing}
use Rattle.std.proofs.lemmas.Bool.{or_parts, or_from, or_cases, or_left, or_right, true≢false, not_from_true, not-false, cases_Bool, cond-false, cond_both, eqb-true, eq-eqb, and_from, and_parts, and_right, false_from_ne_true}
use Rattle.std.proofs.lemmas.List.Elements.{filter_agree}
use Rattle.asp_base.specs.Literal.{Literal, literal_holds, all_hold}
use Rattle.asp_base.specs.Sets.{Set, members, Within}
use Rattle.asp_base.specs.Walks.{Acyclic}
use Rattle.graph_cycles.specs.Cycle.{leads, IsCycle}
use Rattle.ground_program.specs.Broken.{breaks}
use Rattle.ground_program.specs.Facts.{IsProgram, FitsBodyWeight}
use Rattle.rising_numbers.specs.Rising.{RisesFrom}
use Rattle.ground_program.specs.Ground.{Ground}
use Rattle.rising_numbers.specs.Rising.{rising, into_rising}
use Rattle.ground_program.specs.Stable.{weight_of, least, Stable, joined, edge_joins}
use Rattle.ground_program.specs.declared.program.Edge.{Edge}
use Rattle.ground_program.proofs.BrokenLaws.{unbroken-stable, stable-unbroken}
use Rattle.ground_program.proofs.FactLaws.{least-among}
use Rattle.asp_base.proofs.Bools.{same_test, and_true}
use Rattle.rising_numbers.proofs.RisingLaws.{Ascends, Ascends-from_increasing, into-lower, rises-filter}
use Rattle.stable_check.specs.declared.verdict.Verdict.{Verdict}
use Rattle.stable_check.specs.declared.verdict.Verdict.TheVariants as verdicts
use Rattle.stable_check.specs.private.Lack.{natural, naturals, total, flag}
use Rattle.stable_check.specs.private.Parts.{pairs, flagged}
use Rattle.stable_check.specs.Verdicts.{first_where, first_broken, first_failing, unfounded, IsFounded, VerdictIs}
use Rattle.stable_check.proofs.BodyLaws.{weight-total, bound-reached, reached-bound}
use Rattle.asp_base.proofs.Each.{each-weaker}
use Rattle.stable_check.proofs.LeastLaws.{flag-is}

-- ---- sums

pub sum-test : (bound : ℤ) (items : List (Literal × ℤ)) (X M : Set) → AllByRecursion (λ item. FitsBodyWeight item.1) items →
    (natural bound - total (naturals items) X M == 0) ≡ int_le bound (weight_of items X M)
sum-test bound items X M fit =
    let weight : weight_of items X M ≡ pos (total (naturals items) X M) = weight-total items X M (each-weaker _ _ (λ item k. k.0) items fit) in
    same_test _ _
    (λ e. ap (int_le bound) weight ∙ bound-reached bound (total (naturals items) X M) (eqb-true (natural bound - total (naturals items) X M) 0 e))
    (λ e. eq-eqb (natural bound - total (naturals items) X M) 0 (reached-bound bound (total (naturals items) X M) (ap (int_le bound) (sym weight) ∙ e)))

-- ---- the first that passes

none-back : (o : Option ℕ) → option_map (λ (n : ℕ). suc n) o ≡ None → o ≡ None
none-back None e = refl
none-back (Some n) e = absurd (cc)

pub any-from_first : {A : Type 0} (test : A → Bool) (xs : List A) → first_where test xs ≡ None → list_any test xs ≡ false
any-from_first test [] e = refl
any-from_first test (x ∷ xs) e = go (test x) e (any-from_first test xs)
  where
    go : (b : Bool) → cond b (Some 1) (option_map (λ (n : ℕ). suc n) (first_where test xs)) ≡ None → (first_where test xs ≡ None → list_any test xs ≡ false) → (b || list_any test xs) ≡ false
    go true k rest = absurd (cc)
    go false k rest = rest (none-back (first_where test xs) k)

pub first-from_any : {A : Type 0} (test : A → Bool) (xs : List A) → list_any test xs ≡ false → first_where test xs ≡ None
first-from_any test [] e = refl
first-from_any test (x ∷ xs) e =
    let k : (test x ≡ false) × (list_any test xs ≡ false) = or_parts _ _ e in
    cond-false (test x) (Some 1) (option_map (λ (n : ℕ). suc n) (first_where test xs)) k.0 ∙ ap (option_map (λ (n : ℕ). suc n)) (first-from_any test xs k.1)

all-from_none : {A : Type 0} (test : A → Bool) (xs : List A) → list_any (λ x. not (test x)) xs ≡ false → list_all test xs ≡ true
all-from_none test [] e = refl
all-from_none test (x ∷ xs) e =
    let k : (not (test x) ≡ false) × (list_any (λ x. not (test x)) xs ≡ false) = or_parts _ _ e in
    and_from _ _ (not-false (test x) k.0) (all-from_none test xs k.1)

none-from_all : {A : Type 0} (test : A → Bool) (xs : List A) → list_all test xs ≡ true → list_any (λ x. not (test x)) xs ≡ false
none-from_all test [] e = refl
none-from_all test (x ∷ xs) e =
    let k : (test x ≡ true) × (list_all test xs ≡ true) = and_parts _ _ e in
    or_from _ _ (not_from_true (test x) k.0) (none-from_all test xs k.1)

-- ---- what a set leaves

within-from_filter : (L : Set) (xs : List ℕ) → filter (λ a. not (L a)) xs ≡ [] → Within (members xs) L
within-from_filter L [] e a m = absurd (true≢false (sym m))
within-from_filter L (x ∷ xs) e a m = go (L x) refl e (within-from_filter L xs)
  where
    go : (b : Bool) → L x ≡ b → cond (not b) (x ∷ filter (λ a. not (L a)) xs) (filter (λ a. not (L a)) xs) ≡ [] → (filter (λ a. not (L a)) xs ≡ [] → Within (members xs) L) → L a ≡ true
    go true is k rest = ⊎_elim (λ here. ap L (sym (eqb-true x a here)) ∙ is) (λ later. rest k a later) (or_cases (x == a) (members xs a) m)
    go false is k rest = absurd (cc)

filter-from_within : (L : Set) (xs : List ℕ) → Within (members xs) L → filter (λ a. not (L a)) xs ≡ []
filter-from_within L [] h = refl
filter-from_within L (x ∷ xs) h =
    cond-false (not (L x)) (x ∷ filter (λ a. not (L a)) xs) (filter (λ a. not (L a)) xs) (not_from_true (L x) (h x (or_left _ _ (eq-eqb x x refl))))
    ∙ filter-from_within L xs (λ a m. h a (or_right _ _ m))

rising-same : (low : ℕ) (xs : List ℕ) → RisesFrom low xs → rising xs ≡ xs
rising-same low [] r = refl
rising-same low (x ∷ xs) r = ap (into_rising x) (rising-same x xs r.1) ∙ into-lower x xs r.1

pub rising-filter : (p : ℕ → Bool) (xs : List ℕ) → IsStrictlyIncreasing xs → rising (filter p xs) ≡ filter p xs
rising-filter p xs up = go xs (Ascends-from_increasing xs up)
  where
    go : (xs : List ℕ) → Ascends xs → rising (filter p xs) ≡ filter p xs
    go [] r = refl
    go (x ∷ xs) r = cond_both (p x) (x ∷ filter p xs) (filter p xs) (λ ys. rising ys ≡ ys)
        (λ e. ap (into_rising x) (rising-same x (filter p xs) (rises-filter p x xs r)) ∙ into-lower x (filter p xs) (rises-filter p x xs r))
        (λ e. rising-same x (filter p xs) (rises-filter p x xs r))

flagged-is : (P : Ground) (flags : List Bool) (M : Set) → IsProgram P → flags ≡ map (least P M) P.atoms → (a : ℕ) → flagged P.atoms flags a ≡ least P M a
flagged-is P flags M facts is a = ⊎_elim
    (λ m. ap (λ b. b && flag P.atoms flags a) m ∙ flag-is P.atoms flags (least P M) facts.atoms_rise is a m)
    (λ m. ap (λ b. b && flag P.atoms flags a) m ∙ sym (false_from_ne_true (least P M a) (λ e. true≢false (sym (least-among P M facts a e) ∙ m))))
    (cases_Bool (members P.atoms a))

pub unfounded-is : (P : Ground) (flags : List Bool) (set : List ℕ) → IsProgram P → flags ≡ map (least P (members set)) P.atoms →
    filter (λ a. not (flagged P.atoms flags a)) set ≡ unfounded P set
unfounded-is P flags set facts is = filter_agree (λ a. not (flagged P.atoms flags a)) (λ a. not (least P (members set) a)) (λ a. ap not (flagged-is P flags (members set) facts is a)) set

-- ---- the graph

leads-joined : (edges : List Edge) (M : Set) (u v : ℤ) → leads (pairs edges M) u v ≡ joined edges M u v
leads-joined [] M u v = refl
leads-joined (edge ∷ edges) M u v = go (all_hold edge.condition M M) refl ∙ ap (λ b. edge_joins edge M u v || b) (leads-joined edges M u v)
  where
    x : Bool
    x = int_eq edge.from u

    y : Bool
    y = int_eq edge.to v

    go : (b : Bool) → all_hold edge.condition M M ≡ b →
        leads (map (λ (e : Edge). (e.from, e.to)) (cond b (edge ∷ filter (λ e. all_hold e.condition M M) edges) (filter (λ e. all_hold e.condition M M) edges))) u v
        ≡ (edge_joins edge M u v || leads (pairs edges M) u v)
    go true is = ap (λ b. b || leads (pairs edges M) u v)
        (ap (λ b. int_eq edge.from u && b) (sym (ap (λ b. int_eq edge.to v && b) is ∙ and_true (int_eq edge.to v))))
    go false is = ap (λ b. b || leads (pairs edges M) u v)
        (sym (and_right (int_eq edge.from u) (int_eq edge.to v && all_hold edge.condition M M) (and_right (int_eq edge.to v) (all_hold edge.condition M M) is)))

pub graph-joined : (edges : List Edge) (M : Set) → leads (pairs edges M) ≡ joined edges M
graph-joined edges M = fun_ext (λ u. fun_ext (λ v. leads-joined edges M u v))

-- ---- the verdict

broken-none : (P : Ground) (M : Set) → IsProgram P → Stable P M → first_broken P M ≡ None
broken-none P M facts s = first-from_any (λ rule. breaks rule M) P.rules (stable-unbroken P M facts s)

failing-none : (P : Ground) (M : Set) → Stable P M → first_failing P M ≡ None
failing-none P M s = first-from_any (λ l. not (literal_holds l M M)) P.required (none-from_all (λ l. literal_holds l M M) P.required s.keeps.required)

no-cycle : (step : ℤ → ℤ → Bool) (walk : List ℤ) → IsCycle step walk → Acyclic step → ⊥
no-cycle step walk c acyclic = acyclic c.start c.by c.steps

stable-from_founded : (P : Ground) (set : List ℕ) → IsProgram P → IsFounded P set → Acyclic (joined P.edges (members set)) → Stable P (members set)
stable-from_founded P set facts f acyclic =
    unbroken-stable P (members set) facts
    (any-from_first (λ rule. breaks rule (members set)) P.rules f.kept.rules)
    (within-from_filter (least P (members set)) set f.none)
    (all-from_none (λ l. literal_holds l (members set) (members set)) P.required (any-from_first (λ l. not (literal_holds l (members set) (members set))) P.required f.kept.required))
    acyclic

pub stable-verdict : (P : Ground) (set : List ℕ) (verdict : Verdict) → IsProgram P → VerdictIs P set verdict → (verdict ≡ verdicts.Stable) ↔ Stable P (members set)
stable-verdict P set (verdicts.BrokenRule place) facts is =
    (λ e. absurd (cc), λ s. absurd (let none = broken-none P (members set) facts s in cc))
stable-verdict P set (verdicts.BrokenRequirement place) facts is =
    (λ e. absurd (cc), λ s. absurd (let none = failing-none P (members set) s in cc))
stable-verdict P set (verdicts.Unfounded rest) facts is =
    (λ e. absurd (cc), λ s. absurd (is.2 (is.1 ∙ filter-from_within (least P (members set)) set (λ a m. s.least_is a ∙ m))))
stable-verdict P set (verdicts.Cycle walk) facts is = (λ e. absurd (cc), λ s. absurd (no-cycle _ walk is.1 s.acyclic))
stable-verdict P set verdicts.Stable facts is = (λ e. stable-from_founded P set facts is.0 is.1, λ s. refl)
