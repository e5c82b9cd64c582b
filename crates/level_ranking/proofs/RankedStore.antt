-- The models of the completion with rankings, cut to the atoms, are one to one the founded sets.
use Rattle.std.proofs.Common.{◌≡◌, refl, sym, ◌∙◌, ap, ap₂, subst, ℕ, ◌^◌, ◌≤◌, ◌<◌, ◌==◌, Bool, true, false, not, ◌&&◌, ◌||◌, ltb, List, [], ◌∷◌, length, ⊎_elim, arith}
use mathlib.Core.Path.{fun_ext}
use Rattle.std.specs.List.{list_any, list_all, AllByRecursion}
use Rattle.std.proofs.lemmas.Bool.{and_parts, and_from, or_left, or_right, cases_lt, cases_Bool, eqb-true, eq-eqb, ltb-true, lt-ltb}
use Rattle.asp_base.specs.Literal.{Literal}
use Rattle.asp_base.specs.Sets.{Set, members, Same}
use Rattle.asp_base.specs.Walks.{Acyclic}
use Rattle.ground_program.specs.Facts.{IsProgram}
use Rattle.rising_numbers.specs.Rising.{place}
use Rattle.ground_program.specs.Ground.{Ground}
use Rattle.ground_program.specs.Stable.{head_has, Founded, Supported}
use Rattle.rising_numbers.proofs.PlaceLaws.{place-within, place-outside}
use Rattle.rising_numbers.proofs.RisingLaws.{rises-filter}
use Rattle.ground_program.proofs.Plain.{at_member, members-filter}
use Rattle.ground_program.proofs.Negative.{Supported-from_Founded}
use Rattle.clause_store.specs.Extension.{Agree}
use Rattle.clause_store.specs.Additions.{IsSound}
use Rattle.clause_store.specs.Gates.{values_at}
use Rattle.clause_store.proofs.TableGates.{length-values}
use Rattle.clause_store.specs.Models.{clauses_true, IsAssignment, IsModel, linked}
use Rattle.clause_store.specs.Stored.{Stored, formula_of_store}
use Rattle.completion.specs.Completion.{atoms_at, is_empty, body_literals, with_bodies, completed, completion, atoms_only}
use Rattle.ground_program.specs.Normal.{AreNormal}
use Rattle.completion.proofs.BodyLaws.{body_literals-over, with_bodies-above}
use Rattle.completion.proofs.CompletionLaws.{body_true, completed-bodies, completed-one, completed-edges, completed-soft, supported-from_clauses, completion-has_supported, zero_false, Ready-inputs}
use Rattle.completion.proofs.OverLaws.{completed-sound}
use Rattle.digit_gates.specs.Digits.{number_at, predecessor}
use Rattle.digit_gates.proofs.DigitLaws.{number-fits}
use Rattle.level_ranking.specs.Components.{AreParts, atoms_of_part, component}
use Rattle.level_ranking.specs.Encoding.{inside, after_atoms, width_of, ranked_atoms, digits_at, with_digits, rows_at, after_parts, with_rankings, part_width}
use Rattle.level_ranking.proofs.Conditions.{is_empty_body, is_given, supports, near_one_of, keeps_near, Meets, MeetsAll, AreWide}
use Rattle.level_ranking.specs.Ranked.{rank_in_part, HasFounded}
use Rattle.level_ranking.specs.private.Counts.{parts_vars, parts_clauses, atoms_vars, atoms_clauses}
use Rattle.level_ranking.proofs.WidthLaws.{digits-fit, some_digit}
use Rattle.level_ranking.proofs.ComponentRanks.{Meets-same, Founded-from_conditions, ranks-from_conditions, conditions-from_Founded}
use Rattle.level_ranking.proofs.Limits.{Limits, limits-nothing, limits-compose}
use Rattle.level_ranking.proofs.AtomLaws.{HasDigits, supports_test, near_test, nears_test}
use Rattle.level_ranking.proofs.PartLaws.{atom_test, IsAtom, atoms-limits}
use Rattle.level_ranking.proofs.RowLaws.{BodiesSay, bodies-say, rows-any, rows-all, rows-over}
use Rattle.level_ranking.proofs.NewDigits.{digits_test, MakesDigits, makes-digits}

-- ---- lists

pub each-from_members : (P : ℕ → Type 0) (xs : List ℕ) → ((a : ℕ) → members xs a ≡ true → P a) → AllByRecursion P xs
each-from_members P [] h = tt
each-from_members P (x ∷ xs) h = (h x (or_left _ _ (eq-eqb x x refl)), each-from_members P xs (λ a m. h a (or_right _ _ m)))

all-member : (p : ℕ → Bool) (xs : List ℕ) → ((a : ℕ) → members xs a ≡ true → p a ≡ true) → list_all p xs ≡ true
all-member p [] h = refl
all-member p (x ∷ xs) h = and_from _ _ (h x (or_left _ _ (eq-eqb x x refl))) (all-member p xs (λ a m. h a (or_right _ _ m)))

no_items : (xs : List ℕ) → length xs ≤ 0 → xs ≡ []
no_items [] h = refl
no_items (x ∷ xs) h = absurd (omega arith)

cut_or : (g n x : Bool) → (g || (not n || x)) ≡ true → g ≡ false → n ≡ true → x ≡ true
cut_or g n x e h k = sym (ap₂ (λ y z. y || (not z || x)) h k) ∙ e

join_or : (g n x : Bool) → (g ≡ false → n ≡ true → x ≡ true) → (g || (not n || x)) ≡ true
join_or true n x h = refl
join_or false true x h = h refl refl
join_or false false x h = refl

module _ (P : Ground) (part : ℕ → ℕ) (parts : List ℕ) where
  abbrev pub part_test : ℕ → Set → Bool
  part_test c A = list_all (λ a. atom_test (part_width P part parts c) (digits_at P part parts) (place P.atoms a) (digits_at P part parts a) (rows_at P part parts c a) A) (atoms_of_part part c P.atoms)

module _ (P : Ground) (program : IsProgram P) (normal : AreNormal P.rules) (part : ℕ → ℕ) (parts : List ℕ) (are : AreParts P.rules P.atoms part (members parts)) where
  abbrev first : Stored
  first = completed P

  abbrev base : Stored
  base = with_digits P part parts

  abbrev last : Stored
  last = with_rankings P part parts

  abbrev var : ℕ → ℕ
  var = place P.atoms

  abbrev digits : ℕ → List Literal
  digits = digits_at P part parts

  abbrev ranked : List ℕ
  ranked = ranked_atoms P part parts

  pub place-in : (a : ℕ) → members P.atoms a ≡ true → (0 < var a) × (var a ≤ first.vars)
  place-in a m =
      let k : (0 < var a) × (var a ≤ length P.atoms) = place-within P.atoms a m in
      let l : length P.atoms ≤ (with_bodies P).vars = with_bodies-above P in
      let h : var a ≤ length P.atoms = k.1 in
      (k.0, omega arith)

  pub in_ranked : (a : ℕ) → members P.atoms a ≡ true → members parts (part a) ≡ true → members ranked a ≡ true
  in_ranked a m h = members-filter (λ b. members parts (part b)) P.atoms a ∙ and_from _ _ m h

  pub from_ranked : (a : ℕ) → members ranked a ≡ true → (members P.atoms a ≡ true) × (members parts (part a) ≡ true)
  from_ranked a h = and_parts _ _ (sym (members-filter (λ b. members parts (part b)) P.atoms a) ∙ h)

  pub from_part : (c a : ℕ) → component P part c a ≡ true → (members P.atoms a ≡ true) × (part a ≡ c)
  from_part c a h = let k : (members P.atoms a ≡ true) × ((part a == c) ≡ true) = and_parts _ _ (sym (members-filter (λ b. part b == c) P.atoms a) ∙ h) in (k.0, eqb-true (part a) c k.1)

  pub in_part : (a : ℕ) → members P.atoms a ≡ true → component P part (part a) a ≡ true
  in_part a m = members-filter (λ b. part b == part a) P.atoms a ∙ and_from _ _ m (eq-eqb (part a) (part a) refl)

  pub made : MakesDigits var (width_of P part parts) ranked first base
  made = makes-digits var (width_of P part parts) 0 ranked first (rises-filter (λ b. members parts (part b)) 0 P.atoms program.atoms_rise)
      (λ a m. place-in a (from_ranked a m).0) (completed-sound P program)

  pub has-digits : (c a : ℕ) → members parts c ≡ true → component P part c a ≡ true → HasDigits base.vars (part_width P part parts c) (digits a)
  has-digits c a y h =
      let k : (members P.atoms a ≡ true) × (part a ≡ c) = from_part c a h in
      subst (λ d. HasDigits base.vars (part_width P part parts d) (digits a)) k.1 (made.has a (in_ranked a k.0 (subst (λ d. members parts d ≡ true) (sym k.1) y)))

  pub is-atom : (c a : ℕ) → members parts c ≡ true → component P part c a ≡ true → IsAtom base.vars (part_width P part parts c) var digits (rows_at P part parts c) a
  is-atom c a y h =
      let k : (0 < var a) × (var a ≤ first.vars) = place-in a (from_part c a h).0 in
      let l : var a ≤ first.vars = k.1 in
      let u : first.vars ≤ base.vars = made.grows.up in
      record {
        low = k.0;
        high = omega arith;
        own = has-digits c a y h;
        rules = rows-over first.vars base.vars (part_width P part parts c) digits (component P part c) a made.grows.up (λ b m. has-digits c b y m) P.rules (body_literals P) (body_literals-over P program.rules);
      }

  part-limits : (c : ℕ) (s : Stored) → members parts c ≡ true → base.vars ≤ s.vars → IsSound s
      → Limits base.vars (atoms_vars (part_width P part parts c) (rows_at P part parts c) (atoms_of_part part c P.atoms)) (atoms_clauses (part_width P part parts c) (rows_at P part parts c) (atoms_of_part part c P.atoms))
      (part_test P part parts c) s (after_atoms var digits (rows_at P part parts c) (atoms_of_part part c P.atoms) s)
  part-limits c s y h x = ⊎_elim
      (λ some. atoms-limits base.vars (part_width P part parts c) (some_digit (length (atoms_of_part part c P.atoms)) some) var digits (rows_at P part parts c) (atoms_of_part part c P.atoms) s
      (each-from_members (IsAtom base.vars (part_width P part parts c) var digits (rows_at P part parts c)) (atoms_of_part part c P.atoms) (λ a m. is-atom c a y m)) h x)
      (λ none. subst (λ xs. Limits base.vars (atoms_vars (part_width P part parts c) (rows_at P part parts c) xs) (atoms_clauses (part_width P part parts c) (rows_at P part parts c) xs)
      (λ A. list_all (λ a. atom_test (part_width P part parts c) digits (var a) (digits a) (rows_at P part parts c a) A) xs) s (after_atoms var digits (rows_at P part parts c) xs s))
      (sym (no_items (atoms_of_part part c P.atoms) none)) (limits-nothing base.vars s h x))
      (cases_lt 0 (length (atoms_of_part part c P.atoms)))

  parts-limits : (cs : List ℕ) (s : Stored) → ((c : ℕ) → members cs c ≡ true → members parts c ≡ true) → base.vars ≤ s.vars → IsSound s
      → Limits base.vars (parts_vars P part parts cs) (parts_clauses P part parts cs) (λ A. list_all (λ c. part_test P part parts c A) cs) s (after_parts P part parts cs s)
  parts-limits [] s f h x = limits-nothing base.vars s h x
  parts-limits (c ∷ cs) s f h x =
      let t : Stored = after_atoms var digits (rows_at P part parts c) (atoms_of_part part c P.atoms) s in
      let i : Limits base.vars (atoms_vars (part_width P part parts c) (rows_at P part parts c) (atoms_of_part part c P.atoms)) (atoms_clauses (part_width P part parts c) (rows_at P part parts c) (atoms_of_part part c P.atoms)) (part_test P part parts c) s t =
      part-limits c s (f c (or_left _ _ (eq-eqb c c refl))) h x in
      let up : s.vars ≤ t.vars = i.grows.up in
      limits-compose base.vars (atoms_vars (part_width P part parts c) (rows_at P part parts c) (atoms_of_part part c P.atoms)) (atoms_clauses (part_width P part parts c) (rows_at P part parts c) (atoms_of_part part c P.atoms))
      (parts_vars P part parts cs) (parts_clauses P part parts cs) (part_test P part parts c) _ s t (after_parts P part parts cs t) i
      (parts-limits cs t (λ d m. f d (or_right _ _ m)) (omega arith) i.grows.sound)

  pub limits : Limits base.vars (parts_vars P part parts parts) (parts_clauses P part parts parts) (λ A. list_all (λ c. part_test P part parts c A) parts) base last
  limits = parts-limits parts base (λ c m. m) (omega arith) made.grows.sound

  -- ---- the tests of a component are its conditions

  module _ (A : Set) (bodies : clauses_true (with_bodies P).hard A ≡ true) where
    abbrev M : Set
    M = atoms_at P.atoms A

    abbrev r : ℕ → ℕ
    r b = number_at A (digits b)

    say : BodiesSay A M P.rules (body_literals P)
    say = bodies-say P.atoms P.rules (atoms_only P) A normal program.rules (Ready-inputs P.atoms) bodies

    given-is : (c a : ℕ) → list_any (λ row. is_empty row.body) (rows_at P part parts c a) ≡ is_given P.rules M a
    given-is c a = rows-any (component P part c) a A M (λ row. is_empty row.body) (λ rule. is_empty_body rule.body) (λ rule body k. k.empty) P.rules (body_literals P) normal say

    supports-are : (c a : ℕ) → list_any (supports_test (part_width P part parts c) digits (digits a) A) (rows_at P part parts c a)
        ≡ list_any (λ rule. head_has rule.head M a && supports (component P part c) (part_width P part parts c) M r a rule) P.rules
    supports-are c a = rows-any (component P part c) a A M (supports_test (part_width P part parts c) digits (digits a) A) (supports (component P part c) (part_width P part parts c) M r a)
        (λ rule body k. ap (λ b. b && list_all (λ d. not (ltb (predecessor (part_width P part parts c) (r a)) (r d))) (inside (component P part c) rule)) k.holds) P.rules (body_literals P) normal say

    near-is : (w a : ℕ) (bs : List ℕ) → near_test w digits (digits a) A bs ≡ near_one_of w r a bs
    near-is w a [] = refl
    near-is w a (b ∷ bs) = refl

    nears-are : (c a : ℕ) → nears_test (part_width P part parts c) digits (digits a) (rows_at P part parts c a) A
        ≡ list_all (λ rule. not (head_has rule.head M a) || keeps_near (component P part c) (part_width P part parts c) M r a rule) P.rules
    nears-are c a = rows-all (component P part c) a A M (λ row. not (body_true row.body A) || near_test (part_width P part parts c) digits (digits a) A row.inside) (keeps_near (component P part c) (part_width P part parts c) M r a)
        (λ rule body k. ap₂ (λ x y. not x || y) k.holds (near-is (part_width P part parts c) a (inside (component P part c) rule))) P.rules (body_literals P) normal say

    -- what the digits' own clauses say
    abbrev Digits : Type 0
    Digits = (a : ℕ) → members ranked a ≡ true → digits_test (M a) (r a) ≡ true

    meets-from_test : Digits → (c : ℕ) → members parts c ≡ true → part_test P part parts c A ≡ true → Meets (component P part c) (part_width P part parts c) P.rules M r
    meets-from_test own c y t = record {
      fits = λ a s. let d : HasDigits base.vars (part_width P part parts c) (digits a) = has-digits c a y s in number_below a (part_width P part parts c) d.count;
      zero_outside = λ a s m. eqb-true (r a) 0 (sym (ap (λ b. digits_test b (r a)) m) ∙ own a (ranked-of a s));
      from_one = λ a s m. ltb-true 0 (r a) (sym (ap (λ b. digits_test b (r a)) m) ∙ own a (ranked-of a s));
      supported = λ a s g m. sym (supports-are c a) ∙ cut_or _ (M a) _ ((and_parts _ _ (at_member (λ b. atom_test (part_width P part parts c) digits (var b) (digits b) (rows_at P part parts c b) A) (atoms_of_part part c P.atoms) a t s)).0) (given-is c a ∙ g) m;
      near = λ a s. sym (nears-are c a) ∙ (and_parts _ _ (at_member (λ b. atom_test (part_width P part parts c) digits (var b) (digits b) (rows_at P part parts c b) A) (atoms_of_part part c P.atoms) a t s)).1;
    }
      where
        ranked-of : (a : ℕ) → component P part c a ≡ true → members ranked a ≡ true
        ranked-of a s = let k : (members P.atoms a ≡ true) × (part a ≡ c) = from_part c a s in in_ranked a k.0 (subst (λ d. members parts d ≡ true) (sym k.1) y)

        number_below : (a w : ℕ) → length (digits a) ≡ w → r a < 2 ^ w
        number_below a w e = subst (λ n. r a < 2 ^ n) (length-values A (digits a) ∙ e) (number-fits (values_at A (digits a)))

    test-from_meets : (c : ℕ) → members parts c ≡ true → Meets (component P part c) (part_width P part parts c) P.rules M r → part_test P part parts c A ≡ true
    test-from_meets c y k = all-member _ (atoms_of_part part c P.atoms)
        (λ a s. and_from _ _ (join_or _ (M a) _ (λ g m. supports-are c a ∙ k.supported a s (sym (given-is c a) ∙ g) m)) (nears-are c a ∙ k.near a s))

  -- ---- models

  abbrev cyclic : ℕ → Bool
  cyclic c = members parts c

  abbrev widths : ℕ → ℕ
  widths c = part_width P part parts c

  wide : AreWide P part cyclic widths
  wide c y = digits-fit (length (atoms_of_part part c P.atoms))

  -- what holds wherever all clauses are true
  module _ (A : Set) (zero_is : A 0 ≡ false) (true_there : clauses_true last.hard A ≡ true) where
    base-true : clauses_true base.hard A ≡ true
    base-true = limits.grows.keeps A true_there

    first-true : clauses_true first.hard A ≡ true
    first-true = made.grows.keeps A base-true

    supported : Supported P (atoms_at P.atoms A)
    supported = supported-from_clauses P program normal A zero_is first-true

    meets-all : MeetsAll P part cyclic widths (atoms_at P.atoms A) (λ b. number_at A (digits b))
    meets-all c y = meets-from_test A (completed-bodies P program A first-true) (λ a m. made.only A base-true a m) c y
        (at_member (λ d. part_test P part parts d A) parts c (limits.only A true_there) y)

    founded : Founded P (atoms_at P.atoms A)
    founded = Founded-from_conditions P program normal part cyclic are widths (atoms_at P.atoms A) (λ b. number_at A (digits b)) supported meets-all

    ranks : (a : ℕ) → members P.atoms a ≡ true → members parts (part a) ≡ true → number_at A (digits a) ≡ rank_in_part P part (atoms_at P.atoms A) a
    ranks a m y = ranks-from_conditions P program normal part cyclic are widths (atoms_at P.atoms A) (λ b. number_at A (digits b)) supported meets-all a m y

  -- the atoms determine all variables
  determined : (A B : Set) → A 0 ≡ false → B 0 ≡ false → clauses_true last.hard A ≡ true → clauses_true last.hard B ≡ true → Same (atoms_at P.atoms A) (atoms_at P.atoms B) → Agree last.vars A B
  determined A B y z t u e =
      let m : atoms_at P.atoms A ≡ atoms_at P.atoms B = fun_ext e in
      limits.one A B t u
      (made.one A B
      (completed-one P program A B y z (first-true A y t) (first-true B z u) e)
      (λ a h. let k : (members P.atoms a ≡ true) × (members parts (part a) ≡ true) = from_ranked a h in
      ranks A y t a k.0 k.1 ∙ (ap (λ N. rank_in_part P part N a) m ∙ sym (ranks B z u a k.0 k.1))))

  same_assignments : (n : ℕ) (A B : Set) → IsAssignment n A → IsAssignment n B → Agree n A B → Same A B
  same_assignments n A B a b e v = go (A v) refl (B v) refl
    where
      go : (x : Bool) → A v ≡ x → (y : Bool) → B v ≡ y → x ≡ y
      go true p true q = refl
      go false p false q = refl
      go true p false q = sym p ∙ (e v (a v p).1 ∙ q)
      go false p true q = sym p ∙ (e v (b v q).1 ∙ q)

  last-edges : last.edges ≡ []
  last-edges = limits.grows.edges ∙ (made.grows.edges ∙ completed-edges P program)

  last-soft : last.soft ≡ []
  last-soft = limits.grows.soft ∙ (made.grows.soft ∙ completed-soft P program)

  -- assignments that agree on the first variables say the same of the atoms
  same_atoms : (A B : Set) → A 0 ≡ B 0 → Agree first.vars A B → Same (atoms_at P.atoms A) (atoms_at P.atoms B)
  same_atoms A B z e a = ⊎_elim
      (λ m. e (var a) (place-in a m).1)
      (λ m. ap A (place-outside P.atoms a m) ∙ (z ∙ sym (ap B (place-outside P.atoms a m))))
      (cases_Bool (members P.atoms a))

  same_through : (A B M : Set) → Same (atoms_at P.atoms A) (atoms_at P.atoms B) → Same (atoms_at P.atoms A) M → Same (atoms_at P.atoms B) M
  same_through A B M e f a = sym (e a) ∙ f a

  zero_same : (m n : ℕ) (A B : Set) → IsAssignment m A → IsAssignment n B → A 0 ≡ B 0
  zero_same m n A B a b = zero_false m A a ∙ sym (zero_false n B b)

  model-of : (M : Set) → Founded P M → (A : Set) × IsModel (formula_of_store last 1) A × Same (atoms_at P.atoms A) M
  model-of M f =
      let conditions : MeetsAll P part cyclic widths M (rank_in_part P part M) = conditions-from_Founded P program normal part cyclic are widths M wide f in
      let found : (A : Set) × IsModel (completion P) A × Same (atoms_at P.atoms A) M = (completion-has_supported P program normal).onto M (Supported-from_Founded P M normal f) in
      let A : Set = found.0 in
      let part-in : (a : ℕ) → members ranked a ≡ true → component P part (part a) a ≡ true = λ a h. in_part a (from_ranked a h).0 in
      let some : (B : Set) × IsAssignment base.vars B × (clauses_true base.hard B ≡ true) × Agree first.vars A B × ((a : ℕ) → members ranked a ≡ true → number_at B (digits a) ≡ rank_in_part P part M a) =
      made.some A found.1.over found.1.clauses (rank_in_part P part M)
      (λ a h. (conditions (part a) (from_ranked a h).1).fits a (part-in a h))
      (λ a h. digits-right (M a) (rank_in_part P part M a) (A (var a)) (found.2 a)
      ((conditions (part a) (from_ranked a h).1).zero_outside a (part-in a h)) ((conditions (part a) (from_ranked a h).1).from_one a (part-in a h))) in
      let B : Set = some.0 in
      let same : Same (atoms_at P.atoms B) M = same_through A B M (same_atoms A B (zero_same first.vars base.vars A B found.1.over some.1) some.3) found.2 in
      let is : atoms_at P.atoms B ≡ M = fun_ext same in
      let bodies : clauses_true (with_bodies P).hard B ≡ true = completed-bodies P program B (made.grows.keeps B some.2) in
      let tests : list_all (λ c. part_test P part parts c B) parts ≡ true = all-member _ parts
      (λ c y. test-from_meets B bodies c y
      (subst (λ N. Meets (component P part c) (widths c) P.rules N (λ b. number_at B (digits b))) (sym is)
      (Meets-same (component P part c) (widths c) P.rules M (rank_in_part P part M) (λ b. number_at B (digits b))
      (λ a s. let k : (members P.atoms a ≡ true) × (part a ≡ c) = from_part c a s in sym (some.4 a (in_ranked a k.0 (subst (λ d. members parts d ≡ true) (sym k.1) y))))
      (conditions c y)))) in
      let whole : (C : Set) × IsAssignment last.vars C × (clauses_true last.hard C ≡ true) × Agree base.vars B C = limits.some B some.1 some.2 tests in
      let C : Set = whole.0 in
      let up : first.vars ≤ base.vars = made.grows.up in (
        C,
        record {
          over = whole.1;
          clauses = whole.2;
          acyclic = subst (λ edges. Acyclic (linked edges C)) (sym last-edges) (subst (λ edges. Acyclic (linked edges A)) (completed-edges P program) found.1.acyclic);
        },
        same_through B C M (same_atoms B C (zero_same base.vars last.vars B C some.1 whole.1) (λ v l. whole.3 v (omega arith))) same,
      )
    where
      digits-right : (m : Bool) (n : ℕ) (x : Bool) → x ≡ m → (m ≡ false → n ≡ 0) → (m ≡ true → 0 < n) → digits_test x n ≡ true
      digits-right true n x e f g = ap (λ b. digits_test b n) e ∙ lt-ltb 0 n (g refl)
      digits-right false n x e f g = ap (λ b. digits_test b n) e ∙ eq-eqb n 0 (f refl)

  pub rankings-have_founded : HasFounded P part parts (formula_of_store last 1)
  rankings-have_founded = record {
    founded = λ A m. founded A (zero_false _ A m.over) m.clauses;
    one = λ A B m k e. same_assignments last.vars A B m.over k.over (determined A B (zero_false _ A m.over) (zero_false _ B k.over) m.clauses k.clauses e);
    onto = model-of;
    ranks = λ A m a h y. ranks A (zero_false _ A m.over) m.clauses a h y;
  }
