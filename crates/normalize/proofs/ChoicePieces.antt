-- A choice of one atom is a rule with the negation of the atom's complement:
--   P. Simons, I. Niemelä, T. Soininen. Extending and implementing the stable model semantics.
--     Artificial Intelligence 138, 2002.
use Rattle.std.proofs.Common.{◌≡◌, refl, sym, ◌∙◌, ap, ap₂, ℕ, ◌==◌, Bool, true, false, cond, not, ◌&&◌, ◌||◌, List, [], ◌∷◌, ◌++◌, ⊎_elim}
use Rattle.std.specs.List.{AllByRecursion}
use Rattle.std.proofs.lemmas.Bool.{false_from_ne_true, or_left, or_right, or_cases, true≢false, cases_Bool, cond-true, cond-false, eqb-true, eq-eqb, ne_eqb}
use Rattle.std.proofs.lemmas.List.Folds.{list_all-append, list_any-append}
use Rattle.asp_base.specs.Literal.{Literal, Neg, atom_of, literal_holds, all_hold}
use Rattle.asp_base.specs.Sets.{Set, none, members, Within}
use Rattle.ground_program.specs.Closed.{Closed}
use Rattle.ground_program.specs.Stable.{step}
use Rattle.ground_program.specs.declared.program.Rule.{Rule}
use Rattle.asp_base.proofs.Bools.{and_true, not-not, or_false}
use Rattle.asp_base.proofs.Each.{each-weaker, each-append}
use Rattle.normalize.specs.private.Replacement.{Near, Respects, Replaces}
use Rattle.normalize.specs.private.Stage.{PairsIn, choice_of, choosing, complement_rule}
use Rattle.normalize.proofs.Reading.{all_hold-near}
use Rattle.normalize.proofs.SamePieces.{same_set, Replaces-same}
use Rattle.normalize.proofs.BlockPieces.{respects-near}

-- where the complement is right, the two rules derive the same
chosen : (a x : ℕ) (lits : List Literal) (Y X N : Set) → all_hold lits Y N ≡ all_hold lits X N
    → N x ≡ not (N a) → (b : ℕ) →
    ((a == b) && all_hold (lits ++ (Neg x ∷ [])) Y N) ≡
    (((members (a ∷ []) b) && N b) && all_hold lits X N)
chosen a x lits Y X N h r b = ap (λ t. (a == b) && t) body ∙ go (a == b) refl
  where
    body : all_hold (lits ++ (Neg x ∷ [])) Y N ≡ (all_hold lits X N && N a)
    body =
        list_all-append (λ l. literal_holds l Y N) lits (Neg x ∷ [])
        ∙ ap₂ ◌&&◌ h (and_true (not (N x)) ∙ (ap not r ∙ not-not (N a)))

    swap : (p q : Bool) → (p && q) ≡ (q && p)
    swap true true = refl
    swap true false = refl
    swap false true = refl
    swap false false = refl

    go : (t : Bool) → (a == b) ≡ t → (t && (all_hold lits X N && N a)) ≡
        (((t || false) && N b) && all_hold lits X N)
    go true e =
        ap (λ c. all_hold lits X N && N c) (eqb-true a b e) ∙ swap (all_hold lits X N) (N b)
    go false e = refl

-- ---- the complement is known

pub Replaces-chosen : (atoms known : Set) (pairs : List (ℕ × ℕ)) (a x : ℕ) (lits : List Literal)
    → Within atoms known → atoms a ≡ true → known x ≡ true →
    AllByRecursion (λ l. known (atom_of l) ≡ true) lits
    → ((N : Set) → Respects pairs N → N x ≡ not (N a)) →
    Replaces atoms known none pairs pairs (choice_of (a ∷ []) lits ∷ []) (choosing a x lits ∷ [])
    same_set
Replaces-chosen atoms known pairs a x lits w at there over right =
    Replaces-same atoms known pairs (choice_of (a ∷ []) lits ∷ []) (choosing a x lits ∷ []) w (
      record { head = at; body = each-append _ lits (Neg x ∷ []) over (there, tt); weights = tt },
      tt,
    )
    (λ X N r b. ap (λ t. t || false) (chosen a x lits X X N refl (right N r) b))
    (λ X N r. refl)

-- ---- the complement is new

module _ (atoms known : Set) (pairs : List (ℕ × ℕ)) (a x : ℕ) (lits : List Literal)
    (w : Within atoms known) (at : atoms a ≡ true) (free : known x ≡ false)
    (over : AllByRecursion (λ l. known (atom_of l) ≡ true) lits) (pairs_in : PairsIn known pairs)
  where
    abbrev F : Set
    F = members (x ∷ [])

    abbrev pub with_complement : Set → Set → Set
    with_complement X N b = cond (members (x ∷ []) b) (not (N a)) (X b)

    abbrev new : List Rule
    new = choosing a x lits ∷ complement_rule a x ∷ []

    is-x : (b : ℕ) → members (x ∷ []) b ≡ true → (x == b) ≡ true
    is-x b e = ⊎_elim (λ k. k) (λ k. absurd (true≢false (sym k))) (or_cases (x == b) false e)

    x-in : members (x ∷ []) x ≡ true
    x-in = or_left (x == x) false (eq-eqb x x refl)

    off : (b : ℕ) → known b ≡ true → members (x ∷ []) b ≡ false
    off b h =
        false_from_ne_true (members (x ∷ []) b)
        (λ e. true≢false (sym h ∙ (ap known (sym (eqb-true x b (is-x b e))) ∙ free)))

    apart : (b : ℕ) → members (x ∷ []) b ≡ true → known b ≡ false
    apart b e = ap known (sym (eqb-true x b (is-x b e))) ∙ free

    known-a : known a ≡ true
    known-a = w a at

    not-a : (b : ℕ) → members (x ∷ []) b ≡ true → (a == b) ≡ false
    not-a b e = ne_eqb a b (λ q. true≢false (sym known-a ∙ (ap known q ∙ apart b e)))

    at-x : (p q h n : Bool) → p ≡ false → q ≡ true
        → ((p && h) || ((q && (n && true)) || false)) ≡ n
    at-x true q h n e k = absurd (true≢false e)
    at-x false true h true e k = refl
    at-x false true h false e k = refl
    at-x false false h n e k = absurd (true≢false (sym k))

    step-x : (N X : Set) (b : ℕ) → members (x ∷ []) b ≡ true
        → step (choosing a x lits ∷ complement_rule a x ∷ []) N X b ≡ not (N a)
    step-x N X b e =
        at-x (a == b) (x == b) (all_hold (lits ++ (Neg x ∷ [])) X N) (not (N a)) (not-a b e)
        (is-x b e)

    at-other : (p h q n : Bool) → (q || false) ≡ false
        → ((p && h) || ((q && (n && true)) || false)) ≡ ((p && h) || false)
    at-other p h true n e = absurd (true≢false e)
    at-other p h false n e = refl

    last : (xs : List (ℕ × ℕ)) (p : ℕ × ℕ) (N : Set) → Respects (xs ++ (p ∷ [])) N → Respects xs N
        × (N p.1 ≡ not (N p.0))
    last [] p N r = (tt, r.0)
    last (y ∷ ys) p N r =
        let k : Respects ys N × (N p.1 ≡ not (N p.0)) = last ys p N r.1 in
        ((r.0, k.0), k.1)

    with-last : (N : Set) → Respects pairs N → N x ≡ not (N a)
        → Respects (pairs ++ ((a, x) ∷ [])) N
    with-last N r e = each-append _ pairs ((a, x) ∷ []) r (e, tt)

    value-x : (X N : Set) (b : ℕ) → members (x ∷ []) b ≡ true → with_complement X N b ≡ not (N a)
    value-x X N b e = cond-true _ _ _ e

    stays : (X N : Set) → Near known (with_complement X N) X
    stays X N b h = cond-false _ _ _ (off b h)

    complement-least : (X N Z : Set) → Within X Z
        → Closed (choosing a x lits ∷ complement_rule a x ∷ []) N Z
        → Within (with_complement X N) Z
    complement-least X N Z h c b e = ⊎_elim
        (λ k. c b (step-x N Z b k ∙ (sym (value-x X N b k) ∙ e)))
        (λ k. h b (sym (cond-false _ _ _ k) ∙ e))
        (cases_Bool (members (x ∷ []) b))

    pub Replaces-complement : Replaces atoms known (members (x ∷ [])) pairs
        (pairs ++ ((a, x) ∷ []))
        (choice_of (a ∷ []) lits ∷ []) (choosing a x lits ∷ complement_rule a x ∷ [])
        with_complement
    Replaces-complement = record {
      rules = (
        record {
          head = or_right (members (x ∷ []) a) _ at;
          body =
              each-append _ lits (Neg x ∷ [])
              (each-weaker _ _ (λ l k. or_right (members (x ∷ []) (atom_of l)) _ k) lits over)
              (or_left _ _ x-in, tt);
          weights = tt;
        },
        (
          record {
            head = or_left _ _ x-in;
            body =
                (or_right (members (x ∷ []) a) _ known-a, tt);
            weights = tt;
          },
          tt,
        ),
      );
      within = w;
      apart = apart;
      outside = λ X N b e. cond-false _ _ _ e;
      inside = λ X N r b e. step-x N (with_complement X N) b e ∙ sym (value-x X N b e);
      least = complement-least;
      derives = λ X N r b e.
          at-other (a == b) (all_hold (lits ++ (Neg x ∷ [])) (with_complement X N) N) (x == b)
          (not (N a)) e
          ∙ ap (λ t. t || false)
          (chosen a x lits (with_complement X N) X N
          (all_hold-near known (with_complement X N) X N N (stays X N) (λ c h. refl) lits over)
          ((last pairs (a, x) N r).1) b);
      headless = λ X N r. refl;
      near =
          λ X Y N M s n b e. value-x X N b e
          ∙ (ap not (n a (or_right (members (x ∷ []) a) _ known-a)) ∙ sym (value-x Y M b e));
      unique =
          λ X Y N M s n u v b e. u b e
          ∙ (value-x X N b e ∙ (ap not (n a known-a) ∙ sym (v b e ∙ value-x Y M b e)));
      settles = λ M r. (
        with_complement M M,
        λ b e. cond-false _ _ _ e,
        with-last (with_complement M M)
            (respects-near known (with_complement M M) M (stays M M) pairs pairs_in r)
            (value-x M M x x-in ∙ ap not (sym (stays M M a known-a))),
        λ b e. value-x M M b e
            ∙ (ap not (sym (stays M M a known-a)) ∙ sym (value-x M (with_complement M M) b e)),
      );
      grows = λ N r. (last pairs (a, x) N r).0;
      refutes = λ N r h. with-last N r (h x x-in ∙ step-x N N x x-in);
    }

-- ---- choices of several atoms

more-chosen : (p q n h : Bool) → (((p && n) && h) || ((((q || false) && n) && h) || false)) ≡
    ((((p || (q || false))) && n) && h)
more-chosen true true true true = refl
more-chosen true true true false = refl
more-chosen true true false h = refl
more-chosen true false true true = refl
more-chosen true false true false = refl
more-chosen true false false h = refl
more-chosen false true true true = refl
more-chosen false true true false = refl
more-chosen false true false h = refl
more-chosen false false n h = refl

pub choice-more : (as_ : List ℕ) (a : ℕ) (lits : List Literal) (X N : Set) (b : ℕ) →
    step (choice_of as_ lits ∷ choice_of (a ∷ []) lits ∷ []) N X b ≡ step
    (choice_of (as_ ++ (a ∷ [])) lits ∷ []) N X b
choice-more as_ a lits X N b =
    more-chosen (members as_ b) (a == b) (N b) (all_hold lits X N)
    ∙ (ap (λ m. (m && N b) && all_hold lits X N)
    (sym (list_any-append (λ c. c == b) as_ (a ∷ [])))
    ∙ sym (or_false _))
