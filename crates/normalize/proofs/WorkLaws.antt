-- What is true of normalization under way.
use Rattle.std.proofs.Common.{◌≡◌, refl, sym, ◌∙◌, ap, ap₂, subst, subst₂, ℕ, ◌<◌, ◌≤◌, ◌^◌, ◌==◌, ◌||◌, Bool, true, false, List, [], ◌∷◌, ◌++◌, ⊎_elim}
use Rattle.std.specs.List.{IsDistinct}
use Rattle.std.proofs.lemmas.Bool.{or_left, or_right, or_cases, true≢false, eqb-true, eq-eqb, ne_eqb}
use Rattle.std.proofs.lemmas.List.{append_assoc}
use Rattle.asp_base.specs.Literal.{Literal, Pos, Neg}
use Rattle.asp_base.specs.Sets.{members}
use Rattle.ground_program.specs.Facts.{IsProgram, IsAtom}
use Rattle.ground_program.specs.Fresh.{Supply, IsLeastFree, least_free, taken}
use Rattle.ground_program.specs.Ground.{Ground}
use Rattle.ground_program.specs.declared.program.Head.{Head}
use Rattle.ground_program.specs.declared.program.Head.TheVariants.{One}
use Rattle.ground_program.specs.declared.program.Body.TheVariants.{All}
use Rattle.ground_program.specs.declared.program.Rule.{Rule}
use Rattle.ground_program.specs.Dependencies.{positives_of_literals}
use Rattle.ground_program.specs.Occurrences.{atoms_of_head}
use Rattle.normalize.specs.private.Added.{Adds, AddsAnswer}
use Rattle.normalize.specs.private.Replacement.{HeadIn}
use Rattle.normalize.specs.private.Stage.{Stage, IsStage, atoms_of, known, Listed, IsUnlisted, LitsKnown, Turns, Answers, with_rule, choice_of, choosing, complement_rule}
use Rattle.ground_program.specs.Normal.{IsNormalHead}
use Rattle.asp_base.proofs.Each.{each-member, each-push}
use Rattle.rising_numbers.proofs.RisingLaws.{members-above, members-append}
use Rattle.std.proofs.lemmas.Map.Keys.{IsDistinct-cons, IsDistinct-head, IsDistinct-tail}
use Rattle.normalize.proofs.AddedLaws.{Adds-rule}
use Rattle.normalize.proofs.NameLaws.{named, name-answers, name-adds}
use Rattle.normalize.proofs.RuleLaws.{Adds-chosen, Adds-complement}
use Rattle.normalize.proofs.Stages.{stage, stages-same}
use Rattle.normalize.proofs.StageLaws.{atoms-known, known-wider, taken-more, listed-in, Turns-rule, Turns-chosen, Turns-complement}

-- ---- no atom has two complements

abbrev once_test : ℕ × ℕ → ℕ × ℕ → Bool
once_test p q = p.0 == q.0

once-none : IsDistinct once_test []
unfolding IsDistinct
once-none = tt

once-more : (pairs : List (ℕ × ℕ)) (a x : ℕ) → IsDistinct once_test pairs → IsUnlisted pairs a
    → IsDistinct once_test (pairs ++ ((a, x) ∷ []))
once-more [] a x d u = IsDistinct-cons once_test (a, x) [] tt once-none
once-more (pair ∷ pairs) a x d u =
    IsDistinct-cons once_test pair (pairs ++ ((a, x) ∷ []))
    (each-push _ pairs (a, x) (IsDistinct-head once_test pair pairs d)
    (ne_eqb pair.0 a (λ e. true≢false (sym (eq-eqb a pair.0 (sym e)) ∙ u.0))))
    (once-more pairs a x (IsDistinct-tail once_test pair pairs d) u.1)

-- nothing was made yet
pub start-stage : (P : Ground) → IsProgram P → (rules : List Rule) (supply : Supply)
    (pairs : List (ℕ × ℕ)) → rules ≡ [] → supply ≡ record { atoms = P.atoms; given = [] }
    → pairs ≡ [] → IsStage (record { rules = rules; supply = supply; pairs = pairs })
start-stage P f rules supply pairs r s p =
    subst (λ q. IsStage (record { rules = rules; supply = supply; pairs = q })) (sym p)
    (subst (λ v. IsStage (record { rules = rules; supply = v; pairs = [] })) (sym s)
    (record {
      pairs = tt;
      once = once-none;
      atoms = λ a e. (
        members-above 0 P.atoms a f.atoms_rise e,
        each-member _ P.atoms a f.atoms_fit e,
      );
      dense = λ a b m low l. absurd (true≢false (sym m));
    }))

-- a complement is an atom
pub listed-fits : (s : Stage) → IsStage s → (a x : ℕ) → Listed s.pairs a x → IsAtom x
listed-fits s is a x h = is.atoms x (listed-in (known s) s.pairs a x is.pairs h)

pub atom-fits : (s v : Stage) → v ≡ s → IsStage v → (a : ℕ) → atoms_of s a ≡ true → IsAtom a
atom-fits s v e is a h = is.atoms a (atoms-known v a (subst (λ w. atoms_of w a ≡ true) (sym e) h))

-- what is said of a stage and of one that was made is said of those that are equal to them
pub moved : (R : Stage → Stage → Type 0) (s v t u : Stage) → v ≡ s → t ≡ u → R v u → R s t
moved R s v t u e f h = subst₂ R e (sym f) h

-- what the rules of a choice of one atom leave
pub record Chosen (a : ℕ) (lits : List Literal) (s t : Stage) : Type 0 where
  pub turns : Turns (choice_of (a ∷ []) lits ∷ []) s t
  pub adds : Adds (a ∷ []) (positives_of_literals lits) s t

module _ (s v : Stage) (e : v ≡ s) (is : IsStage v) (a : ℕ) (lits : List Literal)
    (at : atoms_of s a ≡ true) (over : LitsKnown s lits) where
  at-now : atoms_of v a ≡ true
  at-now = subst (λ w. atoms_of w a ≡ true) (sym e) at

  over-now : LitsKnown v lits
  over-now = subst (λ w. LitsKnown w lits) (sym e) over

  -- the rule of a choice whose complement is there
  module _ (x : ℕ) (body : List Literal) (rules : List Rule)
      (r : rules ≡ v.rules ++ (record { head = One a; body = All body } ∷ []))
      (b : body ≡ lits ++ (Neg x ∷ [])) where
    chosen-is : stage rules v.supply v.pairs ≡ with_rule (choosing a x lits) v
    chosen-is = ap (λ rs. stage rs v.supply v.pairs)
        (r ∙ ap (λ bs. v.rules ++ (record { head = One a; body = All bs } ∷ [])) b)

    pub chosen-leaves : Listed v.pairs a x → Chosen a lits s (stage rules v.supply v.pairs)
    chosen-leaves h =
        moved (Chosen a lits) s v _ _ e chosen-is (record {
          turns = Turns-chosen v is.pairs a x lits at-now over-now h;
          adds = Adds-chosen v a x lits;
        })

  -- the rules of a choice whose complement is new
  module _ (x : ℕ) (body refuted : List Literal) (first rules : List Rule) (supply : Supply)
      (pairs : List (ℕ × ℕ))
      (f : first ≡ v.rules ++ (record { head = One a; body = All body } ∷ []))
      (b : body ≡ lits ++ (Neg x ∷ []))
      (r : rules ≡ first ++ (record { head = One x; body = All refuted } ∷ []))
      (n : refuted ≡ Neg a ∷ [])
      (u : supply ≡ record v.supply { given = v.supply.given ++ (x ∷ []) })
      (p : pairs ≡ v.pairs ++ ((a, x) ∷ [])) (free : IsLeastFree (taken v.supply) x) where
    abbrev with_complement : Stage
    with_complement = record {
      rules = v.rules ++ (choosing a x lits ∷ complement_rule a x ∷ []);
      supply = record { atoms = v.supply.atoms; given = v.supply.given ++ (x ∷ []) };
      pairs = v.pairs ++ ((a, x) ∷ []);
    }

    all-rules : rules ≡ v.rules ++ (choosing a x lits ∷ complement_rule a x ∷ [])
    all-rules = r ∙ (ap (λ l. first ++ (record { head = One x; body = All l } ∷ [])) n
        ∙ (ap (λ rs. rs ++ (complement_rule a x ∷ []))
        (f ∙ ap (λ l. v.rules ++ (record { head = One a; body = All l } ∷ [])) b)
        ∙ append_assoc v.rules (choosing a x lits ∷ []) (complement_rule a x ∷ [])))

    complement-is : stage rules supply pairs ≡ with_complement
    complement-is = stages-same _ _ _ _ _ _ all-rules u p

    pub complement-leaves : Chosen a lits s (stage rules supply pairs)
    complement-leaves =
        moved (Chosen a lits) s v _ _ e complement-is (record {
          turns = Turns-complement v is.pairs a x lits at-now over-now free.free;
          adds = Adds-complement v a x lits free.positive free.free;
        })

-- with one more number
module _ (v : Stage) (is : IsStage v) (x : ℕ) (supply : Supply) (rules : List Rule)
    (u : supply ≡ record v.supply { given = v.supply.given ++ (x ∷ []) })
    (free : IsLeastFree (taken v.supply) x) (high : x ≤ 2 ^ 30) where
  known-more : (b : ℕ) → members (taken supply) b ≡ (members (x ∷ []) b || known v b)
  known-more b =
      ap (λ w. members (taken w) b) u ∙ taken-more v.supply.given v.supply.atoms x b

  wider : (b : ℕ) → known v b ≡ true → members (taken supply) b ≡ true
  wider b h = known-more b ∙ or_right (members (x ∷ []) b) _ h

  only : (b : ℕ) → members (x ∷ []) b ≡ true → (x == b) ≡ true
  only b k = ⊎_elim (λ q. q) (λ q. absurd (true≢false (sym q))) (or_cases (x == b) false k)

  pub drawn-stage : IsStage (stage rules supply v.pairs)
  drawn-stage = record {
    pairs = known-wider (known v) (members (taken supply)) wider v.pairs is.pairs;
    once = is.once;
    atoms = λ b e. ⊎_elim
        (λ k. subst IsAtom (eqb-true x b (only b k)) (free.positive, high))
        (λ k. is.atoms b k)
        (or_cases (members (x ∷ []) b) (known v b) (sym (known-more b) ∙ e));
    dense = λ b c m low l. wider b (⊎_elim
        (λ k. is.dense b c k low l)
        (λ k. free.least b low (subst (λ y. b < y) (sym (eqb-true x c (only c k))) l))
        (or_cases (members v.supply.given c) (members (x ∷ []) c)
        (sym (members-append v.supply.given (x ∷ []) c)
        ∙ (ap (λ w. members w.given c) (sym u) ∙ m))));
  }

  -- that is the complement of an atom
  pub more-stage : (a : ℕ) (pairs : List (ℕ × ℕ)) → pairs ≡ v.pairs ++ ((a, x) ∷ [])
      → known v a ≡ true → IsUnlisted v.pairs a → IsStage (stage rules supply pairs)
  more-stage a pairs p at none =
      subst (λ q. IsStage (stage rules supply q)) (sym p) (record {
        pairs = each-push _ v.pairs (a, x) drawn-stage.pairs
            (wider a at, known-more x ∙ or_left _ _ (or_left _ _ (eq-eqb x x refl)));
        once = once-more v.pairs a x is.once none;
        atoms = drawn-stage.atoms;
        dense = drawn-stage.dense;
      })

-- a rule over what is known
module _ (s v : Stage) (e : v ≡ s) (is : IsStage v) (head : Head) (normal : IsNormalHead head)
    (lits body : List Literal) (rules : List Rule)
    (r : rules ≡ v.rules ++ (record { head = head; body = All body } ∷ [])) (b : body ≡ lits)
  where
    plain-is : stage rules v.supply v.pairs ≡ with_rule (record { head = head; body = All lits }) v
    plain-is = ap (λ rs. stage rs v.supply v.pairs)
        (r ∙ ap (λ bs. v.rules ++ (record { head = head; body = All bs } ∷ [])) b)

    pub plain-turns : HeadIn (atoms_of s) head → LitsKnown s lits
        → Turns (record { head = head; body = All lits } ∷ []) s (stage rules v.supply v.pairs)
    plain-turns at over =
        moved (Turns (record { head = head; body = All lits } ∷ [])) s v _ _ e plain-is
        (Turns-rule v is.pairs (record { head = head; body = All lits })
        (record { head = head; body = All lits }) (normal, tt)
        (record {
          head = subst (λ w. HeadIn (atoms_of w) head) (sym e) at;
          body = subst (λ w. LitsKnown w lits) (sym e) over;
          weights = tt;
        })
        (λ X N q a. refl) (λ X N. refl))

    pub plain-adds :
        Adds (atoms_of_head head) (positives_of_literals lits) s (stage rules v.supply v.pairs)
    plain-adds =
        moved (Adds (atoms_of_head head) (positives_of_literals lits)) s v _ _ e plain-is
        (Adds-rule v (record { head = head; body = All lits }) (normal, tt))

-- a new atom for literals
module _ (s v : Stage) (e : v ≡ s) (is : IsStage v) (lits body : List Literal) (x : ℕ)
    (rules : List Rule) (supply : Supply)
    (r : rules ≡ v.rules ++ (record { head = One x; body = All body } ∷ [])) (b : body ≡ lits)
    (u : supply ≡ record v.supply { given = v.supply.given ++ (x ∷ []) })
    (least : x ≡ least_free (taken v.supply)) (small : x ≤ 2 ^ 30) (over : LitsKnown s lits) where
  named-is : stage rules supply v.pairs ≡ named v (least_free (taken v.supply)) lits
  named-is =
      stages-same _ _ _ _ _ _
      (r ∙ ap₂ (λ y bs. v.rules ++ (record { head = One y; body = All bs } ∷ [])) least b)
      (u ∙ ap (λ y. record v.supply { given = v.supply.given ++ (y ∷ []) }) least) refl

  least-small : least_free (taken v.supply) ≤ 2 ^ 30
  least-small = subst (λ y. y ≤ 2 ^ 30) least small

  lits-now : LitsKnown v lits
  lits-now = subst (λ w. LitsKnown w lits) (sym e) over

  pub named-answers : Answers (All lits) (Pos x ∷ []) s (stage rules supply v.pairs)
  named-answers =
      subst (λ y. Answers (All lits) (Pos y ∷ []) s (stage rules supply v.pairs)) (sym least)
      (moved (Answers (All lits) (Pos (least_free (taken v.supply)) ∷ [])) s v _ _ e named-is
      (name-answers v is lits lits-now least-small))

  pub named-adds : AddsAnswer (positives_of_literals lits) (Pos x ∷ []) s
      (stage rules supply v.pairs)
  named-adds =
      subst (λ y. AddsAnswer (positives_of_literals lits) (Pos y ∷ []) s
      (stage rules supply v.pairs))
      (sym least)
      (moved (AddsAnswer (positives_of_literals lits) (Pos (least_free (taken v.supply)) ∷ [])) s
      v
      _ _ e named-is (name-adds v is lits lits-now least-small))

-- the rules do not matter
pub rules-stage : (rules more : List Rule) (supply other : Supply) (pairs : List (ℕ × ℕ))
    → other ≡ supply → IsStage (stage rules supply pairs) → IsStage (stage more other pairs)
rules-stage rules more supply other pairs h is =
    subst (λ w. IsStage (stage more w pairs)) (sym h)
    (record { pairs = is.pairs; once = is.once; atoms = is.atoms; dense = is.dense })
