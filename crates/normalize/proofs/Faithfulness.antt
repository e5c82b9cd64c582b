-- A program whose rules stand for those of another is faithful to it.
use Rattle.std.proofs.Common.{◌≡◌, refl, sym, ◌∙◌, ap, ap₂, subst, ℕ, zero, suc, ℤ, Bool, true, false, cond, ◌&&◌, ◌||◌, List, [], ◌∷◌, map, filter, length, ⊎_elim}
use mathlib.Core.Path.{fun_ext}
use Rattle.std.specs.List.{AllByRecursion}
use Rattle.std.specs.Ordering.{int_eq}
use Rattle.std.proofs.lemmas.Bool.{true≢false, cases_Bool}
use Rattle.asp_base.specs.Literal.{all_hold}
use Rattle.asp_base.specs.Sets.{Set, none, members, cut, Same, Within}
use Rattle.asp_base.specs.Walks.{Acyclic}
use Rattle.ground_program.specs.Closed.{Closed, Weighed}
use Rattle.ground_program.specs.Facts.{Among, IsProgram, ConditionFits, LevelFits, ShowFits}
use Rattle.ground_program.specs.Faithful.{Faithful}
use Rattle.ground_program.specs.Ground.{Ground}
use Rattle.ground_program.specs.Stable.{step, rounds, least, joined, names_of, costs_of, first_ones, Stable}
use Rattle.ground_program.specs.declared.program.Edge.{Edge}
use Rattle.ground_program.specs.declared.program.Level.{Level}
use Rattle.ground_program.specs.declared.program.Rule.{Rule}
use Rattle.ground_program.specs.declared.program.Show.{Show}
use Rattle.ground_program.proofs.Compose.{equal}
use Rattle.ground_program.proofs.FactLaws.{program-weighed, rounds-among, Stable-among}
use Rattle.asp_base.proofs.Each.{each-weaker}
use Rattle.ground_program.proofs.Least.{grown-closed, grown-smallest, grown-fixpoint, same_within, step-mono}
use Rattle.normalize.specs.private.Replacement.{Near, RulesIn, headless_holds, Respects, Replaces}
use Rattle.normalize.specs.Kept.{SameRest}
use Rattle.normalize.proofs.Reading.{all_hold-near, weight-near, step-near, headless-near, step-none, weighed-in, rules-of}

-- ---- the other parts of a program, at two sets that are the same at its atoms

module _ (atoms : List ℕ) (M N : Set) (near : Near (members atoms) M N) where
  joined-near : (edges : List Edge) → AllByRecursion
      (λ edge. ConditionFits (Among atoms) edge.condition) edges → (u v : ℤ)
      → joined edges M u v ≡ joined edges N u v
  joined-near [] h u v = refl
  joined-near (edge ∷ edges) h u v =
      ap₂ (λ b s. (int_eq edge.from u && (int_eq edge.to v && b)) || s)
      (all_hold-near (members atoms) M N M N near near edge.condition h.0.1)
      (joined-near edges h.1 u v)

  pub Acyclic-near : (edges : List Edge) → AllByRecursion
      (λ edge. ConditionFits (Among atoms) edge.condition) edges → Acyclic (joined edges M)
      → Acyclic (joined edges N)
  Acyclic-near edges h c = subst Acyclic (fun_ext (λ u. fun_ext (λ v. joined-near edges h u v))) c

  pub costs-near : (levels : List Level) → AllByRecursion (LevelFits (Among atoms)) levels
      → costs_of levels M ≡ costs_of levels N
  costs-near [] h = refl
  costs-near (level ∷ levels) h =
      ap₂ ◌∷◌ (weight-near (members atoms) M N M N near near level.items
      (each-weaker _ _ (λ item k. k.0) level.items h.0)) (costs-near levels h.1)

  shown-near : (shows : List Show) → AllByRecursion (ShowFits (Among atoms)) shows
      → filter (λ show. all_hold show.condition M M) shows ≡ filter
      (λ show. all_hold show.condition N N) shows
  shown-near [] h = refl
  shown-near (show ∷ shows) h =
      ap₂ (λ b s. cond b (show ∷ s) s)
      (all_hold-near (members atoms) M N M N near near show.condition h.0.1.1)
      (shown-near shows h.1)

  pub names-near : (shows : List Show) → AllByRecursion (ShowFits (Among atoms)) shows
      → names_of shows M ≡ names_of shows N
  names-near shows h = ap (λ s. first_ones (map (λ show. show.name) s)) (shown-near shows h)

  rounds-near : (n : ℕ) (rules : List Rule) → RulesIn (members atoms) (members atoms) rules
      → Near (members atoms) (rounds n rules M none) (rounds n rules N none)
  rounds-near zero rules h a e = refl
  rounds-near (suc n) rules h a e =
      let ih : Near (members atoms) (rounds n rules M none) (rounds n rules N none) =
      rounds-near n rules h in
      ap₂ ◌||◌ (ih a e)
      (step-near (members atoms) (members atoms) (rounds n rules M none) (rounds n rules N none)
      M N ih near near rules h a)

never : (b : Bool) → (b ≡ true → ⊥) → b ≡ false
never true h = absurd (h refl)
never false h = refl

cut-near : (atoms : List ℕ) (N : Set) → Near (members atoms) N (cut atoms N)
cut-near atoms N a h = sym (ap (λ t. t && N a) h)

module _ (P Q : Ground) (f : IsProgram P) (rest : SameRest P Q) (F : Set) (after : List (ℕ × ℕ))
    (E : Set → Set → Set)
    (p : Replaces (members P.atoms) (members P.atoms) F [] after P.rules Q.rules E) where
  over : RulesIn (members P.atoms) (members P.atoms) P.rules
  over = rules-of P.atoms P.rules f.rules

  weighed : Weighed Q.rules
  weighed = weighed-in _ _ Q.rules p.rules

  not-new : (a : ℕ) → members P.atoms a ≡ true → F a ≡ false
  not-new a h = never (F a) (λ g. true≢false (sym h ∙ p.apart a g))

  nothing-in : (X : Set) → Within none X
  nothing-in X a e = absurd (true≢false (sym e))

  -- ---- the least model

  least-same : (N : Set) → Respects after N → Same (least Q N) (E (least P N) N)
  least-same N r = same_within _ _
      (grown-smallest Q.rules N none (E (least P N) N) weighed (nothing-in _) up)
      (p.least (least P N) N (least Q N)
      (grown-smallest P.rules N none (least Q N) (program-weighed P f) (nothing-in _) down)
      closed)
    where
      up : Closed Q.rules N (E (least P N) N)
      up a e = ⊎_elim
          (λ g. sym (p.inside (least P N) N r a g) ∙ e)
          (λ g. p.outside (least P N) N a g
          ∙ (sym (grown-fixpoint P.rules N (program-weighed P f) a)
          ∙ (sym (p.derives (least P N) N r a g) ∙ e)))
          (cases_Bool (F a))

      closed : Closed Q.rules N (least Q N)
      closed = grown-closed Q.rules N none weighed

      within : Within (E (least Q N) N) (least Q N)
      within = p.least (least Q N) N (least Q N) (λ a e. e) closed

      down : Closed P.rules N (least Q N)
      down a e = ⊎_elim
          (λ g. absurd
          (true≢false (sym e ∙ step-none (members P.atoms) (members P.atoms) P.rules N
          (least Q N) over a (p.apart a g))))
          (λ g. closed a
          (step-mono Q.rules N (E (least Q N) N) (least Q N) weighed within a
          (p.derives (least Q N) N r a g ∙ e)))
          (cases_Bool (F a))

  -- the least model of P looks at its atoms alone
  least-near : (N M : Set) → Near (members P.atoms) N M → Same (least P N) (least P M)
  least-near N M near a = ⊎_elim
      (λ h. rounds-near P.atoms N M near (length P.rules) P.rules over a h)
      (λ h. off N h ∙ sym (off M h))
      (cases_Bool (members P.atoms a))
    where
      off : (K : Set) → members P.atoms a ≡ false → least P K a ≡ false
      off K h =
          never (least P K a)
          (λ e. true≢false (sym (rounds-among (length P.rules) P.atoms P.rules K f.rules a e) ∙ h))

  -- ---- from a stable model of Q

  module _ (N : Set) (s : Stable Q N) where
    fixed : Same (step Q.rules N N) N
    fixed a =
        ap (λ X. step Q.rules N X a) (sym (equal _ _ s.least_is))
        ∙ (grown-fixpoint Q.rules N weighed a ∙ s.least_is a)

    respects : Respects after N
    respects = p.refutes N tt (λ a g. sym (fixed a))

    is : Same N (E (least P N) N)
    is a = sym (s.least_is a) ∙ least-same N respects a

    near : Near (members P.atoms) N (cut P.atoms N)
    near = cut-near P.atoms N

    least-cut : Same (least P N) (least P (cut P.atoms N))
    least-cut = least-near N (cut P.atoms N) near

    cut-least : Same (least P (cut P.atoms N)) (cut P.atoms N)
    cut-least a = ⊎_elim
        (λ h. sym (least-cut a)
        ∙ (sym (p.outside (least P N) N a (not-new a h)) ∙ (sym (is a) ∙ near a h)))
        (λ h. never (least P (cut P.atoms N) a)
        (λ e. true≢false
        (sym (rounds-among (length P.rules) P.atoms P.rules (cut P.atoms N) f.rules a e) ∙ h))
        ∙ sym (ap (λ t. t && N a) h))
        (cases_Bool (members P.atoms a))

    least-is-cut : least P N ≡ cut P.atoms N
    least-is-cut = equal _ _ (λ a. least-cut a ∙ cut-least a)

    pub is-extension : Same N (E (cut P.atoms N) N)
    is-extension a = is a ∙ ap (λ X. E X N a) least-is-cut

    cut-headless : headless_holds P.rules (cut P.atoms N) (cut P.atoms N) ≡ false
    cut-headless =
        sym (headless-near (members P.atoms) (cut P.atoms N) (cut P.atoms N) N (cut P.atoms N)
        (λ a h. refl) near (members P.atoms) P.rules over)
        ∙ (sym (p.headless (cut P.atoms N) N respects)
        ∙ (ap (λ X. headless_holds Q.rules X N) (sym (equal _ _ is-extension)) ∙ s.keeps.headless))

    pub cut-stable : Stable P (cut P.atoms N)
    cut-stable = record {
      least_is = cut-least;
      keeps = record {
        headless = cut-headless;
        required =
            sym (all_hold-near (members P.atoms) N (cut P.atoms N) N (cut P.atoms N) near near
            P.required f.required)
            ∙ (ap (λ lits. all_hold lits N N) (sym rest.required) ∙ s.keeps.required);
      };
      acyclic =
          Acyclic-near P.atoms N (cut P.atoms N) near P.edges f.edges
          (subst (λ edges. Acyclic (joined edges N)) rest.edges s.acyclic);
    }

  one : (N W : Set) → Stable Q N → Stable Q W → Same (cut P.atoms N) (cut P.atoms W) → Same N W
  one N W s t e =
      let M : Set = cut P.atoms N in
      let same : cut P.atoms W ≡ M = sym (equal _ _ e) in
      let n : Same N (E M N) = is-extension N s in
      let w : Same W (E M W) = subst (λ X. Same W (E X W)) same (is-extension W t) in
      let near : Near (members P.atoms) N W =
      λ a h. cut-near P.atoms N a h ∙ (e a ∙ sym (cut-near P.atoms W a h)) in
      λ a. ⊎_elim
      (λ g. p.unique M M N W (λ b h. refl) near (λ b h. n b) (λ b h. w b) a g)
      (λ g. n a ∙ (p.outside M N a g ∙ sym (w a ∙ p.outside M W a g)))
      (cases_Bool (F a))

  -- ---- from a stable model of P

  module _ (M : Set) (s : Stable P M) where
    abbrev found : (N : Set) × ((a : ℕ) → F a ≡ false → N a ≡ M a) × Respects after N
        × Near F N (E M N)
    found = p.settles M tt

    extension-is : Same (E M found.0) found.0
    extension-is a =
        ⊎_elim (λ g. sym (found.3 a g)) (λ g. p.outside M found.0 a g ∙ sym (found.1 a g))
        (cases_Bool (F a))

    extended-near : Near (members P.atoms) found.0 M
    extended-near a h = found.1 a (not-new a h)

    extended-least : Same (least Q found.0) found.0
    extended-least a =
        least-same found.0 found.2 a
        ∙ (ap (λ X. E X found.0 a)
        (equal _ _ (λ b. least-near found.0 M extended-near b ∙ s.least_is b)) ∙ extension-is a)

    extended-headless : headless_holds Q.rules found.0 found.0 ≡ false
    extended-headless =
        ap (λ X. headless_holds Q.rules X found.0) (sym (equal _ _ extension-is))
        ∙ (p.headless M found.0 found.2
        ∙ (headless-near (members P.atoms) M M found.0 M (λ a h. refl) extended-near
        (members P.atoms) P.rules over ∙ s.keeps.headless))

    pub extended-stable : Stable Q found.0
    extended-stable = record {
      least_is = extended-least;
      keeps = record {
        headless = extended-headless;
        required = ap (λ lits. all_hold lits found.0 found.0) rest.required
            ∙ (all_hold-near (members P.atoms) found.0 M found.0 M extended-near extended-near
            P.required f.required ∙ s.keeps.required);
      };
      acyclic =
          subst (λ edges. Acyclic (joined edges found.0)) (sym rest.edges)
          (Acyclic-near P.atoms M found.0 (λ a h. sym (extended-near a h)) P.edges f.edges
          s.acyclic);
    }

    pub extended-cut : Same (cut P.atoms found.0) M
    extended-cut a = ⊎_elim
        (λ h. sym (cut-near P.atoms found.0 a h) ∙ extended-near a h)
        (λ h. ap (λ t. t && found.0 a) h
        ∙ sym (never (M a) (λ e. true≢false (sym (Stable-among P M f s a e) ∙ h))))
        (cases_Bool (members P.atoms a))

  pub Replaces-faithful : Faithful P Q
  Replaces-faithful = record {
    covers = record {
      stable = cut-stable;
      names =
          λ N s. ap (λ shows. names_of shows N) rest.shows
          ∙ names-near P.atoms N (cut P.atoms N) (cut-near P.atoms N) P.shows f.shows;
      costs =
          λ N s. ap (λ levels. costs_of levels N) rest.levels
          ∙ costs-near P.atoms N (cut P.atoms N) (cut-near P.atoms N) P.levels f.levels;
      onto = λ M s. ((found M s).0, extended-stable M s, extended-cut M s);
    };
    one = one;
  }
