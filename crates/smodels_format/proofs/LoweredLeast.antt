-- The least model of a lowered program is that of the program, with the new atoms whose bodies hold there.
use Rattle.std.proofs.Common.{◌≡◌, refl, sym, ◌∙◌, ap, ℕ, true, false, cond, ◌&&◌, ⊎_elim}
use Rattle.std.proofs.lemmas.Bool.{and_parts, and_from, cond-true, cond-false, cases_Bool, true≢false}
use Rattle.asp_base.specs.Sets.{Set, none, members, cut, Same, Within}
use Rattle.ground_program.specs.Closed.{Closed}
use Rattle.ground_program.specs.Facts.{IsProgram}
use Rattle.ground_program.specs.Ground.{Ground}
use Rattle.ground_program.specs.Stable.{step, grown, least}
use Rattle.ground_program.proofs.FactLaws.{program-weighed, step-among}
use Rattle.ground_program.proofs.Least.{grown-smallest, grown-fixpoint}
use Rattle.asp_base.proofs.Bools.{same_test}
use Rattle.smodels_format.proofs.LoweredNear.{Near, Near-sym, step-near}
use Rattle.smodels_format.proofs.LoweredFresh.{Rises}
use Rattle.smodels_format.proofs.LoweredRules.{all_rules, fresh_part, Extends, all_rules-weighed, all-rules-named, step-outside, step-inside}

module _ (new : ℕ → ℕ) (P : Ground) where
  -- X at the program's atoms, with the new atoms whose bodies hold at X and M
  abbrev pub extension : Set → Set → Set
  extension X M a = cond (members P.atoms a) (X a) (fresh_part new P X M a)

  pub extension-extends : (X M : Set) → Extends new P (extension X M) X M
  extension-extends X M = record {
    near = λ a e. cond-true _ _ _ e;
    outside = λ a e. cond-false _ _ _ e;
  }

module _ (new : ℕ → ℕ) (rises : Rises new) (P : Ground) (fresh : (k : ℕ) → members P.atoms (new k) ≡ false) (f : IsProgram P) where
  nothing_in : (X : Set) → Within none X
  nothing_in X a e = absurd (true≢false (sym e))

  module _ (N M : Set) (m : Near P.atoms N M) where
    -- the extension of the program's least model is closed
    extension-closed : Closed (all_rules new P) N (extension new P (least P M) M)
    extension-closed a e =
        let Z : Set = extension new P (least P M) M in
        let x : Extends new P Z (least P M) M = extension-extends new P (least P M) M in
        ⊎_elim
        (λ within. x.near a within ∙ (sym (grown-fixpoint P.rules M (program-weighed P f) a)
        ∙ (sym (step-inside new rises P fresh f Z (least P M) N M x.near m (all-rules-named new rises P fresh f Z (least P M) M x.outside) a within) ∙ e)))
        (λ out. x.outside a out ∙ (sym (step-outside new rises P fresh f Z (least P M) N M x.near m a out) ∙ e))
        (cases_Bool (members P.atoms a))

    abbrev whole : Set
    whole = grown (all_rules new P) N none

    whole-within : Within (grown (all_rules new P) N none) (extension new P (least P M) M)
    whole-within = grown-smallest (all_rules new P) N none (extension new P (least P M) M) (all_rules-weighed new rises P fresh f) (nothing_in _) extension-closed

    whole-fix : Same (step (all_rules new P) N (grown (all_rules new P) N none)) (grown (all_rules new P) N none)
    whole-fix = grown-fixpoint (all_rules new P) N (all_rules-weighed new rises P fresh f)

    here : (X : Set) → Near P.atoms X X
    here X a e = refl

    -- outside the atoms it has what its own bodies say
    whole-outside : (a : ℕ) → members P.atoms a ≡ false → grown (all_rules new P) N none a ≡ fresh_part new P (grown (all_rules new P) N none) N a
    whole-outside a out = sym (whole-fix a) ∙ step-outside new rises P fresh f whole whole N N (here whole) (here N) a out

    -- its part of the program's atoms is closed under the program's rules
    whole-closed : Closed P.rules M (cut P.atoms (grown (all_rules new P) N none))
    whole-closed a e =
        let Y : Set = grown (all_rules new P) N none in
        let within : members P.atoms a ≡ true = step-among P.atoms P.rules M (cut P.atoms Y) f.rules a e in
        let near : Near P.atoms (cut P.atoms Y) Y = λ b h. ap (λ t. t && Y b) h in
        and_from _ _ within (sym (whole-fix a)
        ∙ (step-inside new rises P fresh f Y Y N N (here Y) (here N) (all-rules-named new rises P fresh f Y Y N whole-outside) a within
        ∙ (sym (step-near P.atoms (cut P.atoms Y) Y M N near (Near-sym P.atoms N M m) P.rules f.rules a) ∙ e)))

    pub least-extends : Extends new P (grown (all_rules new P) N none) (least P M) M
    least-extends =
        let Y : Set = grown (all_rules new P) N none in
        let near : Near P.atoms Y (least P M) = λ a within.
        same_test _ _ (λ e. sym ((extension-extends new P (least P M) M).near a within) ∙ whole-within a e)
        (λ e. (and_parts _ _ (grown-smallest P.rules M none (cut P.atoms Y) (program-weighed P f) (nothing_in _) whole-closed a e)).1) in
        record { near = near; outside = λ a out. sym (whole-fix a) ∙ step-outside new rises P fresh f Y (least P M) N M near m a out }
