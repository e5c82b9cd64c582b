-- The stable models of a lowered program are those of the program, each with the new atoms whose bodies hold there.
use Rattle.std.proofs.Common.{◌≡◌, refl, sym, ◌∙◌, ap, subst, ℕ, ◌<◌, ◌≤◌, Bool, true, false, cond, not, ◌&&◌, List, [], ⊎_elim, arith}
use mathlib.Core.Path.{fun_ext}
use Rattle.std.proofs.lemmas.Bool.{and_parts, and_from, and_right, or_parts, or_from, cases_Bool, true≢false, eq-eqb}
use Rattle.asp_base.specs.Literal.{all_hold}
use Rattle.asp_base.specs.Sets.{Set, none, members, cut, Same}
use Rattle.asp_base.specs.Walks.{Acyclic}
use Rattle.ground_program.specs.Facts.{IsProgram}
use Rattle.ground_program.specs.Ground.{Ground}
use Rattle.ground_program.specs.Stable.{grown, least, joined, Stable}
use Rattle.ground_program.proofs.FactLaws.{least-among, Stable-among}
use Rattle.ground_program.proofs.Negative.{Acyclic-no_edges}
use Rattle.smodels_format.specs.Lowering.{after_rules, has_headless, first_index}
use Rattle.smodels_format.proofs.LoweredNear.{Near, headless_holds, all_hold-near}
use Rattle.smodels_format.proofs.LoweredFresh.{Rises, after_rules-from, rules_value, shows_value, rules-below, shows-below}
use Rattle.smodels_format.proofs.LoweredRules.{all_rules, fresh_part, Extends, headless-none}
use Rattle.smodels_format.proofs.LoweredLeast.{extension, extension-extends, least-extends}
use Rattle.smodels_format.proofs.LoweredKeeps.{IsLowered, required-says, all-headed}

pub cut-near : (atoms : List ℕ) (N : Set) → Near atoms N (cut atoms N)
cut-near atoms N a h = sym (ap (λ t. t && N a) h)

-- an extension is settled by what it extends
pub Extends-same : (new : ℕ → ℕ) (P : Ground) (Z W X M : Set) → Extends new P Z X M → Extends new P W X M → Same Z W
Extends-same new P Z W X M z w a = ⊎_elim (λ e. z.near a e ∙ sym (w.near a e)) (λ e. z.outside a e ∙ sym (w.outside a e)) (cases_Bool (members P.atoms a))

module _ (new : ℕ → ℕ) (rises : Rises new) (P : Ground) (fresh : (k : ℕ) → members P.atoms (new k) ≡ false) (f : IsProgram P)
    (Q : Ground) (q : IsLowered new P Q) (no_edges : P.edges ≡ []) where
  -- outside the atoms both are false
  least-same : (M N : Set) → ((a : ℕ) → members P.atoms a ≡ true → least P M a ≡ cut P.atoms N a) → Same (least P M) (cut P.atoms N)
  least-same M N h a = ⊎_elim (h a) (λ out. go (least P M a) refl out ∙ sym (ap (λ t. t && N a) out)) (cases_Bool (members P.atoms a))
    where
      go : (b : Bool) → least P M a ≡ b → members P.atoms a ≡ false → b ≡ false
      go true e out = absurd (true≢false (sym (least-among P M f a e) ∙ out))
      go false e out = refl

  -- ---- from a stable model of the lowered program

  module _ (N : Set) (s : Stable Q N) where
    M : Set
    M = cut P.atoms N

    whole-is : grown (all_rules new P) N none ≡ N
    whole-is = fun_ext (subst (λ rules. Same (grown rules N none) N) q.rules s.least_is)

    extends-least : Extends new P N (least P (cut P.atoms N)) (cut P.atoms N)
    extends-least = subst (λ Z. Extends new P Z (least P (cut P.atoms N)) (cut P.atoms N)) whole-is (least-extends new rises P fresh f N (cut P.atoms N) (cut-near P.atoms N))

    cut-least : Same (least P (cut P.atoms N)) (cut P.atoms N)
    cut-least = least-same (cut P.atoms N) N (λ a within. sym (extends-least.near a within) ∙ cut-near P.atoms N a within)

    pub extends-cut : Extends new P N (cut P.atoms N) (cut P.atoms N)
    extends-cut = subst (λ X. Extends new P N X (cut P.atoms N)) (fun_ext cut-least) extends-least

    required-parts : (all_hold P.required N N ≡ true) × (cond (has_headless P) (not (N (new 0))) true ≡ true)
    required-parts = and_parts _ _ (sym (required-says new P Q q N N) ∙ s.keeps.required)

    cut-headless : headless_holds P.rules (cut P.atoms N) (cut P.atoms N) ≡ false
    cut-headless = go (has_headless P) refl required-parts.1
      where
        H : Bool
        H = headless_holds P.rules (cut P.atoms N) (cut P.atoms N)

        off : (t : Bool) → not t ≡ true → t ≡ false
        off true e = sym e
        off false e = refl

        go : (b : Bool) → has_headless P ≡ b → cond b (not (N (new 0))) true ≡ true → headless_holds P.rules (cut P.atoms N) (cut P.atoms N) ≡ false
        go true e r =
            let n : fresh_part new P (cut P.atoms N) (cut P.atoms N) (new 0) ≡ false = sym (extends-cut.outside (new 0) (fresh 0)) ∙ off _ r in
            sym (ap (λ t. t && H) (eq-eqb (new 0) (new 0) refl)) ∙ (or_parts _ _ ((or_parts _ _ n).0)).0
        go false e r = headless-none P.rules _ _ e

    pub cut-stable : Stable P (cut P.atoms N)
    cut-stable = record {
      least_is = cut-least;
      keeps = record {
        headless = cut-headless;
        required = sym (all_hold-near P.atoms N (cut P.atoms N) N (cut P.atoms N) (cut-near P.atoms N) (cut-near P.atoms N) P.required f.required) ∙ required-parts.0;
      };
      acyclic = subst (λ edges. Acyclic (joined edges (cut P.atoms N))) (sym no_edges) (Acyclic-no_edges (cut P.atoms N));
    }

  pub cuts-settle : (N W : Set) → Stable Q N → Stable Q W → Same (cut P.atoms N) (cut P.atoms W) → Same N W
  cuts-settle N W s t e = Extends-same new P N W (cut P.atoms W) (cut P.atoms W)
      (subst (λ X. Extends new P N X X) (fun_ext e) (extends-cut N s)) (extends-cut W t)

  -- ---- from a stable model of the program

  module _ (M : Set) (s : Stable P M) where
    pub extended : Extends new P (extension new P M M) M M
    extended = extension-extends new P M M

    extended-least : Same (grown (all_rules new P) (extension new P M M) none) (extension new P M M)
    extended-least = Extends-same new P (grown (all_rules new P) (extension new P M M) none) (extension new P M M) M M
        (subst (λ X. Extends new P (grown (all_rules new P) (extension new P M M) none) X M) (fun_ext s.least_is)
        (least-extends new rises P fresh f (extension new P M M) M extended.near)) extended

    extended-refuted : cond (has_headless P) (not (extension new P M M (new 0))) true ≡ true
    extended-refuted = go (has_headless P) (λ k l. rules-below new rises M M k (first_index P) P.rules l)
        (λ k l. let from : first_index P ≤ after_rules (first_index P) P.rules = after_rules-from (first_index P) P.rules in shows-below new rises M M k (after_rules (first_index P) P.rules) P.shows (omega arith))
      where
        R : Set
        R = rules_value new (first_index P) P.rules M M

        S : Set
        S = shows_value new (after_rules (first_index P) P.rules) P.shows M M

        go : (b : Bool) → ((k : ℕ) → k < cond b 1 0 → rules_value new (first_index P) P.rules M M (new k) ≡ false) →
            ((k : ℕ) → k < cond b 1 0 → shows_value new (after_rules (first_index P) P.rules) P.shows M M (new k) ≡ false) →
            cond b (not (extension new P M M (new 0))) true ≡ true
        go true r t = ap not (extended.outside (new 0) (fresh 0) ∙ or_from _ _ (or_from _ _ (and_right _ _ s.keeps.headless) (r 0 (omega arith))) (t 0 (omega arith)))
        go false r t = refl

    pub extended-stable : Stable Q (extension new P M M)
    extended-stable =
        let N : Set = extension new P M M in
        record {
          least_is = subst (λ rules. Same (grown rules (extension new P M M) none) (extension new P M M)) (sym q.rules) extended-least;
          keeps = record {
            headless = subst (λ rules. headless_holds rules (extension new P M M) (extension new P M M) ≡ false) (sym q.rules) (headless-none (all_rules new P) N N (all-headed new P));
            required = required-says new P Q q N N
                ∙ and_from _ _ (all_hold-near P.atoms N M N M extended.near extended.near P.required f.required ∙ s.keeps.required) extended-refuted;
          };
          acyclic = subst (λ edges. Acyclic (joined edges (extension new P M M))) (sym q.edges) (Acyclic-no_edges (extension new P M M));
        }

    pub extended-cut : Same (cut P.atoms (extension new P M M)) M
    extended-cut a = ⊎_elim (λ within. sym (cut-near P.atoms (extension new P M M) a within) ∙ extended.near a within)
        (λ out. ap (λ t. t && extension new P M M a) out ∙ sym (go (M a) refl out)) (cases_Bool (members P.atoms a))
      where
        go : (b : Bool) → M a ≡ b → members P.atoms a ≡ false → b ≡ false
        go true e out = absurd (true≢false (sym (Stable-among P M f s a e) ∙ out))
        go false e out = refl
