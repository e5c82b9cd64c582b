-- Rules that derive the same stand for one another, without new atoms; and what stands for rules
-- may be taken for others that derive the same.
use Rattle.std.proofs.Common.{◌≡◌, refl, sym, ◌∙◌, subst, ℕ, true, false, List, ◌++◌}
use Rattle.std.proofs.lemmas.Bool.{false_from_ne_true, true≢false}
use Rattle.asp_base.specs.Sets.{Set, none, union, Within, Same}
use Rattle.ground_program.specs.Stable.{step}
use Rattle.ground_program.specs.declared.program.Rule.{Rule}
use Rattle.ground_program.proofs.Compose.{equal}
use Rattle.normalize.specs.private.Replacement.{Near, RulesIn, headless_holds, Respects, Replaces}
use Rattle.normalize.proofs.Reading.{step-near, headless-near}
use Rattle.normalize.proofs.Joining.{Replaces-then}

abbrev pub same_set : Set → Set → Set
same_set X N = X

-- the same is derived where the complements are right
pub Replaces-same : (atoms known : Set) (pairs : List (ℕ × ℕ)) (old new : List Rule)
    → Within atoms known → RulesIn atoms known new →
    ((X N : Set) → Respects pairs N → Same (step new N X) (step old N X)) →
    ((X N : Set) → Respects pairs N → headless_holds new X N ≡ headless_holds old X N) →
    Replaces atoms known none pairs pairs old new same_set
Replaces-same atoms known pairs old new w rules steps heads = record {
  rules = rules;
  within = w;
  apart = λ a e. absurd (no e);
  outside = λ X N a e. refl;
  inside = λ X N r a e. absurd (no e);
  least = λ X N Z h c. h;
  derives = λ X N r a e. steps X N r a;
  headless = heads;
  near = λ X Y N M x n a e. absurd (no e);
  unique = λ X Y N M x n u v a e. absurd (no e);
  settles = λ M r. (M, λ a e. refl, r, λ a e. absurd (no e));
  grows = λ N r. r;
  refutes = λ N r h. r;
}
  where
    no : false ≡ true → ⊥
    no e = true≢false (sym e)

-- other rules with the same heads and bodies derive the same
pub Replaces-as : (atoms known F : Set) (before after : List (ℕ × ℕ))
    (old old2 new new2 : List Rule) (E : Set → Set → Set) →
    RulesIn (union F atoms) (union F known) new2 →
    ((X N : Set) → Same (step new2 N X) (step new N X))
    → ((X N : Set) → headless_holds new2 X N ≡ headless_holds new X N) →
    ((X N : Set) → Same (step old N X) (step old2 N X))
    → ((X N : Set) → headless_holds old X N ≡ headless_holds old2 X N) →
    Replaces atoms known F before after old new E → Replaces atoms known F before after old2 new2 E
Replaces-as atoms known F before after old old2 new new2 E rules news newh olds oldh p = record {
  rules = rules;
  within = p.within;
  apart = p.apart;
  outside = p.outside;
  inside = λ X N r a e. news (E X N) N a ∙ p.inside X N r a e;
  least = λ X N Z h c. p.least X N Z h (λ a e. c a (news Z N a ∙ e));
  derives = λ X N r a e. news (E X N) N a ∙ (p.derives X N r a e ∙ olds X N a);
  headless = λ X N r. newh (E X N) N ∙ (p.headless X N r ∙ oldh X N);
  near = p.near;
  unique = p.unique;
  settles = p.settles;
  grows = p.grows;
  refutes = λ N r h. p.refutes N r (λ a e. h a e ∙ news N N a);
}

-- the same sets
pub Replaces-sets : (atoms known known2 F F2 : Set) (before after : List (ℕ × ℕ))
    (old new : List Rule) (E : Set → Set → Set) → Same known known2 → Same F F2 →
    Replaces atoms known F before after old new E → Replaces atoms known2 F2 before after old new E
Replaces-sets atoms known known2 F F2 before after old new E k f p =
    subst (λ K. Replaces atoms K F2 before after old new E) (equal known known2 k)
    (subst (λ G. Replaces atoms known G before after old new E) (equal F F2 f) p)

-- rules over what was known derive and say the same where others were replaced
module _ (atoms known F : Set) (before mid : List (ℕ × ℕ)) (old new more : List Rule)
    (E : Set → Set → Set) (over : RulesIn atoms known more)
    (p : Replaces atoms known F before mid old new E) where
  near : (X N : Set) → Near known (E X N) X
  near X N b h = p.outside X N b (off b h)
    where
      off : (b : ℕ) → known b ≡ true → F b ≡ false
      off b h =
          false_from_ne_true (F b) (λ e. true≢false (sym h ∙ p.apart b e))

  pub step-stays : (X N : Set) → Same (step more N (E X N)) (step more N X)
  step-stays X N a =
      step-near atoms known (E X N) X N N (near X N) (λ b h. refl) (λ b h. refl) more over a

  pub headless-stays : (X N : Set) → headless_holds more (E X N) N ≡ headless_holds more X N
  headless-stays X N =
      headless-near known (E X N) X N N (near X N) (λ b h. refl) atoms more over

-- such rules behind others
pub Replaces-more : (atoms known F G : Set) (before mid after : List (ℕ × ℕ))
    (old1 new1 old2 new2 : List Rule) (E1 E2 : Set → Set → Set) →
    RulesIn atoms known old2 → Replaces atoms known F before mid old1 new1 E1
    → Replaces atoms (union F known) G mid after old2 new2 E2 →
    Replaces atoms known (union F G) before after (old1 ++ old2) (new1 ++ new2)
    (λ X N. E2 (E1 X N) N)
Replaces-more atoms known F G before mid after old1 new1 old2 new2 E1 E2 over p q =
    Replaces-then atoms known F G before mid after old1 new1 old2 old2 new2 E1 E2 p q
    (λ X N r a e. step-stays atoms known F before mid old1 new1 old2 E1 over p X N a)
    (λ X N r. headless-stays atoms known F before mid old1 new1 old2 E1 over p X N)
