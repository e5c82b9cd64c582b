-- Programs that stand for one another compose.
use Rattle.std.proofs.Common.{◌≡◌, refl, sym, ◌∙◌, ap, subst, ℕ, Bool, true, false, ◌&&◌, List}
use mathlib.Core.Path.{fun_ext}
use Rattle.std.proofs.lemmas.Bool.{true≢false}
use Rattle.ground_program.specs.Ground.{Ground}
use Rattle.asp_base.specs.Sets.{Set, members, cut, Same, Within}
use Rattle.ground_program.specs.Stable.{Stable, visible, cost}
use Rattle.ground_program.specs.Faithful.{Covers, Faithful}

-- two sets with the same atoms are one
pub equal : (X Y : Set) → Same X Y → X ≡ Y
equal X Y h = fun_ext h

and_within : (x y z : Bool) → (x ≡ true → y ≡ true) → (x && (y && z)) ≡ (x && z)
and_within true true z h = refl
and_within true false z h = absurd (true≢false (sym (h refl)))
and_within false y z h = refl

-- a cut of a cut
pub cut-cut : (xs ys : List ℕ) (M : Set) → Within (members xs) (members ys) → cut xs (cut ys M) ≡ cut xs M
cut-cut xs ys M h = fun_ext (λ a. and_within (members xs a) (members ys a) (M a) (h a))

pub Same-cut : (xs : List ℕ) (M N : Set) → Same M N → Same (cut xs M) (cut xs N)
Same-cut xs M N h a = ap (λ b. members xs a && b) (h a)

pub Covers-compose : (P N Q : Ground) → Within (members P.atoms) (members N.atoms) → Covers P N → Covers N Q → Covers P Q
Covers-compose P N Q h c d =
    let again : (M : Set) → cut P.atoms (cut N.atoms M) ≡ cut P.atoms M = λ M. cut-cut P.atoms N.atoms M h in
    record {
      stable = λ M s. subst (λ X. Stable P X) (again M) (c.stable (cut N.atoms M) (d.stable M s));
      names = λ M s. d.names M s ∙ (c.names (cut N.atoms M) (d.stable M s) ∙ ap (visible P) (again M));
      costs = λ M s. d.costs M s ∙ (c.costs (cut N.atoms M) (d.stable M s) ∙ ap (cost P) (again M));
      onto = λ M s.
          let mid : (X : Set) × Stable N X × Same (cut P.atoms X) M = c.onto M s in
          let top : (Y : Set) × Stable Q Y × Same (cut N.atoms Y) mid.0 = d.onto mid.0 mid.1 in
          let here : Same (cut P.atoms top.0) M = λ a. ap (λ X. X a) (sym (again top.0)) ∙ (Same-cut P.atoms (cut N.atoms top.0) mid.0 top.2 a ∙ mid.2 a) in
          (top.0, top.1, here);
    }

pub Faithful-compose : (P N Q : Ground) → Within (members P.atoms) (members N.atoms) → Faithful P N → Faithful N Q → Faithful P Q
Faithful-compose P N Q h f g =
    let again : (M : Set) → cut P.atoms (cut N.atoms M) ≡ cut P.atoms M = λ M. cut-cut P.atoms N.atoms M h in
    record {
      covers = Covers-compose P N Q h f.covers g.covers;
      one = λ X Y s t e. g.one X Y s t
          (f.one (cut N.atoms X) (cut N.atoms Y) (g.covers.stable X s) (g.covers.stable Y t)
          (λ a. ap (λ Z. Z a) (again X) ∙ (e a ∙ ap (λ Z. Z a) (sym (again Y)))));
    }
