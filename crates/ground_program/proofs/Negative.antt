-- Without positive literals in bodies the least model is one step, so stable and supported say the same of rules.
use Rattle.std.proofs.Common.{◌≡◌, refl, sym, ◌∙◌, ap, ap₂, subst, ℕ, zero, suc, ℤ, pos, ◌+ℤ◌, int_le, Bool, true, false, cond, ◌&&◌, ◌||◌, ◌↔◌, List, [], ◌∷◌, length}
use Rattle.std.proofs.lemmas.Bool.{true≢false}
use mathlib.Core.Path.{fun_ext}
use Rattle.std.specs.List.{AllByRecursion}
use Rattle.asp_base.specs.Literal.{Literal, Pos, Neg, literal_holds, all_hold}
use Rattle.ground_program.specs.Facts.{IsProgram}
use Rattle.ground_program.specs.Ground.{Ground}
use Rattle.ground_program.proofs.FactLaws.{normal-weighed, program-weighed}
use Rattle.ground_program.proofs.Least.{grown-fixpoint}
use Rattle.asp_base.specs.Sets.{Set, none, Same}
use Rattle.ground_program.specs.Normal.{AreNormal}
use Rattle.ground_program.specs.Stable.{weight_of, holds, head_has, step, rounds, least, grown, joined, Founded, Supported, Stable}
use Rattle.asp_base.specs.Walks.{Acyclic}
use Rattle.ground_program.specs.Negative.{IsNegative, IsNegativeBody, HasNegativeBodies}
use Rattle.ground_program.specs.declared.program.Body.{Body}
use Rattle.ground_program.specs.declared.program.Body.TheVariants.{All, Sum}
use Rattle.ground_program.specs.declared.program.Rule.{Rule}

literal_apart : (l : Literal) (X Y M : Set) → IsNegative l → literal_holds l X M ≡ literal_holds l Y M
literal_apart (Pos a) X Y M n = absurd n
literal_apart (Neg a) X Y M n = refl

all_hold-apart : (lits : List Literal) (X Y M : Set) → AllByRecursion IsNegative lits → all_hold lits X M ≡ all_hold lits Y M
all_hold-apart [] X Y M n = refl
all_hold-apart (l ∷ lits) X Y M n = ap₂ ◌&&◌ (literal_apart l X Y M n.0) (all_hold-apart lits X Y M n.1)

weight_of-apart : (items : List (Literal × ℤ)) (X Y M : Set) → AllByRecursion (λ item. IsNegative item.0) items → weight_of items X M ≡ weight_of items Y M
weight_of-apart [] X Y M n = refl
weight_of-apart (item ∷ items) X Y M n =
    ap₂ (λ b s. cond b item.1 (pos 0) +ℤ s) (literal_apart item.0 X Y M n.0) (weight_of-apart items X Y M n.1)

pub holds-apart : (body : Body) (X Y M : Set) → IsNegativeBody body → holds body X M ≡ holds body Y M
holds-apart (All lits) X Y M n = all_hold-apart lits X Y M n
holds-apart (Sum bound items) X Y M n = ap (int_le bound) (weight_of-apart items X Y M n)

pub step-apart : (rules : List Rule) (X Y M : Set) → HasNegativeBodies rules → Same (step rules M X) (step rules M Y)
step-apart [] X Y M n a = refl
step-apart (rule ∷ rules) X Y M n a =
    ap₂ (λ b s. (head_has rule.head M a && b) || s) (holds-apart rule.body X Y M n.0) (step-apart rules X Y M n.1 a)

same_or : (x y : Bool) → (x || x) ≡ x
same_or true y = refl
same_or false y = refl

rounds-apart : (n : ℕ) (rules : List Rule) (M : Set) → HasNegativeBodies rules → Same (rounds (suc n) rules M none) (step rules M M)
rounds-apart zero rules M h a = step-apart rules none M M h a
rounds-apart (suc n) rules M h a =
    ap₂ ◌||◌ (rounds-apart n rules M h a) (step-apart rules (rounds (suc n) rules M none) M M h a) ∙ same_or (step rules M M a) true

-- one step reaches the least model
pub grown-apart : (rules : List Rule) (M : Set) → HasNegativeBodies rules → Same (grown rules M none) (step rules M M)
grown-apart [] M h a = refl
grown-apart (rule ∷ rules) M h a = rounds-apart (length rules) (rule ∷ rules) M h a

-- The least model is a fixpoint of the step, and it is the set itself.
pub Supported-from_Stable : (P : Ground) (M : Set) → IsProgram P → Stable P M → Supported P M
Supported-from_Stable P M f s = record {
  step_is = subst (λ X. Same (step P.rules M X) X) (fun_ext s.least_is) (grown-fixpoint P.rules M (program-weighed P f));
  keeps = s.keeps;
}

pub Supported-from_Founded : (P : Ground) (M : Set) → AreNormal P.rules → Founded P M → Supported P M
Supported-from_Founded P M n f =
    let same : least P M ≡ M = fun_ext f.least_is in
    record { step_is = λ a. subst (λ X. step P.rules M X a ≡ X a) same (grown-fixpoint P.rules M (normal-weighed P.rules n) a); keeps = f.keeps }

supported-apart : (P : Ground) (M : Set) → HasNegativeBodies P.rules → Stable P M → Supported P M
supported-apart P M h s = record { step_is = λ a. sym (grown-apart P.rules M h a) ∙ s.least_is a; keeps = s.keeps }

pub Stable-from_Supported : (P : Ground) (M : Set) → HasNegativeBodies P.rules → Acyclic (joined P.edges M) → Supported P M → Stable P M
Stable-from_Supported P M h c s = record { least_is = λ a. grown-apart P.rules M h a ∙ s.step_is a; keeps = s.keeps; acyclic = c }

pub Acyclic-no_edges : (M : Set) → Acyclic (joined [] M)
Acyclic-no_edges M node [] walk = true≢false (sym walk)
Acyclic-no_edges M node (next ∷ rest) walk = true≢false (sym walk.0)

pub Stable-iff_Supported : (P : Ground) (M : Set) → HasNegativeBodies P.rules → P.edges ≡ [] → Stable P M ↔ Supported P M
Stable-iff_Supported P M h e =
    (supported-apart P M h, Stable-from_Supported P M h (subst (λ edges. Acyclic (joined edges M)) (sym e) (Acyclic-no_edges M)))
