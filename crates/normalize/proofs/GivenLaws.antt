-- A program stands for itself, and its size is its room where its rules are normal.
use Rattle.std.proofs.Common.{◌≡◌, ◌+◌, ◌<◌, ◌≤◌, ◌^◌, ℕ, Bool, true, false, ◌&&◌, List, [], ◌∷◌, arith, refl, sym, ◌∙◌, ap, ap₂, subst}
use mathlib.Core.Path.{fun_ext}
use Rattle.std.specs.List.{AllByRecursion, sum_by}
use Rattle.std.proofs.lemmas.List.Sums.{sum_by-cons}
use Rattle.asp_base.specs.Sets.{Set, Within, cut, members}
use Rattle.rising_numbers.specs.Rising.{RisesFrom}
use Rattle.ground_program.specs.Facts.{IsAtom, IsProgram}
use Rattle.ground_program.specs.Faithful.{Faithful}
use Rattle.ground_program.specs.Ground.{Ground}
use Rattle.ground_program.specs.Normal.{AreNormal, IsNormalBody, IsNormalHead}
use Rattle.ground_program.specs.Room.{room, term}
use Rattle.ground_program.specs.Size.{rule_size, size}
use Rattle.ground_program.specs.Stable.{Stable, cost, visible}
use Rattle.ground_program.specs.declared.program.Body.{Body}
use Rattle.ground_program.specs.declared.program.Body.TheVariants.{All, Sum}
use Rattle.ground_program.specs.declared.program.Head.{Head}
use Rattle.ground_program.specs.declared.program.Head.TheVariants.{Choice, Nothing, One}
use Rattle.ground_program.specs.declared.program.Rule.{Rule}
use Rattle.ground_program.proofs.FactLaws.{Stable-among}

cut-same : (atoms : List ℕ) (M : Set) → Within M (members atoms) → cut atoms M ≡ M
cut-same atoms M within = fun_ext (λ a. go (M a) (members atoms a) (within a))
  where
    go : (m among : Bool) → (m ≡ true → among ≡ true) → (among && m) ≡ m
    go true among within = ap (λ b. b && true) (within refl)
    go false true within = refl
    go false false within = refl

pub faithful-itself : (P : Ground) → IsProgram P → Faithful P P
faithful-itself P program = record {
  covers = record {
    stable = λ M s. subst (Stable P) (sym (whole M s)) s;
    names = λ M s. ap (visible P) (sym (whole M s));
    costs = λ M s. ap (cost P) (sym (whole M s));
    onto = λ M s. (M, s, λ a. ap (λ N. N a) (whole M s));
  };
  one = λ M N s t same a. sym (ap (λ X. X a) (whole M s)) ∙ same a ∙ ap (λ X. X a) (whole N t);
}
  where
    whole : (M : Set) → Stable P M → cut P.atoms M ≡ M
    whole M s = cut-same P.atoms M (Stable-among P M program s)

one-size : (head : Head) (body : Body) → IsNormalHead head → IsNormalBody body → rule_size (record { head = head; body = body }) ≡ term (record { head = head; body = body })
one-size Nothing (All lits) h b = omega arith
one-size (One a) (All lits) h b = omega arith
one-size Nothing (Sum bound items) h b = elim b [ ]
one-size (One a) (Sum bound items) h b = elim b [ ]
one-size (Choice as_) body h b = elim h [ ]

rules-size : (rules : List Rule) → AreNormal rules → sum_by rule_size rules ≡ sum_by term rules
rules-size [] normal = refl
rules-size (rule ∷ rules) normal =
    sum_by-cons rule_size rule rules
    ∙ ap₂ (λ m n. m + n) (one-size rule.head rule.body normal.0.0 normal.0.1) (rules-size rules normal.1)
    ∙ sym (sum_by-cons term rule rules)

pub size-room : (P : Ground) → AreNormal P.rules → size P ≤ room P
size-room P normal = let same = rules-size P.rules normal in omega arith

pub atoms-fit : (low : ℕ) (atoms : List ℕ) → RisesFrom low atoms → AllByRecursion (λ a. a ≤ 2 ^ 30) atoms → AllByRecursion IsAtom atoms
atoms-fit low [] rise most = tt
atoms-fit low (a ∷ atoms) rise most = let above : low < a = rise.0 in ((omega arith, most.0), atoms-fit a atoms rise.1 most.1)
