-- What the facts of a program give.
use Rattle.std.proofs.Common.{◌≡◌, sym, ◌∙◌, subst, ℕ, zero, suc, true, List, [], ◌∷◌, ⊎_elim, length}
use Rattle.std.specs.List.{AllByRecursion}
use Rattle.std.proofs.lemmas.Bool.{and_parts, or_cases, true≢false, eqb-true}
use Rattle.ground_program.specs.Ground.{Ground}
use Rattle.asp_base.specs.Sets.{Set, members, Within, none}
use Rattle.ground_program.specs.Facts.{IsProgram, RuleFits, BodyFits, HeadFits, Among}
use Rattle.ground_program.specs.Closed.{HasWeights, Weighed}
use Rattle.ground_program.specs.Normal.{IsNormalBody, AreNormal}
use Rattle.ground_program.specs.Stable.{head_has, step, rounds, least, Founded, Stable}
use Rattle.ground_program.specs.declared.program.Head.{Head}
use Rattle.ground_program.specs.declared.program.Head.TheVariants.{Nothing, One, Choice}
use Rattle.ground_program.specs.declared.program.Body.{Body}
use Rattle.ground_program.specs.declared.program.Body.TheVariants.{All, Sum}
use Rattle.ground_program.specs.declared.program.Rule.{Rule}
use Rattle.asp_base.proofs.Each.{each-member, each-weaker}

pub body-weights : (atoms : List ℕ) (body : Body) → BodyFits (Among atoms) body → HasWeights body
body-weights atoms (All lits) h = tt
body-weights atoms (Sum bound items) h = each-weaker _ _ (λ item k. k.1.0) items h.2

pub normal-weighed : (rules : List Rule) → AreNormal rules → Weighed rules
normal-weighed rules n = each-weaker _ _ (λ rule h. go rule.body h.1) rules n
  where
    go : (body : Body) → IsNormalBody body → HasWeights body
    go (All lits) h = tt
    go (Sum bound items) h = absurd h

pub program-weighed : (P : Ground) → IsProgram P → Weighed P.rules
program-weighed P f = each-weaker _ _ (λ rule h. body-weights P.atoms rule.body h.1) P.rules f.rules

head-among : (atoms : List ℕ) (head : Head) (M : Set) (a : ℕ) → HeadFits (Among atoms) head → head_has head M a ≡ true → members atoms a ≡ true
head-among atoms Nothing M a h e = absurd (true≢false (sym e))
head-among atoms (One b) M a h e = subst (λ c. members atoms c ≡ true) (eqb-true b a e) h
head-among atoms (Choice as_) M a h e = each-member (Among atoms) as_ a h.1 ((and_parts _ _ e).0)

pub step-among : (atoms : List ℕ) (rules : List Rule) (M X : Set) → AllByRecursion (RuleFits (Among atoms)) rules → Within (step rules M X) (members atoms)
step-among atoms [] M X f a e = absurd (true≢false (sym e))
step-among atoms (rule ∷ rules) M X f a e =
    ⊎_elim (λ d. head-among atoms rule.head M a f.0.0 ((and_parts _ _ d).0)) (λ s. step-among atoms rules M X f.1 a s) (or_cases _ _ e)

pub rounds-among : (n : ℕ) (atoms : List ℕ) (rules : List Rule) (M : Set) → AllByRecursion (RuleFits (Among atoms)) rules → Within (rounds n rules M none) (members atoms)
rounds-among zero atoms rules M f a e = absurd (true≢false (sym e))
rounds-among (suc n) atoms rules M f a e =
    ⊎_elim (λ p. rounds-among n atoms rules M f a p) (λ p. step-among atoms rules M (rounds n rules M none) f a p) (or_cases _ _ e)

pub least-among : (P : Ground) (M : Set) → IsProgram P → Within (least P M) (members P.atoms)
least-among P M f = rounds-among (length P.rules) P.atoms P.rules M f.rules

-- a founded set has atoms of the program only
pub Founded-among : (P : Ground) (M : Set) → IsProgram P → Founded P M → Within M (members P.atoms)
Founded-among P M f s a m = least-among P M f a (s.least_is a ∙ m)

pub Stable-among : (P : Ground) (M : Set) → IsProgram P → Stable P M → Within M (members P.atoms)
Stable-among P M f s a m = least-among P M f a (s.least_is a ∙ m)
