-- A set that breaks no rule is closed under the rules, and a stable set breaks none.
use Rattle.std.proofs.Common.{◌≡◌, refl, sym, ◌∙◌, ap, subst, ℕ, Bool, true, false, not, ◌&&◌, List, [], ◌∷◌, ⊎_elim}
use Rattle.std.specs.List.{list_any}
use Rattle.std.proofs.lemmas.Bool.{and_parts, and_from, or_cases, or_left, or_right, or_parts, or_from, true≢false, eqb-true, eq-eqb}
use Rattle.asp_base.specs.Literal.{all_hold}
use Rattle.asp_base.specs.Sets.{Set, none, Within}
use Rattle.asp_base.specs.Walks.{Acyclic}
use Rattle.ground_program.specs.Broken.{head_fails, breaks}
use Rattle.ground_program.specs.Closed.{Closed, Weighed}
use Rattle.ground_program.specs.Facts.{IsProgram}
use Rattle.ground_program.specs.Ground.{Ground}
use Rattle.ground_program.specs.Stable.{holds, head_has, step, least, is_headless, joined, Stable}
use Rattle.ground_program.specs.declared.program.Head.{Head}
use Rattle.ground_program.specs.declared.program.Head.TheVariants.{Nothing, One, Choice}
use Rattle.ground_program.specs.declared.program.Rule.{Rule}
use Rattle.ground_program.proofs.FactLaws.{program-weighed}
use Rattle.ground_program.proofs.Least.{grown-closed, grown-smallest, step-mono, same_within}

-- ---- where no rule is broken

-- what the head derives where it does not fail is in the set
head-in : (head : Head) (M : Set) (a : ℕ) → head_fails head M ≡ false → head_has head M a ≡ true → M a ≡ true
head-in Nothing M a f h = absurd (true≢false (sym h))
head-in (One b) M a f h = subst (λ z. M z ≡ true) (eqb-true b a h) (by (M b) f)
  where
    by : (v : Bool) → not v ≡ false → v ≡ true
    by true e = refl
    by false e = absurd (true≢false e)
head-in (Choice bs) M a f h = (and_parts _ _ h).1

-- a rule that is not broken and whose body holds has no failing head
head-stands : (u v : Bool) → (u && v) ≡ false → u ≡ true → v ≡ false
head-stands true v e h = e
head-stands false v e h = absurd (true≢false (sym h))

pub unbroken-closed : (rules : List Rule) (M : Set) → list_any (λ rule. breaks rule M) rules ≡ false → Closed rules M M
unbroken-closed [] M u a e = absurd (true≢false (sym e))
unbroken-closed (rule ∷ rules) M u a e =
    let parts : (breaks rule M ≡ false) × (list_any (λ r. breaks r M) rules ≡ false) = or_parts _ _ u in
    ⊎_elim (λ d. let k : (head_has rule.head M a ≡ true) × (holds rule.body M M ≡ true) = and_parts _ _ d in head-in rule.head M a (head-stands _ _ parts.0 k.1) k.0)
    (λ s. unbroken-closed rules M parts.1 a s)
    (or_cases _ _ e)

pub unbroken-within : (P : Ground) (M : Set) → IsProgram P → list_any (λ rule. breaks rule M) P.rules ≡ false → Within (least P M) M
unbroken-within P M f u = grown-smallest P.rules M none M (program-weighed P f) (λ a e. absurd (true≢false (sym e))) (unbroken-closed P.rules M u)

headless-stands : (head : Head) (b : Bool) (M : Set) → (b && head_fails head M) ≡ false → (is_headless head && b) ≡ false
headless-stands Nothing true M e = e
headless-stands Nothing false M e = refl
headless-stands (One a) b M e = refl
headless-stands (Choice as_) b M e = refl

unbroken-headless : (rules : List Rule) (M : Set) → list_any (λ rule. breaks rule M) rules ≡ false → list_any (λ rule. is_headless rule.head && holds rule.body M M) rules ≡ false
unbroken-headless [] M u = refl
unbroken-headless (rule ∷ rules) M u =
    let parts : (breaks rule M ≡ false) × (list_any (λ r. breaks r M) rules ≡ false) = or_parts _ _ u in
    or_from _ _ (headless-stands rule.head (holds rule.body M M) M parts.0) (unbroken-headless rules M parts.1)

pub unbroken-stable : (P : Ground) (M : Set) → IsProgram P → list_any (λ rule. breaks rule M) P.rules ≡ false
    → Within M (least P M) → all_hold P.required M M ≡ true → Acyclic (joined P.edges M) → Stable P M
unbroken-stable P M f u within required acyclic = record {
  least_is = same_within (least P M) M (unbroken-within P M f u) within;
  keeps = record { headless = unbroken-headless P.rules M u; required = required };
  acyclic = acyclic;
}

-- ---- a stable set breaks no rule

stable-closed : (P : Ground) (M : Set) → IsProgram P → Stable P M → Closed P.rules M M
stable-closed P M f s a e =
    let w : Weighed P.rules = program-weighed P f in
    let derived : step P.rules M (least P M) a ≡ true = step-mono P.rules M M (least P M) w (λ b m. s.least_is b ∙ m) a e in
    sym (s.least_is a) ∙ grown-closed P.rules M none w a derived

head-kept : (head : Head) (M : Set) → is_headless head ≡ false → ((a : ℕ) → head_has head M a ≡ true → M a ≡ true) → head_fails head M ≡ false
head-kept Nothing M n h = absurd (true≢false n)
head-kept (One a) M n h = ap not (h a (eq-eqb a a refl))
head-kept (Choice as_) M n h = refl

closed-unbroken : (rules : List Rule) (M : Set) → Closed rules M M → list_any (λ rule. is_headless rule.head && holds rule.body M M) rules ≡ false → list_any (λ rule. breaks rule M) rules ≡ false
closed-unbroken [] M c h = refl
closed-unbroken (rule ∷ rules) M c h =
    let parts : ((is_headless rule.head && holds rule.body M M) ≡ false) × (list_any (λ r. is_headless r.head && holds r.body M M) rules ≡ false) = or_parts _ _ h in
    or_from _ _ (by (holds rule.body M M) refl parts.0) (closed-unbroken rules M (λ a e. c a (or_right _ _ e)) parts.1)
  where
    headed : (u v : Bool) → (u && v) ≡ false → v ≡ true → u ≡ false
    headed true v e k = absurd (true≢false (sym k ∙ e))
    headed false v e k = refl

    by : (b : Bool) → holds rule.body M M ≡ b → (is_headless rule.head && holds rule.body M M) ≡ false → (b && head_fails rule.head M) ≡ false
    by true e n = head-kept rule.head M (headed _ _ n e) (λ a k. c a (or_left _ _ (and_from _ _ k e)))
    by false e n = refl

pub stable-unbroken : (P : Ground) (M : Set) → IsProgram P → Stable P M → list_any (λ rule. breaks rule M) P.rules ≡ false
stable-unbroken P M f s = closed-unbroken P.rules M (stable-closed P M f s) s.keeps.headless
