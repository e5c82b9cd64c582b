-- A body holds just where it lacks nothing; and of M only the program's atoms count.
use Rattle.std.proofs.Common.{◌≡◌, refl, sym, ◌∙◌, ap, ap₂, subst, ℕ, zero, suc, ℤ, pos, negsuc, ◌+ℤ◌, ◌≤ℤ◌, int_le, ◌+◌, ◌-◌, ◌≤◌, Bool, true, false, cond, not, ◌&&◌, ◌||◌, List, [], ◌∷◌, length, ⊎_elim, arith}
use mathlib.Core.Path.{fun_ext}
use Rattle.std.specs.List.{AllByRecursion}
use Rattle.std.proofs.lemmas.Bool.{and_parts, true≢false, cases_Bool, cond_both, eqb-true, or_cases}
use Rattle.std.proofs.lemmas.Int.{ints}
use Rattle.asp_base.specs.Literal.{Literal, Pos, Neg, atom_of, literal_holds, all_hold}
use Rattle.asp_base.specs.Sets.{Set, members, none}
use Rattle.ground_program.specs.Closed.{HasWeights, Weighed}
use Rattle.ground_program.specs.Facts.{Among, RuleFits, HeadFits, BodyFits, FitsBodyWeight}
use Rattle.ground_program.specs.Stable.{weight_of, holds, head_has, step, rounds, grown}
use Rattle.ground_program.specs.declared.program.Head.{Head}
use Rattle.ground_program.specs.declared.program.Head.TheVariants.{Nothing, One, Choice}
use Rattle.ground_program.specs.declared.program.Body.{Body}
use Rattle.ground_program.specs.declared.program.Body.TheVariants.{All, Sum}
use Rattle.ground_program.specs.declared.program.Rule.{Rule}
use Rattle.ground_program.proofs.FactLaws.{body-weights}
use Rattle.stable_check.specs.private.Lack.{natural, one_each, naturals, weighed, asks, total, lack}
use Rattle.asp_base.proofs.Each.{each-weaker}

-- ---- what a body lacks

total-few : (lits : List Literal) (X M : Set) → total (one_each lits) X M ≤ length lits
total-few [] X M = omega arith
total-few (l ∷ lits) X M = let k : total (one_each lits) X M ≤ length lits = total-few lits X M in
    cond_both (literal_holds l X M) 1 0 (λ w. w + total (one_each lits) X M ≤ suc (length lits)) (λ e. omega arith) (λ e. omega arith)

all-from_total : (lits : List Literal) (X M : Set) → length lits - total (one_each lits) X M ≡ 0 → all_hold lits X M ≡ true
all-from_total [] X M h = refl
all-from_total (l ∷ lits) X M h = go (literal_holds l X M) h (all-from_total lits X M)
  where
    go : (b : Bool) → suc (length lits) - (cond b 1 0 + total (one_each lits) X M) ≡ 0 → (length lits - total (one_each lits) X M ≡ 0 → all_hold lits X M ≡ true) → (b && all_hold lits X M) ≡ true
    go true k rest = rest (omega arith)
    go false k rest = let few : total (one_each lits) X M ≤ length lits = total-few lits X M in absurd (omega arith)

total-from_all : (lits : List Literal) (X M : Set) → all_hold lits X M ≡ true → total (one_each lits) X M ≡ length lits
total-from_all [] X M h = refl
total-from_all (l ∷ lits) X M h =
    let k : (literal_holds l X M ≡ true) × (all_hold lits X M ≡ true) = and_parts _ _ h in
    let rest : total (one_each lits) X M ≡ length lits = total-from_all lits X M k.1 in
    ap (λ b. cond b 1 0 + total (one_each lits) X M) k.0 ∙ (let e : 1 + total (one_each lits) X M ≡ suc (length lits) = omega arith in e)

sum-cond : (b : Bool) (w s : ℤ) (t : ℕ) → pos 0 ≤ℤ w → s ≡ pos t → (cond b w (pos 0) +ℤ s) ≡ pos (cond b (natural w) 0 + t)
sum-cond true (pos n) s t h e = omega (arith, ints)
sum-cond true (negsuc n) s t h e = absurd (omega (arith, ints))
sum-cond false w s t h e = omega (arith, ints)

pub weight-total : (items : List (Literal × ℤ)) (X M : Set) → AllByRecursion (λ item. pos 0 ≤ℤ item.1) items → weight_of items X M ≡ pos (total (naturals items) X M)
weight-total [] X M h = refl
weight-total (item ∷ items) X M h = sum-cond (literal_holds item.0 X M) item.1 (weight_of items X M) (total (naturals items) X M) h.0 (weight-total items X M h.1)

pub bound-reached : (bound : ℤ) (t : ℕ) → natural bound - t ≡ 0 → int_le bound (pos t) ≡ true
bound-reached (pos n) t h = let k : n ≤ t = omega arith in grind (arith, ints)
bound-reached (negsuc n) t h = grind (arith, ints)

pub reached-bound : (bound : ℤ) (t : ℕ) → int_le bound (pos t) ≡ true → natural bound - t ≡ 0
reached-bound (pos n) t h = grind (arith, ints)
reached-bound (negsuc n) t h = omega arith

pub holds-from_lack : (X M : Set) (rule : Rule) → HasWeights rule.body → lack X M rule ≡ 0 → holds rule.body X M ≡ true
holds-from_lack X M rule w h = go rule.body w h
  where
    go : (body : Body) → HasWeights body → asks body - total (weighed body) X M ≡ 0 → holds body X M ≡ true
    go (All lits) w h = all-from_total lits X M h
    go (Sum bound items) w h = ap (int_le bound) (weight-total items X M w) ∙ bound-reached bound (total (naturals items) X M) h

pub lack-from_holds : (X M : Set) (rule : Rule) → HasWeights rule.body → holds rule.body X M ≡ true → lack X M rule ≡ 0
lack-from_holds X M rule w h = go rule.body w h
  where
    go : (body : Body) → HasWeights body → holds body X M ≡ true → asks body - total (weighed body) X M ≡ 0
    go (All lits) w h = let e : total (one_each lits) X M ≡ length lits = total-from_all lits X M h in omega arith
    go (Sum bound items) w h = reached-bound bound (total (naturals items) X M) (ap (int_le bound) (sym (weight-total items X M w)) ∙ h)

pub weighed-rules : (atoms : List ℕ) (rules : List Rule) → AllByRecursion (RuleFits (Among atoms)) rules → Weighed rules
weighed-rules atoms rules fit = each-weaker _ _ (λ rule h. body-weights atoms rule.body h.1) rules fit

-- ---- two sets that agree on the program's atoms

module _ (atoms : List ℕ) (M N : Set) (agree : (a : ℕ) → members atoms a ≡ true → M a ≡ N a) where
  literal-agrees : (X : Set) (l : Literal) → Among atoms (atom_of l) → literal_holds l X M ≡ literal_holds l X N
  literal-agrees X (Pos a) h = refl
  literal-agrees X (Neg a) h = ap not (agree a h)

  literals-agree : (X : Set) (lits : List Literal) → AllByRecursion (λ l. Among atoms (atom_of l)) lits → all_hold lits X M ≡ all_hold lits X N
  literals-agree X [] h = refl
  literals-agree X (l ∷ lits) h = ap₂ ◌&&◌ (literal-agrees X l h.0) (literals-agree X lits h.1)

  weights-agree : (X : Set) (items : List (Literal × ℤ)) → AllByRecursion (λ item. Among atoms (atom_of item.0) × FitsBodyWeight item.1) items → weight_of items X M ≡ weight_of items X N
  weights-agree X [] h = refl
  weights-agree X (item ∷ items) h = ap₂ (λ (b : Bool) (s : ℤ). cond b item.1 (pos 0) +ℤ s) (literal-agrees X item.0 h.0.0) (weights-agree X items h.1)

  bodies-agree : (X : Set) (body : Body) → BodyFits (Among atoms) body → holds body X M ≡ holds body X N
  bodies-agree X (All lits) h = literals-agree X lits h.1
  bodies-agree X (Sum bound items) h = ap (int_le bound) (weights-agree X items h.2)

  among-members : (as_ : List ℕ) (a : ℕ) → AllByRecursion (Among atoms) as_ → members as_ a ≡ true → members atoms a ≡ true
  among-members [] a h m = absurd (true≢false (sym m))
  among-members (b ∷ as_) a h m = ⊎_elim (λ e. subst (Among atoms) (eqb-true b a e) h.0) (λ e. among-members as_ a h.1 e) (or_cases _ _ m)

  heads-agree : (head : Head) (a : ℕ) → HeadFits (Among atoms) head → head_has head M a ≡ head_has head N a
  heads-agree Nothing a h = refl
  heads-agree (One b) a h = refl
  heads-agree (Choice as_) a h = ⊎_elim (λ m. ap (λ b. members as_ a && b) (agree a (among-members as_ a h.1 m))) (λ m. ap (λ b. b && M a) m ∙ sym (ap (λ b. b && N a) m)) (cases_Bool (members as_ a))

  steps-agree : (rules : List Rule) (X : Set) (a : ℕ) → AllByRecursion (RuleFits (Among atoms)) rules → step rules M X a ≡ step rules N X a
  steps-agree [] X a fit = refl
  steps-agree (rule ∷ rules) X a fit =
      ap₂ ◌||◌ (ap₂ ◌&&◌ (heads-agree rule.head a fit.0.0) (bodies-agree X rule.body fit.0.1)) (steps-agree rules X a fit.1)

  rounds-agree : (n : ℕ) (rules : List Rule) → AllByRecursion (RuleFits (Among atoms)) rules → (a : ℕ) → rounds n rules M none a ≡ rounds n rules N none a
  rounds-agree zero rules fit a = refl
  rounds-agree (suc n) rules fit a =
      ap₂ ◌||◌ (rounds-agree n rules fit a)
      (steps-agree rules (rounds n rules M none) a fit
      ∙ ap (λ (X : Set). step rules N X a) (fun_ext (rounds-agree n rules fit)))

  pub grown-agrees : (rules : List Rule) → AllByRecursion (RuleFits (Among atoms)) rules → (a : ℕ) → grown rules M none a ≡ grown rules N none a
  grown-agrees rules fit a = rounds-agree (length rules) rules fit a
