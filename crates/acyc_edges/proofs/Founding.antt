-- A set is founded where each of its atoms has a rule whose body holds, and steps from heads to the positive atoms of the bodies
-- that were picked have no cycle (F. Fages. Consistency of Clark's completion and existence of stable models. Journal of Methods
-- of Logic in Computer Science 1, 1994; E. Erdem, V. Lifschitz. Tight logic programs. TPLP 3, 2003).
use Rattle.std.proofs.Common.{◌≡◌, refl, sym, ◌∙◌, ap, ℕ, Bool, true, false, ◌==◌, List, [], ◌∷◌, ⊎_elim, inl, inr}
use Rattle.std.specs.List.{list_any, list_all}
use Rattle.std.specs.Cmp.{nat_eq_equiv}
use Rattle.std.proofs.lemmas.Bool.{and_parts, and_from, eqb-true, eq-eqb, cases_Bool}
use Rattle.asp_base.specs.Literal.{Literal, Pos, Neg, all_hold}
use Rattle.asp_base.specs.Sets.{Set, none, Within, In}
use Rattle.asp_base.specs.Walks.{Acyclic}
use Rattle.ground_program.specs.Closed.{HasWeights}
use Rattle.ground_program.specs.Stable.{holds, head_has, derives, grown}
use Rattle.ground_program.specs.declared.program.Body.{Body}
use Rattle.ground_program.specs.declared.program.Body.TheVariants.{All, Sum}
use Rattle.ground_program.specs.declared.program.Rule.{Rule}
use Rattle.ground_program.proofs.Least.{grown-closed}
use Rattle.ground_program.specs.Dependencies.{positives_of_literals, positives_of_body}
use Rattle.ground_program.specs.Normal.{IsNormalHead, IsNormalBody, AreNormal}
use Rattle.ground_program.proofs.FactLaws.{normal-weighed}
use Rattle.acyc_edges.proofs.Cycling.{must-cycle}
use Rattle.acyc_edges.proofs.Inside.{in-any, each-in, fails-in, all-in, not-both}

pub body-weighed : (body : Body) → IsNormalBody body → HasWeights body
body-weighed (All lits) h = tt
body-weighed (Sum bound items) h = absurd h

-- a body that holds has its positive atoms in the set
literals-positive : (lits : List Literal) (X M : Set) (b : ℕ) → all_hold lits X M ≡ true → In b (positives_of_literals lits) → X b ≡ true
literals-positive [] X M b h k = absurd k
literals-positive (Pos a ∷ lits) X M b h k = let j : (X a ≡ true) × (all_hold lits X M ≡ true) = and_parts _ _ h in ⊎_elim (λ e. ap X (sym e) ∙ j.0) (λ e. literals-positive lits X M b j.1 e) k
literals-positive (Neg a ∷ lits) X M b h k = literals-positive lits X M b ((and_parts _ _ h).1) k

pub body-positive : (body : Body) (X M : Set) (b : ℕ) → IsNormalBody body → holds body X M ≡ true → In b (positives_of_body body) → X b ≡ true
body-positive (All lits) X M b n h k = literals-positive lits X M b h k
body-positive (Sum bound items) X M b n h k = absurd n

-- a body that holds, holds also where its positive atoms are
literals-hold : (lits : List Literal) (X Y M : Set) → all_hold lits X M ≡ true → ((b : ℕ) → In b (positives_of_literals lits) → Y b ≡ true) → all_hold lits Y M ≡ true
literals-hold [] X Y M h k = refl
literals-hold (Pos a ∷ lits) X Y M h k = and_from _ _ (k a (inl refl)) (literals-hold lits X Y M ((and_parts _ _ h).1) (λ b i. k b (inr i)))
literals-hold (Neg a ∷ lits) X Y M h k = let j : _ × (all_hold lits X M ≡ true) = and_parts _ _ h in and_from _ _ j.0 (literals-hold lits X Y M j.1 k)

pub body-hold : (body : Body) (X Y M : Set) → IsNormalBody body → holds body X M ≡ true → ((b : ℕ) → In b (positives_of_body body) → Y b ≡ true) → holds body Y M ≡ true
body-hold (All lits) X Y M n h k = literals-hold lits X Y M h k
body-hold (Sum bound items) X Y M n h k = absurd n

turned : (xs : List ℕ) (a : ℕ) → In a xs → list_any (λ z. a == z) xs ≡ true
turned xs a h = in-any (λ z. a == z) xs a h (eq-eqb a a refl)

-- a rule that is picked for an atom
pub record Picks (rules : List Rule) (M : Set) (E : ℕ → ℕ → Bool) (a : ℕ) : Type 0 where
  pub rule : Rule
  pub there : In rule rules
  pub head : head_has rule.head M a ≡ true
  pub body : holds rule.body M M ≡ true
  pub steps : (b : ℕ) → In b (positives_of_body rule.body) → E a b ≡ true

module _ (rules : List Rule) (normal : AreNormal rules) (M : Set) (atoms : List ℕ) (among : (a : ℕ) → M a ≡ true → In a atoms)
    (E : ℕ → ℕ → Bool) (acyclic : Acyclic E) (picks : (a : ℕ) → M a ≡ true → Picks rules M E a) where
  missing : ℕ → Type 0
  missing a = (M a ≡ true) × (grown rules M none a ≡ false)

  next : (a : ℕ) → M a ≡ true → grown rules M none a ≡ false → (b : ℕ) × ((M b ≡ true) × (grown rules M none b ≡ false)) × (E a b ≡ true)
  next a m u =
      let p : Picks rules M E a = picks a m in
      let n : IsNormalHead p.rule.head × IsNormalBody p.rule.body = each-in _ rules p.rule normal p.there in
      go p n (list_all (grown rules M none) (positives_of_body p.rule.body)) refl
    where
      go : (p : Picks rules M E a) → IsNormalHead p.rule.head × IsNormalBody p.rule.body → (t : Bool) → list_all (grown rules M none) (positives_of_body p.rule.body) ≡ t
          → (b : ℕ) × ((M b ≡ true) × (grown rules M none b ≡ false)) × (E a b ≡ true)
      go p n true e =
          let here : holds p.rule.body (grown rules M none) M ≡ true = body-hold p.rule.body M (grown rules M none) M n.1 p.body (λ b i. all-in (grown rules M none) (positives_of_body p.rule.body) b e i) in
          absurd (not-both (grown rules M none a)
          (grown-closed rules M none (normal-weighed rules normal) a (in-any (λ rule. derives rule M (grown rules M none) a) rules p.rule p.there (and_from _ _ p.head here))) u)
      go p n false e =
          let far : (b : ℕ) × In b (positives_of_body p.rule.body) × (grown rules M none b ≡ false) = fails-in (grown rules M none) (positives_of_body p.rule.body) e in
          (far.0, (body-positive p.rule.body M M far.0 n.1 p.body far.1, far.2), p.steps far.0 far.1)

  pub within-least : Within M (grown rules M none)
  within-least a m = ⊎_elim (λ t. t)
      (λ u. absurd (must-cycle ◌==◌ nat_eq_equiv (λ x y e. eqb-true x y e) E atoms (λ x. (M x ≡ true) × (grown rules M none x ≡ false))
      (λ x v. turned atoms x (among x v.0)) (λ x v. next x v.0 v.1) acyclic a (m, u)))
      (cases_Bool (grown rules M none a))
