-- A supported set with a ranking on each cyclic component is founded.
use Rattle.std.proofs.Common.{◌≡◌, refl, sym, ◌∙◌, ap, ℕ, zero, suc, ◌≤◌, ◌<◌, ◌==◌, Bool, true, false, cond, not, ◌&&◌, ltb, List, [], ◌∷◌, ⊎_elim, ◌⊎◌, arith}
use Rattle.std.specs.List.{list_any, AllByRecursion}
use Rattle.std.proofs.lemmas.Bool.{and_parts, and_from, or_cases, or_left, or_right, true≢false, ltb-true, eqb-true, eq-eqb, cases_Bool}
use Rattle.asp_base.specs.Literal.{Literal, Pos, Neg, all_hold}
use Rattle.ground_program.specs.Ground.{Ground}
use Rattle.asp_base.specs.Sets.{Set, none, members}
use Rattle.ground_program.specs.Closed.{Closed}
use Rattle.ground_program.specs.Occurrences.{atoms_of_head}
use Rattle.ground_program.specs.Dependencies.{positives_of_literals, positives_of_body, depends}
use Rattle.ground_program.specs.Stable.{holds, head_has, derives, least, Founded, Supported}
use Rattle.ground_program.specs.declared.program.Body.{Body}
use Rattle.ground_program.specs.declared.program.Body.TheVariants.{All, Sum}
use Rattle.ground_program.specs.declared.program.Rule.{Rule}
use Rattle.ground_program.proofs.Passing.{list_any-weaker}
use Rattle.asp_base.proofs.Each.{each, each-weaker}
use Rattle.ground_program.proofs.Least.{grown-closed, grown-smallest, same_within}
use Rattle.ground_program.proofs.Plain.{at_member, head_has-members}
use Rattle.ground_program.proofs.FactLaws.{normal-weighed}
use Rattle.ground_program.specs.Normal.{IsNormalHead, IsNormalBody, AreNormal}
use Rattle.level_ranking.specs.Encoding.{positive_in, body_in}
use Rattle.level_ranking.proofs.Equations.{gives, is_below, IsRanking}

-- a body holds at X where X has its positive atoms
lits-at : (M X : Set) (lits : List Literal) → all_hold lits M M ≡ true → ((b : ℕ) → members (positives_of_literals lits) b ≡ true → M b ≡ true → X b ≡ true) → all_hold lits X M ≡ true
lits-at M X [] h f = refl
lits-at M X (Neg b ∷ lits) h f = let k : (not (M b) ≡ true) × (all_hold lits M M ≡ true) = and_parts _ _ h in and_from _ _ k.0 (lits-at M X lits k.1 f)
lits-at M X (Pos b ∷ lits) h f =
    let k : (M b ≡ true) × (all_hold lits M M ≡ true) = and_parts _ _ h in
    and_from _ _ (f b (or_left _ _ (eq-eqb b b refl)) k.0) (lits-at M X lits k.1 (λ c m t. f c (or_right _ _ m) t))

body-at : (M X : Set) (body : Body) → IsNormalBody body → holds body M M ≡ true → ((b : ℕ) → members (positives_of_body body) b ≡ true → M b ≡ true → X b ≡ true) → holds body X M ≡ true
body-at M X (All lits) n h f = lits-at M X lits h f
body-at M X (Sum bound items) n h f = absurd n

-- the positive atoms in a component are those positive atoms that lie in it
positive-in : (S : Set) (lits : List Literal) (b : ℕ) → members (positives_of_literals lits) b ≡ true → S b ≡ true → members (positive_in S lits) b ≡ true
positive-in S [] b m s = m
positive-in S (Neg a ∷ lits) b m s = positive-in S lits b m s
positive-in S (Pos a ∷ lits) b m s = go (S a) refl (or_cases _ _ m) (λ k. positive-in S lits b k s)
  where
    go : (t : Bool) → S a ≡ t → ((a == b) ≡ true) ⊎ (members (positives_of_literals lits) b ≡ true) → (members (positives_of_literals lits) b ≡ true → members (positive_in S lits) b ≡ true)
        → members (cond t (a ∷ positive_in S lits) (positive_in S lits)) b ≡ true
    go true e c rest = ⊎_elim (λ h. or_left _ _ h) (λ h. or_right _ _ (rest h)) c
    go false e c rest = ⊎_elim (λ h. absurd (true≢false (sym s ∙ (ap S (sym (eqb-true a b h)) ∙ e)))) (λ h. rest h) c

body-positive-in : (S : Set) (body : Body) (b : ℕ) → IsNormalBody body → members (positives_of_body body) b ≡ true → S b ≡ true → members (body_in S body) b ≡ true
body-positive-in S (All lits) b n m s = positive-in S lits b m s
body-positive-in S (Sum bound items) b n m s = absurd n

-- a rule makes its head depend on its positive body atoms
each-depends : (rules : List Rule) → AllByRecursion (λ rule. (a b : ℕ) → members (atoms_of_head rule.head) a ≡ true → members (positives_of_body rule.body) b ≡ true → depends rules a b ≡ true) rules
each-depends [] = tt
each-depends (rule ∷ rules) = (λ a b h k. or_left _ _ (and_from _ _ h k), each-weaker _ _ (λ x f a b h k. or_right _ _ (f a b h k)) rules (each-depends rules))

both : (rules : List Rule) → AreNormal rules → AllByRecursion (λ rule. (IsNormalHead rule.head × IsNormalBody rule.body) × ((a b : ℕ) → members (atoms_of_head rule.head) a ≡ true → members (positives_of_body rule.body) b ≡ true → depends rules a b ≡ true)) rules
both rules n = zipped rules n (each-depends rules)
  where
    zipped : (xs : List Rule) → AreNormal xs → AllByRecursion (λ rule. (a b : ℕ) → members (atoms_of_head rule.head) a ≡ true → members (positives_of_body rule.body) b ≡ true → depends rules a b ≡ true) xs
        → AllByRecursion (λ rule. (IsNormalHead rule.head × IsNormalBody rule.body) × ((a b : ℕ) → members (atoms_of_head rule.head) a ≡ true → members (positives_of_body rule.body) b ≡ true → depends rules a b ≡ true)) xs
    zipped [] m h = tt
    zipped (x ∷ xs) m h = ((m.0, h.0), zipped xs m.1 h.1)

-- The component of a number has the atoms of M whose part it is. The order is that of the parts.
module _ (P : Ground) (M : Set) (normal : AreNormal P.rules) (supported : Supported P M) (part : ℕ → ℕ) (cyclic : ℕ → Bool) (S : ℕ → Set)
    (has : (c a : ℕ) → part a ≡ c → M a ≡ true → S c a ≡ true)
    (order : (a b : ℕ) → depends P.rules a b ≡ true → (part b < part a) ⊎ ((part b ≡ part a) × (cyclic (part a) ≡ true)))
    (ranking : (c : ℕ) → cyclic c ≡ true → (r : ℕ → ℕ) × IsRanking (S c) P.rules M r) where
  closed : Closed P.rules M (least P M)
  closed = grown-closed P.rules M none (normal-weighed P.rules normal)

  -- an atom whose rule has a body with all positive atoms reached is reached
  by_rule : (a : ℕ) (test : Rule → Bool) → list_any (λ rule. gives M a rule && test rule) P.rules ≡ true
      → ((rule : Rule) → IsNormalBody rule.body → test rule ≡ true → (b : ℕ) → members (positives_of_body rule.body) b ≡ true → M b ≡ true → depends P.rules a b ≡ true → least P M b ≡ true)
      → least P M a ≡ true
  by_rule a test e f = closed a
      (list_any-weaker (λ rule. gives M a rule && test rule) _ P.rules
      (each-weaker _ _ (λ rule k d.
      let one : (gives M a rule ≡ true) × (test rule ≡ true) = and_parts _ _ d in
      let two : (head_has rule.head M a ≡ true) × (holds rule.body M M ≡ true) = and_parts _ _ one.0 in
      and_from _ _ two.0 (body-at M (least P M) rule.body k.0.1 two.1 (λ b m t. f rule k.0.1 one.1 b m t (k.1 a b (head_has-members rule.head M a two.0) m))))
      P.rules (both P.rules normal)) e)

  any_test : (a : ℕ) → M a ≡ true → list_any (λ rule. gives M a rule && true) P.rules ≡ true
  any_test a m = list_any-weaker (λ rule. derives rule M M a) _ P.rules (each _ (λ rule d. and_from _ _ d refl) P.rules) (supported.step_is a ∙ m)

  -- in a cyclic component, by the ranks
  by_ranks : (c : ℕ) → ((a : ℕ) → part a < c → M a ≡ true → least P M a ≡ true) → (r : ℕ → ℕ) → IsRanking (S c) P.rules M r
      → (k a : ℕ) → part a ≡ c → M a ≡ true → r a ≤ k → least P M a ≡ true
  by_ranks c lower r i zero a e m h = absurd (let q : 0 < r a = i.from_one a (has c a e m) m in omega arith)
  by_ranks c lower r i (suc k) a e m h =
      let ih : (b : ℕ) → part b ≡ c → M b ≡ true → r b ≤ k → least P M b ≡ true = by_ranks c lower r i k in
      by_rule a (λ rule. is_below (S c) r a rule) (i.below a (has c a e m) m)
      (λ rule nb t b mb tb d. ⊎_elim (λ l. lower b (omega arith) tb)
      (λ s. let here : part b ≡ c = s.0 ∙ e in
      let less : r b < r a = ltb-true _ _ (at_member (λ x. ltb (r x) (r a)) (body_in (S c) rule.body) b t (body-positive-in (S c) rule.body b nb mb (has c b here tb))) in
      ih b here tb (omega arith))
      (order a b d))

  -- in another, from lower components alone
  by_lower : (c : ℕ) → ((a : ℕ) → part a < c → M a ≡ true → least P M a ≡ true) → cyclic c ≡ false → (a : ℕ) → part a ≡ c → M a ≡ true → least P M a ≡ true
  by_lower c lower n a e m = by_rule a (λ rule. true) (any_test a m)
      (λ rule nb t b mb tb d. ⊎_elim (λ l. lower b (omega arith) tb) (λ s. absurd (true≢false (sym s.1 ∙ (ap cyclic e ∙ n)))) (order a b d))

  within_part : (c : ℕ) → ((a : ℕ) → part a < c → M a ≡ true → least P M a ≡ true) → (a : ℕ) → part a ≡ c → M a ≡ true → least P M a ≡ true
  within_part c lower a e m = ⊎_elim
      (λ y. let here : (r : ℕ → ℕ) × IsRanking (S c) P.rules M r = ranking c y in by_ranks c lower here.0 here.1 (here.0 a) a e m (omega arith))
      (λ n. by_lower c lower n a e m) (cases_Bool (cyclic c))

  all_reached : (n a : ℕ) → part a < n → M a ≡ true → least P M a ≡ true
  all_reached zero a h m = absurd (omega arith)
  all_reached (suc n) a h m = within_part (part a) (λ b l t. all_reached n b (omega arith) t) a refl m

  pub Founded-from_rankings : Founded P M
  Founded-from_rankings = record {
    least_is = same_within _ _
        (grown-smallest P.rules M none M (normal-weighed P.rules normal) (λ a e. absurd (true≢false (sym e))) (λ a e. sym (supported.step_is a) ∙ e))
        (λ a m. all_reached (suc (part a)) a (omega arith) m);
    keeps = supported.keeps;
  }
