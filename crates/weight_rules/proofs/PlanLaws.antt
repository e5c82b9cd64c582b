-- The levels of a plan: what follows is a plan of the cut weights, and how many levels there are.
use Rattle.std.proofs.Common.{◌≡◌, refl, sym, ◌∙◌, ap, subst, subst₂, ℕ, zero, suc, ◌+◌, ◌*◌, ◌/◌, ◌≤◌, ◌<◌, ◌==◌, ◌^◌, ℤ, pos, negsuc, nat_abs, to_z, of_z, w64, Bool, true, false, cond, List, [], ◌∷◌, ◌++◌, length, drop, get_or, Option, Some, None, append_assoc, arith}
use Rattle.std.proofs.lemmas.Bool.{true≢false}
use Rattle.std.proofs.lemmas.Int.{to_z-of_z, to_z_pos}
use Rattle.std.proofs.lemmas.Nat.{mul-le}
use lib.Signed.{mag}
use mir.Val.{SFits}
use Rattle.asp_base.specs.Literal.{Literal}
use Rattle.ground_program.specs.Radix.{number_of, cut_weights, has_great, rest_sum, best_radix, tare_of, divided, at_level, next_radix, as_weight, radix}
use Rattle.ground_program.specs.Room.{network_measure, levels_measure}
use Rattle.ground_program.specs.private.Levels.{AllBelow, AreCut}
use Rattle.ground_program.proofs.RadixLaws.{best_radix_low, best_radix_high, at-first, at-next, great-base, tare-below, tare-divides, bound-less}
use Rattle.ground_program.proofs.RoomLaws.{none-great, all-next, levels-top, weights-cut, all-below}
use Rattle.rule_network.proofs.EntryLaws.{some_entries}
use Rattle.weight_rules.specs.Plan.{Follows}
use Rattle.weight_rules.specs.private.Levels.{IsPlan}

-- ---- which radix comes next, or none

record IsNext (items : List (Literal × ℤ)) (bound base b : ℕ) : Type 0 where
  pub great : has_great (at_level bound base items) ≡ true
  pub best : b ≡ best_radix (at_level bound base items)
  pub low : 2 ≤ b
  pub high : b ≤ 8
  pub most : 8 * base ≤ bound

next-some : (items : List (Literal × ℤ)) (bound base b : ℕ)
    → next_radix items bound base ≡ Some b → IsNext items bound base b
next-some items bound base b e =
    let p : (has_great (at_level bound base items) ≡ true)
    × (b ≡ best_radix (at_level bound base items)) =
    go (has_great (at_level bound base items)) (best_radix (at_level bound base items)) e in
    record {
      great = p.0;
      best = p.1;
      low = subst (λ r. 2 ≤ r) (sym p.1) (best_radix_low (at_level bound base items));
      high = subst (λ r. r ≤ 8) (sym p.1) (best_radix_high (at_level bound base items));
      most = great-base bound base items p.0;
    }
  where
    go : (t : Bool) (r : ℕ) → cond t (Some r) None ≡ Some b → (t ≡ true) × (b ≡ r)
    go true r e = (refl, cc)
    go false r e = absurd (cc)

next-none : (items : List (Literal × ℤ)) (bound base : ℕ) → next_radix items bound base ≡ None
    → has_great (at_level bound base items) ≡ false
next-none items bound base e =
    go (has_great (at_level bound base items)) (best_radix (at_level bound base items)) e
  where
    go : (t : Bool) (r : ℕ) → cond t (Some r) None ≡ None → t ≡ false
    go true r e = absurd (cc)
    go false r e = refl

-- the same of numbers as they are written
weight-some : (o : Option ℕ) (z : ℤ) → Some z ≡ as_weight o
    → (o ≡ Some (number_of z)) × (z ≡ pos (number_of z))
weight-some None z e = absurd (cc)
weight-some (Some b) z e =
    let f : z ≡ pos b = cc in
    let g : number_of z ≡ b = ap number_of f in
    (ap Some (sym g), f ∙ ap pos (sym g))

weight-none : (o : Option ℕ) → None ≡ as_weight o → o ≡ None
weight-none None e = refl
weight-none (Some b) e = absurd (cc)

radix-some : (items : List (Literal × ℤ)) (bound base : ℤ) (z : ℤ) (k n : ℕ)
    → number_of bound ≡ k → number_of base ≡ n → Some z ≡ radix items bound base
    → (next_radix items k n ≡ Some (number_of z)) × (z ≡ pos (number_of z))
radix-some items bound base z k n p q e =
    let r : (next_radix items (number_of bound) (number_of base) ≡ Some (number_of z))
    × (z ≡ pos (number_of z)) =
    weight-some (next_radix items (number_of bound) (number_of base)) z e in
    (subst₂ (λ x y. next_radix items x y ≡ Some (number_of z)) p q r.0, r.1)

pub radix-none : (items : List (Literal × ℤ)) (bound base : ℤ) (k n : ℕ) → number_of bound ≡ k
    → number_of base ≡ n → None ≡ radix items bound base → next_radix items k n ≡ None
radix-none items bound base k n p q e =
    subst₂ (λ x y. next_radix items x y ≡ None) p q
    (weight-none (next_radix items (number_of bound) (number_of base)) e)

-- ---- numbers as they are passed on

passed : (z : ℤ) (n : ℕ) → z ≡ pos n → n < 2 ^ 63 → to_z w64 (of_z w64 z) ≡ pos n
passed z n e l = ap (λ y. to_z w64 (of_z w64 y)) e ∙ to_z-of_z w64 (pos n) (record { sfits = l })

pub number-back : (n : ℕ) → n < 2 ^ 63 → number_of (to_z w64 n) ≡ n
number-back n l = ap number_of (to_z_pos w64 n l)

pub number-small : (z : ℤ) → SFits w64 z → number_of (to_z w64 (of_z w64 z)) < 2 ^ 63
number-small z f = subst (λ y. number_of y < 2 ^ 63) (sym (to_z-of_z w64 z f)) (go z f.sfits)
  where
    go : (z : ℤ) → mag z < 2 ^ 63 → number_of z < 2 ^ 63
    go (pos n) l = l
    go (negsuc n) l = omega arith

-- the radix that was found, as it is counted with
pub record IsFound (items : List (Literal × ℤ)) (bound base : ℕ) (z : ℤ) (r : ℕ) : Type 0 where
  pub next : next_radix items bound base ≡ Some r
  pub written : to_z w64 (of_z w64 z) ≡ pos r
  pub low : 2 ≤ r
  pub high : r ≤ 8
  pub most : 8 * base ≤ bound

pub found : (items : List (Literal × ℤ)) (bound z : ℤ) (base : ℕ) → SFits w64 bound
    → base ≤ number_of (to_z w64 (of_z w64 bound))
    → Some z ≡ radix items (to_z w64 (of_z w64 bound)) (to_z w64 base)
    → IsFound items (number_of (to_z w64 (of_z w64 bound))) base z (nat_abs (to_z w64 (of_z w64 z)))
found items bound z base f l e =
    let k : ℕ = number_of (to_z w64 (of_z w64 bound)) in
    let small : k < 2 ^ 63 = number-small bound f in
    let p : (next_radix items k base ≡ Some (number_of z)) × (z ≡ pos (number_of z)) =
    radix-some items (to_z w64 (of_z w64 bound)) (to_z w64 base) z k base refl
    (number-back base (omega arith)) e in
    let is : IsNext items k base (number_of z) = next-some items k base (number_of z) p.0 in
    let w : to_z w64 (of_z w64 z) ≡ pos (number_of z) =
    passed z (number_of z) p.1 (omega (arith, is.high)) in
    subst (IsFound items k base z) (sym (ap nat_abs w))
    (record { next = p.0; written = w; low = is.low; high = is.high; most = is.most })

-- ---- one radix more

pub plan-more : (items : List (Literal × ℤ)) (k base top tare r : ℕ) (z : ℤ)
    (radices tares radices1 tares1 : List ℤ)
    → next_radix items k base ≡ Some r → z ≡ pos r → tare ≡ tare_of top r → tare < 2 ^ 63
    → radices1 ≡ radices ++ (z ∷ []) → tares1 ≡ tares ++ (to_z w64 tare ∷ [])
    → ((rs ts : List ℤ) (y : ℤ) → Follows items k rs ts base top y
    → Follows items k (radices ++ rs) (tares ++ ts) 1 k y)
    → (rs ts : List ℤ) (y : ℤ) → Follows items k rs ts (base * r) ((top + tare) / r) y
    → Follows items k (radices1 ++ rs) (tares1 ++ ts) 1 k y
plan-more items k base top tare r z radices tares radices1 tares1 next is least small p q h rs ts
    y f =
    let step : Follows items k (pos r ∷ rs) (pos tare ∷ ts) base top y = (next, least, f) in
    let given : Follows items k (z ∷ rs) (to_z w64 tare ∷ ts) base top y =
    subst₂ (λ a b. Follows items k (a ∷ rs) (b ∷ ts) base top y) (sym is)
    (sym (to_z_pos w64 tare small)) step in
    subst₂ (λ xs ys. Follows items k xs ys 1 k y)
    (sym (ap (λ xs. xs ++ rs) p ∙ append_assoc radices (z ∷ []) rs))
    (sym (ap (λ xs. xs ++ ts) q ∙ append_assoc tares (to_z w64 tare ∷ []) ts))
    (h (z ∷ rs) (to_z w64 tare ∷ ts) y given)

-- the base grows, and does not pass the bound
pub base-grows : (bound base b : ℕ) → 0 < base → 2 ≤ b → b ≤ 8 → 8 * base ≤ bound
    → (base < base * b) × (base * b ≤ bound)
base-grows bound base b o low high most =
    let l : base * 2 ≤ base * b = mul-le base 2 base b (omega arith) low in
    let h : base * b ≤ base * 8 = mul-le base b base 8 (omega arith) high in
    (omega arith, omega arith)

-- ---- what follows is a plan

follows-plan : (items : List (Literal × ℤ)) (bound : ℕ) (radices tares : List ℤ) (base k : ℕ)
    (top : ℤ)
    → Follows items bound radices tares base k top
    → IsPlan radices tares (at_level bound base items) k
follows-plan items bound [] [] base k top f = next-none items bound base f.0
follows-plan items bound [] (t ∷ tares) base k top f = absurd f
follows-plan items bound (pos b ∷ radices) [] base k top f = absurd f
follows-plan items bound (pos b ∷ radices) (pos t ∷ tares) base k top f =
    let p : IsNext items bound base b = next-some items bound base b f.0 in (
      p.great,
      p.best,
      f.1,
      subst (λ xs. IsPlan radices tares xs ((k + t) / b)) (sym (at-next bound base b items))
          (follows-plan items bound radices tares (base * b) ((k + t) / b) top f.2),
    )
follows-plan items bound (pos b ∷ radices) (negsuc t ∷ tares) base k top f = absurd f
follows-plan items bound (negsuc b ∷ radices) [] base k top f = absurd f
follows-plan items bound (negsuc b ∷ radices) (t ∷ tares) base k top f = absurd f

-- the first level of a plan, and those above it
pub record IsFirst (radices tares : List ℤ) (items : List (Literal × ℕ)) (bound b t : ℕ)
    : Type 0 where
  pub great : has_great items ≡ true
  pub radix : b ≡ best_radix items
  pub tare : t ≡ tare_of bound b
  pub some : 0 < b
  pub below : t < b
  pub whole : b * ((bound + t) / b) ≡ bound + t
  pub less : (bound + t) / b ≤ bound
  pub tares_too : 0 < length tares
  pub levels : length radices ≡ suc (length (drop 1 radices))
  pub above : IsPlan (drop 1 radices) (drop 1 tares) (divided b items) ((bound + t) / b)

first-of : (radices tares : List ℤ) (items : List (Literal × ℕ)) (bound : ℕ) → 0 < length radices
    → IsPlan radices tares items bound
    → IsFirst radices tares items bound (number_of (get_or radices 0 (pos 0)))
    (number_of (get_or tares 0 (pos 0)))
first-of [] tares items bound o p = absurd (omega arith)
first-of (r ∷ radices) [] items bound o p = absurd p
first-of (r ∷ radices) (u ∷ tares) items bound o p =
    let low : 2 ≤ number_of r = subst (λ x. 2 ≤ x) (sym p.1) (best_radix_low items) in
    let some : 0 < number_of r = omega arith in
    let below : number_of u < number_of r =
    subst (λ x. x < number_of r) (sym p.2) (tare-below bound (number_of r) some) in
    record {
      great = p.0;
      radix = p.1;
      tare = p.2;
      some = some;
      below = below;
      whole =
          subst (λ x. number_of r * ((bound + x) / number_of r) ≡ bound + x) (sym p.2)
          (tare-divides bound (number_of r) some);
      less = bound-less bound (number_of u) (number_of r) some below;
      tares_too = omega arith;
      levels = refl;
      above = p.3;
    }

-- the same of what is read, where the radices are not empty by their test
pub plan-first : (radices tares : List ℤ) (items : List (Literal × ℕ)) (bound b t : ℕ)
    (empty : Bool) → empty ≡ (length radices == 0) → empty ≡ false
    → IsPlan radices tares items bound
    → SFits w64 (get_or radices 0 (pos 0)) → SFits w64 (get_or tares 0 (pos 0))
    → b ≡ number_of (to_z w64 (of_z w64 (get_or radices 0 (pos 0))))
    → t ≡ number_of (to_z w64 (of_z w64 (get_or tares 0 (pos 0))))
    → IsFirst radices tares items bound b t
plan-first radices tares items bound b t empty test is p i j f g =
    subst₂ (IsFirst radices tares items bound)
    (sym (f ∙ ap number_of (to_z-of_z w64 (get_or radices 0 (pos 0)) i)))
    (sym (g ∙ ap number_of (to_z-of_z w64 (get_or tares 0 (pos 0)) j)))
    (first-of radices tares items bound (some_entries (length radices) empty test is) p)

-- ---- the measure of a plan's levels

level : ℕ → List (Literal × ℕ) → ℕ → ℕ → ℕ → ℕ → ℕ
level levels items bound carries b t =
    network_measure (rest_sum b items + carries)
    + levels_measure levels ((bound + t) / b) (divided b items)
    ((rest_sum b items + carries + t) / b)

levels-next : (levels bound carries b t : ℕ) (items : List (Literal × ℕ))
    → has_great items ≡ true
    → b ≡ best_radix items → t ≡ tare_of bound b
    → levels_measure (suc levels) bound items carries
    ≡ network_measure (rest_sum b items + carries)
    + levels_measure levels ((bound + t) / b) (divided b items)
    ((rest_sum b items + carries + t) / b)
unfolding level
levels-next levels bound carries b t items e best is =
    ap
    (λ g. cond g
    (level levels items bound carries (best_radix items) (tare_of bound (best_radix items)))
    (levels_measure 0 bound items carries)) e
    ∙ (ap (λ c. level levels items bound carries c (tare_of bound c)) (sym best)
    ∙ ap (level levels items bound carries b) (sym is))

-- the first level, and those above it
pub first-measure : (radices tares rs : List ℤ) (items xs : List (Literal × ℕ)) (bound b t n m : ℕ)
    → IsFirst radices tares items bound b t
    → rs ≡ drop 1 radices → xs ≡ divided b items → m ≡ (rest_sum b items + n + t) / b
    → levels_measure (length radices) bound items n
    ≡ network_measure (rest_sum b items + n) + levels_measure (length rs) ((bound + t) / b) xs m
first-measure radices tares rs items xs bound b t n m f e g h =
    let v : ℕ → List (Literal × ℕ) → ℕ → ℕ =
    λ l ys k. network_measure (rest_sum b items + n) + levels_measure l ((bound + t) / b) ys k in
    ap (λ l. levels_measure l bound items n) f.levels
    ∙ (levels-next (length (drop 1 radices)) bound n b t items f.great f.radix f.tare
    ∙ (ap (λ zs. v (length zs) (divided b items) ((rest_sum b items + n + t) / b)) (sym e)
    ∙ (ap (λ ys. v (length rs) ys ((rest_sum b items + n + t) / b)) (sym g)
    ∙ ap (v (length rs) xs) (sym h))))

-- weights below 8 * 2 ^ n have at most n levels below the top
plan-short : (n : ℕ) (radices tares : List ℤ) (items : List (Literal × ℕ)) (bound : ℕ)
    → AllBelow (8 * 2 ^ n) items
    → IsPlan radices tares items bound → length radices ≤ n
plan-short n [] tares items bound h p = omega arith
plan-short n (r ∷ radices) [] items bound h p = absurd p
plan-short zero (r ∷ radices) (t ∷ tares) items bound h p =
    absurd (true≢false (sym p.0 ∙ none-great items h))
plan-short (suc n) (r ∷ radices) (t ∷ tares) items bound h p =
    let low : 2 ≤ number_of r = subst (λ b. 2 ≤ b) (sym p.1) (best_radix_low items) in
    let l : length radices ≤ n =
    plan-short n radices tares (divided (number_of r) items) ((bound + number_of t) / number_of r)
    (all-next (number_of r) n items low h) p.3 in
    omega arith

-- more levels than the plan has add nothing
levels-enough : (n : ℕ) (radices tares : List ℤ) (items : List (Literal × ℕ))
    (bound carries : ℕ)
    → IsPlan radices tares items bound → length radices ≤ n
    → levels_measure n bound items carries ≡ levels_measure (length radices) bound items carries
levels-enough n [] [] items bound carries p l = levels-top n bound carries items p
levels-enough n [] (t ∷ tares) items bound carries p l = absurd p
levels-enough n (r ∷ radices) [] items bound carries p l = absurd p
levels-enough zero (r ∷ radices) (t ∷ tares) items bound carries p l = absurd (omega arith)
levels-enough (suc n) (r ∷ radices) (t ∷ tares) items bound carries p l =
    let b : ℕ = number_of r in
    let u : ℕ = number_of t in
    let m : ℕ = (rest_sum b items + carries + u) / b in
    levels-next n bound carries b u items p.0 p.1 p.2
    ∙ ap (λ x. network_measure (rest_sum b items + carries) + x)
    (levels-enough n radices tares (divided b items) ((bound + u) / b) m p.3 (omega arith))
    ∙ sym (levels-next (length radices) bound carries b u items p.0 p.1 p.2)

-- ---- the plan of given items

pub given-plan : (given : List (Literal × ℤ)) (items : List (Literal × ℕ)) (bound : ℕ)
    (radices tares rs ts : List ℤ) (top : ℤ) → bound < 2 ^ 63
    → items ≡ cut_weights bound given → rs ≡ radices → ts ≡ tares
    → Follows given (number_of (to_z w64 bound)) radices tares 1 (number_of (to_z w64 bound)) top
    → IsPlan rs ts items bound
given-plan given items bound radices tares rs ts top small cut e g f =
    let k : ℕ = number_of (to_z w64 bound) in
    let p : IsPlan radices tares (cut_weights k given) k =
    subst (λ xs. IsPlan radices tares xs k) (at-first k given)
    (follows-plan given k radices tares 1 k top f) in
    let q : IsPlan radices tares (cut_weights bound given) bound =
    subst (λ n. IsPlan radices tares (cut_weights n given) n) (number-back bound small) p in
    subst (λ xs. IsPlan rs ts xs bound) (sym cut)
    (subst₂ (λ xs ys. IsPlan xs ys (cut_weights bound given) bound) (sym e) (sym g) q)

pub given-measure : (given : List (Literal × ℤ)) (items : List (Literal × ℕ)) (bound n : ℕ)
    (rs ts : List ℤ) → 0 < bound → bound < 2 ^ 63
    → items ≡ cut_weights bound given → n ≡ 0 → IsPlan rs ts items bound
    → levels_measure 64 bound items 0 ≡ levels_measure (length rs) bound items n
given-measure given items bound n rs ts o small cut e p =
    let h : AreCut bound items = subst (AreCut bound) (sym cut) (weights-cut bound given o) in
    levels-enough 64 rs ts items bound 0 p
    (plan-short 64 rs ts items bound (all-below bound items small h) p)
    ∙ ap (levels_measure (length rs) bound items) (sym e)
