-- One more radix, and where none follows, the plan.
use Rattle.std.proofs.Common.{◌≡◌, ◌∙◌, ◌≤◌, ◌<◌, ◌+◌, ◌*◌, ◌/◌, ◌^◌, ℕ, pos, nat_abs, to_z, of_z, w64, None, refl, sym, subst, subst₂, [], arith, rules}
use Rattle.std.proofs.lemmas.Int.{to_z-of_z, to_z_pos}
use Rattle.std.proofs.lemmas.List.{append-nil}
use Rattle.ground_program.specs.Radix.{number_of, next_radix}
use Rattle.ground_program.proofs.RadixLaws.{tare-below, bound-less}
use Rattle.weight_rules.specs.Plan.{Follows}
use Rattle.weight_rules.proofs.PlanLaws.{IsFound, found, number-small, number-back, radix-none, plan-more, base-grows}
use Rattle.weight_rules.proofs.planning.plan.Goals as goal
use Rattle.weight_rules.proofs.planning.plan.Goals.{In-Some}

is_found : (c : In-Some)
    → IsFound c.args.items.now (number_of (to_z w64 (of_z w64 c.args.bound))) c.levels.base
    c.in-Some.next (nat_abs (to_z w64 (of_z w64 c.in-Some.next)))
is_found c =
    found c.args.items.now c.args.bound c.in-Some.next c.levels.base c.ranges.bound
    c.levels.invariant.base_most (sym c.in-Some.is ∙ c.radix.ensures)

grows : (c : In-Some)
    → (c.levels.base < c.levels.base * nat_abs (to_z w64 (of_z w64 c.in-Some.next)))
    × (c.levels.base * nat_abs (to_z w64 (of_z w64 c.in-Some.next))
    ≤ number_of (to_z w64 (of_z w64 c.args.bound)))
grows c =
    base-grows (number_of (to_z w64 (of_z w64 c.args.bound))) c.levels.base
    (nat_abs (to_z w64 (of_z w64 c.in-Some.next))) c.levels.invariant.base_least (is_found c).low
    (is_found c).high (is_found c).most

pub tare_of-tare-requires : goal.tare_of-tare-requires
tare_of-tare-requires c =
    omega (arith, (is_found (goal.at.tare_of-tare-requires c).In-Some).low)

pub nonzero_div-top : goal.nonzero_div-top
nonzero_div-top c =
    omega (arith, (is_found (goal.at.nonzero_div-top c).In-Some).low)

pub overflow_mul-base : goal.overflow_mul-base
overflow_mul-base c =
    let k : ℕ = number_of (to_z w64 (of_z w64 c.args.bound)) in
    let r : ℕ = nat_abs (to_z w64 (of_z w64 c.in-Some.next)) in
    let small : k < 2 ^ 63 = number-small c.args.bound c.ranges.bound in
    let grows : (c.levels.base < c.levels.base * r) × (c.levels.base * r ≤ k) =
    grows (goal.at.overflow_mul-base c).In-Some in
    let fits : c.levels.base * r < 2 ^ 64 = omega arith in
    search (rules, fits)

pub levels-smaller : goal.levels-smaller
levels-smaller c =
    let k : ℕ = number_of (to_z w64 (of_z w64 c.args.bound)) in
    let r : ℕ = nat_abs (to_z w64 (of_z w64 c.in-Some.next)) in
    let grows : (c.levels.base < c.levels.base * r) × (c.levels.base * r ≤ k) =
    grows (goal.at.levels-smaller c).In-Some in
    omega arith

pub levels-preserved : goal.levels-preserved
levels-preserved c =
    let k : ℕ = number_of (to_z w64 (of_z w64 c.args.bound)) in
    let r : ℕ = nat_abs (to_z w64 (of_z w64 c.in-Some.next)) in
    let is : IsFound c.args.items.now k c.levels.base c.in-Some.next r = is_found (goal.at.levels-preserved c).In-Some in
    let grows : (c.levels.base < c.levels.base * r) × (c.levels.base * r ≤ k) =
    grows (goal.at.levels-preserved c).In-Some in
    let o : 0 < r = omega (arith, is.low) in
    let t : c.tare_of-tare.result < r =
    subst (λ t. t < r) (sym c.tare_of-tare.ensures) (tare-below c.levels.top r o) in
    let less : (c.levels.top + c.tare_of-tare.result) / r ≤ c.levels.top =
    bound-less c.levels.top c.tare_of-tare.result r o t in
    record {
      base_least = omega arith;
      base_most = grows.1;
      top_most = omega (arith, c.levels.invariant.top_most);
      rest =
          plan-more c.args.items.now k c.levels.base c.levels.top c.tare_of-tare.result r
          (to_z w64 (of_z w64 c.in-Some.next)) c.levels.radices c.levels.tares c.push.new.self
          c.push-in-Some.new.self
          is.next is.written c.tare_of-tare.ensures (omega (arith, is.high)) c.in_ok-push.ensures.ok
          c.in_ok-push-2.ensures.ok c.levels.invariant.rest;
    }

pub returns : goal.returns
returns c =
    let k : ℕ = number_of (to_z w64 (of_z w64 c.args.bound)) in
    let small : k < 2 ^ 63 = number-small c.args.bound c.ranges.bound in
    let none : next_radix c.args.items.now k c.levels.base ≡ None =
    radix-none c.args.items.now (to_z w64 (of_z w64 c.args.bound)) (to_z w64 c.levels.base) k
    c.levels.base refl (number-back c.levels.base (omega (arith, c.levels.invariant.base_most)))
    (sym c.in_default.is ∙ c.radix.ensures) in
    let top : to_z w64 c.levels.top ≡ pos c.levels.top =
    to_z_pos w64 c.levels.top (omega (arith, c.levels.invariant.top_most)) in
    let all : Follows c.args.items.now k c.levels.radices c.levels.tares 1 k
    (to_z w64 c.levels.top) =
    subst₂ (λ xs ys. Follows c.args.items.now k xs ys 1 k (to_z w64 c.levels.top))
    (append-nil c.levels.radices) (append-nil c.levels.tares)
    (c.levels.invariant.rest [] [] (to_z w64 c.levels.top) (none, top)) in
    subst
    (λ b. Follows c.args.items.now (number_of b) c.levels.radices c.levels.tares 1 (number_of b)
    (to_z w64 c.levels.top)) (to_z-of_z w64 c.args.bound c.ranges.bound) all
