use Rattle.std.proofs.Common.{◌≡◌, ◌∙◌, ◌==◌, ◌+◌, ◌<◌, ◌≤◌, ◌^◌, ◌*◌, min, true, false, sym, ap, subst, length, arith, rules}
use Rattle.std.specs.List.{list_all}
use Rattle.ground_program.specs.Radix.{cut_weights}
use Rattle.ground_program.specs.Room.{first_weight, are_equal, least_number, equal_measure, levels_measure}
use Rattle.ground_program.specs.private.Levels.{AllBelow}
use Rattle.ground_program.proofs.RadixLaws.{at-first}
use Rattle.ground_program.proofs.RoomLaws.{weights-cut, all-below, first-weight_cut, least_number-most, items-equal, items-levels}
use Rattle.ground_program.proofs.rooms.items_measure.Goals as goal

pub overflow_add-bound : goal.overflow_add-bound
overflow_add-bound c =
    let w : (0 < first_weight (cut_weights c.args.bound c.args.items.now))
    × (first_weight (cut_weights c.args.bound c.args.items.now) ≤ c.args.bound) =
    first-weight_cut c.args.bound (cut_weights c.args.bound c.args.items.now) c.requires.positive
    (weights-cut c.args.bound c.args.items.now c.requires.positive) in
    let l : c.first_weight-weight.result ≤ c.args.bound =
    subst (λ n. n ≤ c.args.bound) (sym c.first_weight-weight.ensures) w.1 in
    let fits : c.args.bound + c.first_weight-weight.result < 2 ^ 64 = omega (arith, c.requires.small) in
    search (rules, fits)

pub nonzero_div-bound : goal.nonzero_div-bound
nonzero_div-bound c =
    subst (λ n. 0 < n) (sym c.first_weight-weight.ensures)
    (first-weight_cut c.args.bound (cut_weights c.args.bound c.args.items.now) c.requires.positive
    (weights-cut c.args.bound c.args.items.now c.requires.positive)).0

pub equal_measure-requires-clause-most : goal.equal_measure-requires-clause-most
equal_measure-requires-clause-most c =
    let o : 0 < c.first_weight-weight.result =
    subst (λ n. 0 < n) (sym c.first_weight-weight.ensures)
    (first-weight_cut c.args.bound (cut_weights c.args.bound c.args.items.now) c.requires.positive
    (weights-cut c.args.bound c.args.items.now c.requires.positive)).0 in
    subst (λ n. least_number c.args.bound c.first_weight-weight.result ≤ n)
    (sym c.number_of_weights.ensures.is)
    (least_number-most c.args.bound c.first_weight-weight.result (cut_weights c.args.bound c.args.items.now) o
    (sym c.are_equal.ensures ∙ c.if-are_equal.true) c.requires.reached)

pub returns-then-are_equal : goal.returns-then-are_equal
returns-then-are_equal c =
    let test : are_equal (cut_weights c.args.bound c.args.items.now) ≡ true =
    ap (λ w. list_all (λ item. item.1 == w) (cut_weights c.args.bound c.args.items.now))
    (sym c.first_weight-weight.ensures)
    ∙ (sym c.are_equal.ensures ∙ c.if-are_equal.true) in
    c.equal_measure.ensures
    ∙ ap (λ n. min (equal_measure (least_number c.args.bound c.first_weight-weight.result) n) (2 ^ 63))
    c.number_of_weights.ensures.is
    ∙ ap (λ w. min (equal_measure (least_number c.args.bound w)
    (length (cut_weights c.args.bound c.args.items.now))) (2 ^ 63)) c.first_weight-weight.ensures
    ∙ ap (λ n. min n (2 ^ 63)) (sym (items-equal c.args.bound (cut_weights c.args.bound c.args.items.now) test))

pub returns : goal.returns
returns c =
    let test : are_equal (cut_weights c.args.bound c.args.items.now) ≡ false =
    ap (λ w. list_all (λ item. item.1 == w) (cut_weights c.args.bound c.args.items.now))
    (sym c.first_weight-weight.ensures)
    ∙ (sym c.are_equal.ensures ∙ c.if-are_equal.false) in
    c.levels_measure.ensures 64
    (subst (AllBelow (8 * 2 ^ 64)) (sym (at-first c.args.bound c.args.items.now))
    (all-below c.args.bound (cut_weights c.args.bound c.args.items.now) c.requires.small
    (weights-cut c.args.bound c.args.items.now c.requires.positive)))
    ∙ ap (λ xs. min (levels_measure 64 c.args.bound xs 0) (2 ^ 63)) (at-first c.args.bound c.args.items.now)
    ∙ ap (λ n. min n (2 ^ 63)) (sym (items-levels c.args.bound (cut_weights c.args.bound c.args.items.now) test))
