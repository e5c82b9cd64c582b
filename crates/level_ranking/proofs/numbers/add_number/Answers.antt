-- There is room for the digits, and they are over the variables that are there then.
use Rattle.std.proofs.Common.{◌≡◌, ◌∙◌, ap, ◌+◌, ◌≤◌, ◌^◌, ◌==◌, length, arith, cond}
use Rattle.ground_program.specs.Digits.{digits}
use Rattle.level_ranking.specs.Components.{atoms_of_part}
use Rattle.components.specs.Divided.{part_of}
use Rattle.level_ranking.specs.private.Sources.{width_among, is_ranked}
use Rattle.level_ranking.proofs.CountLaws.{filter-le}
use Rattle.digit_gates.proofs.Variables.{variables-over}
use Rattle.level_ranking.proofs.numbers.add_number.Goals as goal

pub overflow_cast-width : goal.overflow_cast-width
overflow_cast-width c =
    let e : length c.members.result.now ≡ length (atoms_of_part (part_of c.args.parts.now) c.in-Some.part c.args.parts.now.atoms) = ap length c.members.ensures in
    let k : length (atoms_of_part (part_of c.args.parts.now) c.in-Some.part c.args.parts.now.atoms) ≤ length c.args.parts.now.atoms = filter-le (λ a. part_of c.args.parts.now a == c.in-Some.part) c.args.parts.now.atoms in
    let f : length c.args.parts.now.atoms ≤ 2 ^ 30 = c.requires.numbered.few in
    let m : c.digits-width.result ≤ length c.members.result.now = c.digits-width.ensures.most in
    omega arith

pub digits-requires : goal.digits-requires
digits-requires c =
    let w : c.digits-width.result ≡ width_among c.args.parts.now c.args.parts.now.atoms c.args.atom =
    c.digits-width.ensures.is ∙ (ap (λ xs. digits (length xs)) c.members.ensures ∙ ap (λ part. digits (length (atoms_of_part (part_of c.args.parts.now) part c.args.parts.now.atoms))) c.in-Some.ensures.0) in
    let t : cond (is_ranked c.args.parts.now c.args.atom) (width_among c.args.parts.now c.args.parts.now.atoms c.args.atom) 0 ≡ width_among c.args.parts.now c.args.parts.now.atoms c.args.atom =
    ap (λ b. cond b (width_among c.args.parts.now c.args.parts.now.atoms c.args.atom) 0) c.in-Some.ensures.1 in
    omega (arith, c.requires.room)

pub add_digit_clauses-requires-clause-over : goal.add_digit_clauses-requires-clause-over
add_digit_clauses-requires-clause-over c = rw (c.in_ok-number.ensures.digits, c.in_ok-number.ensures.store)
    (variables-over c.digits-width.result c.args.store.now.vars (c.args.store.now.vars + c.digits-width.result) (omega arith))
