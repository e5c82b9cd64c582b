use Rattle.std.proofs.Common.{rules, ◌≤◌, ◌<◌, ◌+◌, ◌^◌, length, get_or, arith}
use Rattle.ground_program.specs.declared.fresh.Gap.{Gap}
use Rattle.ground_program.proofs.GapLaws.{lies-within, lies-next, not-last, inside-next, gaps-jump}
use Rattle.ground_program.proofs.fresh.following.Goals as goal

abbrev no_gap : Gap
no_gap = record { from = 0; to = 0 }

pub offset_bounds-gaps-at : goal.offset_bounds-gaps-at
offset_bounds-gaps-at c = let within : c.args.at.gap < length c.args.gaps.now = lies-within c.args.at.number c.args.at.gap c.args.gaps.now c.requires.gaps.here in search rules

pub bounds-gaps-at : goal.bounds-gaps-at
bounds-gaps-at c = lies-within c.args.at.number c.args.at.gap c.args.gaps.now c.requires.gaps.here

pub returns-then-number-gaps-clause-gaps : goal.returns-then-number-gaps-clause-gaps
returns-then-number-gaps-clause-gaps c = record {
  rise = c.requires.gaps.rise;
  last = c.requires.gaps.last;
  here = lies-next c.args.at.number c.args.at.gap no_gap c.args.gaps.now c.requires.gaps.here c.if-number-gaps.true;
}

pub returns-then-number-gaps-clause-below : goal.returns-then-number-gaps-clause-below
returns-then-number-gaps-clause-below c = inside-next 1 c.args.at.number c.args.at.gap c.args.gaps.now c.requires.gaps.rise c.requires.gaps.here

pub overflow_add-gap : goal.overflow_add-gap
overflow_add-gap c = let within : c.args.at.gap < length c.args.gaps.now = lies-within c.args.at.number c.args.at.gap c.args.gaps.now c.requires.gaps.here in search rules

pub offset_bounds-gaps-gap : goal.offset_bounds-gaps-gap
offset_bounds-gaps-gap c =
    let end : (get_or c.args.gaps.now c.args.at.gap no_gap).to ≤ c.args.at.number + 1 = c.if-number-gaps.false in
    let small : c.args.at.number ≤ 2 ^ 30 = c.requires.small in
    let within : c.args.at.gap + 1 < length c.args.gaps.now = not-last c.args.at.number c.args.at.gap no_gap c.args.gaps.now c.requires.gaps.last c.requires.gaps.here (omega arith) in
    search rules

pub bounds-gaps-gap : goal.bounds-gaps-gap
bounds-gaps-gap c =
    let end : (get_or c.args.gaps.now c.args.at.gap no_gap).to ≤ c.args.at.number + 1 = c.if-number-gaps.false in
    let small : c.args.at.number ≤ 2 ^ 30 = c.requires.small in
    not-last c.args.at.number c.args.at.gap no_gap c.args.gaps.now c.requires.gaps.last c.requires.gaps.here (omega arith)

pub returns-clause-gaps : goal.returns-clause-gaps
returns-clause-gaps c =
    let end : (get_or c.args.gaps.now c.args.at.gap no_gap).to ≤ c.args.at.number + 1 = c.if-number-gaps.false in
    let small : c.args.at.number ≤ 2 ^ 30 = c.requires.small in
    (gaps-jump c.args.gaps.now c.args.at no_gap c.requires.gaps end (not-last c.args.at.number c.args.at.gap no_gap c.args.gaps.now c.requires.gaps.last c.requires.gaps.here (omega arith))).0

pub returns-clause-below : goal.returns-clause-below
returns-clause-below c =
    let end : (get_or c.args.gaps.now c.args.at.gap no_gap).to ≤ c.args.at.number + 1 = c.if-number-gaps.false in
    let small : c.args.at.number ≤ 2 ^ 30 = c.requires.small in
    (gaps-jump c.args.gaps.now c.args.at no_gap c.requires.gaps end (not-last c.args.at.number c.args.at.gap no_gap c.args.gaps.now c.requires.gaps.last c.requires.gaps.here (omega arith))).1
