use Rattle.std.proofs.Common.{rules, refl, sym, subst, arith}
use Rattle.std.specs.Prelude.{IsNone}
use Rattle.std.proofs.lemmas.Grind.{common_steps}
use Rattle.asp_base.specs.Faults.{Refuses}
use Rattle.symbol_map.specs.Read.{empty_map}
use Rattle.symbol_map.proofs.LinesSoFar.{LinesSoFar-next, LinesSoFar-fails}
use Rattle.symbol_map.proofs.reading.entries.Goals as goal

pub returns-in_err-entry-clause-err : goal.returns-in_err-entry-clause-err
returns-in_err-entry-clause-err c =
    let e = LinesSoFar-fails c.lines.invariant c.in_err-entry.field-0.0 (c.in_err-entry.ensures.err (empty_map c.args.form c.args.vars) refl) in
    grind (arith, common_steps)

pub lines-preserved : goal.lines-preserved
lines-preserved c =
    LinesSoFar-next c.lines.invariant c.next_entry.new.scan _ c.in-Some.entry _ _ c.in-Some.is c.in_ok-entry.ensures.some c.in_ok-entry.ensures.fits c.in_ok-entry.ensures.next
    c.next_entry.ensures.last c.next_entry.ensures.no_feed c.of-stage.ensures c.in_ok-push.ensures

pub returns-in_err-ended_text-clause-err : goal.returns-in_err-ended_text-clause-err
returns-in_err-ended_text-clause-err c =
    let none : IsNone c.in_ok-entry.field-0 = search rules in
    let empty = empty_map c.args.form c.args.vars in
    let whole = c.in_ok-entry.ensures.none none empty refl in
    let e = LinesSoFar-fails c.lines.invariant c.in_err-ended_text.field-0.0 (subst (λ read. Refuses read c.in_err-ended_text.field-0.0) (sym whole) (c.in_err-ended_text.ensures.err empty)) in
    grind (arith, common_steps)
