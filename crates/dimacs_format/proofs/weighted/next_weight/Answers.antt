-- A token is a weight, a number below 1, or no number.
use Rattle.std.proofs.Common.{◌≡◌, ap, nat_abs, to_z, of_z, w64, arith}
use Rattle.std.proofs.lemmas.Int.{to_z-of_z}
use Rattle.asp_scan.specs.Scanning.{Scanning}
use Rattle.dimacs_format.specs.private.Walks.{items_left}
use Rattle.dimacs_format.proofs.ClauseSteps.{number_found, no_number_found}
use Rattle.dimacs_format.proofs.WeightSteps.{not_below, below, no_weight, weight_read, weight_below, bad_weight}
use Rattle.dimacs_format.proofs.Refused.{refuses-at}
use Rattle.dimacs_format.proofs.weighted.next_weight.Goals as goal

pub returns-then-not-find_token-clause-err : goal.returns-then-not-find_token-clause-err
returns-then-not-find_token-clause-err c =
    refuses-at _ c.fault_at.result c.args.scan.now.last _ _ c.fault_at.ensures c.if-not-find_token.ensures.end (no_weight c.args.scan.now.last (items_left c.args.scan.now) c.if-not-find_token.ensures.none)

pub returns-in-Err-clause-err : goal.returns-in-Err-clause-err
returns-in-Err-clause-err c =
    refuses-at _ c.fault_at-in-Err.result c.find_token.new.scan.line.number _ _ c.fault_at-in-Err.ensures (ap (λ (s : Scanning). s.line.number) c.in-Err.ensures.stays)
    (bad_weight c.args.scan.now.last c.args.scan.now c.find_token.new.scan
    (no_number_found c.args.scan.now c.find_token.new.scan c.in-Err.field-0 c.if-not-find_token.ensures.same c.if-not-find_token.ensures.found c.in-Err.ensures.err))

pub returns-in-Ok-clause-ok : goal.returns-in-Ok-clause-ok
returns-in-Ok-clause-ok c =
    let passed : to_z w64 (of_z w64 c.in-Ok.n) ≡ c.in-Ok.n = grind (arith, to_z-of_z) in
    weight_read c.args.scan.now.last c.args.scan.now c.find_token.new.scan c.next_number.new.self c.in-Ok.n
    (number_found c.args.scan.now c.find_token.new.scan c.next_number.new.self c.if-not-find_token.ensures.same c.in-Ok.ensures.rest c.in-Ok.n c.in-Ok.ensures.ok)
    (not_below c.in-Ok.n (grind (arith, to_z-of_z, c.if-n-ge1.true))) _ (ap nat_abs passed)

pub returns-in-Ok-2-clause-err : goal.returns-in-Ok-2-clause-err
returns-in-Ok-2-clause-err c =
    refuses-at _ c.fault_at-in-Ok-2.result c.find_token.new.scan.line.number _ _ c.fault_at-in-Ok-2.ensures (ap (λ (s : Scanning). s.line.number) c.in-Ok.ensures.rest)
    (weight_below c.args.scan.now.last c.args.scan.now c.find_token.new.scan c.next_number.new.self c.in-Ok.n
    (number_found c.args.scan.now c.find_token.new.scan c.next_number.new.self c.if-not-find_token.ensures.same c.in-Ok.ensures.rest c.in-Ok.n c.in-Ok.ensures.ok)
    (below c.in-Ok.n (grind (arith, to_z-of_z, c.if-n-ge1.false))))
