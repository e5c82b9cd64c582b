-- Behind the counts and the literals stand the weights.
use Rattle.std.proofs.Common.{◌≡◌, ◌∙◌, Ok, IfOk, IfErr, sym, ap, subst}
use Rattle.statement_fields.specs.Fields.{Faults}
use Rattle.smodels_format.specs.private.Steps.{weights_of}
use Rattle.smodels_format.proofs.Weighing.{items-by}
use Rattle.smodels_format.proofs.body.items.Goals as goal

pub returns-clause-ok : goal.returns-clause-ok
returns-clause-ok c =
    let e = items-by c.args.scan.now.left _ _ _ _ c.in_ok-n.ensures.ok c.in_ok-lits.ensures.ok c.in_ok-lits.ensures.size in
    subst (λ r. IfOk c.weighted.result (λ found. r ≡ Ok (found, c.weighted.new.scan.left)))
    (ap (λ ls. weights_of ls c.literals.new.scan.left) c.as_slice.ensures ∙ sym e) c.weighted.ensures.ok

pub returns-clause-err : goal.returns-clause-err
returns-clause-err c =
    let e = items-by c.args.scan.now.left _ _ _ _ c.in_ok-n.ensures.ok c.in_ok-lits.ensures.ok c.in_ok-lits.ensures.size in
    subst (λ r. IfErr c.weighted.result (λ fault. Faults r fault))
    (ap (λ ls. weights_of ls c.literals.new.scan.left) c.as_slice.ensures ∙ sym e) c.weighted.ensures.err
