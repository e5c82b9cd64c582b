-- A further clause begins at the next token.
use Rattle.std.proofs.Common.{◌≡◌, ◌∙◌, sym, ap}
use Rattle.asp_scan.proofs.Appends.{on_ok-weaker, if_err-weaker}
use Rattle.dimacs_format.specs.Read.{clause, next_clause}
use Rattle.dimacs_format.specs.private.Walks.{items_left}
use Rattle.dimacs_format.proofs.ClauseSteps.{next_step}
use Rattle.dimacs_format.proofs.Left.{next-none}
use Rattle.dimacs_format.proofs.Refused.{refuses-at, refuses-same}
use Rattle.dimacs_format.proofs.clauses.next_clause.Goals as goal

pub returns-then-find_token-clause-ok : goal.returns-then-find_token-clause-ok
returns-then-find_token-clause-ok c =
    let same : next_clause c.args.scan.now.last c.args.vars (items_left c.args.scan.now) ≡ clause c.find_token.new.scan.last c.args.vars (items_left c.find_token.new.scan) =
    next_step c.args.scan.now.last c.args.vars c.args.scan.now c.find_token.new.scan c.if-find_token.ensures.same c.if-find_token.ensures.found
    ∙ ap (λ l. clause l c.args.vars (items_left c.find_token.new.scan)) (sym c.if-find_token.ensures.last) in
    on_ok-weaker c.literals.result (λ h. same ∙ h) c.literals.ensures.ok

pub returns-then-find_token-clause-err : goal.returns-then-find_token-clause-err
returns-then-find_token-clause-err c =
    let same : next_clause c.args.scan.now.last c.args.vars (items_left c.args.scan.now) ≡ clause c.find_token.new.scan.last c.args.vars (items_left c.find_token.new.scan) =
    next_step c.args.scan.now.last c.args.vars c.args.scan.now c.find_token.new.scan c.if-find_token.ensures.same c.if-find_token.ensures.found
    ∙ ap (λ l. clause l c.args.vars (items_left c.find_token.new.scan)) (sym c.if-find_token.ensures.last) in
    if_err-weaker _ _ c.literals.result (λ refusal h. refuses-same _ _ refusal same h) c.literals.ensures.err

pub returns-else-find_token-clause-err : goal.returns-else-find_token-clause-err
returns-else-find_token-clause-err c =
    refuses-at _ c.fault_at.result c.args.scan.now.last _ _ c.fault_at.ensures c.if-find_token.ensures.end (next-none c.args.scan.now.last c.args.vars (items_left c.args.scan.now) c.if-find_token.ensures.none)
