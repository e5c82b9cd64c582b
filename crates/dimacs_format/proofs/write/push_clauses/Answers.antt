-- One line more, or none.
use Rattle.std.proofs.Common.{◌∙◌, sym, ap, ◌++◌, take}
use Rattle.std.proofs.lemmas.List.{flat_map_more}
use Rattle.asp_scan.specs.Words.{line_of}
use Rattle.dimacs_format.specs.Written.{clause_words, clause_lines}
use Rattle.asp_scan.proofs.Appends.{front_kept, take_read, on_err}
use Rattle.dimacs_format.proofs.write.push_clauses.Goals as goal

pub returns-in_err-push_clause-clause-err : goal.returns-in_err-push_clause-clause-err
returns-in_err-push_clause-clause-err c =
    on_err _ _ (front_kept c.args.out.now.items c.loop-i.out.items _ c.push_clause.new.out.items c.loop-i.invariant c.in_err-push_clause.ensures.err)

pub loop-i-preserved : goal.loop-i-preserved
loop-i-preserved c =
    let old = c.args.out.now.items in
    let done = take c.loop-i.i c.args.clauses.now in
    let clause = c.get.result.now in
    c.in_ok-push_clause.ensures.ok ∙ ap (λ bytes. bytes ++ line_of (clause_words clause)) c.loop-i.invariant ∙ flat_map_more (λ lits. line_of (clause_words lits)) old done clause
    ∙ ap (λ clauses. old ++ clause_lines clauses) (sym (take_read c.args.clauses.now c.loop-i.i clause c.get.ensures.clause))
