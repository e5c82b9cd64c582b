-- One line more, or none.
use Rattle.std.proofs.Common.{◌∙◌, sym, ap, ◌++◌, take}
use Rattle.std.proofs.lemmas.List.{flat_map_more}
use Rattle.asp_scan.specs.Words.{line_of}
use Rattle.dimacs_format.specs.Written.{weighted_words, hard_lines}
use Rattle.asp_scan.proofs.Appends.{front_kept, take_read, on_err}
use Rattle.dimacs_format.proofs.wcnf_writer.push_hard.Goals as goal

pub returns-in_err-push_weighted-clause-err : goal.returns-in_err-push_weighted-clause-err
returns-in_err-push_weighted-clause-err c =
    on_err _ _ (front_kept c.args.out.now.items c.loop-i.out.items _ c.push_weighted.new.out.items c.loop-i.invariant c.in_err-push_weighted.ensures.err)

pub loop-i-preserved : goal.loop-i-preserved
loop-i-preserved c =
    let old = c.args.out.now.items in
    let done = take c.loop-i.i c.args.clauses.now in
    let clause = c.get.result.now in
    c.in_ok-push_weighted.ensures.ok ∙ ap (λ bytes. bytes ++ line_of (weighted_words c.args.top clause)) c.loop-i.invariant ∙ flat_map_more (λ lits. line_of (weighted_words c.args.top lits)) old done clause
    ∙ ap (λ clauses. old ++ hard_lines c.args.top clauses) (sym (take_read c.args.clauses.now c.loop-i.i clause c.get.ensures.clause))
