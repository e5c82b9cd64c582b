-- The literals and the closing 0 are the line of the clause.
use Rattle.std.proofs.Common.{◌≡◌, ◌∙◌, sym, ap, ◌++◌, take, append_assoc, codes, arith}
use Rattle.std.specs.List.{flat_map}
use Rattle.std.proofs.lemmas.List.{take_all}
use Rattle.dimacs_format.proofs.ClauseLines.{literal_piece, clause_line_pieces}
use Rattle.dimacs_format.proofs.write.push_clause.Goals as goal

pub returns-clause-ok : goal.returns-clause-ok
returns-clause-ok c =
    let old = c.args.out.now.items in
    let lits = c.args.lits.now in
    let whole : take c.loop-lit.lit-index lits ≡ lits = take_all c.loop-lit.lit-index lits (omega arith) in
    c.in_ok-extend_from_slice.ensures.items ∙ ap (λ bytes. bytes ++ codes "0\n") c.loop-lit.invariant ∙ append_assoc old _ _ ∙ ap (λ ls. old ++ (flat_map literal_piece ls ++ codes "0\n")) whole ∙ ap (λ bytes. old ++ bytes) (sym (clause_line_pieces lits))
