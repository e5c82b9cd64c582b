-- There is room for the header and the lines of clauses.
use Rattle.std.proofs.Common.{◌≤◌, length, length-append, arith}
use Rattle.asp_scan.specs.Words.{line_of}
use Rattle.dimacs_format.specs.Written.{header_words, clause_lines}
use Rattle.dimacs_format.proofs.Lengths.{header_length}
use Rattle.dimacs_format.proofs.write.most_bytes.Goals as goal

pub returns : goal.returns
returns c =
    let F = c.args.formula.now in
    let short : length (line_of (header_words F)) ≤ 40 = header_length F (omega (arith, c.known.ensures.vars)) c.hard_bytes.ensures.count in
    omega (arith, short, length-append (line_of (header_words F)) (clause_lines F.hard), c.hard_bytes.ensures.room, c.saturating_add.ensures)
