-- There is room for the header and the lines of clauses and edges.
use Rattle.std.proofs.Common.{◌≤◌, ◌++◌, length, length-append, arith}
use Rattle.asp_scan.specs.Words.{line_of}
use Rattle.dimacs_format.specs.Written.{ecnf_header_words, clause_lines, edge_lines}
use Rattle.dimacs_format.proofs.Lengths.{ecnf_header_length}
use Rattle.dimacs_format.proofs.ecnf_writer.most_bytes.Goals as goal

pub returns : goal.returns
returns c =
    let F = c.args.formula.now in
    let short : length (line_of (ecnf_header_words F)) ≤ 61 = ecnf_header_length F (omega (arith, c.known.ensures.vars)) c.hard_bytes.ensures.count c.edge_bytes.ensures.count in
    omega (
      arith,
      short,
      length-append (line_of (ecnf_header_words F)) (clause_lines F.hard ++ edge_lines F.edges),
      length-append (clause_lines F.hard) (edge_lines F.edges),
      c.hard_bytes.ensures.room,
      c.edge_bytes.ensures.room,
      c.saturating_add.ensures,
      c.saturating_add-2.ensures,
    )
