-- There is room for the header and the lines of hard and soft clauses.
use Rattle.std.proofs.Common.{rules, subst, ◌≡◌, ◌+◌, ◌*◌, ◌≤◌, ◌<◌, ◌^◌, ◌++◌, length, length-append, arith}
use Rattle.asp_scan.specs.Words.{line_of}
use Rattle.dimacs_format.specs.Written.{wcnf_header_words, clause_lines, hard_lines, soft_lines}
use Rattle.dimacs_format.proofs.Lengths.{wcnf_header_length, hard_lines_length}
use Rattle.dimacs_format.proofs.wcnf_writer.most_bytes.Goals as goal

pub returns : goal.returns
returns c =
    let F = c.args.formula.now in
    let top : F.top < 2 ^ 64 = search rules in
    let count : c.len.result ≡ length F.hard = subst (λ G. c.len.result ≡ length G.hard) c.formula.view_is c.len.ensures in
    let short : length (line_of (wcnf_header_words F)) ≤ 61 = wcnf_header_length F (omega (arith, c.known.ensures.vars)) c.hard_bytes.ensures.count c.soft_bytes.ensures.count top in
    let hard : length (hard_lines F.top F.hard) ≤ length (clause_lines F.hard) + length F.hard * 21 = hard_lines_length F.top F.hard top in
    omega (
      arith,
      short,
      hard,
      length-append (line_of (wcnf_header_words F)) (hard_lines F.top F.hard ++ soft_lines F.soft),
      length-append (hard_lines F.top F.hard) (soft_lines F.soft),
      c.hard_bytes.ensures.room,
      c.soft_bytes.ensures.room,
      c.saturating_mul-weights.ensures,
      c.saturating_add.ensures,
      c.saturating_add-2.ensures,
      c.saturating_add-3.ensures,
      count,
    )
