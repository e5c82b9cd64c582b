-- A text that fits memory has fewer than 2^63 clauses and edges, and is read back.
use Rattle.std.proofs.Common.{◌^◌, ◌<◌, length, rules}
use Rattle.dimacs_format.proofs.Outcomes.{both_ok}
use Rattle.dimacs_format.proofs.ReadBack.{ecnf-back}
use Rattle.dimacs_format.proofs.ecnf_writer.write_ecnf.Goals as goal

pub returns-clause-read_back : goal.returns-clause-read_back
returns-clause-read_back c =
    let small : length c.append_text.new.out.items < 2 ^ 63 = search rules in
    both_ok c.append_text.result (ecnf-back c.args.out.now.items c.append_text.new.out.items c.args.formula.now c.known.ensures c.requires.soft c.requires.top small) c.append_text.ensures.ok c.append_text.ensures.nodes
