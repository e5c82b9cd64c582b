-- A text that fits memory has fewer than 2^63 clauses, and is read back.
use Rattle.std.proofs.Common.{◌^◌, ◌<◌, length, rules}
use Rattle.std.proofs.lemmas.Result.{on_ok_weaker}
use Rattle.dimacs_format.proofs.ReadBack.{wcnf-back}
use Rattle.dimacs_format.proofs.wcnf_writer.write_wcnf.Goals as goal

pub returns-clause-read_back : goal.returns-clause-read_back
returns-clause-read_back c =
    let small : length c.append_text.new.out.items < 2 ^ 63 = search rules in
    on_ok_weaker c.append_text.result (wcnf-back c.args.out.now.items c.append_text.new.out.items c.args.formula.now c.known.ensures c.requires.edges c.requires.heavy c.requires.top small) c.append_text.ensures.ok
