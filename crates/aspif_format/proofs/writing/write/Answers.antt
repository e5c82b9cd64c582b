use Rattle.std.proofs.Common.{rules, ◌<◌, ◌^◌, length}
use Rattle.aspif_format.proofs.NamesFit.{appended-read}
use Rattle.aspif_format.proofs.writing.write.Goals as goal

pub returns-else-is_err-clause-read_back : goal.returns-else-is_err-clause-read_back
returns-else-is_err-clause-read_back c =
    let text = c.push_text-written in
    let short : length text.new.out.items < 2 ^ 63 = search rules in
    appended-read text.result c.args.program.now c.args.out.now.items text.new.out.items short c.known.ensures.facts text.ensures.ok
