use Rattle.std.proofs.Common.{rules, ◌<◌, ◌^◌, length}
use Rattle.symbol_map.proofs.MapRoundTrip.{appended-read}
use Rattle.symbol_map.proofs.text.write.Goals as goal

pub returns-else-is_err-clause-read_back : goal.returns-else-is_err-clause-read_back
returns-else-is_err-clause-read_back c =
    let lines = c.push_lines-written in
    let short : length lines.new.out.items < 2 ^ 63 = search rules in
    appended-read lines.result c.args.map.now c.args.out.now.items lines.new.out.items short lines.ensures.is_map lines.ensures.ok
