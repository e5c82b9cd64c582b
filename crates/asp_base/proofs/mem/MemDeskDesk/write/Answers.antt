use Rattle.std.proofs.Common.{rules, arith, ap, Some, take}
use Rattle.std.proofs.lemmas.Grind.{common_steps}
use Rattle.asp_base.proofs.NewestFirst.{newest, latest-written_other}
use Rattle.asp_base.proofs.mem.MemDeskDesk.write.Goals as goal

pub returns-clause-ok : goal.returns-clause-ok
returns-clause-ok c = record {
  begun = search (rules, newest);
  within = search rules;
  some = grind (arith, common_steps);
  empty = grind (arith, common_steps);
  made = grind (arith, common_steps, newest);
  others = λ other differ. ap Some (latest-written_other c.args.self.now.writes c.args.self.now.made.items _ other (take c.min-count.result c.args.bytes.now) (grind (arith, common_steps)) (search (rules, newest)) differ);
  rest = grind (arith, common_steps, newest);
}
