use Rattle.std.proofs.Common.{◌≡◌, None}
use Rattle.asp_base.specs.Mem.{mem_state}
use Rattle.asp_base.proofs.Causes.{own_cause}
use Rattle.asp_base.proofs.mem.fail.FailDeskDesk.begin_read.Goals as goal

pub returns-clause-fails : goal.returns-clause-fails
returns-clause-fails c = own_cause (λ s. s.held c.args.name.now ≡ None) _ (mem_state c.fails.new.self.desk) (mem_state c.args.self.now.desk) c.fails.ensures.state c.fails.ensures.fails c.if-fails.false c.begin_read.ensures.only
