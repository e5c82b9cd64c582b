use Rattle.asp_tools.proofs.NormalLaws.{checks-cut, checks-onto}
use Rattle.asp_tools.proofs.laws.checks_agree_on_normal_programs.Goals as goal

pub returns-clause-cut : goal.returns-clause-cut
returns-clause-cut c = checks-cut

pub returns-clause-onto : goal.returns-clause-onto
returns-clause-onto c = checks-onto
