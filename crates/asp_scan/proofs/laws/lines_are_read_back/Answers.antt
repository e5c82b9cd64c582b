use Rattle.asp_scan.proofs.LineText.{pieces_of-line, without_return-line, numbered-written}
use Rattle.asp_scan.proofs.laws.lines_are_read_back.Goals as goal

pub returns-clause-pieces : goal.returns-clause-pieces
returns-clause-pieces c = pieces_of-line

pub returns-clause-bytes : goal.returns-clause-bytes
returns-clause-bytes c = without_return-line

pub returns-clause-numbered : goal.returns-clause-numbered
returns-clause-numbered c = numbered-written
