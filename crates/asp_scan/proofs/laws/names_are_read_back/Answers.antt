use Rattle.asp_scan.proofs.WordText.{bytes_from-name}
use Rattle.asp_scan.proofs.laws.names_are_read_back.Goals as goal

pub returns : goal.returns
returns c = bytes_from-name
