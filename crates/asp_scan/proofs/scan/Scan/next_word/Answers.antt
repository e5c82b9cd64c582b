use Rattle.std.proofs.Common.{sym, ◌∙◌}
use Rattle.asp_scan.proofs.LineTokens.{behind-shorter}
use Rattle.asp_scan.proofs.scan.Scan.next_word.Goals as goal

pub returns-clause-shorter : goal.returns-clause-shorter
returns-clause-shorter c =
    rw (← c.self.view_is, c.split_token.ensures.rest) (behind-shorter c.self.inside.left.now _ c.skip_blanks-token.ensures (sym c.is_empty.ensures ∙ c.if-is_empty.false))
