use Rattle.std.proofs.Common.{◌∙◌, sym, arith}
use Rattle.aspif_format.proofs.Naturals.{is_natural-front}
use Rattle.aspif_format.proofs.header.is_natural.Goals as goal

pub returns-in-45 : goal.returns-in-45
returns-in-45 c = c.are_digits_to.ensures ∙ sym (is_natural-front c.args.token.now c.in-45.len_at_least (omega arith))
