use Rattle.asp_scan.proofs.WordText.{spaced-tokens, spaced-line, spaced-not_blank, token_at-word, token_at-spaced}
use Rattle.asp_scan.proofs.laws.words_are_read_back.Goals as goal

pub returns-clause-tokens : goal.returns-clause-tokens
returns-clause-tokens c = spaced-tokens

pub returns-clause-line : goal.returns-clause-line
returns-clause-line c = spaced-line

pub returns-clause-not_blank : goal.returns-clause-not_blank
returns-clause-not_blank c = λ word words h. spaced-not_blank word words h.0

pub returns-clause-next : goal.returns-clause-next
returns-clause-next c = token_at-word

pub returns-clause-next_spaced : goal.returns-clause-next_spaced
returns-clause-next_spaced c = token_at-spaced
