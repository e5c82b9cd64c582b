use Rattle.asp_scan.proofs.NumberText.{number_at-signed, number_at-spaced, fitting-is_word, natural-is_word}
use Rattle.asp_scan.proofs.laws.numbers_are_read_back.Goals as goal

pub returns-clause-number : goal.returns-clause-number
returns-clause-number c = number_at-signed

pub returns-clause-number_spaced : goal.returns-clause-number_spaced
returns-clause-number_spaced c = number_at-spaced

pub returns-clause-word : goal.returns-clause-word
returns-clause-word c = fitting-is_word

pub returns-clause-word_of_natural : goal.returns-clause-word_of_natural
returns-clause-word_of_natural c = natural-is_word
