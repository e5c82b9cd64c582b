-- The words of written heads and bodies are words.
use Rattle.std.proofs.Common.{refl, ◌++◌}
use Rattle.asp_base.proofs.Each.{each-append}
use Rattle.asp_scan.specs.Words.{IsWord}
use Rattle.ground_program.specs.Facts.{IsAtom, FitsBodyWeight, HeadFits, BodyFits, RuleFits}
use Rattle.ground_program.specs.declared.program.Head.{Head}
use Rattle.ground_program.specs.declared.program.Head.TheVariants.{Nothing, One, Choice}
use Rattle.ground_program.specs.declared.program.Body.{Body}
use Rattle.ground_program.specs.declared.program.Body.TheVariants.{All, Sum}
use Rattle.ground_program.specs.declared.program.Rule.{Rule}
use Rattle.statement_fields.proofs.FieldLines.{AreWords, atom-is_word, weight-is_word, body_weight-is_word, atoms-are_words, atom-most, literals-are_words, items-are_words}
use Rattle.aspif_format.specs.Written.{head_words, body_words}

head-are_words : (head : Head) → HeadFits IsAtom head → AreWords (head_words head)
head-are_words Nothing h = (refl, (refl, tt))
head-are_words (One a) h = (refl, (refl, (atom-is_word a h, tt)))
head-are_words (Choice as_) h = (refl, atoms-are_words as_ h.0 h.1)

body-are_words : (body : Body) → BodyFits IsAtom body → AreWords (body_words body)
body-are_words (All lits) h = (refl, literals-are_words IsAtom atom-most lits h)
body-are_words (Sum bound items) h = (refl, (weight-is_word bound h.0, items-are_words IsAtom atom-most FitsBodyWeight body_weight-is_word items h.1 h.2))

pub rule-are_words : (rule : Rule) → RuleFits IsAtom rule → AreWords (head_words rule.head ++ body_words rule.body)
rule-are_words rule h = each-append IsWord (head_words rule.head) (body_words rule.body) (head-are_words rule.head h.0) (body-are_words rule.body h.1)
