-- The answer at the end of a text.
use Rattle.std.proofs.Common.{◌≡◌, refl, sym, ◌∙◌, ap, subst, ℕ, List, Result, Ok, Err, IfOk, IfErr}
use Rattle.asp_base.specs.Faults.{Fault, Refuses, ◌>>=◌}
use Rattle.asp_base.specs.declared.faults.Refusal.{Refusal}
use Rattle.asp_scan.specs.Lines.{lines_of, end_line}
use Rattle.back_map.specs.Read.{Heard, Answered, Answers, heard_from, silence, with_end, answer_of}
use Rattle.back_map.specs.declared.answer.Answer.{Answer}
use Rattle.back_map.specs.declared.answer.AnswerKind.{AnswerKind}
use Rattle.back_map.specs.private.Kept.{Kept}
use Rattle.back_map.specs.private.Reading.{Hears, HearsOk, AnswersOk}

module _ (text : List ℕ) (n : ℕ) where
  pub faulty : (fault : Fault AnswerKind) → heard_from n (lines_of text) silence ≡ Err fault → answer_of text n ≡ Err fault
  faulty fault e = ap (λ r. r >>= with_end (end_line text)) e

  module _ (last : ℕ) (kept : Kept) (end : last ≡ end_line text) (hears : HearsOk n (heard_from n (lines_of text) silence) kept) where
    record AtEnd : Type 0 where
      heard : Heard
      at : Hears n heard kept
      is : answer_of text n ≡ with_end last heard

    at_end : AtEnd
    at_end = by (heard_from n (lines_of text) silence) refl hears
      where
        by : (read : Result Heard (Fault AnswerKind)) → heard_from n (lines_of text) silence ≡ read → HearsOk n read kept → AtEnd
        by (Err fault) e k = absurd k
        by (Ok heard) e k = record { heard = heard; at = k; is = ap (λ r. r >>= with_end (end_line text)) e ∙ ap (λ m. with_end m heard) (sym end) }

    pub answered : {R : Type 0} (result : Result Answer R) → IfOk result (λ a. (n : ℕ) (heard : Heard) → Hears n heard kept → AnswersOk (with_end last heard) n a)
        → IfOk result (λ a. (x : Answered) × ((answer_of text n ≡ Ok x) × Answers x n a))
    answered (Err e) h = tt
    answered (Ok a) h = by (with_end last at_end.heard) at_end.is (h n at_end.heard at_end.at)
      where
        by : (read : Result Answered (Fault AnswerKind)) → answer_of text n ≡ read → AnswersOk read n a → (x : Answered) × ((answer_of text n ≡ Ok x) × Answers x n a)
        by (Err fault) e k = absurd k
        by (Ok x) e k = (x, (e, k))

    pub refused : {R : Type 0} (result : Result R (Refusal AnswerKind)) → IfErr result (λ refusal. (n : ℕ) (heard : Heard) → Hears n heard kept → Refuses (with_end last heard) refusal)
        → IfErr result (λ refusal. Refuses (answer_of text n) refusal)
    refused (Ok a) h = tt
    refused (Err refusal) h = subst (λ read. Refuses read refusal) (sym at_end.is) (h n at_end.heard at_end.at)
