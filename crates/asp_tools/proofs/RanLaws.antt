-- A run tells as much where less of its answers is told.
use Rattle.std.proofs.Common.{◌≡◌, sym, subst, inl, inr, ⊎_elim, ◌⊎◌, ℕ, suc, List, [], ◌∷◌, length}
use Rattle.asp_base.specs.Desk.{DeskState}
use Rattle.job_shell.specs.Ran.{Promise, CallFor, Replied, Done, SayingFails, WritingFails, Ran, EndsAs, NoFault, Completes}
use Rattle.job_shell.specs.declared.ended.Ended.{Ended}
use Rattle.job_shell.specs.declared.ended.Ended.TheVariants.{Answered, TooLong, ReadFault, WriteFault, Memory}
use Rattle.job_shell.proofs.HeldLaws.{held-then}
use Rattle.job_shell.proofs.PlaceLaws.{at-then}
use Rattle.job_shell.specs.Ran as shell
use Rattle.acyc_translation.specs.declared.encoding.Encoding.{Encoding}
use Rattle.asp_tools.specs.AcycAnswers.{AcycAnswers}
use Rattle.asp_tools.specs.AcycInOrder.{AcycInOrder}
use Rattle.asp_tools.specs.Calls.{promise_of}
use Rattle.asp_tools.specs.CallsInOrder.{promise_in_order}
use Rattle.asp_tools.specs.SatAnswers.{SatAnswers}
use Rattle.asp_tools.specs.SatInOrder.{SatInOrder}
use Rattle.asp_tools.specs.Outcome.{outcome_of}
use Rattle.asp_tools.specs.Ran.{EndsSo, TooLongExactly}
use Rattle.asp_tools.specs.private.TooLong.{is_long, is_too_long}
use Rattle.asp_tools.proofs.OutcomeLaws.{exactly-outcome}
use Rattle.asp_tools.specs.declared.outcome.Outcome.{Outcome}
use Rattle.asp_tools.specs.declared.answer.Answer.{Answer}
use Rattle.asp_tools.specs.declared.command.AcycFormat.{AcycFormat}
use Rattle.asp_tools.specs.declared.command.Command.{Command}
use Rattle.asp_tools.specs.declared.command.Command.TheVariants.{Lp2normal, Lp2acyc, Lp2sat, Back, Check}
use Rattle.asp_tools.specs.declared.command.FormulaFormat.{FormulaFormat}

sat-calls : (format : FormulaFormat) (texts : List (List ℕ)) (answer : Answer) (made : List (List ℕ)) (said : List ℕ) → SatInOrder format texts answer made said → SatAnswers format texts answer made said
sat-calls format [] answer made said h = h
sat-calls format (text ∷ []) answer made said h = h.0
sat-calls format (text ∷ next ∷ texts) answer made said h = h

acyc-calls : (encoding : Encoding) (format : AcycFormat) (texts : List (List ℕ)) (answer : Answer) (made : List (List ℕ)) (said : List ℕ) → AcycInOrder encoding format texts answer made said → AcycAnswers encoding format texts answer made said
acyc-calls encoding format [] answer made said h = h
acyc-calls encoding format (text ∷ []) answer made said h = h.0
acyc-calls encoding format (text ∷ next ∷ texts) answer made said h = h

calls-weaker : (command : Command) (texts : List (List ℕ)) (answer : Answer) (made : List (List ℕ)) (said : List ℕ) → CallFor (promise_in_order command) texts answer made said → CallFor (promise_of command) texts answer made said
calls-weaker (Lp2normal format) texts answer made said h = record { within = h.within; answers = h.answers; silent = h.silent }
calls-weaker (Lp2acyc encoding format) texts answer made said h = record { within = h.within; answers = acyc-calls encoding format texts answer made said h.answers; silent = h.silent }
calls-weaker (Lp2sat format) texts answer made said h = record { within = h.within; answers = sat-calls format texts answer made said h.answers; silent = h.silent }
calls-weaker Back texts answer made said h = record { within = h.within; answers = h.answers; silent = h.silent }
calls-weaker Check texts answer made said h = record { within = h.within; answers = h.answers; silent = h.silent }

replied-weaker : (command : Command) (reads : List (List ℕ)) (old : DeskState) (answer : Answer) (Fact : List (List ℕ) → List ℕ → Type 0) → Replied (promise_in_order command) reads old answer Fact → Replied (promise_of command) reads old answer Fact
replied-weaker command reads old answer Fact h = held-then old reads
    (λ texts. (made : List (List ℕ)) × (said : List ℕ) × CallFor (promise_in_order command) texts answer made said × Fact made said)
    (λ texts. (made : List (List ℕ)) × (said : List ℕ) × CallFor (promise_of command) texts answer made said × Fact made said) h
    (λ texts k. (k.0, k.1, calls-weaker command texts answer k.0 k.1 k.2, k.3))

pub ran-weaker : (command : Command) (reads writes : List (List ℕ)) (old new : DeskState) (ended : Ended Answer) → Ran (promise_in_order command) reads writes old new ended → Ran (promise_of command) reads writes old new ended
ran-weaker command reads writes old new (Answered answer) h = record {
  read = h.read;
  told = replied-weaker command reads old answer _ h.told;
  others = h.others;
  silent = h.silent;
  writing = h.writing;
  write_faults = h.write_faults;
}
ran-weaker command reads writes old new (WriteFault file) h = ⊎_elim
    (λ k. inl (
      k.0,
      record {
        rose = k.1.rose;
        place = k.1.place;
        answer = k.1.answer;
        says = k.1.says;
        read = k.1.read;
        told = replied-weaker command reads old k.1.answer _ k.1.told;
        others = k.1.others;
        writing = k.1.writing;
      },
    ))
    (λ k. inr (at-then (suc (length reads)) writes file (WritingFails (promise_in_order command) reads old new) (WritingFails (promise_of command) reads old new) k (λ before name f. record {
      rose = f.rose;
      place = f.place;
      answer = f.answer;
      makes = f.makes;
      read = f.read;
      told = replied-weaker command reads old f.answer _ f.told;
      others = f.others;
      said = f.said;
    }))) h
ran-weaker command reads writes old new (TooLong file) h = h
ran-weaker command reads writes old new (ReadFault file) h = h
ran-weaker command reads writes old new Memory h = h

ends-weaker : (command : Command) (texts : List (List ℕ)) (ended : Ended Answer) → EndsAs (promise_in_order command) texts ended → EndsAs (promise_of command) texts ended
ends-weaker command texts (Answered answer) h = (h.0, h.1, calls-weaker command texts answer h.0 h.1 h.2)
ends-weaker command texts (TooLong file) h = h
ends-weaker command texts (ReadFault file) h = h
ends-weaker command texts (WriteFault file) h = h
ends-weaker command texts Memory h = h

pub completes-weaker : (command : Command) (reads : List (List ℕ)) (old new : DeskState) (ended : Ended Answer) → Completes (promise_in_order command) reads old new ended → Completes (promise_of command) reads old new ended
completes-weaker command reads old new ended h = held-then old reads
    (λ texts. NoFault old new → EndsAs (promise_in_order command) texts ended ⊎ (ended ≡ Memory))
    (λ texts. NoFault old new → EndsAs (promise_of command) texts ended ⊎ (ended ≡ Memory)) h
    (λ texts k n. ⊎_elim (λ e. inl (ends-weaker command texts ended e)) (λ e. inr e) (k n))

-- ---- from the shell

pub run-ran : (command given : Command) (reads names writes outputs : List (List ℕ)) (old new : DeskState) → given ≡ command → names ≡ reads → outputs ≡ writes → (ended : Ended Answer) (outcome : Outcome) → outcome ≡ outcome_of ended
    → Ran (promise_in_order given) names outputs old new ended → EndsSo outcome (Ran (promise_of command) reads writes old new)
run-ran command given reads names writes outputs old new c r w ended outcome is h = (
  ended,
  is,
  ran-weaker command reads writes old new ended
      (subst (λ ws. Ran (promise_in_order command) reads ws old new ended) w (subst (λ ns. Ran (promise_in_order command) ns outputs old new ended) r (subst (λ k. Ran (promise_in_order k) names outputs old new ended) c h))),
)

pub run-completes : (command given : Command) (reads names : List (List ℕ)) (old new : DeskState) → given ≡ command → names ≡ reads → (ended : Ended Answer) (outcome : Outcome) → outcome ≡ outcome_of ended
    → Completes (promise_in_order given) names old new ended → EndsSo outcome (Completes (promise_of command) reads old new)
run-completes command given reads names old new c r ended outcome is h = (
  ended,
  is,
  completes-weaker command reads old new ended (subst (λ ns. Completes (promise_in_order command) ns old new ended) r (subst (λ k. Completes (promise_in_order k) names old new ended) c h)),
)

pub run-exactly : (reads names : List (List ℕ)) → names ≡ reads → (ended : Ended Answer) (outcome : Outcome) → outcome ≡ outcome_of ended → is_too_long ended ≡ is_long outcome → (new : DeskState)
    → shell.TooLongExactly 1 names new ended → TooLongExactly 1 reads new outcome
run-exactly reads names r ended outcome is long new h = subst (λ o. TooLongExactly 1 reads new o) (sym is)
    (exactly-outcome ended (subst (λ o. is_too_long ended ≡ is_long o) is long) new 1 reads (subst (λ ns. shell.TooLongExactly 1 ns new ended) r h))
