-- A text that is refused.
use Rattle.std.specs.Prelude.{◌≡◌, ℕ, List, []}
use Rattle.asp_tools.specs.declared.answer.Answer.{Answer}
use Rattle.asp_tools.specs.declared.answer.Answer.TheVariants.{Refused}
use Rattle.asp_tools.specs.declared.outcome.Kind.{Kind}

-- nothing is said with a refusal
abbrev pub IsRefused : ℕ → ℕ → Kind → Answer → List ℕ → Type 0
IsRefused file line kind answer said =
    (answer ≡ Refused (record { file = file; line = line; kind = kind })) × (said ≡ [])
