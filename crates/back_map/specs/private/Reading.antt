-- What a reader of an answer keeps beside what was heard: whatever was heard, the reader goes with
-- the definition's step.
use Rattle.std.specs.Prelude.{◌≡◌, ℕ, ℤ, Bool, true, false, not, cond, codes, List, get_or, Option, Some, None, Result, Ok, Err}
use Rattle.asp_base.specs.Faults.{Fault, ◌>>=◌}
use Rattle.asp_base.specs.Literal.{Literal, Pos, Neg, atom_of}
use Rattle.back_map.specs.Read.{Heard, Answered, Answers, has, first_is, with_number, with_numbers, with_tokens}
use Rattle.back_map.specs.declared.answer.Answer.{Answer}
use Rattle.back_map.specs.declared.answer.AnswerKind.{AnswerKind}
use Rattle.back_map.specs.declared.answer.AnswerKind.TheVariants as kinds
use Rattle.back_map.specs.private.Kept.{Kept}

-- a literal was named, by the entry of its variable: Some true where it was positive, Some false
-- where it was negative
abbrev pub agrees : Literal → Option Bool → Bool
agrees (Pos v) None = false
agrees (Pos v) (Some value) = value
agrees (Neg v) None = false
agrees (Neg v) (Some value) = not value

-- the entry has the other value
abbrev pub other : Option Bool → Bool → Bool
other None value = false
other (Some true) value = not value
other (Some false) value = value

-- the reader keeps what was heard of an answer over the variables 1 to n
pub record Hears (n : ℕ) (heard : Heard) (kept : Kept) : Type 0 where
  pub vars : kept.vars ≡ n
  pub status : kept.status ≡ heard.status
  pub bare : kept.bare ≡ heard.bare
  pub named : (l : Literal) → has l heard.lits ≡ agrees l (get_or kept.values (atom_of l) None)
  pub ended : kept.ended ≡ heard.ended

abbrev pub HearsOk : {E : Type 0} → ℕ → Result Heard E → Kept → Type 0
HearsOk n (Ok heard) kept = Hears n heard kept
HearsOk n (Err kind) kept = ⊥

-- a step of what was heard, by the number of variables
abbrev pub Step : Type 0 → Type 0
Step E = ℕ → Heard → Result Heard E

-- what was heard takes this step
abbrev pub Follows : {E : Type 0} → Step E → Kept → Kept → Type 0
Follows step old new = (n : ℕ) (heard : Heard) → Hears n heard old → HearsOk n (step n heard) new

-- the step has this fault
abbrev pub Faults : {E : Type 0} → Step E → Kept → E → Type 0
Faults step old kind = (n : ℕ) (heard : Heard) → Hears n heard old → step n heard ≡ Err kind

-- ---- steps of lines

-- a line that is no comment, by its tokens
abbrev pub with_words : List (List ℕ) → Step AnswerKind
with_words tokens n heard =
    cond (first_is (codes "o") tokens) (Ok heard) (with_tokens n tokens heard)

-- a line that begins with a number
abbrev pub with_bare : ℤ → List (List ℕ) → Step AnswerKind
with_bare first tokens n heard =
    cond heard.bare (with_number n (Some first) heard >>= with_numbers n tokens) (Err kinds.BadLine)

-- ---- the end

abbrev pub AnswersOk : Result Answered (Fault AnswerKind) → ℕ → Answer → Type 0
AnswersOk (Ok x) n answer = Answers x n answer
AnswersOk (Err fault) n answer = ⊥
