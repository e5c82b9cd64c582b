-- What a solver's answer says, or its first fault. (The output of SAT and MaxSAT competitions:
-- status lines `s ..`, literals on lines `v ..`; and that of solvers that write `SAT` and the
-- literals on a line of their own.)
use Rattle.std.specs.Prelude.{◌≡◌, ℕ, nat_lt, ℤ, pos, nat_abs, Bool, true, false, cond, ◌&&◌, ◌||◌, List, [], ◌∷◌, ◌++◌, length, Option, Some, None, Result, Ok, Err, codes}
use Rattle.std.specs.List.{list_any}
use Rattle.std.specs.Ordering.{int_eq}
use Rattle.std.specs.Str.{bytes_eq}
use Rattle.asp_base.specs.Faults.{Fault, fault, at_line, ◌>>=◌}
use Rattle.asp_base.specs.Literal.{Literal, Pos, literal_of, negation, same_literal}
use Rattle.asp_scan.specs.Lines.{Line, lines_of, end_line}
use Rattle.asp_scan.specs.Tokens.{tokens, integer_of, number_of, begins_with}
use Rattle.clause_store.specs.Assigned.{true_in}
use Rattle.back_map.specs.declared.answer.Answer.{Answer}
use Rattle.back_map.specs.declared.answer.Answer.TheVariants as answers
use Rattle.back_map.specs.declared.answer.AnswerKind.{AnswerKind}
use Rattle.back_map.specs.declared.answer.AnswerKind.TheVariants as kinds
use Rattle.back_map.specs.declared.answer.Status.{Status}
use Rattle.back_map.specs.declared.answer.Status.TheVariants.{Satisfied, Unsatisfiable, Unknown}

-- what was heard so far: the status, whether it was the line SAT, the literals that were named,
-- whether a 0 ended them
pub record Heard : Type 0 where
  pub status : Option Status
  pub bare : Bool
  pub lits : List Literal
  pub ended : Bool

abbrev pub silence : Heard
silence = record { status = None; bare = false; lits = []; ended = false }

-- ---- lines

abbrev pub is : List ℕ → List ℕ → Bool
is text token = bytes_eq token text

-- the status that the tokens of a line say, and whether it is a line without s
abbrev pub status_of : List (List ℕ) → Option (Status × Bool)
status_of (a ∷ []) =
    cond (is (codes "SAT") a) (Some (Satisfied, true))
    (cond (is (codes "UNSAT") a) (Some (Unsatisfiable, false))
    (cond (is (codes "INDET") a) (Some (Unknown, false)) None))
status_of (a ∷ b ∷ []) =
    cond (is (codes "s") a && is (codes "SATISFIABLE") b) (Some (Satisfied, false))
    (cond (is (codes "s") a && is (codes "UNSATISFIABLE") b) (Some (Unsatisfiable, false))
    (cond (is (codes "s") a && is (codes "UNKNOWN") b) (Some (Unknown, false)) None))
status_of (a ∷ b ∷ c ∷ []) =
    cond (is (codes "s") a && (is (codes "OPTIMUM") b && is (codes "FOUND") c))
    (Some (Satisfied, false)) None
status_of _ = None

-- the first token is this word
abbrev pub first_is : List ℕ → List (List ℕ) → Bool
first_is text [] = false
first_is text (token ∷ tokens) = is text token

-- the first token is a numeral
abbrev pub first_is_number : List (List ℕ) → Bool
first_is_number [] = false
first_is_number (token ∷ tokens) = elim (integer_of token) [ None ↦ false | Some n ↦ true ]

-- comments, and the costs that a solver tells on its way
abbrev pub is_skipped : Line → Bool
is_skipped line = begins_with 99 line.bytes || first_is (codes "o") (tokens line.bytes)

-- ---- literals

-- the literal was named
abbrev pub has : Literal → List Literal → Bool
has l lits = list_any (λ k. same_literal l k) lits

-- a literal over the variables 1 to vars, whose negation was not named
abbrev pub with_literal : ℕ → ℤ → Heard → Result Heard AnswerKind
with_literal vars n heard =
    cond (nat_lt vars (nat_abs n)) (Err kinds.LiteralOutOfRange)
    (cond (has (negation (literal_of n)) heard.lits) (Err kinds.BothSigns)
    (Ok (record heard { lits = heard.lits ++ (literal_of n ∷ []) })))

-- a number among the literals: behind the 0 there is none
abbrev pub with_number : ℕ → Option ℤ → Heard → Result Heard AnswerKind
with_number vars None heard = Err kinds.BadLine
with_number vars (Some n) heard =
    cond heard.ended (Err kinds.BadLine)
    (cond (int_eq n (pos 0)) (Ok (record heard { ended = true })) (with_literal vars n heard))

abbrev pub with_numbers : ℕ → List (List ℕ) → Heard → Result Heard AnswerKind
with_numbers vars [] heard = Ok heard
with_numbers vars (token ∷ tokens) heard =
    with_number vars (number_of token) heard >>= with_numbers vars tokens

-- ---- the text

-- a second status line is bad
abbrev pub with_status : Status × Bool → Heard → Result Heard AnswerKind
with_status found heard = elim (heard.status) [
  | None ↦ Ok (record heard { status = Some found.0; bare = found.1 })
  | Some earlier ↦ Err kinds.BadLine
]

-- what a line that is no comment adds, by its tokens
abbrev pub with_tokens : ℕ → List (List ℕ) → Heard → Result Heard AnswerKind
with_tokens vars [] heard = Ok heard
with_tokens vars (token ∷ tokens) heard = elim (status_of (token ∷ tokens)) [
  | Some found ↦ with_status found heard
  | None ↦ cond (is (codes "v") token) (with_numbers vars tokens heard)
      (cond (heard.bare && first_is_number (token ∷ tokens))
      (with_numbers vars (token ∷ tokens) heard) (Err kinds.BadLine))
]

abbrev pub with_line : ℕ → Line → Heard → Result Heard AnswerKind
with_line vars line heard =
    cond (is_skipped line) (Ok heard) (with_tokens vars (tokens line.bytes) heard)

abbrev pub heard_from : ℕ → List Line → Heard → Result Heard (Fault AnswerKind)
heard_from vars [] heard = Ok heard
heard_from vars (line ∷ lines) heard =
    at_line line.number (with_line vars line heard) >>= heard_from vars lines

-- the status and the literals, which are true; variables that are not named are false
pub record Answered : Type 0 where
  pub status : Status
  pub lits : List Literal

abbrev pub with_end : ℕ → Heard → Result Answered (Fault AnswerKind)
with_end last heard = elim (heard.status) [
  | None ↦ fault last kinds.NoStatus
  | Some status ↦ Ok (record { status = status; lits = heard.lits })
]

abbrev pub answer_of : List ℕ → ℕ → Result Answered (Fault AnswerKind)
answer_of text vars = heard_from vars (lines_of text) silence >>= with_end (end_line text)

-- An answer is what the text said: the literals that it named are true, and variables that it did
-- not name are false.
abbrev pub Answers : Answered → ℕ → Answer → Type 0
Answers x vars (answers.Values values) =
    (x.status ≡ Satisfied)
    × ((length values ≡ vars) × ((v : ℕ) → true_in values v ≡ has (Pos v) x.lits))
Answers x vars answers.NoModel = x.status ≡ Unsatisfiable
Answers x vars answers.Unknown = x.status ≡ Unknown
