-- The first fault of a text, with its line, and what a refusal says of it.
use Rattle.std.specs.Prelude.{◌≡◌, ⊤, ℕ, Result, Ok, Err}
use Rattle.asp_base.specs.declared.faults.Refusal.{Refusal}
use Rattle.asp_base.specs.declared.faults.Refusal.TheVariants as refusals
use Rattle.asp_base.specs.declared.faults.LineFault.{LineFault}
use Rattle.asp_base.specs.declared.faults.LineFault.TheVariants as faults

-- a fault with its line, from 1
pub record Fault (Kind : Type 0) : Type 0 where
  pub line : ℕ
  pub kind : Kind

abbrev pub fault : {Kind A : Type 0} → ℕ → Kind → Result A (Fault Kind)
fault line kind = Err (record { line = line; kind = kind })

-- what was read in the line of this number
abbrev pub at_line : {Kind A : Type 0} → ℕ → Result A Kind → Result A (Fault Kind)
at_line line (Ok x) = Ok x
at_line line (Err kind) = fault line kind

-- a first fault ends the reading
infixl 10 ◌>>=◌
abbrev pub ◌>>=◌ : {E A B : Type 0} → Result A E → (A → Result B E) → Result B E
(Ok x) >>= f = f x
(Err e) >>= f = Err e

-- a refusal names the first fault of the text, or memory ran out
abbrev pub Refuses : {Kind A : Type 0} → Result A (Fault Kind) → Refusal Kind → Type 0
Refuses read (refusals.At line kind) = read ≡ fault line kind
Refuses read refusals.Memory = ⊤

-- a fault of a line of this number, or want of memory, as a refusal
abbrev pub refusal_at : {Kind : Type 0} → ℕ → LineFault Kind → Refusal Kind
refusal_at line (faults.Kind kind) = refusals.At line kind
refusal_at line faults.Memory = refusals.Memory
