-- What a desk in memory tells whose calls of some numbers fail.
use Rattle.std.specs.Prelude.{◌≡◌, ℕ, ◌+◌, ◌-◌, ◌^◌, ◌<◌, min, List, length, Contains}
use Rattle.asp_base.specs.Desk.{DeskState}
use Rattle.asp_base.specs.Mem.{mem_state}
use Rattle.asp_base.specs.declared.mem.fail.FailDesk.{FailDesk}

-- what the desk within tells
abbrev pub fail_state : FailDesk → DeskState
fail_state d = mem_state d.desk

-- the numbers of the calls that fail
abbrev pub failing_calls : FailDesk → List ℕ
failing_calls d = d.failing.items

-- the number of calls that were counted
abbrev pub counted_calls : FailDesk → ℕ
counted_calls d = d.calls

-- the number of the next counted call: at its last value it stays
abbrev pub next_call : FailDesk → ℕ
next_call d = min (counted_calls d + 1) (2 ^ 64 - 1)

-- the next counted call has to fail
abbrev pub HasToFail : FailDesk → Type 0
HasToFail d = Contains (failing_calls d) (next_call d)

-- the next call has to fail where it is on these bytes
abbrev pub HasToFailOn : FailDesk → List ℕ → Type 0
HasToFailOn d bytes = (0 < length bytes) × HasToFail d

-- a call was counted
pub record CountsCall (old new : FailDesk) : Type 0 where
  pub failing : failing_calls new ≡ failing_calls old
  pub calls : counted_calls new ≡ next_call old

-- a call on these bytes was counted, unless they are none
pub record CountsCallOn (old new : FailDesk) (bytes : List ℕ) : Type 0 where
  pub failing : failing_calls new ≡ failing_calls old
  pub empty : length bytes ≡ 0 → counted_calls new ≡ counted_calls old
  pub calls : 0 < length bytes → counted_calls new ≡ next_call old
