-- Gaps between numbers: which numbers lie in them, and which do not.
use Rattle.std.specs.Prelude.{◌≡◌, ℕ, zero, suc, ◌<◌, ◌≤◌, ◌+◌, ◌-◌, ◌^◌, nat_lt, cond, min, List, [], ◌∷◌, ◌++◌, ⊤}
use Rattle.std.specs.List.{range_with_len}
use Rattle.ground_program.specs.declared.fresh.Gap.{Gap}
use Rattle.ground_program.specs.declared.fresh.Position.{Position}

-- the numbers from the first on that are below the second
abbrev pub up_to : ℕ → ℕ → List ℕ
up_to from end = range_with_len from (end - from)

-- the numbers from one on that lie in no gap and below the last one
abbrev pub outside : ℕ → List Gap → List ℕ
outside low [] = []
outside low (gap ∷ gaps) = up_to low gap.from ++ outside gap.to gaps

-- the numbers below another that lie in gaps
abbrev pub inside_below : ℕ → List Gap → List ℕ
inside_below n [] = []
inside_below n (gap ∷ gaps) = up_to gap.from (min n gap.to) ++ inside_below n gaps

-- each gap has a number, and none begins before the end of the one before it
abbrev pub GapsFrom : ℕ → List Gap → Type 0
GapsFrom low [] = ⊤
GapsFrom low (gap ∷ gaps) = (low ≤ gap.from) × (gap.from < gap.to) × GapsFrom gap.to gaps

-- the last gap ends at the largest number of 32 bits
abbrev pub EndsLast : List Gap → Type 0
EndsLast [] = ⊥
EndsLast (gap ∷ []) = gap.to ≡ 2 ^ 32 - 1
EndsLast (gap ∷ next ∷ gaps) = EndsLast (next ∷ gaps)

-- the number lies in the gap with this index
abbrev pub LiesIn : ℕ → ℕ → List Gap → Type 0
LiesIn n i [] = ⊥
LiesIn n zero (gap ∷ gaps) = (gap.from ≤ n) × (n < gap.to)
LiesIn n (suc i) (gap ∷ gaps) = LiesIn n i gaps

-- gaps in their order, and a position in one of them
pub record AreGaps (gaps : List Gap) (at : Position) : Type 0 where
  pub rise : GapsFrom 1 gaps
  pub last : EndsLast gaps
  pub here : LiesIn at.number at.gap gaps

-- the gaps between the numbers of a rising list, from one on
abbrev pub gaps_of : ℕ → List ℕ → List Gap
gaps_of low [] = record { from = low; to = 2 ^ 32 - 1 } ∷ []
gaps_of low (a ∷ as_) =
    let rest : List Gap = gaps_of (a + 1) as_ in
    cond (nat_lt low a) (record { from = low; to = a } ∷ rest) rest
