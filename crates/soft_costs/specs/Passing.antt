-- Where the scale of levels passes 63 bits, and what it depends on.
use Rattle.std.specs.Prelude.{◌≡◌, ◌<◌, ◌≤◌, ◌^◌, ℤ, List, ◌∷◌, ◌++◌, map}
use Rattle.asp_base.specs.Literal.{Literal}
use Rattle.symbol_map.specs.Scale.{scale_of}
use Rattle.ground_program.specs.declared.program.Level.{Level}

-- the scale passes at a level of this priority, and has 63 bits after those below it
abbrev pub PassesAt : List Level → ℤ → Type 0
PassesAt levels priority = (higher lower : List Level) × (level : Level)
    × (levels ≡ higher ++ (level ∷ lower)) × (scale_of lower < 2 ^ 63)
    × (2 ^ 63 ≤ scale_of (level ∷ lower)) × (level.priority ≡ priority)

-- a level over other literals
abbrev pub renamed : (Literal → Literal) → Level → Level
renamed f level =
    record { priority = level.priority; items = map (λ item. (f item.0, item.1)) level.items }
