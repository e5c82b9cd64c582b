-- Levels as soft clauses, by computation.
use Rattle.std.proofs.Common.{◌≡◌, refl, [], ◌∷◌, List, Some, None}
use Rattle.std.specs.Prelude.{pos, negsuc}
use Rattle.asp_base.specs.Literal.{Pos, Neg}
use Rattle.ground_program.specs.declared.program.Level.{Level}
use Rattle.soft_costs.specs.Softening.{factors_of, offsets_of, soft_of, too_large_at}
use Rattle.symbol_map.specs.Scale.{scale_of}

-- weight 4 on atom 3 at priority 2, and at priority 1 weight 3 on atom 1 and -2 on atom 2
abbrev two : List Level
two = record { priority = pos 2; items = (Pos 3, pos 4) ∷ [] } ∷ record { priority = pos 1; items = (Pos 1, pos 3) ∷ (Pos 2, negsuc 1) ∷ [] } ∷ []

clauses : soft_of two
    ≡ record { weight = 3; lits = Neg 1 ∷ [] } ∷ record { weight = 2; lits = Pos 2 ∷ [] } ∷ record { weight = 24; lits = Neg 3 ∷ [] } ∷ []
clauses = refl

factors : factors_of two ≡ 6 ∷ 1 ∷ []
factors = refl

offsets : offsets_of two ≡ pos 0 ∷ negsuc 1 ∷ []
offsets = refl

top : scale_of two ≡ 30
top = refl

-- a scale of 2 ^ 63 - 1 has 63 bits, and one of 2 ^ 63 has more
whole : too_large_at (record { priority = pos 7; items = (Pos 1, pos 9223372036854775806) ∷ [] } ∷ []) ≡ None
whole = refl

passes : too_large_at (record { priority = negsuc 6; items = (Pos 1, pos 9223372036854775807) ∷ [] } ∷ []) ≡ Some (negsuc 6)
passes = refl
