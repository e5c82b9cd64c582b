-- Why there is no program that compares stages.
use Rattle.std.specs.Prelude.{◌≡◌, ℕ, ◌<◌, ◌^◌, min, ⊤}
use Rattle.acyc_edges.specs.declared.refusal.UniqueRefusal.{UniqueRefusal}
use Rattle.acyc_edges.specs.declared.refusal.UniqueRefusal.TheVariants.{TooManyPairs, Memory}

-- there are more than 2^24 pairs, whose number is told up to 2^63, or memory ran out
abbrev pub UniqueRefused : ℕ → UniqueRefusal → Type 0
UniqueRefused pairs (TooManyPairs told) = (2 ^ 24 < pairs) × (told ≡ min pairs (2 ^ 63))
UniqueRefused pairs Memory = ⊤
