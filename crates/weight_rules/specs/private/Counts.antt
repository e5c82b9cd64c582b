-- At least k of n literals: by a grid where that is not larger than a network may be.
use Rattle.std.specs.Prelude.{ℕ, Bool, leb}
use Rattle.ground_program.specs.Room.{grid_measure, network_measure}

abbrev pub takes_grid : ℕ → ℕ → Bool
takes_grid k n = leb (grid_measure k n) (network_measure n)
