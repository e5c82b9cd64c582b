-- What the measures take from what is kept of each component.
use Rattle.std.specs.Prelude.{ℕ, ◌+◌, ◌*◌, ◌==◌, cond, length, slice_index}
use Rattle.graph_parts.specs.Divided.{is_cyclic_at}
use Rattle.components.specs.Divided.{Divided, members_of}

-- how many atoms a component has
abbrev pub size_of : Divided → ℕ → ℕ
size_of d i = length (members_of i d.atoms d.numbers)

abbrev pub pairs_kept : Divided → ℕ → ℕ
pairs_kept d i =
    cond (is_cyclic_at d.cyclic i)
    (size_of d i * (size_of d i + slice_index d.weights i))
    0

abbrev pub room_kept : Divided → ℕ → ℕ
room_kept d i = size_of d i + slice_index d.terms i

abbrev pub tangle_kept : Divided → ℕ → ℕ
tangle_kept d i =
    cond (is_cyclic_at d.cyclic i)
    (cond (slice_index d.odd i == 0)
    (size_of d i * (size_of d i + slice_index d.weights i))
    (room_kept d i * room_kept d i))
    0
