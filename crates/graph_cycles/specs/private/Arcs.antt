-- Edges that are sorted by their first nodes, so that the edges from a node stand together.
use Rattle.std.specs.Prelude.{◌≡◌, ℕ, ◌<◌, ◌≤◌, ℤ, pos, ◌<ℤ◌, ◌≤ℤ◌, List, length, slice_index_or}

-- the edge at a place; past the end some edge
abbrev pub arc_at : List (ℤ × ℤ) → ℕ → ℤ × ℤ
arc_at arcs j = slice_index_or arcs j (pos 0, pos 0)

-- the first nodes do not fall
abbrev pub Ascends : List (ℤ × ℤ) → Type 0
Ascends arcs = (i j : ℕ) → i ≤ j → j < length arcs → (arc_at arcs i).0 ≤ℤ (arc_at arcs j).0

-- the edges from a node begin at this place
pub record Starts (arcs : List (ℤ × ℤ)) (node : ℤ) (start : ℕ) : Type 0 where
  pub within : start < length arcs
  pub here : (arc_at arcs start).0 ≡ node
  pub first : (j : ℕ) → j < start → (arc_at arcs j).0 <ℤ node
