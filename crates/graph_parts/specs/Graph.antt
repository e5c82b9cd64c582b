-- Directed graphs whose nodes are numbers: the targets of all steps stand in one list, those of a
-- node from its start on, up to the start of the next node.
use Rattle.std.specs.Prelude.{ℕ, ◌+◌, ◌<◌, ◌≤◌, Bool, ◌==◌, ◌&&◌, List, length, slice_index, slice_range}
use Rattle.std.specs.List.{list_any}
use Rattle.graph_parts.specs.Groups.{pair_at}

-- the starts are one more than the nodes
pub record IsGraph (starts targets : List ℕ) : Type 0 where
  pub some : 0 < length starts
  pub rises : (i j : ℕ) → i ≤ j → j < length starts → slice_index starts i ≤ slice_index starts j
  pub within : (i : ℕ) → i < length starts → slice_index starts i ≤ length targets
  pub nodes : (j : ℕ) → j < length targets → slice_index targets j + 1 < length starts

-- a step leads from u to v
abbrev pub leads : List ℕ → List ℕ → ℕ → ℕ → Bool
leads starts targets u v =
    list_any (λ target. target == v)
    (slice_range targets (slice_index starts u) (slice_index starts (u + 1)))

-- one of the edges leads from u to v
abbrev pub has_edge : List (ℕ × ℕ) → ℕ → ℕ → Bool
has_edge edges u v = list_any (λ edge. edge.0 == u && edge.1 == v) edges

-- edges between nodes below a count
abbrev pub AreEdges : ℕ → List (ℕ × ℕ) → Type 0
AreEdges nodes edges =
    (j : ℕ) → j < length edges → ((pair_at edges j).0 < nodes) × ((pair_at edges j).1 < nodes)
