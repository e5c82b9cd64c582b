-- What a depth-first search knows of a graph, and what each of its rounds sees.
use Rattle.std.specs.Prelude.{◌≡◌, ℕ, ◌+◌, ◌-◌, ◌*◌, ◌<◌, ◌≤◌, ℤ, Bool, true, false, List, map, drop, length, slice_index_or}
use Rattle.std.specs.List.{count_by, sum_by}
use Rattle.asp_base.specs.Walks.{IsWalk}
use Rattle.graph_cycles.specs.private.Arcs.{arc_at, Starts}
use Rattle.graph_cycles.specs.Cycle.{leads}
use Rattle.graph_cycles.specs.private.Loop.{IsLoop}
use Rattle.graph_cycles.specs.declared.descent.Descent.{Descent}
use Rattle.graph_cycles.specs.declared.descent.Mark.{Mark}
use Rattle.graph_cycles.specs.declared.descent.Mark.TheVariants.{Unseen, OnPath, Done}
use Rattle.graph_cycles.specs.declared.descent.Step.{Step}
use Rattle.graph_cycles.specs.declared.descent.Look.{Look}
use Rattle.graph_cycles.specs.declared.descent.Look.TheVariants as looks

-- the mark of the node whose edges begin at this place
abbrev pub mark_at : List Mark → ℕ → Mark
mark_at marks start = slice_index_or marks start Done

abbrev pub is_unseen : Mark → Bool
is_unseen Unseen = true
is_unseen (OnPath place) = false
is_unseen Done = false

-- the step at a place of the path; past its end some step
abbrev pub step_at : List Step → ℕ → Step
step_at path k = slice_index_or path k (record { start = 0; at = 0 })

-- the node of a step of the path
abbrev pub node_of : List (ℤ × ℤ) → Step → ℤ
node_of arcs step = (arc_at arcs step.start).0

-- a node without outgoing edges, or one that is done
abbrev pub Settled : List (ℤ × ℤ) → List Mark → ℤ → Type 0
Settled arcs marks node = (start : ℕ) → Starts arcs node start → mark_at marks start ≡ Done

-- a step at its place on the path: it is marked so, and the edges before the one that is looked at
-- lead to settled nodes
pub record IsOpen (arcs : List (ℤ × ℤ)) (marks : List Mark) (place : ℕ) (step : Step) : Type 0 where
  pub starts : Starts arcs (node_of arcs step) step.start
  pub marked : mark_at marks step.start ≡ OnPath place
  pub begun : step.start ≤ step.at
  pub within : step.at ≤ length arcs
  pub looked : (j : ℕ) → step.start ≤ j → j < step.at → Settled arcs marks (arc_at arcs j).1

-- between the rounds of a search: the path is a walk, and no walk comes back to a settled node
pub record Searching (arcs : List (ℤ × ℤ)) (marks : List Mark) (path : List Step) : Type 0 where
  pub sized : length marks ≡ length arcs
  pub opened : (k : ℕ) → k < length path → IsOpen arcs marks k (step_at path k)
  pub placed : (start place : ℕ) → mark_at marks start ≡ OnPath place
      → (place < length path) × ((step_at path place).start ≡ start)
  pub joined : (k : ℕ) → k + 1 < length path
      → leads arcs (node_of arcs (step_at path k)) (node_of arcs (step_at path (k + 1))) ≡ true
  pub closed : (node next : ℤ)
      → Settled arcs marks node → leads arcs node next ≡ true → Settled arcs marks next
  pub calm : (node : ℤ) → Settled arcs marks node
      → (by : List ℤ) → IsWalk (leads arcs) node by node → ⊥

-- what falls in each round
abbrev pub weight : List (ℤ × ℤ) → List Mark → List Step → ℕ
weight arcs marks path =
    count_by is_unseen marks * (length arcs + 2) + sum_by (λ step. length arcs + 1 - step.at) path

-- what was seen is still seen
abbrev pub StaysSeen : List Mark → List Mark → Type 0
StaysSeen old new =
    (start : ℕ) → is_unseen (mark_at old start) ≡ false → is_unseen (mark_at new start) ≡ false

-- the same of a search as the code has it

abbrev pub Descends : List (ℤ × ℤ) → Descent → Type 0
Descends arcs descent = Searching arcs descent.marks.items descent.path.items

abbrev pub weight_of : List (ℤ × ℤ) → Descent → ℕ
weight_of arcs descent = weight arcs descent.marks.items descent.path.items

-- the path from this place on is a closed walk
pub record IsFound (arcs : List (ℤ × ℤ)) (path : List Step) (place : ℕ) : Type 0 where
  pub within : place ≤ length path
  pub starts : (k : ℕ) → k < length path → (step_at path k).start < length arcs
  pub loop : IsLoop (leads arcs) (drop place (map (node_of arcs) path))

-- the edge that a step looks at begins at its node
pub record IsEdge (arcs : List (ℤ × ℤ)) (step : Step) : Type 0 where
  pub within : step.at < length arcs
  pub here : (arc_at arcs step.at).0 ≡ node_of arcs step

-- what is seen at a step: no edge is left, or an edge, to a settled node, an unseen one, or one on
-- the path
abbrev pub Looked : List (ℤ × ℤ) → List Mark → Step → Look → Type 0
Looked arcs marks step looks.Ended =
    (j : ℕ) → j < length arcs → (arc_at arcs j).0 ≡ node_of arcs step → j < step.at
Looked arcs marks step looks.Past =
    IsEdge arcs step × Settled arcs marks (arc_at arcs step.at).1
Looked arcs marks step (looks.New start) =
    IsEdge arcs step
    × Starts arcs (arc_at arcs step.at).1 start × (mark_at marks start ≡ Unseen)
Looked arcs marks step (looks.Back place) =
    IsEdge arcs step
    × ((start : ℕ)
    × Starts arcs (arc_at arcs step.at).1 start × (mark_at marks start ≡ OnPath place))
