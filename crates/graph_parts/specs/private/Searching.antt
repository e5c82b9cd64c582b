-- What a search for parts knows of a graph. The nodes that were found and belong to no closed part
-- stand in a chain, in the order in which they were found. It is cut at bounds, and what lies
-- between two bounds is known to belong to one part.
use Rattle.std.specs.Prelude.{◌≡◌, ◌≢◌, ℕ, ◌+◌, ◌-◌, ◌*◌, ◌<◌, ◌≤◌, ◌⊎◌, Bool, false, List, [], ◌∷◌, length, set, Option, None, Some, slice_index, slice_index_or}
use Rattle.std.specs.List.{count_by, sum_by}
use Rattle.std.specs.Option.{is_none}
use Rattle.asp_base.specs.Walks.{Reaches}
use Rattle.graph_parts.specs.Graph.{leads}
use Rattle.graph_parts.specs.declared.search.Search.{Search}
use Rattle.graph_parts.specs.declared.search.Look.{Look}
use Rattle.graph_parts.specs.declared.search.Look.TheVariants as looks

-- a walk of any number of steps
abbrev pub Way : {N : Type 0} → (N → N → Bool) → N → N → Type 0
Way step u v = (u ≡ v) ⊎ Reaches step u v

-- where a node was found in the chain
abbrev pub place_at : List (Option ℕ) → ℕ → Option ℕ
place_at places u = slice_index_or places u None

-- no bound lies behind j and up to k
abbrev pub Uncut : List ℕ → ℕ → ℕ → Type 0
Uncut bounds j k =
    (i : ℕ) → i < length bounds → slice_index bounds i ≤ k → slice_index bounds i ≤ j

-- The parts that are closed: a node without a number is in none of them.
pub record Closed (starts targets numbers : List ℕ) (count : ℕ) : Type 0 where
  pub lower : (u j : ℕ) → slice_index numbers u ≢ 0
      → slice_index starts u ≤ j → j < slice_index starts (u + 1)
      → (slice_index numbers (slice_index targets j) ≢ 0)
      × (slice_index numbers (slice_index targets j) ≤ slice_index numbers u)
  pub joined : (u v : ℕ) → slice_index numbers u ≢ 0
      → slice_index numbers u ≡ slice_index numbers v → Way (leads starts targets) u v
  pub most : (u : ℕ) → slice_index numbers u ≤ count
  pub each : (i : ℕ) → 1 ≤ i → i ≤ count → (u : ℕ) × (slice_index numbers u ≡ i)

-- the chain has the nodes that were found and have no number, each at its place
pub record Placed (places : List (Option ℕ)) (numbers nodes : List ℕ) : Type 0 where
  pub here : (k : ℕ) → k < length nodes
      → (place_at places (slice_index nodes k) ≡ Some k)
      × (slice_index numbers (slice_index nodes k) ≡ 0)
  pub there : (u k : ℕ) → place_at places u ≡ Some k → slice_index numbers u ≡ 0
      → (k < length nodes) × (slice_index nodes k ≡ u)
  pub new : (u : ℕ) → place_at places u ≡ None → slice_index numbers u ≡ 0

-- each node of the chain reaches the later ones, and the earlier ones up to the bound before it
pub record Joined (starts targets nodes bounds : List ℕ) : Type 0 where
  pub forth : (j k : ℕ) → j ≤ k → k < length nodes
      → Way (leads starts targets) (slice_index nodes j) (slice_index nodes k)
  pub back : (j k : ℕ) → j ≤ k → k < length nodes → Uncut bounds j k
      → Way (leads starts targets) (slice_index nodes k) (slice_index nodes j)

-- places that rise, below a limit
pub record Rising (places : List ℕ) (limit : ℕ) : Type 0 where
  pub rises : (i j : ℕ) → i < j → j < length places → slice_index places i < slice_index places j
  pub below : (i : ℕ) → i < length places → slice_index places i < limit

-- a step to a node with a number, or into the chain, over no bound
abbrev pub Known : List ℕ → List ℕ → List ℕ → ℕ → ℕ → Type 0
Known numbers nodes bounds to k =
    (slice_index numbers to ≢ 0)
    ⊎ ((t : ℕ) × (t < length nodes) × (slice_index nodes t ≡ to) × Uncut bounds t k)

-- the steps that were looked at: each node of the chain that is not at work has no others
pub record Looking (starts targets numbers at nodes bounds work : List ℕ) : Type 0 where
  pub known : (k j : ℕ) → k < length nodes
      → slice_index starts (slice_index nodes k) ≤ j → j < slice_index at (slice_index nodes k)
      → Known numbers nodes bounds (slice_index targets j) k
  pub spent : (k : ℕ) → k < length nodes
      → ((i : ℕ) → i < length work → slice_index work i ≢ k)
      → slice_index starts (slice_index nodes k + 1) ≤ slice_index at (slice_index nodes k)

-- how many there are of each
pub record Counted (starts : List ℕ) (places : List (Option ℕ)) (numbers at nodes bounds : List ℕ)
    (count : ℕ) : Type 0 where
  pub places_sized : length places + 1 ≡ length starts
  pub numbers_sized : length numbers + 1 ≡ length starts
  pub at_sized : length at ≡ length starts
  pub inside : (k : ℕ) → k < length nodes → slice_index nodes k + 1 < length starts
  pub begun : (u : ℕ) → slice_index starts u ≤ slice_index at u
  pub fresh : (u : ℕ) → place_at places u ≡ None → slice_index at u ≡ slice_index starts u
  pub nodes_fit : length nodes + count_by is_none places ≤ length places
  pub parts_fit : count + length bounds + count_by is_none places ≤ length places

-- between the rounds of a search
pub record Searching (starts targets : List ℕ) (places : List (Option ℕ))
    (numbers at nodes bounds work : List ℕ) (count : ℕ) : Type 0 where
  pub closed : Closed starts targets numbers count
  pub placed : Placed places numbers nodes
  pub joined : Joined starts targets nodes bounds
  pub bounds_rise : Rising bounds (length nodes)
  pub first : 0 < length nodes → (0 < length bounds) × (slice_index bounds 0 ≡ 0)
  pub work_rises : Rising work (length nodes)
  pub looking : Looking starts targets numbers at nodes bounds work
  pub counted : Counted starts places numbers at nodes bounds count

-- what falls in each round
abbrev pub weight : List ℕ → List (Option ℕ) → List ℕ → List ℕ → List ℕ → ℕ
weight targets places at bounds work =
    3 * count_by is_none places + sum_by (λ j. length targets - j) at + length bounds + length work

-- what was found stays found
abbrev pub StaysFound : List (Option ℕ) → List (Option ℕ) → Type 0
StaysFound old new =
    (u : ℕ) → is_none (place_at old u) ≡ false → is_none (place_at new u) ≡ false

-- the same of a search as the code has it

abbrev pub Searches : List ℕ → List ℕ → Search → Type 0
Searches starts targets search =
    Searching starts targets search.places.items search.numbers.items search.at.items
    search.nodes.items search.bounds.items search.work.items search.count

abbrev pub weight_of : List ℕ → Search → ℕ
weight_of targets search =
    weight targets search.places.items search.at.items search.bounds.items search.work.items

-- the next step of a node of the last part in the chain
pub record IsNext (starts targets at nodes : List ℕ) (bound node to : ℕ) : Type 0 where
  pub place : ℕ
  pub last : bound ≤ place
  pub within : place < length nodes
  pub node_is : slice_index nodes place ≡ node
  pub begun : slice_index starts node ≤ slice_index at node
  pub more : slice_index at node < slice_index starts (node + 1)
  pub to_is : slice_index targets (slice_index at node) ≡ to

-- a node with a number, or one that stands in the chain from the bound on
abbrev pub IsPast : List (Option ℕ) → List ℕ → ℕ → ℕ → Type 0
IsPast places numbers bound to =
    (slice_index numbers to ≢ 0)
    ⊎ ((t : ℕ) × (place_at places to ≡ Some t) × (slice_index numbers to ≡ 0) × (bound ≤ t))

-- what is seen at the end of the chain, behind the last bound
abbrev pub Looked : List ℕ → List ℕ → List (Option ℕ) → List ℕ → List ℕ → List ℕ → List ℕ → ℕ
    → Look → Type 0
Looked starts targets places numbers at nodes work bound looks.Ended =
    (i : ℕ) → i < length work → slice_index work i < bound
Looked starts targets places numbers at nodes work bound looks.Spent =
    (0 < length work)
    × (slice_index starts (slice_index nodes (slice_index work (length work - 1)) + 1)
    ≤ slice_index at (slice_index nodes (slice_index work (length work - 1))))
Looked starts targets places numbers at nodes work bound (looks.Past node) =
    (to : ℕ) × IsNext starts targets at nodes bound node to × IsPast places numbers bound to
Looked starts targets places numbers at nodes work bound (looks.New to) =
    (node : ℕ) × IsNext starts targets at nodes bound node to × (place_at places to ≡ None)
Looked starts targets places numbers at nodes work bound looks.Back =
    (node : ℕ) × (to : ℕ) × (t : ℕ)
    × IsNext starts targets at nodes bound node to
    × (place_at places to ≡ Some t) × (slice_index numbers to ≡ 0) × (t < bound)

-- the same of a search as the code has it
abbrev pub Sees : List ℕ → List ℕ → Search → ℕ → Look → Type 0
Sees starts targets search bound look =
    Looked starts targets search.places.items search.numbers.items search.at.items
    search.nodes.items search.work.items bound look

-- numbers after a number was written at each of these nodes
abbrev pub marked : List ℕ → ℕ → List ℕ → List ℕ
marked numbers number [] = numbers
marked numbers number (node ∷ nodes) = marked (set numbers node number) number nodes

-- where a step from a node to this one leads
abbrev pub Leading : List (Option ℕ) → List ℕ → ℕ → ℕ → ℕ → Look → Type 0
Leading places numbers bound node to looks.Ended = ⊥
Leading places numbers bound node to looks.Spent = ⊥
Leading places numbers bound node to (looks.Past from) =
    (from ≡ node) × IsPast places numbers bound to
Leading places numbers bound node to (looks.New next) = (next ≡ to) × (place_at places to ≡ None)
Leading places numbers bound node to looks.Back =
    (t : ℕ) × (place_at places to ≡ Some t) × (slice_index numbers to ≡ 0) × (t < bound)

-- what a search has
pub record Holds (search : Search) (places : List (Option ℕ))
    (numbers at nodes bounds work : List ℕ) (count : ℕ) : Type 0 where
  pub places_are : search.places.items ≡ places
  pub numbers_are : search.numbers.items ≡ numbers
  pub at_is : search.at.items ≡ at
  pub nodes_are : search.nodes.items ≡ nodes
  pub bounds_are : search.bounds.items ≡ bounds
  pub work_is : search.work.items ≡ work
  pub count_is : search.count ≡ count
