-- Rows of a counting grid: cell (i, j) says that at least j of the first i literals hold.
use Rattle.std.specs.Prelude.{◌≡◌, ℕ, zero, suc, ◌+◌, ◌-◌, ◌*◌, min, Bool, cond, leb, ◌&&◌, ◌||◌, List, [], ◌∷◌, ◌++◌, length, take, ◌≤◌}
use Rattle.asp_base.specs.Literal.{Literal}
use Rattle.asp_base.specs.Sets.{Set}
use Rattle.rule_network.specs.Block.{Block, AllKnown, Grew, Adds, value, values}
use Rattle.rule_network.specs.Truths.{count}

-- whether a number reaches this bound, the next, and so on, so many of them
abbrev pub thresholds : ℕ → ℕ → ℕ → List Bool
thresholds low zero n = []
thresholds low (suc len) n = leb low n ∷ thresholds (suc low) len n

-- From a row and the next literal: a cell of at least one of them.
abbrev pub first_value : List Bool → Bool → List Bool
first_value [] v = v ∷ []
first_value (b ∷ bs) v = (b || v) ∷ []

-- the cells with one above them
abbrev pub pair_values : List Bool → Bool → List Bool
pair_values [] v = []
pair_values (b ∷ []) v = []
pair_values (b ∷ c ∷ bs) v = (c || (b && v)) ∷ pair_values (c ∷ bs) v

-- the cell with none above it
abbrev pub last_value : List Bool → Bool → List Bool
last_value [] v = []
last_value (b ∷ []) v = (b && v) ∷ []
last_value (b ∷ c ∷ bs) v = last_value (c ∷ bs) v

-- the next row; whether it has a cell of at least one, and one of all so far
abbrev pub next_values : Bool → Bool → List Bool → Bool → List Bool
next_values first last bs v =
    (cond first (first_value bs v) [] ++ pair_values bs v) ++ cond last (last_value bs v) []

-- The same of literals: what the cells say, by the row before and the next literal.
abbrev pub first_says : Block → List Literal → Literal → Bool → Set → Set → List Bool
first_says net before lit first X M =
    cond first (first_value (values net X M before) (value net X M lit)) []

abbrev pub pairs_say : Block → List Literal → Literal → Set → Set → List Bool
pairs_say net before lit X M = pair_values (values net X M before) (value net X M lit)

abbrev pub last_says : Block → List Literal → Literal → Bool → Set → Set → List Bool
last_says net before lit last X M =
    cond last (last_value (values net X M before) (value net X M lit)) []

abbrev pub next_says : Block → List Literal → Literal → Bool → Bool → Set → Set → List Bool
next_says net before lit first last X M =
    next_values first last (values net X M before) (value net X M lit)

-- how many cells the next row has
abbrev pub next_length : Bool → Bool → ℕ → ℕ
next_length first last len = cond first 1 0 + (len - 1) + cond last (min 1 len) 0

-- Of at least k among the first i, of n in all, with w = n - k + 1: the row of i has the bounds
-- from here on,
abbrev pub row_low : ℕ → ℕ → ℕ
row_low w i = suc (i - w)

-- and so many of them.
abbrev pub row_length : ℕ → ℕ → ℕ → ℕ
row_length k w i = min k i - (i - w)

-- the cells of the rows up to this one
abbrev pub cells : ℕ → ℕ → ℕ → ℕ
cells zero w i = 0
cells (suc k) w i = cells k w i + min w (i - k)

-- Cells for the next row were put behind others: the list grows by what the cells say.
pub record Appends (old new : Block) (lits more : List Literal) (tests : Set → Set → List Bool)
    : Type 0 where
  pub grew : Grew old new
  pub known : AllKnown new more
  pub says : (X M : Set) → values new X M more ≡ values old X M lits ++ tests X M
  pub longer : length lits ≤ length more
  pub adds : Adds (length more - length lits) (6 * (length more - length lits)) old new

-- a row of the grid
pub record Row (old net : Block) (lits row : List Literal) (k w i : ℕ) : Type 0 where
  pub grew : Grew old net
  pub known : AllKnown net row
  pub says : (X M : Set) → values net X M row
      ≡ thresholds (row_low w i) (row_length k w i) (count (take i (values old X M lits)))
  pub adds : Adds (cells k w i) (6 * cells k w i) old net
