-- Sums of weights in mixed radix, level by level: at a level the rests of the weights are counted
-- together with the carries from below, and each radix-th of these counts, after the tare is added,
-- is a carry to the next.
use Rattle.std.specs.Prelude.{◌≡◌, ℕ, zero, suc, ◌+◌, ◌/◌, ◌%◌, ◌-◌, ℤ, Bool, true, false, cond, List, [], ◌∷◌, ◌++◌, map, replicate, length}
use Rattle.asp_base.specs.Literal.{Literal}
use Rattle.asp_base.specs.Sets.{Set}
use Rattle.ground_program.specs.Radix.{number_of, has_great, rest_sum, best_radix, tare_of, divided}
use Rattle.rule_network.specs.Block.{Block, AllKnown, Grew, value, values}
use Rattle.rule_network.specs.Truths.{count}

-- ---- items that hold or not

-- the weights of those that hold
abbrev pub held : List (Bool × ℕ) → ℕ
held [] = 0
held (item ∷ items) = cond item.0 item.1 0 + held items

-- each item so many times as its weight leaves over
abbrev pub rests : ℕ → List (Bool × ℕ) → List Bool
rests b [] = []
rests b (item ∷ items) = replicate (item.1 % b) item.0 ++ rests b items

-- which items hold
abbrev pub truths : Block → Set → Set → List (Literal × ℕ) → List (Bool × ℕ)
truths net X M items = map (λ item. (value net X M item.0, item.1)) items

-- ---- the lists of a level

-- each literal so many times as its weight leaves over
abbrev pub rest_lits : ℕ → List (Literal × ℕ) → List Literal
rest_lits b [] = []
rest_lits b (item ∷ items) = replicate (item.1 % b) item.0 ++ rest_lits b items

-- each literal so many times as its weight says
abbrev pub all_lits : List (Literal × ℕ) → List Literal
all_lits [] = []
all_lits (item ∷ items) = replicate item.1 item.0 ++ all_lits items

-- one entry after so many, and then every b-th
abbrev pub picked : {A : Type 0} → ℕ → ℕ → List A → List A
picked b skip [] = []
picked b zero (x ∷ xs) = x ∷ picked b (b - 1) xs
picked b (suc skip) (x ∷ xs) = picked b skip xs

-- ---- one level after another

-- the levels of these items with this bound
abbrev pub IsPlan : List ℤ → List ℤ → List (Literal × ℕ) → ℕ → Type 0
IsPlan [] [] items bound = has_great items ≡ false
IsPlan (r ∷ rs) (t ∷ ts) items bound =
    (has_great items ≡ true) × (number_of r ≡ best_radix items)
    × (number_of t ≡ tare_of bound (number_of r))
    × IsPlan rs ts (divided (number_of r) items) ((bound + number_of t) / number_of r)
IsPlan _ _ items bound = ⊥

-- The carries of a level with radix b and tare t: as many are true as b goes into what holds there,
-- with the tare.
pub record Carries (old new : Block) (items : List (Literal × ℕ)) (carries next : List Literal)
    (b t : ℕ) : Type 0 where
  pub grew : Grew old new
  pub known : AllKnown new next
  pub entries : length next ≡ (rest_sum b items + length carries + t) / b
  pub says : (X M : Set)
      → count (values new X M next)
      ≡ (count (rests b (truths old X M items)) + count (values old X M carries) + t) / b
