-- Sums of weights in mixed radix: which radix and which tare a level has (N. Eén, N. Sörensson.
-- Translating pseudo-Boolean constraints into SAT. JSAT 2, 2006; J. Bomanson, M. Gebser,
-- T. Janhunen. Improving the normalization of weight rules in answer set programs. JELIA 2014).
use Rattle.std.specs.Prelude.{ℕ, ◌-◌, ◌/◌, ◌%◌, ◌==◌, ℤ, pos, negsuc, Bool, cond, leb, min, List, [], ◌∷◌, map, Option, Some, None}
use Rattle.std.specs.List.{list_any, sum_by}
use Rattle.asp_base.specs.Literal.{Literal}

-- ---- weights as numbers, without those of 0, and cut to the bound of the sum

abbrev pub number_of : ℤ → ℕ
number_of (pos n) = n
number_of (negsuc n) = 0

abbrev pub naturals : List (Literal × ℤ) → List (Literal × ℕ)
naturals items = map (λ item. (item.0, number_of item.1)) items

-- items of weight 0 are left out
abbrev pub weighty : {A : Type 0} → List (A × ℕ) → List (A × ℕ)
weighty [] = []
weighty (item ∷ items) = cond (item.1 == 0) (weighty items) (item ∷ weighty items)

-- each weight is cut to the bound
abbrev pub cut_to : {A : Type 0} → ℕ → List (A × ℕ) → List (A × ℕ)
cut_to bound items = map (λ item. (item.0, min item.1 bound)) items

abbrev pub cut_weights : ℕ → List (Literal × ℤ) → List (Literal × ℕ)
cut_weights bound items = cut_to bound (weighty (naturals items))

-- all weights together
abbrev pub total : {A : Type 0} → List (A × ℕ) → ℕ
total items = sum_by (λ item. item.1) items

-- ---- levels

-- A weight of 8 or more makes a level; where there is none, the lists of the level are ordered
-- as they are.
abbrev pub has_great : List (Literal × ℕ) → Bool
has_great items = list_any (λ item. leb 8 item.1) items

-- what the weights leave over together
abbrev pub rest_sum : ℕ → List (Literal × ℕ) → ℕ
rest_sum b items = sum_by (λ item. item.1 % b) items

-- the better of two radices: the second where it leaves no more
abbrev pub better : List (Literal × ℕ) → ℕ → ℕ → ℕ
better items b c = cond (leb (rest_sum c items) (rest_sum b items)) c b

-- the number from 2 to 8 that leaves least over, on a tie the largest
abbrev pub best_radix : List (Literal × ℕ) → ℕ
best_radix items =
    let upto5 : ℕ = better items (better items (better items 2 3) 4) 5 in
    better items (better items (better items upto5 6) 7) 8

-- the least number that makes the radix divide the bound
abbrev pub tare_of : ℕ → ℕ → ℕ
tare_of bound b = (b - bound % b) % b

-- the weights of the next level
abbrev pub divided : ℕ → List (Literal × ℕ) → List (Literal × ℕ)
divided b items = map (λ item. (item.0, item.1 / b)) items

-- what the cut weights are above radices whose product is this base
abbrev pub at_level : ℕ → ℕ → List (Literal × ℤ) → List (Literal × ℕ)
at_level bound base items = divided base (cut_weights bound items)

-- the next radix above radices whose product is this base
abbrev pub next_radix : List (Literal × ℤ) → ℕ → ℕ → Option ℕ
next_radix items bound base =
    let level : List (Literal × ℕ) = at_level bound base items in
    cond (has_great level) (Some (best_radix level)) None

-- the same among weights, bounds and bases as they are written
abbrev pub as_weight : Option ℕ → Option ℤ
as_weight None = None
as_weight (Some b) = Some (pos b)

abbrev pub radix : List (Literal × ℤ) → ℤ → ℤ → Option ℤ
radix items bound base = as_weight (next_radix items (number_of bound) (number_of base))
