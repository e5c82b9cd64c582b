-- How large a program of normal rules may be that stands for a program: its room.
use Rattle.std.specs.Prelude.{ℕ, zero, suc, ◌+◌, ◌-◌, ◌*◌, ◌/◌, ◌==◌, ℤ, Bool, cond, leb, min, List, [], ◌∷◌, length}
use Rattle.std.specs.List.{list_all, sum_by}
use Rattle.asp_base.specs.Literal.{Literal}
use Rattle.ground_program.specs.Digits.{digits}
use Rattle.ground_program.specs.Ground.{Ground}
use Rattle.ground_program.specs.Radix.{number_of, cut_weights, total, has_great, rest_sum, best_radix, tare_of, divided}
use Rattle.ground_program.specs.declared.program.Head.{Head}
use Rattle.ground_program.specs.declared.program.Head.TheVariants.{Nothing, One, Choice}
use Rattle.ground_program.specs.declared.program.Body.{Body}
use Rattle.ground_program.specs.declared.program.Body.TheVariants.{All, Sum}
use Rattle.ground_program.specs.declared.program.Rule.{Rule}

-- ---- at least k of n literals

-- six for each cell of a grid
abbrev pub grid_measure : ℕ → ℕ → ℕ
grid_measure k n = 6 * (k * (n - k + 1))

-- nine for each comparator of a network that orders n literals
abbrev pub network_measure : ℕ → ℕ
network_measure n = 9 * (n * (digits n * digits n))

abbrev pub equal_measure : ℕ → ℕ → ℕ
equal_measure k n = min (grid_measure k n) (network_measure n)

-- ---- a sum of weights

abbrev pub first_weight : List (Literal × ℕ) → ℕ
first_weight [] = 1
first_weight (item ∷ items) = item.1

abbrev pub are_equal : List (Literal × ℕ) → Bool
are_equal items = list_all (λ item. item.1 == first_weight items) items

-- how many weights of this size reach the bound
abbrev pub least_number : ℕ → ℕ → ℕ
least_number bound weight = (bound + weight - 1) / weight

-- The networks that order the lists of all levels, so many levels at most: what the weights leave
-- over, with the carries from below.
abbrev pub levels_measure : ℕ → ℕ → List (Literal × ℕ) → ℕ → ℕ
levels_measure zero bound items carries = network_measure (total items + carries)
levels_measure (suc levels) bound items carries =
    let b : ℕ = best_radix items in
    let t : ℕ = tare_of bound b in
    let n : ℕ = rest_sum b items + carries in
    cond (has_great items)
    (network_measure n + levels_measure levels ((bound + t) / b) (divided b items) ((n + t) / b))
    (network_measure (total items + carries))

-- A radix is 2 at least, so that weights below 2^64 have fewer than 64 levels.
abbrev pub items_measure : ℕ → List (Literal × ℕ) → ℕ
items_measure bound items =
    cond (are_equal items)
    (equal_measure (least_number bound (first_weight items)) (length items))
    (levels_measure 64 bound items 0)

-- Nothing where the sum is reached always or never, else what its cut weights need.
abbrev pub sum_measure : ℤ → List (Literal × ℤ) → ℕ
sum_measure bound items =
    let k : ℕ = number_of bound in
    let cut : List (Literal × ℕ) = cut_weights k items in
    cond (k == 0) 0 (cond (leb k (total cut)) (items_measure k cut) 0)

-- ---- rules and programs

abbrev pub body_part : Body → ℕ
body_part (All lits) = length lits
body_part (Sum bound items) = 1 + sum_measure bound items

-- a rule with this head over so much
abbrev pub head_term : Head → ℕ → ℕ
head_term Nothing n = n + 1
head_term (One a) n = n + 1
head_term (Choice as_) n = n + 2 + 6 * length as_

abbrev pub term : Rule → ℕ
term rule = head_term rule.head (body_part rule.body)

-- the size of a program, where each rule counts what may stand for it
abbrev pub room : Ground → ℕ
room P =
    length P.atoms + sum_by term P.rules + length P.required
    + sum_by (λ edge. 1 + length edge.condition) P.edges
    + sum_by (λ level. 1 + length level.items) P.levels
    + sum_by (λ show. 1 + length show.condition) P.shows
