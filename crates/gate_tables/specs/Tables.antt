-- The rows of the tables, and what the comparisons among them say.
use Rattle.std.specs.Prelude.{ℕ, ◌+◌, ◌*◌, ℤ, pos, negsuc, Bool, cond, ◌&&◌, ◌||◌, ◌==◌, ltb, List, [], ◌∷◌}
use Rattle.gate_tables.specs.Rows.{differs}

-- y where x and y differ, else c: the greatest digits decide, or those below
abbrev pub less_step : Bool → Bool → Bool → Bool
less_step x y c = cond (differs x y) y c

-- the number of two binary digits
abbrev pub two_digits : Bool → Bool → ℕ
two_digits u x = 2 * cond u 1 0 + cond x 1 0

-- m is below n, or they are equal, and c
abbrev pub is_below_or : ℕ → ℕ → Bool → Bool
is_below_or m n c = ltb m n || ((m == n) && c)

-- ---- rows

-- both inputs
abbrev pub and2_rows : List (List ℤ × ℤ)
and2_rows =
    (pos 1 ∷ pos 0 ∷ [], negsuc 0)
    ∷ (pos 0 ∷ pos 1 ∷ [], negsuc 0)
    ∷ (negsuc 0 ∷ negsuc 0 ∷ [], pos 1)
    ∷ []

-- one of the inputs
abbrev pub or2_rows : List (List ℤ × ℤ)
or2_rows =
    (negsuc 0 ∷ pos 0 ∷ [], pos 1)
    ∷ (pos 0 ∷ negsuc 0 ∷ [], pos 1)
    ∷ (pos 1 ∷ pos 1 ∷ [], negsuc 0)
    ∷ []

-- just one of the inputs
abbrev pub xor2_rows : List (List ℤ × ℤ)
xor2_rows =
    (negsuc 0 ∷ pos 1 ∷ [], pos 1)
    ∷ (pos 1 ∷ negsuc 0 ∷ [], pos 1)
    ∷ (pos 1 ∷ pos 1 ∷ [], negsuc 0)
    ∷ (negsuc 0 ∷ negsuc 0 ∷ [], negsuc 0)
    ∷ []

-- the second input where the first is true, else the third
abbrev pub ite_rows : List (List ℤ × ℤ)
ite_rows =
    (negsuc 0 ∷ negsuc 0 ∷ pos 0 ∷ [], pos 1)
    ∷ (negsuc 0 ∷ pos 1 ∷ pos 0 ∷ [], negsuc 0)
    ∷ (pos 1 ∷ pos 0 ∷ negsuc 0 ∷ [], pos 1)
    ∷ (pos 1 ∷ pos 0 ∷ pos 1 ∷ [], negsuc 0)
    ∷ []

-- not the first input, and the second
abbrev pub lt_first_rows : List (List ℤ × ℤ)
lt_first_rows =
    (negsuc 0 ∷ pos 0 ∷ [], negsuc 0)
    ∷ (pos 0 ∷ pos 1 ∷ [], negsuc 0)
    ∷ (pos 1 ∷ negsuc 0 ∷ [], pos 1)
    ∷ []

-- the second input where the first two differ, else the third
abbrev pub lt_step_rows : List (List ℤ × ℤ)
lt_step_rows =
    (pos 1 ∷ negsuc 0 ∷ pos 0 ∷ [], pos 1)
    ∷ (pos 1 ∷ pos 0 ∷ negsuc 0 ∷ [], pos 1)
    ∷ (pos 0 ∷ negsuc 0 ∷ negsuc 0 ∷ [], pos 1)
    ∷ (negsuc 0 ∷ pos 1 ∷ pos 0 ∷ [], negsuc 0)
    ∷ (negsuc 0 ∷ pos 0 ∷ pos 1 ∷ [], negsuc 0)
    ∷ (pos 0 ∷ pos 1 ∷ pos 1 ∷ [], negsuc 0)
    ∷ []

-- two digits of each number: the step of the upper ones over that of the lower ones
abbrev pub lt_pair_rows : List (List ℤ × ℤ)
lt_pair_rows =
    (pos 1 ∷ pos 0 ∷ negsuc 0 ∷ pos 0 ∷ pos 0 ∷ [], pos 1)
    ∷ (pos 1 ∷ pos 1 ∷ pos 0 ∷ negsuc 0 ∷ pos 0 ∷ [], pos 1)
    ∷ (pos 1 ∷ pos 1 ∷ pos 0 ∷ pos 0 ∷ negsuc 0 ∷ [], pos 1)
    ∷ (pos 1 ∷ pos 0 ∷ pos 0 ∷ negsuc 0 ∷ negsuc 0 ∷ [], pos 1)
    ∷ (pos 0 ∷ pos 1 ∷ negsuc 0 ∷ negsuc 0 ∷ pos 0 ∷ [], pos 1)
    ∷ (pos 0 ∷ pos 1 ∷ negsuc 0 ∷ pos 0 ∷ negsuc 0 ∷ [], pos 1)
    ∷ (pos 0 ∷ pos 0 ∷ negsuc 0 ∷ negsuc 0 ∷ negsuc 0 ∷ [], pos 1)
    ∷ (negsuc 0 ∷ pos 0 ∷ pos 1 ∷ pos 0 ∷ pos 0 ∷ [], negsuc 0)
    ∷ (negsuc 0 ∷ negsuc 0 ∷ pos 0 ∷ pos 1 ∷ pos 0 ∷ [], negsuc 0)
    ∷ (negsuc 0 ∷ negsuc 0 ∷ pos 0 ∷ pos 0 ∷ pos 1 ∷ [], negsuc 0)
    ∷ (negsuc 0 ∷ pos 0 ∷ pos 0 ∷ pos 1 ∷ pos 1 ∷ [], negsuc 0)
    ∷ (pos 0 ∷ negsuc 0 ∷ pos 1 ∷ pos 1 ∷ pos 0 ∷ [], negsuc 0)
    ∷ (pos 0 ∷ negsuc 0 ∷ pos 1 ∷ pos 0 ∷ pos 1 ∷ [], negsuc 0)
    ∷ (pos 0 ∷ pos 0 ∷ pos 1 ∷ pos 1 ∷ pos 1 ∷ [], negsuc 0)
    ∷ []
