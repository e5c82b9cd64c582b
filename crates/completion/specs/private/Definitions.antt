-- The clauses of an atom by the literals of its rules' bodies, those of all atoms in turn, and what
-- the completion's parts leave in a store.
use Rattle.std.specs.Prelude.{ℕ, zero, suc, ◌+◌, cond, List, [], ◌∷◌, ◌++◌, map, Option, Some, None, slice_index, slice_index_or, slice_range}
use Rattle.std.specs.List.{flat_map, list_any}
use Rattle.asp_base.specs.Literal.{Literal, Pos, negation}
use Rattle.ground_program.specs.declared.program.Rule.{Rule}
use Rattle.clause_store.specs.Stored.{Stored, with_clauses}
use Rattle.completion.specs.Completion.{after_rules, supports_of, is_empty, each_once, atom_clauses, headless_clauses, required_clauses}

-- the clauses that an atom is true just where one of these literals is
abbrev pub equivalence : Literal → List Literal → List (List Literal)
equivalence atom bodies =
    (negation atom ∷ bodies) ∷ map (λ b. atom ∷ negation b ∷ []) bodies

-- the literals that are there
abbrev pub given : List (Option Literal) → List Literal
given [] = []
given (None ∷ bodies) = given bodies
given (Some l ∷ bodies) = l ∷ given bodies

-- the clauses of the variable v, whose rules' bodies have these literals, none an empty body
abbrev pub clauses_by : ℕ → List (Option Literal) → List (List Literal)
clauses_by v bodies =
    cond (list_any is_empty bodies) ((Pos v ∷ []) ∷ [])
    (equivalence (Pos v) (each_once (given bodies)))

-- the literals of the bodies of the rules at these places
abbrev pub bodies_at : List (Option Literal) → List ℕ → List (Option Literal)
bodies_at literals places = map (λ i. slice_index_or literals i None) places

-- what stands under the key k
abbrev pub places_under : List ℕ → List ℕ → ℕ → List ℕ
places_under starts values k =
    slice_range values (slice_index starts k) (slice_index starts (k + 1))

-- the clauses of the variables up to n, the places of whose rules stand under the keys from 0
abbrev pub clauses_up_to : List ℕ → List ℕ → List (Option Literal) → ℕ → List (List Literal)
clauses_up_to starts values literals zero = []
clauses_up_to starts values literals (suc k) =
    clauses_up_to starts values literals k
    ++ clauses_by (suc k) (bodies_at literals (places_under starts values k))

-- with the literals of the bodies, and then the clauses of atoms, of rules without head, and of
-- required literals
abbrev pub after_parts : List ℕ → List Rule → List Literal → Stored → Stored
after_parts atoms rules required s =
    with_clauses (required_clauses atoms required)
    (with_clauses (headless_clauses atoms rules)
    (with_clauses (flat_map (atom_clauses atoms (supports_of atoms rules s)) atoms)
    (after_rules atoms rules s)))
