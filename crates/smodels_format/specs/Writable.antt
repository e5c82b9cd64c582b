-- The programs that smodels text can say.
use Rattle.std.specs.Prelude.{ℕ, pos, int_le, Bool, true, false, not, ◌&&◌, List, [], ◌∷◌}
use Rattle.std.specs.List.{list_all}
use Rattle.asp_scan.specs.Lines.{is_blank}
use Rattle.asp_scan.specs.Words.{ends_with_return}
use Rattle.ground_program.specs.Ground.{Ground}

abbrev pub has_none : {A : Type 0} → List A → Bool
has_none [] = true
has_none (x ∷ xs) = false

-- a name that does not begin with a blank
abbrev pub begins_word : List ℕ → Bool
begins_word [] = false
begins_word (byte ∷ bytes) = not (is_blank byte)

-- a name that stands at the end of its line
abbrev pub is_writable_name : List ℕ → Bool
is_writable_name name = begins_word name && not (ends_with_return name)

-- no edge, no weight of a level below 0, and no name that is empty, begins with a blank or ends
-- with a carriage return
abbrev pub is_writable : Ground → Bool
is_writable P =
    has_none P.edges
    && (list_all (λ level. list_all (λ item. int_le (pos 0) item.1) level.items) P.levels
    && list_all (λ show. is_writable_name show.name) P.shows)
