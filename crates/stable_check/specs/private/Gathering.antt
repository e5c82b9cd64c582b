-- What a reader of a text of atoms keeps, and what it says of the text.
use Rattle.std.specs.Prelude.{ℕ, List, ◌++◌, Result, Ok, Err}

-- with atoms in front
abbrev pub onto : {E : Type 0} → List ℕ → Result (List ℕ) E → Result (List ℕ) E
onto front (Ok atoms) = Ok (front ++ atoms)
onto front (Err e) = Err e
