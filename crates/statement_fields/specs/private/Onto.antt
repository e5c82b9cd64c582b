-- Entries that were read before those that are still to be read.
use Rattle.std.specs.Prelude.{List, ◌++◌, Ok, Err}
use Rattle.statement_fields.specs.Fields.{Reading}

-- with entries in front
abbrev pub onto : {A : Type 0} → List A → Reading (List A) → Reading (List A)
onto front (Ok read) = Ok (front ++ read.0, read.1)
onto front (Err kind) = Err kind
