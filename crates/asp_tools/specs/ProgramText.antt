-- The program of a text of either format.
use Rattle.std.specs.Prelude.{ℕ, Bool, List, take, Result, if◌then◌else◌, codes}
use Rattle.std.specs.Str.{bytes_eq}
use Rattle.ground_program.specs.Ground.{Ground}
use Rattle.asp_base.specs.Faults.{Fault}
use Rattle.ground_program.specs.declared.reading.ReadKind.{ReadKind}
use Rattle.aspif_format.specs.Read.{aspif_of}
use Rattle.smodels_format.specs.Read.{smodels_of}

-- how a text of aspif begins
abbrev pub begins_aspif : List ℕ → Bool
begins_aspif text = bytes_eq (take 4 text) (codes "asp ")

-- aspif where it begins so, else smodels
abbrev pub program_of_text : List ℕ → Result Ground (Fault ReadKind)
program_of_text text = if begins_aspif text then aspif_of text else smodels_of text
