-- The program that normalization makes.
use Rattle.std.specs.Prelude.{List, ◌++◌, ℕ}
use Rattle.std.specs.List.{flat_map}
use Rattle.rising_numbers.specs.Rising.{rising}
use Rattle.ground_program.specs.Ground.{Ground}
use Rattle.ground_program.specs.Occurrences.{atoms_of_rule}
use Rattle.normalize.specs.private.Stage.{Stage}

abbrev pub all_atoms : Ground → Stage → List ℕ
all_atoms P t = P.atoms ++ flat_map atoms_of_rule t.rules

-- the rules that were made in the place of the given ones; what is no rule stays
abbrev pub made_of : Ground → Stage → Ground
made_of P t = record P { atoms = rising (all_atoms P t); rules = t.rules }
