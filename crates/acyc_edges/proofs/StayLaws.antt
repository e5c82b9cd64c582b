-- What an encoding leaves as it is.
use Rattle.std.proofs.Common.{refl, ◌∙◌, ℕ, ◌++◌, List, map, filter}
use Rattle.std.specs.List.{flat_map}
use Rattle.std.proofs.lemmas.Bool.{or_left}
use Rattle.std.proofs.lemmas.List.Folds.{list_any-append}
use Rattle.asp_base.specs.Sets.{members, Within}
use Rattle.rising_numbers.proofs.RisingLaws.{members-rising}
use Rattle.ground_program.specs.Ground.{Ground}
use Rattle.acyc_edges.specs.declared.name.Name.{Name}
use Rattle.acyc_edges.specs.Encoding.{made, rules_of_name}
use Rattle.acyc_edges.specs.Names.{is_new, atom_of_name}
use Rattle.acyc_edges.specs.Staying.{StayFirst}

module _ (P : Ground) (part : ℕ → ℕ) (parts : List ℕ) (names : List Name) where
  pub made-first : StayFirst P part parts (made P part parts names)
  made-first = record { more = flat_map (rules_of_name P part parts (atom_of_name P.atoms names)) names; are = refl }

  pub made-atoms : Within (members P.atoms) (members (made P part parts names).atoms)
  made-atoms a h = members-rising (P.atoms ++ map (atom_of_name P.atoms names) (filter is_new names)) a ∙ (list_any-append _ P.atoms _ ∙ or_left _ _ h)
