-- What each kind of encoding makes.
use Rattle.std.specs.Prelude.{ℕ, ◌≤◌, ◌^◌, List, [], ◌++◌, map, ⊤}
use Rattle.std.specs.List.{flat_map}
use Rattle.components.specs.Divided.{Divided, cyclic_numbers, cyclic_parts, part_of}
use Rattle.ground_program.specs.Ground.{Ground}
use Rattle.ground_program.specs.Tangle.{pairs}
use Rattle.acyc_edges.specs.Encoding.{atoms_in, both_names, edge_names, rules_of, plain, unique}
use Rattle.acyc_edges.specs.declared.kind.Kind.{Kind}
use Rattle.acyc_edges.specs.declared.kind.Kind.TheVariants.{Plain, Unique}
use Rattle.acyc_edges.specs.declared.name.Name.{Name}
use Rattle.acyc_edges.specs.declared.name.Name.TheVariants.{Backed, NoLater, Backs}
use Rattle.acyc_edges.specs.private.Setting.{Given}

-- the names of these atoms of a component
abbrev pub names_over : Kind → Given → List ℕ → List Name
names_over Plain given atoms =
    flat_map (both_names given.program (part_of given.parts) []) atoms
    ++ (flat_map (edge_names given.program (part_of given.parts) []) atoms ++ map Backed atoms)
names_over Unique given atoms =
    flat_map (both_names given.program (part_of given.parts) []) atoms
    ++ (flat_map (λ a. map (NoLater a) atoms) atoms
    ++ flat_map (λ a. map Backs (rules_of given.program (part_of given.parts) [] a)) atoms)

-- the names of a component
abbrev pub names_in : Kind → Given → ℕ → List Name
names_in kind given c =
    names_over kind given (atoms_in given.program (part_of given.parts) [] c)

abbrev pub all_names : Kind → Given → List Name
all_names kind given = flat_map (names_in kind given) (cyclic_numbers given.parts)

abbrev pub encoding : Kind → Ground → Divided → Ground
encoding Plain P d = plain P (part_of d) (cyclic_numbers d)
encoding Unique P d = unique P (part_of d) (cyclic_numbers d)

-- how many pairs there may be
abbrev pub FewPairs : Kind → Ground → Divided → Type 0
FewPairs Plain P d = ⊤
FewPairs Unique P d = pairs P.rules (cyclic_parts d) ≤ 2 ^ 24
