-- Small map texts, by computation.
use Rattle.std.proofs.Common.{◌≡◌, refl, [], ◌∷◌, Ok, codes, pos, negsuc}
use Rattle.asp_base.specs.Literal.{Pos, Neg}
use Rattle.symbol_map.specs.declared.map.Form.TheVariants.{Cnf, Wcnf}
use Rattle.symbol_map.specs.declared.kind.MapKind.TheVariants as kinds
use Rattle.asp_base.specs.Faults.{fault}
use Rattle.symbol_map.specs.Read.{map_of}
use Rattle.symbol_map.specs.Symbols.{Symbols}

two_atoms : map_of (codes "map 1 cnf 2\natom 1 1\natom 2 2\nend\n")
    ≡ Ok (record { form = Cnf; vars = 2; atoms = record { atom = 1; lit = Pos 1 } ∷ record { atom = 2; lit = Pos 2 } ∷ []; shows = []; levels = [] })
two_atoms = refl

whole : Symbols
whole = record {
  form = Wcnf;
  vars = 6;
  atoms = record { atom = 1; lit = Pos 1 } ∷ record { atom = 3; lit = Neg 2 } ∷ [];
  shows = record { name = codes " a\r b "; condition = Neg 1 ∷ [] } ∷ record { name = []; condition = [] } ∷ [];
  levels = record { priority = pos 2; items = (Pos 3, pos 4) ∷ [] } ∷ record { priority = negsuc 0; items = (Pos 1, pos 3) ∷ (Neg 2, negsuc 1) ∷ [] } ∷ [];
}

-- names may have blanks and carriage returns, and be empty
names_and_levels : map_of (codes "map 1 wcnf 6\natom 1 1\natom 3 -2\nshow 6  a\r b  1 -1\nshow 0  0\nlevel 2 1 3 4\nlevel -1 2 1 3 -2 -2\nend\n") ≡ Ok whole
unfolding whole
names_and_levels = refl

-- blank lines, carriage returns at ends of lines, and an end of the text without a line feed
loose_lines : map_of (codes "\n map\t1 ecnf 0\r\n \nend \r\n\n") ≡ map_of (codes "map 1 ecnf 0\nend")
loose_lines = refl

-- ---- faults

version : map_of (codes "map 2 cnf 3\nend\n") ≡ fault 1 kinds.BadHeader
version = refl

nothing : map_of [] ≡ fault 1 kinds.BadHeader
nothing = refl

order : map_of (codes "map 1 cnf 3\natom 2 1\natom 1 2\nend\n") ≡ fault 3 kinds.WrongOrder
order = refl

same_priority : map_of (codes "map 1 cnf 3\nlevel 1 0\nlevel 1 0\nend\n") ≡ fault 3 kinds.WrongOrder
same_priority = refl

show_after_level : map_of (codes "map 1 cnf 3\nlevel 1 0\nshow 1 a 0\nend\n") ≡ fault 3 kinds.WrongOrder
show_after_level = refl

atom_after_show : map_of (codes "map 1 cnf 3\nshow 1 a 0\natom 1 1\nend\n") ≡ fault 3 kinds.WrongOrder
atom_after_show = refl

literal : map_of (codes "map 1 cnf 3\natom 1 4\nend\n") ≡ fault 2 kinds.BadLine
literal = refl

short_name : map_of (codes "map 1 cnf 3\nshow 2 a\nend\n") ≡ fault 2 kinds.BadLine
short_name = refl

no_end : map_of (codes "map 1 cnf 3\n") ≡ fault 1 kinds.NoEnd
no_end = refl

behind_end : map_of (codes "map 1 cnf 3\nend\n\nend\n") ≡ fault 4 kinds.BadLine
behind_end = refl
