-- Small map texts, by computation.
use Rattle.std.proofs.Common.{◌≡◌, refl, [], ◌∷◌, codes, pos, negsuc}
use Rattle.std.specs.Fmt.{digits}
use Rattle.asp_base.specs.Literal.{Pos, Neg}
use Rattle.symbol_map.specs.declared.map.Form.TheVariants.{Cnf, Wcnf}
use Rattle.symbol_map.specs.Written.{map_text}

nothing : map_text (record { form = Cnf; vars = 0; atoms = []; shows = []; levels = [] }) ≡ codes "map 1 cnf 0\nend\n"
unfolding digits
nothing = refl

two_atoms : map_text (record { form = Cnf; vars = 2; atoms = record { atom = 1; lit = Pos 1 } ∷ record { atom = 2; lit = Pos 2 } ∷ []; shows = []; levels = [] })
    ≡ codes "map 1 cnf 2\natom 1 1\natom 2 2\nend\n"
unfolding digits
two_atoms = refl

whole : map_text (record {
  form = Wcnf;
  vars = 6;
  atoms = record { atom = 1; lit = Pos 1 } ∷ record { atom = 3; lit = Neg 2 } ∷ [];
  shows = record { name = codes "a b)"; condition = Neg 1 ∷ Pos 6 ∷ [] } ∷ record { name = []; condition = [] } ∷ [];
  levels = record { priority = pos 1; items = (Pos 1, pos 3) ∷ (Pos 2, negsuc 1) ∷ [] } ∷ record { priority = negsuc 4; items = [] } ∷ [];
})
    ≡ codes "map 1 wcnf 6\natom 1 1\natom 3 -2\nshow 4 a b) 2 -1 6\nshow 0  0\nlevel 1 2 1 3 2 -2\nlevel -5 0\nend\n"
unfolding digits
whole = refl
