-- What it means that one program stands for another: a translation is faithful where the stable
-- models of the two are one to one and say the same of the first program's atoms (T. Janhunen. Some
-- (in)translatability results for normal logic programs and propositional theories. Journal of
-- Applied Non-Classical Logics 16, 2006), here with the names and costs besides.
use Rattle.std.specs.Prelude.{◌≡◌}
use Rattle.asp_base.specs.Sets.{Set, cut, Same}
use Rattle.ground_program.specs.Ground.{Ground}
use Rattle.ground_program.specs.Stable.{Stable, visible, cost}

-- Cut to the atoms of P, the stable models of Q are those of P, with their names and costs. Several
-- may have one cut.
pub record Covers (P Q : Ground) : Type 0 where
  pub stable : (M : Set) → Stable Q M → Stable P (cut P.atoms M)
  pub names : (M : Set) → Stable Q M → visible Q M ≡ visible P (cut P.atoms M)
  pub costs : (M : Set) → Stable Q M → cost Q M ≡ cost P (cut P.atoms M)
  pub onto : (M : Set) → Stable P M → (N : Set) × Stable Q N × Same (cut P.atoms N) M

-- The same, one to one.
pub record Faithful (P Q : Ground) : Type 0 where
  pub covers : Covers P Q
  pub one : (M N : Set) → Stable Q M → Stable Q N → Same (cut P.atoms M) (cut P.atoms N) → Same M N
