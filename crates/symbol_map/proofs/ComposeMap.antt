-- A formula and a map that stand for a program stand for each program that it is faithful to, through the map with the places
-- of that program.
use Rattle.std.proofs.Common.{◌≡◌, refl, sym, ◌∙◌, ap, ap₂, subst, ℕ, ℤ, Bool, true, false, cond, ◌&&◌, ◌==◌, List, [], ◌∷◌, map, filter}
use mathlib.Core.Path.{fun_ext}
use Rattle.std.proofs.lemmas.Bool.{and_parts, eqb-true}
use Rattle.std.proofs.lemmas.Map.Views.{any-filter_same}
use Rattle.asp_base.specs.Sets.{Set, members, cut, Same, Within}
use Rattle.ground_program.specs.Ground.{Ground}
use Rattle.ground_program.specs.Stable.{Stable, visible, cost}
use Rattle.ground_program.specs.Faithful.{Covers, Faithful}
use Rattle.ground_program.proofs.Compose.{Same-cut}
use Rattle.clause_store.specs.Clauses.{Clauses}
use Rattle.clause_store.specs.Models.{IsModel, is_true}
use Rattle.rising_numbers.specs.Rising.{RisesFrom}
use Rattle.symbol_map.specs.declared.map.Form.TheVariants.{Wcnf}
use Rattle.symbol_map.specs.declared.map.Place.{Place}
use Rattle.symbol_map.specs.Symbols.{Symbols}
use Rattle.symbol_map.specs.Restrict.{restrict}
use Rattle.symbol_map.specs.CutMap.{KeepsAtoms, cut_map}
use Rattle.symbol_map.specs.FaithfulMap.{CoversMap, FaithfulMap}
use Rattle.symbol_map.specs.Scale.{joined_cost}
use Rattle.symbol_map.proofs.RisingCuts.{filter-members}

-- ---- places of some atoms

restrict-cut_map : (atoms : List ℕ) (m : Symbols) (A : Set) → restrict (cut_map atoms m) A ≡ cut atoms (restrict m A)
restrict-cut_map atoms m A = fun_ext (λ a.
    any-filter_same (λ place. (place.atom == a) && is_true place.lit A) (λ place. members atoms place.atom) (members atoms a)
    (λ place e. ap (members atoms) (eqb-true place.atom a (and_parts (place.atom == a) _ e).0)) m.atoms)

atoms-filter : (atoms : List ℕ) (places : List Place) → map (λ place. place.atom) (filter (λ place. members atoms place.atom) places) ≡ filter (members atoms) (map (λ place. place.atom) places)
atoms-filter atoms [] = refl
atoms-filter atoms (place ∷ places) =
    by (members atoms place.atom) ∙ ap (λ zs. cond (members atoms place.atom) (place.atom ∷ zs) zs) (atoms-filter atoms places)
  where
    kept : List Place
    kept = filter (λ p. members atoms p.atom) places

    by : (b : Bool) → map (λ p. p.atom) (cond b (place ∷ kept) kept) ≡ cond b (place.atom ∷ map (λ p. p.atom) kept) (map (λ p. p.atom) kept)
    by true = refl
    by false = refl

-- of places that a function makes for atoms, those of some atoms are what it makes for these
filter-made : (place : ℕ → Place) (atoms ys : List ℕ) → ((a : ℕ) → (place a).atom ≡ a) → filter (λ p. members atoms p.atom) (map place ys) ≡ map place (filter (members atoms) ys)
filter-made place atoms [] h = refl
filter-made place atoms (y ∷ ys) h =
    ap₂ (λ b zs. cond b (place y ∷ zs) zs) (ap (members atoms) (h y)) (filter-made place atoms ys h) ∙ by (members atoms y)
  where
    by : (b : Bool) → cond b (place y ∷ map place (filter (members atoms) ys)) (map place (filter (members atoms) ys)) ≡ map place (cond b (y ∷ filter (members atoms) ys) (filter (members atoms) ys))
    by true = refl
    by false = refl

pub cut-places : (place : ℕ → Place) (xs ys : List ℕ) → ((a : ℕ) → (place a).atom ≡ a) → RisesFrom 0 xs → RisesFrom 0 ys → Within (members xs) (members ys)
    → filter (λ p. members xs p.atom) (map place ys) ≡ map place xs
cut-places place xs ys h r s within = filter-made place xs ys h ∙ ap (map place) (filter-members xs ys r s within)

-- ---- what stands for Q stands for P

pub CoversMap-compose : (P Q : Ground) (F : Clauses) (m : Symbols) → KeepsAtoms P Q → Covers P Q → CoversMap Q F m → CoversMap P F (cut_map P.atoms m)
CoversMap-compose P Q F m k c d =
    let here : (A : Set) → cut P.atoms (restrict m A) ≡ restrict (cut_map P.atoms m) A = λ A. sym (restrict-cut_map P.atoms m A) in
    record {
      map_of = record {
        vars = d.map_of.vars;
        atoms = atoms-filter P.atoms m.atoms ∙ (ap (filter (members P.atoms)) d.map_of.atoms ∙ filter-members P.atoms Q.atoms k.rise k.rise_too k.atoms);
        priorities = d.map_of.priorities ∙ k.priorities;
      };
      stable = λ A s. subst (Stable P) (here A) (c.stable (restrict m A) (d.stable A s));
      names = λ A s. d.names A s ∙ (c.names (restrict m A) (d.stable A s) ∙ ap (visible P) (here A));
      costs = λ A s. d.costs A s ∙ (c.costs (restrict m A) (d.stable A s) ∙ ap (cost P) (here A));
      onto = λ M s.
          let mid : (X : Set) × Stable Q X × Same (cut P.atoms X) M = c.onto M s in
          let top : (A : Set) × IsModel F A × Same (restrict m A) mid.0 = d.onto mid.0 mid.1 in
          (top.0, top.1, λ a. ap (λ X. X a) (sym (here top.0)) ∙ (Same-cut P.atoms (restrict m top.0) mid.0 top.2 a ∙ mid.2 a));
    }

pub FaithfulMap-compose : (P Q : Ground) (F : Clauses) (m : Symbols) → KeepsAtoms P Q
    → (m.form ≡ Wcnf → (costs : List ℤ) → joined_cost Q.levels costs ≡ joined_cost P.levels costs)
    → Faithful P Q → FaithfulMap Q F m → FaithfulMap P F (cut_map P.atoms m)
FaithfulMap-compose P Q F m k joins f g = record {
  covers = CoversMap-compose P Q F m k f.covers g.covers;
  one = λ A B s t e. g.one A B s t
      (f.one (restrict m A) (restrict m B) (g.covers.stable A s) (g.covers.stable B t)
      (λ a. ap (λ X. X a) (sym (restrict-cut_map P.atoms m A)) ∙ (e a ∙ ap (λ X. X a) (restrict-cut_map P.atoms m B))));
  soft = λ w. let j = g.soft w in record { sum = λ A s. j.sum A s ∙ joins w _; order = j.order };
}
