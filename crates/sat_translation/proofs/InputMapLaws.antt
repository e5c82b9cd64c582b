-- Through its map a formula with a program's stable models, over its atoms, stands for the program, with names and costs.
use Rattle.std.proofs.Common.{◌≡◌, refl, sym, ◌∙◌, ap, ap₂, subst, ℕ, ℤ, pos, ◌+ℤ◌, Bool, true, false, cond, ◌&&◌, ◌||◌, ◌==◌, List, [], ◌∷◌, map, filter}
use mathlib.Core.Path.{fun_ext}
use Rattle.std.proofs.lemmas.Bool.{true≢false, eqb-true}
use Rattle.asp_base.proofs.Bools.{or_false}
use Rattle.asp_base.specs.Literal.{Literal, all_hold}
use Rattle.asp_base.specs.Sets.{Set, members, Same}
use Rattle.ground_program.specs.Ground.{Ground}
use Rattle.ground_program.specs.Facts.{IsProgram}
use Rattle.ground_program.specs.Negative.{HasNegativeBodies}
use Rattle.ground_program.specs.Normal.{AreNormal}
use Rattle.rising_numbers.specs.Rising.{place}
use Rattle.ground_program.specs.Stable.{weight_of, costs_of, first_ones, Stable, visible, cost}
use Rattle.ground_program.specs.declared.program.Level.{Level}
use Rattle.ground_program.specs.declared.program.Show.{Show}
use Rattle.rising_numbers.proofs.PlaceLaws.{place-outside}
use Rattle.clause_store.specs.Clauses.{Clauses}
use Rattle.clause_store.specs.Models.{IsModel}
use Rattle.symbol_map.specs.declared.map.Form.TheVariants.{Cnf, Wcnf}
use Rattle.symbol_map.specs.Restrict.{atoms_true, restrict}
use Rattle.symbol_map.specs.FaithfulMap.{FaithfulMap}
use Rattle.completion.specs.Completion.{atoms_at, completion}
use Rattle.completion.specs.Supported.{HasStable}
use Rattle.completion.proofs.Places.{is_true-over, all_true-over}
use Rattle.completion.proofs.CompletionLaws.{zero_false}
use Rattle.completion.proofs.StableLaws.{completion-has_stable}
use Rattle.sat_translation.specs.InputMap.{placed, literals_over, show_over, items_over, level_over, input_map}

-- ---- the places

-- what the places say of an atom
placed-says : (atoms kept : List ℕ) (A : Set) (a : ℕ) → atoms_true (map (placed atoms) kept) A a ≡ (members kept a && A (place atoms a))
placed-says atoms [] A a = refl
placed-says atoms (x ∷ kept) A a = go (x == a) refl (members kept a) (placed-says atoms kept A a)
  where
    twice : (b : Bool) → (b || b) ≡ b
    twice true = refl
    twice false = refl

    go : (p : Bool) → (x == a) ≡ p → (q : Bool) → atoms_true (map (placed atoms) kept) A a ≡ (q && A (place atoms a))
        → ((p && A (place atoms x)) || atoms_true (map (placed atoms) kept) A a) ≡ ((p || q) && A (place atoms a))
    go true s true h = ap₂ (λ b d. b || d) (ap (λ y. A (place atoms y)) (eqb-true x a s)) h ∙ twice (A (place atoms a))
    go true s false h = ap₂ (λ b d. b || d) (ap (λ y. A (place atoms y)) (eqb-true x a s)) h ∙ or_false (A (place atoms a))
    go false s q h = h

pub restrict-is : (P : Ground) (vars : ℕ) (A : Set) → A 0 ≡ false → restrict (input_map P P.atoms vars) A ≡ atoms_at P.atoms A
restrict-is P vars A z = fun_ext (λ a. placed-says P.atoms P.atoms A a ∙ go a (members P.atoms a) refl)
  where
    go : (a : ℕ) (q : Bool) → members P.atoms a ≡ q → (q && A (place P.atoms a)) ≡ A (place P.atoms a)
    go a true e = refl
    go a false e = sym (ap A (place-outside P.atoms a e) ∙ z)

-- ---- names and costs

shown-over : (atoms : List ℕ) (shows : List Show) (A : Set)
    → map (λ show. show.name) (filter (λ show. all_hold show.condition A A) (map (show_over atoms) shows))
    ≡ map (λ show. show.name) (filter (λ show. all_hold show.condition (atoms_at atoms A) (atoms_at atoms A)) shows)
shown-over atoms [] A = refl
shown-over atoms (show ∷ shows) A =
    go (all_hold (literals_over atoms show.condition) A A) (all_hold show.condition (atoms_at atoms A) (atoms_at atoms A)) (all_true-over atoms show.condition A) (shown-over atoms shows A)
  where
    mapped : List Show
    mapped = filter (λ s. all_hold s.condition A A) (map (show_over atoms) shows)

    plain : List Show
    plain = filter (λ s. all_hold s.condition (atoms_at atoms A) (atoms_at atoms A)) shows

    go : (p q : Bool) → p ≡ q → map (λ s. s.name) mapped ≡ map (λ s. s.name) plain
        → map (λ s. s.name) (cond p (show_over atoms show ∷ mapped) mapped) ≡ map (λ s. s.name) (cond q (show ∷ plain) plain)
    go true true e h = ap (λ ns. show.name ∷ ns) h
    go false false e h = h
    go true false e h = absurd (true≢false e)
    go false true e h = absurd (true≢false (sym e))

weight-over : (atoms : List ℕ) (items : List (Literal × ℤ)) (A : Set) → weight_of (items_over atoms items) A A ≡ weight_of items (atoms_at atoms A) (atoms_at atoms A)
weight-over atoms [] A = refl
weight-over atoms (item ∷ items) A = ap₂ (λ b s. cond b item.1 (pos 0) +ℤ s) (is_true-over atoms item.0 A) (weight-over atoms items A)

pub costs-over : (atoms : List ℕ) (levels : List Level) (A : Set) → costs_of (map (level_over atoms) levels) A ≡ costs_of levels (atoms_at atoms A)
costs-over atoms [] A = refl
costs-over atoms (level ∷ levels) A = ap₂ ◌∷◌ (weight-over atoms level.items A) (costs-over atoms levels A)

pub atoms-placed : (atoms kept : List ℕ) → map (λ place. place.atom) (map (placed atoms) kept) ≡ kept
atoms-placed atoms [] = refl
atoms-placed atoms (x ∷ kept) = ap (λ ys. x ∷ ys) (atoms-placed atoms kept)

pub priorities-over : (atoms : List ℕ) (levels : List Level) → map (λ level. level.priority) (map (level_over atoms) levels) ≡ map (λ level. level.priority) levels
priorities-over atoms [] = refl
priorities-over atoms (level ∷ levels) = ap (λ ps. level.priority ∷ ps) (priorities-over atoms levels)

-- ---- all together

pub cnf_is_not : Cnf ≡ Wcnf → ⊥
cnf_is_not e = cc

-- a formula with the stable models of a program, over its atoms, stands for it through the map
pub over_atoms-faithful : (P : Ground) (F : Clauses) → HasStable P F → FaithfulMap P F (input_map P P.atoms F.vars)
over_atoms-faithful P F has =
    let is : (A : Set) → IsModel F A → restrict (input_map P P.atoms F.vars) A ≡ atoms_at P.atoms A = λ A m. restrict-is P F.vars A (zero_false _ A m.over) in
    record {
      covers = record {
        map_of = record { vars = refl; atoms = atoms-placed P.atoms P.atoms; priorities = priorities-over P.atoms P.levels };
        stable = λ A m. subst (Stable P) (sym (is A m)) (has.stable A m);
        names = λ A m. ap first_ones (shown-over P.atoms P.shows A) ∙ sym (ap (visible P) (is A m));
        costs = λ A m. costs-over P.atoms P.levels A ∙ sym (ap (cost P) (is A m));
        onto = λ M s.
            let top : (A : Set) × IsModel F A × Same (atoms_at P.atoms A) M = has.onto M s in
            (top.0, top.1, λ a. ap (λ X. X a) (is top.0 top.1) ∙ top.2 a);
      };
      one = λ A B m k e. has.one A B m k (λ a. ap (λ X. X a) (sym (is A m)) ∙ (e a ∙ ap (λ X. X a) (is B k)));
      soft = λ w. absurd (cnf_is_not w);
    }

pub completion-faithful : (P : Ground) → IsProgram P → AreNormal P.rules → HasNegativeBodies P.rules → P.edges ≡ []
    → FaithfulMap P (completion P) (input_map P P.atoms (completion P).vars)
completion-faithful P f n h none = over_atoms-faithful P (completion P) (completion-has_stable P f n h none)
