-- The map of a formula over a program's atoms is a map: there is a variable for each atom, and renaming keeps what is true of a
-- program.
use Rattle.std.proofs.Common.{◌≡◌, refl, sym, subst, ℕ, ℤ, pos, ◌+◌, ◌<◌, ◌≤◌, ◌^◌, List, [], ◌∷◌, map, length, arith}
use Rattle.std.specs.List.{AllByRecursion, sum_by}
use Rattle.std.proofs.lemmas.List.{length-map}
use Rattle.std.proofs.lemmas.List.Sums.{sum_by-cons}
use Rattle.asp_base.specs.Literal.{Literal, Pos, Neg, atom_of}
use Rattle.asp_base.specs.Sets.{members, Within}
use Rattle.std.proofs.lemmas.Bool.{or_left, or_right, eq-eqb}
use Rattle.ground_program.specs.Occurrences.{over_variables}
use Rattle.ground_program.specs.Facts.{FallsFrom, IsAtom, IsShort, IsPriority, Among, LiteralsFit, LevelFits, ShowFits, FitsWeight, IsProgram}
use Rattle.rising_numbers.specs.Rising.{RisesFrom}
use Rattle.ground_program.specs.Ground.{Ground}
use Rattle.ground_program.specs.declared.program.Level.{Level}
use Rattle.ground_program.specs.declared.program.Show.{Show}
use Rattle.rising_numbers.proofs.PlaceLaws.{place-within}
use Rattle.symbol_map.specs.declared.map.Form.TheVariants.{Cnf}
use Rattle.symbol_map.specs.declared.map.Place.{Place}
use Rattle.symbol_map.specs.IsMap.{IsMap, PlacesRise, IsVariable}
use Rattle.sat_translation.specs.InputMap.{input_map, placed, literals_over, show_over, level_over}

-- ---- the parts of the map

places-rise : (atoms : List ℕ) (low : ℕ) (kept : List ℕ) → RisesFrom low kept → PlacesRise low (map (placed atoms) kept)
places-rise atoms low [] r = tt
places-rise atoms low (a ∷ kept) r = (r.0, places-rise atoms a kept r.1)

-- rising atoms among others are atoms
pub kept-fit : (atoms : List ℕ) (low : ℕ) (kept : List ℕ) → RisesFrom low kept → AllByRecursion (λ a. a ≤ 2 ^ 30) kept
    → Within (members kept) (members atoms) → AllByRecursion (λ a. IsAtom a × Among atoms a) kept
kept-fit atoms low [] r f w = tt
kept-fit atoms low (a ∷ kept) r f w =
    let above : low < a = r.0 in
    (((omega arith, f.0), w a (or_left _ _ (eq-eqb a a refl))), kept-fit atoms a kept r.1 f.1 (λ b m. w b (or_right _ _ m)))

-- what renaming makes of each element
each-renamed : {A B : Type 0} (f : A → B) (P : A → Type 0) (Q : B → Type 0) → ((x : A) → P x → Q (f x)) → (xs : List A) → AllByRecursion P xs → AllByRecursion Q (map f xs)
each-renamed f P Q h [] k = tt
each-renamed f P Q h (x ∷ xs) k = (h x k.0, each-renamed f P Q h xs k.1)

module _ (atoms : List ℕ) (vars : ℕ) (enough : length atoms ≤ vars) where
  literal-renamed : (l : Literal) → Among atoms (atom_of l) → IsVariable vars (atom_of (over_variables atoms l))
  literal-renamed (Pos a) h = let within : (0 < _) × (_ ≤ length atoms) = place-within atoms a h in (within.0, omega arith)
  literal-renamed (Neg a) h = let within : (0 < _) × (_ ≤ length atoms) = place-within atoms a h in (within.0, omega arith)

  literals-renamed : (lits : List Literal) → LiteralsFit (Among atoms) lits → LiteralsFit (IsVariable vars) (literals_over atoms lits)
  literals-renamed lits h = each-renamed (over_variables atoms) (λ l. Among atoms (atom_of l)) (λ l. IsVariable vars (atom_of l)) literal-renamed lits h

  show-renamed : (show : Show) → ShowFits (Among atoms) show → ShowFits (IsVariable vars) (show_over atoms show)
  show-renamed show h = (h.0, (rw length-map h.1.0, literals-renamed show.condition h.1.1))

  level-renamed : (level : Level) → LevelFits (Among atoms) level → LevelFits (IsVariable vars) (level_over atoms level)
  level-renamed level h = each-renamed (λ item. (over_variables atoms item.0, item.1)) (λ item. Among atoms (atom_of item.0) × FitsWeight item.1) (λ item. IsVariable vars (atom_of item.0) × FitsWeight item.1) (λ item k. (literal-renamed item.0 k.0, k.1)) level.items h

  levels-renamed : (levels : List Level) → sum_by (λ level. 1 + length level.items) levels ≤ 2 ^ 24 → AllByRecursion (LevelFits (Among atoms)) levels → AllByRecursion (λ level. IsShort level.items × LevelFits (IsVariable vars) level) (map (level_over atoms) levels)
  levels-renamed [] h k = tt
  levels-renamed (level ∷ levels) h k =
      let both : 1 + length level.items + sum_by (λ l. 1 + length l.items) levels ≤ 2 ^ 24 = rw sum_by-cons at h in
      ((rw length-map (omega arith), level-renamed level k.0), levels-renamed levels (omega arith) k.1)

falls-renamed : (atoms : List ℕ) (high : ℤ) (levels : List Level) → FallsFrom high levels → FallsFrom high (map (level_over atoms) levels)
falls-renamed atoms high [] f = tt
falls-renamed atoms high (level ∷ levels) f = (f.0, falls-renamed atoms level.priority levels f.1)

pub input_map-is_map : (P : Ground) (kept : List ℕ) (vars : ℕ) → IsProgram P → sum_by (λ level. 1 + length level.items) P.levels ≤ 2 ^ 24 → length P.atoms ≤ vars → vars < 2 ^ 31
    → RisesFrom 0 kept → AllByRecursion (λ a. IsAtom a × Among P.atoms a) kept → IsMap (input_map P kept vars)
input_map-is_map P kept vars f small enough room rise fit =
    record {
      vars = omega arith;
      atoms_rise = places-rise P.atoms 0 kept rise;
      atoms = each-renamed (placed P.atoms) (λ a. IsAtom a × Among P.atoms a) (λ place. IsAtom place.atom × IsVariable vars (atom_of place.lit))
          (λ a k. (k.0, literal-renamed P.atoms vars enough (Pos a) k.1)) kept fit;
      shows = each-renamed (show_over P.atoms) (ShowFits (Among P.atoms)) (ShowFits (IsVariable vars)) (show-renamed P.atoms vars enough) P.shows f.shows;
      levels = levels-renamed P.atoms vars enough P.levels small f.levels;
      priorities = falls-renamed P.atoms (pos (2 ^ 31)) P.levels f.priorities;
      priorities_fit = each-renamed (level_over P.atoms) (λ level. IsPriority level.priority) (λ level. IsPriority level.priority) (λ level k. k) P.levels f.priorities_fit;
    }

-- a map of these parts is one
pub input_map-made : (P : Ground) (kept : List ℕ) (vars : ℕ) (places : List Place) (shows : List Show) (levels : List Level) → IsProgram P → sum_by (λ level. 1 + length level.items) P.levels ≤ 2 ^ 24
    → length P.atoms ≤ vars → vars < 2 ^ 31 → RisesFrom 0 kept → AllByRecursion (λ a. IsAtom a × Among P.atoms a) kept
    → places ≡ map (placed P.atoms) kept → shows ≡ map (show_over P.atoms) P.shows → levels ≡ map (level_over P.atoms) P.levels
    → IsMap (record { form = Cnf; vars = vars; atoms = places; shows = shows; levels = levels })
input_map-made P kept vars places shows levels f small enough room rise fit a b d =
    let same : record { form = Cnf; vars = vars; atoms = places; shows = shows; levels = levels } ≡ input_map P kept vars = cc in
    subst IsMap (sym same) (input_map-is_map P kept vars f small enough room rise fit)
