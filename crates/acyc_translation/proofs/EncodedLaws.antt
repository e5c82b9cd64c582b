-- What stands for a program's normal rules stands for the program, and what stands for an encoding stands for what was encoded.
use Rattle.std.proofs.Common.{◌≡◌, sym, ap, subst, ℕ, ◌+◌, ◌*◌, ◌≤◌, ◌^◌, map, length, Result, Ok, Err, IfOk, arith}
use Rattle.std.specs.List.{sum_by}
use Rattle.asp_base.specs.Sets.{members, Within}
use Rattle.ground_program.specs.Facts.{IsProgram}
use Rattle.ground_program.specs.Faithful.{Faithful}
use Rattle.ground_program.specs.Ground.{Ground}
use Rattle.ground_program.specs.Normal.{AreNormal}
use Rattle.ground_program.specs.Room.{room}
use Rattle.ground_program.specs.Size.{size}
use Rattle.ground_program.proofs.Compose.{Covers-compose, Faithful-compose}
use Rattle.clause_store.specs.Clauses.{Clauses}
use Rattle.completion.specs.Supported.{HasStable}
use Rattle.symbol_map.specs.declared.map.Form.TheVariants as forms
use Rattle.symbol_map.specs.CutMap.{KeepsAtoms}
use Rattle.symbol_map.specs.FaithfulMap.{CoversMap, FaithfulMap}
use Rattle.symbol_map.specs.Symbols.{Symbols}
use Rattle.symbol_map.proofs.ComposeMap.{CoversMap-compose, FaithfulMap-compose}
use Rattle.sat_translation.specs.InputMap.{input_map}
use Rattle.sat_translation.proofs.InputMapLaws.{over_atoms-faithful, cnf_is_not}
use Rattle.sat_translation.proofs.MadeLaws.{cut-is}
use Rattle.acyc_translation.specs.Encoded.{StandsFor, StandsThrough, IsBound, IsAcyclic, IsEncoded, FitsClauses}
use Rattle.acyc_translation.specs.declared.encoding.Encoding.{Encoding}
use Rattle.acyc_translation.specs.declared.encoding.Encoding.TheVariants.{Plain, Unique}
use Rattle.acyc_translation.specs.private.Made.{MadeOf, IsLight, FitsSize, with_form}

-- ---- answers

pub ok-weaker : {A E : Type 0} (P Q : A → Type 0) → ((x : A) → P x → Q x) → (r : Result A E) → IfOk r P → IfOk r Q
ok-weaker P Q h (Ok x) k = h x k
ok-weaker P Q h (Err e) k = k

-- ---- programs

stands-compose : (encoding : Encoding) (P N Q : Ground) → Within (members P.atoms) (members N.atoms) → Faithful P N → StandsFor encoding N Q → StandsFor encoding P Q
stands-compose Plain P N Q w f s = Covers-compose P N Q w f.covers s
stands-compose Unique P N Q w f s = Faithful-compose P N Q w f s

pub made-acyclic : (encoding : Encoding) (P N Q : Ground) (most : ℕ) → Faithful P N → Within (members P.atoms) (members N.atoms)
    → IsBound encoding P most → MadeOf encoding N Q most → IsAcyclic encoding P Q
made-acyclic encoding P N Q most f w bound made = record {
  stands = stands-compose encoding P N Q w f made.stands;
  normal = made.normal;
  acyclic = made.acyclic;
  atoms = λ a h. made.atoms a (w a h);
  size = (most, bound, made.size);
}

pub made-encoded : (encoding : Encoding) (P N Q : Ground) (most : ℕ) → (AreNormal P.rules → N ≡ P) → MadeOf encoding N Q most → AreNormal P.rules → IsEncoded encoding P Q
made-encoded encoding P N Q most same made normal = subst (λ (X : Ground). IsEncoded encoding X Q) (same normal) made.encoded

-- a larger bound
pub made-more : (encoding : Encoding) (N Q : Ground) (m n : ℕ) → m ≤ n → MadeOf encoding N Q m → MadeOf encoding N Q n
made-more encoding N Q m n l made = let s : size Q ≤ m = made.size in record {
  stands = made.stands;
  normal = made.normal;
  acyclic = made.acyclic;
  atoms = made.atoms;
  levels = made.levels;
  size = omega arith;
  encoded = made.encoded;
}

pub bound-few : (encoding : Encoding) (P : Ground) (most : ℕ) → room P ≤ 2 ^ 24 → IsBound encoding P most → most ≤ 2 ^ 28
bound-few Plain P most l e = let is : most ≡ 12 * room P = e in omega arith
bound-few Unique P most l e = let few : e.0 ≤ 2 ^ 24 = e.2 in let is : most ≡ 8 * (e.0 + room P) = e.3 in omega arith

-- the levels have no more items than the size of what they are the levels of
pub light-from : (N Q : Ground) → size N ≤ 2 ^ 24 → Q.levels ≡ N.levels → IsLight Q
light-from N Q small same =
    let mine : sum_by (λ level. 1 + length level.items) N.levels ≤ 2 ^ 24 = omega arith in
    subst (λ levels. sum_by (λ level. 1 + length level.items) levels ≤ 2 ^ 24) (sym same) mine

-- ---- formulas

pub ecnf_is_not : forms.Ecnf ≡ forms.Wcnf → ⊥
ecnf_is_not e = cc

covers-ecnf : (P : Ground) (F : Clauses) (m : Symbols) → CoversMap P F m → CoversMap P F (with_form forms.Ecnf m)
covers-ecnf P F m h = record {
  map_of = record { vars = h.map_of.vars; atoms = h.map_of.atoms; priorities = h.map_of.priorities };
  stable = h.stable;
  names = h.names;
  costs = h.costs;
  onto = h.onto;
}

keeps : (P Q : Ground) → IsProgram P → IsProgram Q → Within (members P.atoms) (members Q.atoms) → Q.levels ≡ P.levels → KeepsAtoms P Q
keeps P Q p q w e = record { rise = p.atoms_rise; rise_too = q.atoms_rise; atoms = w; priorities = ap (map (λ level. level.priority)) e }

pub through-map : (encoding : Encoding) (P Q : Ground) (F : Clauses) → IsProgram P → IsProgram Q → Within (members P.atoms) (members Q.atoms) → Q.levels ≡ P.levels
    → StandsFor encoding P Q → HasStable Q F → StandsThrough encoding P F (with_form forms.Ecnf (input_map Q P.atoms F.vars))
through-map Plain P Q F p q w e s has =
    covers-ecnf P F (input_map Q P.atoms F.vars)
    (subst (CoversMap P F) (cut-is P Q F.vars p q w)
    (CoversMap-compose P Q F (input_map Q Q.atoms F.vars) (keeps P Q p q w e) s (over_atoms-faithful Q F has).covers))
through-map Unique P Q F p q w e s has =
    let f : FaithfulMap P F (input_map Q P.atoms F.vars) =
    subst (FaithfulMap P F) (cut-is P Q F.vars p q w)
    (FaithfulMap-compose P Q F (input_map Q Q.atoms F.vars) (keeps P Q p q w e) (λ wcnf. absurd (cnf_is_not wcnf)) s (over_atoms-faithful Q F has)) in
    record {
      covers = covers-ecnf P F (input_map Q P.atoms F.vars) f.covers;
      one = f.one;
      soft = λ wcnf. absurd (ecnf_is_not wcnf);
    }

pub fits-clauses : (encoding : Encoding) (P Q : Ground) (F : Clauses) → IsAcyclic encoding P Q → FitsSize Q F → FitsClauses encoding P F
fits-clauses encoding P Q F made f =
    let few : size Q ≤ made.size.0 = made.size.2 in
    let vars : F.vars ≤ 2 * size Q = f.vars in
    let hard : length F.hard ≤ 3 * size Q = f.hard in
    (made.size.0, made.size.1, omega arith, omega arith)
