-- What the clauses of all cyclic components say, and how many there are.
use Rattle.std.proofs.Common.{◌≡◌, refl, ◌∙◌, ap, ℕ, ◌+◌, ◌*◌, ◌≤◌, ◌<◌, Bool, true, ◌&&◌, List, [], ◌∷◌, length, arith}
use Rattle.std.specs.List.{list_all, AllByRecursion}
use Rattle.asp_base.specs.Literal.{Literal}
use Rattle.asp_base.specs.Sets.{Set}
use Rattle.clause_store.specs.Additions.{IsSound}
use Rattle.clause_store.specs.Models.{clauses_true}
use Rattle.clause_store.specs.Stored.{Stored}
use Rattle.clause_store.proofs.GateLaws.{literals-up}
use Rattle.digit_gates.specs.Digits.{number_at, predecessor}
use Rattle.digit_gates.specs.DigitGates.{after_predecessor, predecessor_digits, IsPredecessor}
use Rattle.digit_gates.proofs.DigitGateLaws.{predecessor-is}
use Rattle.level_ranking.specs.Encoding.{Row, after_supported, after_nears, after_atom, after_atoms}
use Rattle.level_ranking.specs.private.Counts.{atom_vars, atom_clauses, atoms_vars, atoms_clauses, support_vars, support_clauses, near_vars, near_clauses}
use Rattle.level_ranking.proofs.Limits.{Limits, limits-adds, limits-nothing, limits-more, limits-compose}
use Rattle.level_ranking.proofs.AtomLaws.{HasDigits, IsRow, supported_test, nears_test, supported-limits, nears-limits}

-- what the clauses of an atom with the variable v say
abbrev pub atom_test : ℕ → (ℕ → List Literal) → ℕ → List Literal → List Row → Set → Bool
atom_test w digits v r rows A = supported_test w digits r v rows A && nears_test w digits r rows A

pub atom-limits : (n0 w : ℕ) → 0 < w → (digits : ℕ → List Literal) (v : ℕ) → 0 < v → v ≤ n0 → (r : List Literal) → HasDigits n0 w r → (rows : List Row) → AllByRecursion (IsRow n0 w digits) rows
    → (s : Stored) → n0 ≤ s.vars → IsSound s → Limits n0 (atom_vars w rows) (atom_clauses w rows) (atom_test w digits v r rows) s (after_atom v r digits rows s)
atom-limits n0 w wide digits v low high r own rows o s h x =
    let p : List Literal = predecessor_digits r s in
    let t : Stored = after_predecessor r s in
    let count : length r ≡ w = own.count in
    let g : IsPredecessor r p s t = predecessor-is r s (omega arith) x (literals-up n0 s.vars h r own.over) in
    let more : s.vars ≤ t.vars = g.adds.extends.vars in
    let lower : (A : Set) → clauses_true t.hard A ≡ true → number_at A p ≡ predecessor w (number_at A r) = λ A e. g.says A e ∙ ap (λ n. predecessor n (number_at A r)) count in
    let u : Stored = after_supported v p digits rows t in
    let i : Limits n0 (support_vars w rows) (support_clauses w rows + 1) (supported_test w digits r v rows) t u =
    supported-limits n0 w wide digits r p own (g.digits ∙ count) v low high rows t o (omega arith) (g.adds.sound) g.over lower in
    let up : t.vars ≤ u.vars = i.grows.up in
    let j : Limits n0 (near_vars w rows) (near_clauses w rows) (nears_test w digits r rows) u (after_nears r p digits rows u) =
    nears-limits n0 w wide digits r p own (g.digits ∙ count) rows u o (omega arith) i.grows.sound (literals-up t.vars u.vars up p g.over) (λ A e. lower A (i.grows.keeps A e)) in
    limits-more n0 (2 * length r + (support_vars w rows + near_vars w rows)) (7 * length r + ((support_clauses w rows + 1) + near_clauses w rows)) (atom_vars w rows) (atom_clauses w rows)
    (λ A. true && atom_test w digits v r rows A) (atom_test w digits v r rows) s (after_nears r p digits rows u) (omega arith) (omega arith) (λ A. refl)
    (limits-compose n0 (2 * length r) (7 * length r) (support_vars w rows + near_vars w rows) ((support_clauses w rows + 1) + near_clauses w rows) (λ A. true) (atom_test w digits v r rows) s t _
    (limits-adds n0 (2 * length r) (7 * length r) s t h g.adds)
    (limits-compose n0 (support_vars w rows) (support_clauses w rows + 1) (near_vars w rows) (near_clauses w rows) (supported_test w digits r v rows) (nears_test w digits r rows) t u _ i j))

-- ---- the atoms of a component

-- the variable, the digits and the rules of an atom are over the first n0 variables
pub record IsAtom (n0 w : ℕ) (var : ℕ → ℕ) (digits : ℕ → List Literal) (rows : ℕ → List Row) (a : ℕ) : Type 0 where
  pub low : 0 < var a
  pub high : var a ≤ n0
  pub own : HasDigits n0 w (digits a)
  pub rules : AllByRecursion (IsRow n0 w digits) (rows a)

module _ (n0 w : ℕ) (wide : 0 < w) (var : ℕ → ℕ) (digits : ℕ → List Literal) (rows : ℕ → List Row) where
  pub atoms-limits : (atoms : List ℕ) (s : Stored) → AllByRecursion (IsAtom n0 w var digits rows) atoms → n0 ≤ s.vars → IsSound s
      → Limits n0 (atoms_vars w rows atoms) (atoms_clauses w rows atoms) (λ A. list_all (λ a. atom_test w digits (var a) (digits a) (rows a) A) atoms) s (after_atoms var digits rows atoms s)
  atoms-limits [] s o h x = limits-nothing n0 s h x
  atoms-limits (a ∷ atoms) s o h x =
      let t : Stored = after_atom (var a) (digits a) digits (rows a) s in
      let i : Limits n0 (atom_vars w (rows a)) (atom_clauses w (rows a)) (atom_test w digits (var a) (digits a) (rows a)) s t =
      atom-limits n0 w wide digits (var a) o.0.low o.0.high (digits a) o.0.own (rows a) o.0.rules s h x in
      let up : s.vars ≤ t.vars = i.grows.up in
      limits-compose n0 (atom_vars w (rows a)) (atom_clauses w (rows a)) (atoms_vars w rows atoms) (atoms_clauses w rows atoms) (atom_test w digits (var a) (digits a) (rows a)) _ s t (after_atoms var digits rows atoms t) i
      (atoms-limits atoms t o.1 (omega arith) i.grows.sound)
