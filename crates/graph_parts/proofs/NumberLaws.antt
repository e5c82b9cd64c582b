-- What the numbers are when every node is found and the chain is empty.
use Rattle.std.proofs.Common.{◌≡◌, ◌≢◌, ℕ, ◌+◌, ◌<◌, ◌≤◌, true, false, List, [], length, get_or, Option, None, Some, arith, refl, sym, ap, subst, ⊎_elim}
use Rattle.std.specs.Option.{is_none}
use Rattle.std.proofs.lemmas.Bool.{cases_lt}
use Rattle.std.proofs.lemmas.List.{get_or_past}
use Rattle.asp_base.specs.Walks.{Reaches}
use Rattle.graph_parts.specs.Graph.{leads}
use Rattle.graph_parts.specs.Parts.{AreParts}
use Rattle.graph_parts.specs.private.Searching.{Searching, place_at}
use Rattle.graph_parts.proofs.Ways.{leads-found, walk-falls, way-together}
use Rattle.graph_parts.proofs.Held.{chain-empty}

module _ (starts targets : List ℕ) (places : List (Option ℕ)) (numbers at nodes bounds work : List ℕ) (count : ℕ) (s : Searching starts targets places numbers at nodes bounds work count) (empty : bounds ≡ []) (found : (u : ℕ) → u + 1 < length starts → is_none (place_at places u) ≡ false) where
  numbered : (u : ℕ) → u + 1 < length starts → get_or numbers u 0 ≢ 0
  numbered u inside without = go (place_at places u) refl
    where
      go : (place : Option ℕ) → place_at places u ≡ place → ⊥
      go None is = let f = found u inside in let e : is_none (place_at places u) ≡ true = ap is_none is in cc
      go (Some k) is =
          let t = s.placed.there u k is without in
          let none = chain-empty starts targets places numbers at nodes bounds work count s empty in omega arith

  falls : (u v : ℕ) → leads starts targets u v ≡ true → get_or numbers v 0 ≤ get_or numbers u 0
  falls u v edge =
      let found = leads-found starts targets u v edge in
      subst (λ w. get_or numbers w 0 ≤ get_or numbers u 0) found.3
      (⊎_elim (λ (inside : u + 1 < length starts). (s.closed.lower u found.0 (numbered u inside) found.1 found.2).1)
      (λ (outside : length starts ≤ u + 1). let past = get_or_past starts (u + 1) 0 outside in let low = found.2 in absurd (omega arith))
      (cases_lt (u + 1) (length starts)))

  pub are-parts : AreParts (leads starts targets) numbers count
  are-parts =
      let sized = s.counted.numbers_sized in
      record {
        together = λ u v in_u in_v. (
          λ same. way-together _ u v (s.closed.joined u v (numbered u (omega arith)) same) (s.closed.joined v u (numbered v (omega arith)) (sym same)),
          λ together. ⊎_elim (λ (same : u ≡ v). ap (λ w. get_or numbers w 0) same)
              (λ (both : Reaches (leads starts targets) u v × Reaches (leads starts targets) v u).
              let one = walk-falls (leads starts targets) (λ w. get_or numbers w 0) falls u both.0.0 v both.0.1 in
              let other = walk-falls (leads starts targets) (λ w. get_or numbers w 0) falls v both.1.0 u both.1.1 in
              omega arith)
              together,
        );
        lower = falls;
        least = λ u inside. let n = numbered u (omega arith) in omega arith;
        most = λ u inside. s.closed.most u;
        each = λ i low high. let e = s.closed.each i low high in (e.0, stands-inside e.0 i low e.1, e.1);
      }
    where
      stands-inside : (u i : ℕ) → 1 ≤ i → get_or numbers u 0 ≡ i → u < length numbers
      stands-inside u i low is = ⊎_elim (λ (inside : u < length numbers). inside)
          (λ (outside : length numbers ≤ u). let past = get_or_past numbers u 0 outside in absurd (omega arith))
          (cases_lt u (length numbers))
