-- Without edges each node is a part of its own, and none is cyclic.
use Rattle.std.proofs.Common.{◌≡◌, ℕ, zero, suc, ◌<◌, ◌-◌, false, List, [], ◌∷◌, length, map, get_or, replicate, arith, refl, sym, ◌∙◌, ap, ⊎_elim, inl}
use Rattle.std.specs.List.{range_with_len}
use Rattle.std.proofs.lemmas.Bool.{true≢false}
use Rattle.std.proofs.lemmas.List.FromFn.{get_or-map-range_with_len, length-map-range_with_len}
use Rattle.asp_base.specs.Walks.{Reaches}
use Rattle.graph_parts.specs.Divided.{AreCycles, is_cyclic_at}
use Rattle.graph_parts.specs.Graph.{has_edge}
use Rattle.graph_parts.specs.Parts.{ArePartsAmong}

reaches-none : (u v : ℕ) → Reaches (has_edge []) u v → ⊥
reaches-none u v ([], walk) = true≢false (sym walk)
reaches-none u v (next ∷ rest, walk) = true≢false (sym walk.0)

none-cyclic : (m i : ℕ) → is_cyclic_at (replicate m false) i ≡ false
none-cyclic zero i = refl
none-cyclic (suc m) zero = refl
none-cyclic (suc m) (suc i) = none-cyclic m i

module _ (numbers : List ℕ) (n : ℕ) (are : numbers ≡ map suc (range_with_len 0 n)) where
  pub apart-sized : length numbers ≡ n
  apart-sized = ap length are ∙ length-map-range_with_len suc 0 n

  number : (u : ℕ) → u < length numbers → get_or numbers u 0 ≡ suc u
  number u h = ap (λ ns. get_or ns u 0) are ∙ get_or-map-range_with_len suc 0 n u u 0 (omega (arith, apart-sized, h)) (omega arith)

  pub apart-parts : ArePartsAmong (has_edge []) numbers n
  apart-parts = record {
    together = λ u v h k. (
      (λ e. inl (omega (arith, number u h, number v k, e))),
      ⊎_elim (λ e. ap (λ x. get_or numbers x 0) e) (λ r. absurd (reaches-none u v r.0)),
    );
    lower = λ u v h k r. absurd (reaches-none u v r);
    least = λ u h. omega (arith, number u h);
    most = λ u h. omega (arith, number u h, apart-sized, h);
    each = λ i low high. let within : i - 1 < length numbers = omega (arith, apart-sized, low, high) in
        (i - 1, within, omega (arith, number (i - 1) within, low));
  }

  pub apart-cycles : (m : ℕ) → AreCycles (has_edge []) numbers (replicate m false)
  apart-cycles m = record {
    each = λ u h. ((λ e. absurd (true≢false (sym e ∙ none-cyclic m (get_or numbers u 0)))), λ r. absurd (reaches-none u u r));
  }
