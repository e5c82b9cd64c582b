-- Edges that are sorted by their first nodes.
use Rattle.std.proofs.Common.{◌≡◌, ◌≢◌, ℕ, zero, suc, ◌<◌, ◌≤◌, Bool, true, false, ◌&&◌, ◌⊎◌, ℤ, pos, ◌<ℤ◌, List, [], ◌∷◌, length, cond, get_or, arith, refl, sym, ◌∙◌, subst, ⊎_elim, inl, inr, ap}
use mathlib.Core.Path.{fun_ext}
use Rattle.std.specs.Int.RustNames.{int_lt}
use Rattle.std.specs.List.Sorted.{IsSorted, IsPartitionedBy, IsPartitionPoint}
use Rattle.std.specs.Ordering.{int_eq, int_cmp, is_lt, ordering_then}
use Rattle.std.specs.declared.cmp.Ordering.TheVariants.{Less, Equal, Greater}
use Rattle.std.proofs.lemmas.Cmp.{then_total, on_total, int_cmp_total}
use Rattle.std.proofs.lemmas.List.{get_or_default}
use Rattle.std.proofs.lemmas.List.Sorted.{ranks_by, sorted_far}
use Rattle.std.proofs.lemmas.Bool.{cond-true, cases_lt, cases_order, and_from, and_parts, or_left, or_right, or_cases, true≢false}
use Rattle.std.proofs.lemmas.Bool.Decides.{Decides-int_eq}
use Rattle.asp_base.proofs.IntegerTests.{lt-from_test, le-from_test, test-from_lt}
use Rattle.std.proofs.lemmas.Int.{ints, by_lt_z}
use Rattle.graph_cycles.specs.private.Arcs.{arc_at, Ascends, Starts}
use Rattle.graph_cycles.specs.Cycle.{leads}

pub same-int : (x y : ℤ) → x ≡ y → int_eq x y ≡ true
same-int x y = (Decides-int_eq x y).1

pub int-same : (x y : ℤ) → int_eq x y ≡ true → x ≡ y
int-same x y = (Decides-int_eq x y).0

pub cases-int : (x y : ℤ) → (x ≡ y) ⊎ (x ≢ y)
cases-int x y = go (int_eq x y) refl where
  go : (b : Bool) → int_eq x y ≡ b → (x ≡ y) ⊎ (x ≢ y)
  go true e = inl (int-same x y e)
  go false e = inr (λ same. absurd (true≢false (sym (same-int x y same) ∙ e)))

pub leads-at : (arcs : List (ℤ × ℤ)) (j : ℕ) → j < length arcs → leads arcs (arc_at arcs j).0 (arc_at arcs j).1 ≡ true
leads-at [] j below = absurd (omega arith)
leads-at (arc ∷ arcs) zero below =
    or_left _ _ (and_from _ _ (same-int arc.0 arc.0 refl) (same-int arc.1 arc.1 refl))
leads-at (arc ∷ arcs) (suc j) below = or_right _ _ (leads-at arcs j (omega arith))

pub leads-found : (arcs : List (ℤ × ℤ)) (from to : ℤ) → leads arcs from to ≡ true → (j : ℕ) × (j < length arcs) × ((arc_at arcs j).0 ≡ from) × ((arc_at arcs j).1 ≡ to)
leads-found [] from to e = absurd (true≢false (sym e))
leads-found (arc ∷ arcs) from to e =
    ⊎_elim (λ here. let both = and_parts (int_eq arc.0 from) (int_eq arc.1 to) here in
    (0, omega arith, int-same arc.0 from both.0, int-same arc.1 to both.1))
    (λ there. let found = leads-found arcs from to there in
    (suc found.0, omega arith, found.2, found.3))
    (or_cases (int_eq arc.0 from && int_eq arc.1 to) (leads arcs from to) e)

pub not_below : (x y : ℤ) → x ≡ y → x <ℤ y → ⊥
not_below x y e l = omega (arith, ints)

pub Starts-one : (arcs : List (ℤ × ℤ)) (node : ℤ) (s t : ℕ) → Starts arcs node s → Starts arcs node t → s ≡ t
Starts-one arcs node s t one other =
    ⊎_elim (λ e. e)
    (λ apart. absurd (⊎_elim (λ less. not_below _ _ one.here (other.first s less)) (λ less. not_below _ _ other.here (one.first t less)) apart))
    (cases_order s t)

-- a node with an edge has a place where its edges begin
pub starts-before : (arcs : List (ℤ × ℤ)) → Ascends arcs → (j : ℕ) → j < length arcs → (start : ℕ) × Starts arcs (arc_at arcs j).0 start
starts-before arcs ascends zero below =
    (0, record { within = below; here = refl; first = λ i less. absurd (omega arith) })
starts-before arcs ascends (suc j) below =
    let before : (start : ℕ) × Starts arcs (arc_at arcs j).0 start = starts-before arcs ascends j (omega arith) in
    by_lt_z (arc_at arcs j).0 (arc_at arcs (suc j)).0
    (λ less. (
      suc j,
      record {
        within = below;
        here = refl;
        first = λ i under. let rises = ascends i j (omega arith) (omega arith) in omega (arith, ints);
      },
    ))
    (λ least. let rises = ascends j (suc j) (omega arith) below in
    let same : (arc_at arcs j).0 ≡ (arc_at arcs (suc j)).0 = omega (arith, ints) in
    (before.0, subst (λ node. Starts arcs node before.0) same before.1))

below-cmp : (x y : ℤ) → x <ℤ y → int_cmp x y ≡ Less
below-cmp x y less = cond-true (int_lt x y) Less (cond (int_lt y x) Greater Equal) (test-from_lt x y less)

sooner : (one other : ℤ × ℤ) → one.0 <ℤ other.0 → is_lt (ordering_then (int_cmp one.0 other.0) (int_cmp one.1 other.1)) ≡ true
sooner one other less =
    ap (λ order. is_lt (ordering_then order (int_cmp one.1 other.1))) (below-cmp one.0 other.0 less)

-- a sort brings the edges in order
pub ascends-from_sorted : (arcs : List (ℤ × ℤ)) → IsSorted (λ one other. ordering_then (int_cmp one.0 other.0) (int_cmp one.1 other.1)) arcs → Ascends arcs
ascends-from_sorted arcs sorted i j rises below =
    let order = ranks_by (then_total (on_total (λ (arc : ℤ × ℤ). arc.0) int_cmp_total) (on_total (λ (arc : ℤ × ℤ). arc.1) int_cmp_total)) (λ (arc : ℤ × ℤ). arc) in
    let far = sorted_far (λ one other. is_lt (ordering_then (int_cmp one.0 other.0) (int_cmp one.1 other.1))) order arcs sorted i j (pos 0, pos 0) rises below in
    by_lt_z (arc_at arcs j).0 (arc_at arcs i).0
    (λ less. absurd (true≢false (sym (sooner (arc_at arcs j) (arc_at arcs i) less) ∙ far)))
    (λ least. least)

at-default : (arcs : List (ℤ × ℤ)) (i : ℕ) (d : ℤ × ℤ) → i < length arcs → get_or arcs i d ≡ arc_at arcs i
at-default arcs i d below = get_or_default arcs i d (pos 0, pos 0) below

-- a binary search for a node may be made
pub parted : (arcs : List (ℤ × ℤ)) (node : ℤ) → Ascends arcs → IsPartitionedBy (λ arc. int_lt arc.0 node) arcs
parted arcs node ascends i j d rises below test =
    let rise = ascends i j rises below in
    let under = lt-from_test (arc_at arcs j).0 node (ap (λ arc. int_lt arc.0 node) (sym (at-default arcs j d below)) ∙ test) in
    let lower : (arc_at arcs i).0 <ℤ node = omega (arith, ints) in
    ap (λ arc. int_lt arc.0 node) (at-default arcs i d (omega arith)) ∙ test-from_lt (arc_at arcs i).0 node lower

-- what it finds

abbrev pub IsPoint : List (ℤ × ℤ) → ℤ → ℕ → Type 0
IsPoint arcs node i = IsPartitionPoint (λ arc. int_lt arc.0 node ≡ true) (λ arc. int_lt arc.0 node ≡ false) arcs i

pub starts-at : (arcs : List (ℤ × ℤ)) (node : ℤ) (i : ℕ) → IsPoint arcs node i → i < length arcs → (arc_at arcs i).0 ≡ node → Starts arcs node i
starts-at arcs node i point below here = record {
  within = below;
  here = here;
  first = λ j less. lt-from_test (arc_at arcs j).0 node (point.0 j (pos 0, pos 0) (omega arith) less);
}

pub starts-not : (arcs : List (ℤ × ℤ)) (node : ℤ) (i : ℕ) → Ascends arcs → IsPoint arcs node i → (i < length arcs → (arc_at arcs i).0 ≡ node → ⊥) → (start : ℕ) → Starts arcs node start → ⊥
starts-not arcs node i ascends point apart start starts =
    ⊎_elim (λ (less : start < i). not_below (arc_at arcs start).0 node starts.here (lt-from_test (arc_at arcs start).0 node (point.0 start (pos 0, pos 0) (omega arith) less)))
    (λ (least : i ≤ start). let within = starts.within in
    let rise = ascends i start least within in
    let above = le-from_test (arc_at arcs i).0 node (point.1 i (pos 0, pos 0) (omega arith) (omega arith)) in
    let here = starts.here in
    apart (omega arith) (omega (arith, ints)))
    (cases_lt start i)

-- the edges of a node end where another node stands
pub ended : (arcs : List (ℤ × ℤ)) → Ascends arcs → (start at : ℕ) → start ≤ at → (at < length arcs → (arc_at arcs at).0 ≡ (arc_at arcs start).0 → ⊥) → (j : ℕ) → j < length arcs → (arc_at arcs j).0 ≡ (arc_at arcs start).0 → j < at
ended arcs ascends start at begun apart j below here =
    ⊎_elim (λ (less : j < at). less)
    (λ (least : at ≤ j). let low = ascends start at begun (omega arith) in
    let high = ascends at j least below in
    absurd (apart (omega arith) (omega (arith, ints))))
    (cases_lt j at)

pub same-leads : (copied arcs edges : List (ℤ × ℤ)) → copied ≡ arcs → ((from to : ℤ) → leads arcs from to ≡ leads edges from to) → leads copied ≡ leads edges
same-leads copied arcs edges same agree =
    ap leads same ∙ fun_ext (λ from. fun_ext (λ to. agree from to))
