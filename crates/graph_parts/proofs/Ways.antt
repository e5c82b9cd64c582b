-- Walks of any number of steps, and the steps of a graph in flat lists.
use Rattle.std.proofs.Common.{◌≡◌, ℕ, ◌+◌, ◌-◌, ◌<◌, ◌≤◌, Bool, true, ◌==◌, List, [], ◌∷◌, ◌++◌, length, take, drop, get_or, arith, refl, sym, ◌∙◌, ap, subst, ⊎_elim, inl, inr, eq-eqb, eqb-true, add-one}
use Rattle.std.specs.List.{list_any}
use Rattle.std.proofs.lemmas.Bool.{or_cases, true≢false}
use Rattle.std.proofs.lemmas.List.{get_or-drop, get_or-take, length-drop, length-take}
use Rattle.std.proofs.lemmas.List.Folds.{list_any_at}
use Rattle.asp_base.specs.Walks.{IsWalk, Reaches}
use Rattle.graph_cycles.proofs.WalkLaws.{walk-join, walk-stays}
use Rattle.graph_parts.specs.Graph.{IsGraph, leads}
use Rattle.graph_parts.specs.Parts.{Together}
use Rattle.graph_parts.specs.private.Searching.{Way}

-- a number that no step raises is not raised by a walk
pub walk-falls : {N : Type 0} (step : N → N → Bool) (number : N → ℕ) → ((u v : N) → step u v ≡ true → number v ≤ number u) → (from : N) (by : List N) (to : N) → IsWalk step from by to → number to ≤ number from
walk-falls step number falls from by to walk =
    walk-stays step (λ node. number node ≤ number from) (λ node next low edge. let one = falls node next edge in omega arith)
    from by to (omega arith) walk

pub way-step : {N : Type 0} (step : N → N → Bool) (u v : N) → step u v ≡ true → Way step u v
way-step step u v edge = inr ([], edge)

pub way-same : {N : Type 0} (step : N → N → Bool) (u v : N) → u ≡ v → Way step u v
way-same step u v same = inl same

pub way-then : {N : Type 0} (step : N → N → Bool) (u v w : N) → Way step u v → Way step v w → Way step u w
way-then step u v w first second =
    ⊎_elim (λ (same : u ≡ v). subst (λ x. Way step x w) (sym same) second)
    (λ (some : Reaches step u v). ⊎_elim (λ (same : v ≡ w). subst (λ x. Way step u x) same first)
    (λ (more : Reaches step v w). inr (some.0 ++ (v ∷ more.0), walk-join step u some.0 v more.0 w some.1 more.1))
    second)
    first

pub way-together : {N : Type 0} (step : N → N → Bool) (u v : N) → Way step u v → Way step v u → Together step u v
way-together step u v there back =
    ⊎_elim (λ (same : u ≡ v). inl same)
    (λ (one : Reaches step u v). ⊎_elim (λ (same : v ≡ u). inl (sym same)) (λ (other : Reaches step v u). inr (one, other)) back)
    there

-- ---- the steps of a graph

pub found-at : (v : ℕ) (xs : List ℕ) → list_any (λ x. x == v) xs ≡ true → (k : ℕ) × (k < length xs) × (get_or xs k 0 ≡ v)
found-at v [] e = absurd (true≢false (sym e))
found-at v (x ∷ xs) e =
    ⊎_elim (λ (here : (x == v) ≡ true). (0, omega arith, eqb-true x v here))
    (λ there. let found = found-at v xs there in (found.0 + 1, omega arith, later x xs found.0 ∙ found.2))
    (or_cases (x == v) (list_any (λ x. x == v) xs) e)
  where
    later : (x : ℕ) (xs : List ℕ) (k : ℕ) → get_or (x ∷ xs) (k + 1) 0 ≡ get_or xs k 0
    later x xs k = rw add-one refl

pub leads-found : (starts targets : List ℕ) (u v : ℕ) → leads starts targets u v ≡ true → (j : ℕ) × (get_or starts u 0 ≤ j) × (j < get_or starts (u + 1) 0) × (get_or targets j 0 ≡ v)
leads-found starts targets u v edge =
    let start = get_or starts u 0 in
    let size = get_or starts (u + 1) 0 - get_or starts u 0 in
    let found = found-at v (take size (drop start targets)) edge in
    let long = length-take size (drop start targets) in
    let low : found.0 < size = omega arith in
    (start + found.0, omega arith, omega arith, sym (get_or-take size (drop start targets) found.0 0 low ∙ get_or-drop start targets found.0 0) ∙ found.2)

pub leads-at : (starts targets : List ℕ) → IsGraph starts targets → (u j : ℕ) → u + 1 < length starts → get_or starts u 0 ≤ j → j < get_or starts (u + 1) 0 → leads starts targets u (get_or targets j 0) ≡ true
leads-at starts targets graph u j node low high =
    let start = get_or starts u 0 in
    let size = get_or starts (u + 1) 0 - get_or starts u 0 in
    let within = graph.within (u + 1) node in
    let dropped = length-drop start targets in
    let long = length-take size (drop start targets) in
    let k = j - get_or starts u 0 in
    let below : k < size = omega arith in
    let same : start + k ≡ j = omega arith in
    let is : get_or (take size (drop start targets)) k 0 ≡ get_or targets j 0 = get_or-take size (drop start targets) k 0 below ∙ get_or-drop start targets k 0 ∙ ap (λ i. get_or targets i 0) same in
    list_any_at (λ target. target == get_or targets j 0) (take size (drop start targets)) k 0 (omega arith) (eq-eqb _ _ is)
