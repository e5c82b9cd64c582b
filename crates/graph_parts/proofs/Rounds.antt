-- What each round of a search keeps, but for the one that closes a part.
use Rattle.std.proofs.Common.{◌≡◌, ◌≢◌, ℕ, ◌+◌, ◌-◌, ◌<◌, ◌≤◌, true, ◌⊎◌, List, [], ◌∷◌, ◌++◌, length, take, set, get_or, Option, None, Some, cond, arith, sym, ◌∙◌, ap, subst, ⊎_elim, inl, inr}
use Rattle.std.specs.List.{count_by}
use Rattle.std.specs.Option.{is_none}
use Rattle.std.proofs.lemmas.Bool.{cases_eq, cases_lt}
use Rattle.std.proofs.lemmas.List.{get_or-take, get_or-set_same, get_or-set_other, length-set, length-take, length_push}
use Rattle.std.proofs.lemmas.List.Sums.{sum_by-set}
use Rattle.graph_parts.specs.Graph.{IsGraph, leads}
use Rattle.graph_parts.specs.private.Searching.{Way, place_at, Uncut, Placed, Joined, Rising, Known, Looking, Counted, Searching, IsNext, weight}
use Rattle.graph_parts.proofs.Ways.{way-step, way-same, way-then, leads-at}
use Rattle.graph_parts.proofs.Lists.{at-left, at-end, each-push, rising-push, rising-take, rising-last, uncut-take}

-- what one place counts
abbrev none_count : Option ℕ → ℕ
none_count place = cond (is_none place) 1 0

-- a node that was not found is put at the end of the chain, as a part of its own
module _ (starts targets : List ℕ) (places : List (Option ℕ)) (numbers at nodes bounds work : List ℕ) (count : ℕ) (s : Searching starts targets places numbers at nodes bounds work count) (node : ℕ) (inside : node + 1 < length starts) (new : place_at places node ≡ None) (before : (j : ℕ) → j < length nodes → Way (leads starts targets) (get_or nodes j 0) node) where
  within : node < length places
  within = let sized = s.counted.places_sized in omega arith

  differ : (k : ℕ) → k < length nodes → get_or nodes k 0 ≢ node
  differ k below same =
      let e : place_at places node ≡ Some k = subst (λ u. place_at places u ≡ Some k) same (s.placed.here k below).0 in cc

  place-same : place_at (set places node (Some (length nodes))) node ≡ Some (length nodes)
  place-same = get_or-set_same places node (Some (length nodes)) None within

  place-other : (u : ℕ) → u ≢ node → place_at (set places node (Some (length nodes))) u ≡ place_at places u
  place-other u apart = get_or-set_other places node u (Some (length nodes)) None apart

  place-not : (u : ℕ) → place_at (set places node (Some (length nodes))) u ≡ None → u ≢ node
  place-not u none same =
      let e : place_at (set places node (Some (length nodes))) node ≡ None = subst (λ v. place_at (set places node (Some (length nodes))) v ≡ None) same none in
      let f = place-same in cc

  open-placed : Placed (set places node (Some (length nodes))) numbers (nodes ++ (node ∷ []))
  open-placed = record {
    here = each-push (λ k u. (place_at (set places node (Some (length nodes))) u ≡ Some k) × (get_or numbers u 0 ≡ 0)) nodes node
        (λ k low. let h = s.placed.here k low in (place-other (get_or nodes k 0) (differ k low) ∙ h.0, h.1))
        (place-same, s.placed.new node new);
    there = λ u k is none. ⊎_elim
        (λ (same : u ≡ node). let e : place_at (set places node (Some (length nodes))) node ≡ Some k = subst (λ v. place_at (set places node (Some (length nodes))) v ≡ Some k) same is in
        let f = place-same in
        let ends : length nodes ≡ k = cc in
        let long = length_push nodes node in
        (omega arith, subst (λ i. get_or (nodes ++ (node ∷ [])) i 0 ≡ u) ends (at-end nodes node ∙ sym same)))
        (λ (apart : u ≢ node). let t = s.placed.there u k (sym (place-other u apart) ∙ is) none in
        let long = length_push nodes node in
        (omega arith, at-left nodes node k t.0 ∙ t.1))
        (cases_eq u node);
    new = λ u none. let apart = place-not u none in s.placed.new u (sym (place-other u apart) ∙ none);
  }

  uncut-less : (j k : ℕ) → Uncut (bounds ++ (length nodes ∷ [])) j k → Uncut bounds j k
  uncut-less j k uncut i low under =
      let long = length_push bounds (length nodes) in
      let left = at-left bounds (length nodes) i low in
      subst (λ b. b ≤ j) left (uncut i (omega arith) (subst (λ b. b ≤ k) (sym left) under))

  uncut-push : (j k : ℕ) → k < length nodes → Uncut bounds j k → Uncut (bounds ++ (length nodes ∷ [])) j k
  uncut-push j k low uncut = each-push (λ i b. b ≤ k → b ≤ j) bounds (length nodes) uncut (λ under. absurd (omega arith))

  open-joined : Joined starts targets (nodes ++ (node ∷ [])) (bounds ++ (length nodes ∷ []))
  open-joined = record {
    forth = λ j k up below. each-push (λ k u. (j : ℕ) → j ≤ k → Way (leads starts targets) (get_or (nodes ++ (node ∷ [])) j 0) u) nodes node
        (λ k low j up. subst (λ v. Way (leads starts targets) v (get_or nodes k 0)) (sym (at-left nodes node j (omega arith))) (s.joined.forth j k up low))
        (λ j up. ⊎_elim
        (λ (low : j < length nodes). subst (λ v. Way (leads starts targets) v node) (sym (at-left nodes node j low)) (before j low))
        (λ (high : length nodes ≤ j). let ends : j ≡ length nodes = omega arith in
        way-same _ _ _ (ap (λ i. get_or (nodes ++ (node ∷ [])) i 0) ends ∙ at-end nodes node))
        (cases_lt j (length nodes)))
        k below j up;
    back = λ j k up below uncut. each-push (λ k u. (j : ℕ) → j ≤ k → Uncut (bounds ++ (length nodes ∷ [])) j k → Way (leads starts targets) u (get_or (nodes ++ (node ∷ [])) j 0)) nodes node
        (λ k low j up uncut. subst (λ v. Way (leads starts targets) (get_or nodes k 0) v) (sym (at-left nodes node j (omega arith))) (s.joined.back j k up low (uncut-less j k uncut)))
        (λ j up uncut. let long = length_push bounds (length nodes) in
        let last = at-end bounds (length nodes) in
        let over : length nodes ≤ j = subst (λ b. b ≤ j) last (uncut (length bounds) (omega arith) (subst (λ b. b ≤ length nodes) (sym last) (omega arith))) in
        let ends : j ≡ length nodes = omega arith in
        way-same _ _ _ (sym (ap (λ i. get_or (nodes ++ (node ∷ [])) i 0) ends ∙ at-end nodes node)))
        k below j up uncut;
  }

  known-push : (to k : ℕ) → k < length nodes → Known numbers nodes bounds to k → Known numbers (nodes ++ (node ∷ [])) (bounds ++ (length nodes ∷ [])) to k
  known-push to k low known = ⊎_elim (λ numbered. inl numbered)
      (λ (chained : (t : ℕ) × (t < length nodes) × (get_or nodes t 0 ≡ to) × Uncut bounds t k).
      let long = length_push nodes node in
      inr (chained.0, omega arith, at-left nodes node chained.0 chained.1 ∙ chained.2, uncut-push chained.0 k low chained.3))
      known

  open-looking : Looking starts targets numbers at (nodes ++ (node ∷ [])) (bounds ++ (length nodes ∷ [])) (work ++ (length nodes ∷ []))
  open-looking = record {
    known = λ k j below low high. each-push (λ k u. get_or starts u 0 ≤ j → j < get_or at u 0 → Known numbers (nodes ++ (node ∷ [])) (bounds ++ (length nodes ∷ [])) (get_or targets j 0) k) nodes node
        (λ k under low high. known-push (get_or targets j 0) k under (s.looking.known k j under low high))
        (λ low high. let fresh = s.counted.fresh node new in absurd (omega arith))
        k below low high;
    spent = λ k below none. each-push (λ k u. ((i : ℕ) → i < length (work ++ (length nodes ∷ [])) → get_or (work ++ (length nodes ∷ [])) i 0 ≢ k) → get_or starts (u + 1) 0 ≤ get_or at u 0) nodes node
        (λ k under none. s.looking.spent k under (λ i low same. let long = length_push work (length nodes) in none i (omega arith) (at-left work (length nodes) i low ∙ same)))
        (λ none. let long = length_push work (length nodes) in absurd (none (length work) (omega arith) (at-end work (length nodes))))
        k below none;
  }

  fewer : count_by is_none (set places node (Some (length nodes))) + 1 ≡ count_by is_none places
  fewer =
      let counts : count_by is_none (set places node (Some (length nodes))) + none_count (place_at places node) ≡ count_by is_none places + 0 = sum_by-set none_count places node (Some (length nodes)) None within in
      let one : none_count (place_at places node) ≡ 1 = ap none_count new in
      omega arith

  open-counted : Counted starts (set places node (Some (length nodes))) numbers at (nodes ++ (node ∷ [])) (bounds ++ (length nodes ∷ [])) count
  open-counted =
      let long = length-set places node (Some (length nodes)) in
      let more = length_push nodes node in
      let cut = length_push bounds (length nodes) in
      let less = fewer in
      let sized = s.counted.places_sized in
      let fit = s.counted.nodes_fit in
      let parts = s.counted.parts_fit in
      record {
        places_sized = omega arith;
        numbers_sized = s.counted.numbers_sized;
        at_sized = s.counted.at_sized;
        inside = each-push (λ k u. u + 1 < length starts) nodes node s.counted.inside inside;
        begun = s.counted.begun;
        fresh = λ u none. let apart = place-not u none in s.counted.fresh u (sym (place-other u apart) ∙ none);
        nodes_fit = omega arith;
        parts_fit = omega arith;
      }

  open-first : (0 < length bounds → get_or (bounds ++ (length nodes ∷ [])) 0 0 ≡ 0) → (length bounds ≡ 0 → length nodes ≡ 0) → (0 < length (bounds ++ (length nodes ∷ []))) × (get_or (bounds ++ (length nodes ∷ [])) 0 0 ≡ 0)
  open-first old none =
      let cut = length_push bounds (length nodes) in (
        omega arith,
        ⊎_elim (λ (some : 0 < length bounds). old some)
            (λ (empty : length bounds ≤ 0). let nil : length bounds ≡ 0 = omega arith in
            subst (λ i. get_or (bounds ++ (length nodes ∷ [])) i 0 ≡ 0) nil (at-end bounds (length nodes) ∙ none nil))
            (cases_lt 0 (length bounds)),
      )

  pub searching-open : Searching starts targets (set places node (Some (length nodes))) numbers at (nodes ++ (node ∷ [])) (bounds ++ (length nodes ∷ [])) (work ++ (length nodes ∷ [])) count
  searching-open =
      let more : length nodes + 1 ≡ length (nodes ++ (node ∷ [])) = sym (length_push nodes node) in
      record {
        closed = s.closed;
        placed = open-placed;
        joined = open-joined;
        bounds_rise = subst (Rising (bounds ++ (length nodes ∷ []))) more (rising-push bounds (length nodes) s.bounds_rise);
        first = λ some. open-first
            (λ bounded. at-left bounds (length nodes) 0 bounded ∙ first-zero bounded)
            (λ empty. none-open empty);
        work_rises = subst (Rising (work ++ (length nodes ∷ []))) more (rising-push work (length nodes) s.work_rises);
        looking = open-looking;
        counted = open-counted;
      }
    where
      first-zero : 0 < length bounds → get_or bounds 0 0 ≡ 0
      first-zero bounded = let inside = s.bounds_rise.below 0 bounded in (s.first (omega arith)).1

      none-open : length bounds ≡ 0 → length nodes ≡ 0
      none-open empty = ⊎_elim (λ (some : 0 < length nodes). let f = s.first some in absurd (omega arith)) (λ (none : length nodes ≤ 0). omega arith) (cases_lt 0 (length nodes))

-- the last bound, and the next step of a node behind it
module _ (starts targets : List ℕ) (graph : IsGraph starts targets) (places : List (Option ℕ)) (numbers at nodes bounds work : List ℕ) (count : ℕ) (s : Searching starts targets places numbers at nodes bounds work count) (last bound : ℕ) (ends : last + 1 ≡ length bounds) (is : bound ≡ get_or bounds last 0) (node to : ℕ) (next : IsNext starts targets at nodes bound node to) where
  node-inside : node + 1 < length starts
  node-inside = subst (λ u. u + 1 < length starts) next.node_is (s.counted.inside next.place next.within)

  node-at : node < length at
  node-at = let i = node-inside in let sized = s.counted.at_sized in omega arith

  target-within : get_or at node 0 < length targets
  target-within = let w = graph.within (node + 1) node-inside in let more = next.more in omega arith

  to-inside : to + 1 < length starts
  to-inside = subst (λ u. u + 1 < length starts) next.to_is (graph.nodes (get_or at node 0) target-within)

  edge : leads starts targets node to ≡ true
  edge = subst (λ v. leads starts targets node v ≡ true) next.to_is (leads-at starts targets graph node (get_or at node 0) node-inside next.begun next.more)

  node-placed : place_at places node ≡ Some next.place
  node-placed = subst (λ u. place_at places u ≡ Some next.place) next.node_is (s.placed.here next.place next.within).0

  highest : (i : ℕ) → i < length bounds → get_or bounds i 0 ≤ bound
  highest i below = subst (λ b. get_or bounds i 0 ≤ b) (sym is) (rising-last bounds (length nodes) last i s.bounds_rise ends below)

  -- each node of the chain reaches the node, and so what its step leads to
  chain-reaches : (k : ℕ) → k < length nodes → Way (leads starts targets) (get_or nodes k 0) to
  chain-reaches k below =
      let top = length nodes - 1 in
      let w = next.within in
      let l = next.last in
      let up = s.joined.forth k top (omega arith) (omega arith) in
      let down = s.joined.back next.place top (omega arith) (omega arith) (λ i low under. let h = highest i low in omega arith) in
      way-then _ _ _ _ up (way-then _ _ _ _ down (subst (λ u. Way (leads starts targets) u to) (sym next.node_is) (way-step _ _ _ edge)))

  pub searching-new : place_at places to ≡ None → Searching starts targets (set places to (Some (length nodes))) numbers at (nodes ++ (to ∷ [])) (bounds ++ (length nodes ∷ [])) (work ++ (length nodes ∷ [])) count
  searching-new none = searching-open starts targets places numbers at nodes bounds work count s to to-inside none chain-reaches

  -- the step leads to a closed part, or within the last part of the chain
  module _ (past : (get_or numbers to 0 ≢ 0) ⊎ ((t : ℕ) × (place_at places to ≡ Some t) × (get_or numbers to 0 ≡ 0) × (bound ≤ t))) where
    at-same : get_or (set at node (get_or at node 0 + 1)) node 0 ≡ get_or at node 0 + 1
    at-same = get_or-set_same at node (get_or at node 0 + 1) 0 node-at

    at-other : (u : ℕ) → u ≢ node → get_or (set at node (get_or at node 0 + 1)) u 0 ≡ get_or at u 0
    at-other u apart = get_or-set_other at node u (get_or at node 0 + 1) 0 apart

    at-more : (u : ℕ) → get_or at u 0 ≤ get_or (set at node (get_or at node 0 + 1)) u 0
    at-more u = ⊎_elim
        (λ (same : u ≡ node). let here = at-same in subst (λ v. get_or at v 0 ≤ get_or (set at node (get_or at node 0 + 1)) v 0) (sym same) (omega arith))
        (λ (apart : u ≢ node). let here = at-other u apart in omega arith)
        (cases_eq u node)

    past-known : (k : ℕ) → Known numbers nodes bounds to k
    past-known k = ⊎_elim (λ numbered. inl numbered)
        (λ (chained : (t : ℕ) × (place_at places to ≡ Some t) × (get_or numbers to 0 ≡ 0) × (bound ≤ t)).
        let t = s.placed.there to chained.0 chained.1 chained.2 in
        inr (chained.0, t.0, t.1, λ i low under. let h = highest i low in let c = chained.3 in omega arith))
        past

    pass-known : (k j : ℕ) → k < length nodes → get_or starts (get_or nodes k 0) 0 ≤ j → j < get_or (set at node (get_or at node 0 + 1)) (get_or nodes k 0) 0 → Known numbers nodes bounds (get_or targets j 0) k
    pass-known k j below low high = ⊎_elim
        (λ (old : j < get_or at (get_or nodes k 0) 0). s.looking.known k j below low old)
        (λ (late : get_or at (get_or nodes k 0) 0 ≤ j). ⊎_elim
        (λ (same : get_or nodes k 0 ≡ node).
        let here : j < get_or at node 0 + 1 = subst (λ n. j < n) at-same (subst (λ u. j < get_or (set at node (get_or at node 0 + 1)) u 0) same high) in
        let there : get_or at node 0 ≤ j = subst (λ u. get_or at u 0 ≤ j) same late in
        let equal : j ≡ get_or at node 0 = omega arith in
        subst (λ v. Known numbers nodes bounds v k) (sym (ap (λ i. get_or targets i 0) equal ∙ next.to_is)) (past-known k))
        (λ (apart : get_or nodes k 0 ≢ node). let here = at-other (get_or nodes k 0) apart in absurd (omega arith))
        (cases_eq (get_or nodes k 0) node))
        (cases_lt j (get_or at (get_or nodes k 0) 0))

    pub searching-pass : Searching starts targets places numbers (set at node (get_or at node 0 + 1)) nodes bounds work count
    searching-pass = record {
      closed = s.closed;
      placed = s.placed;
      joined = s.joined;
      bounds_rise = s.bounds_rise;
      first = s.first;
      work_rises = s.work_rises;
      looking = record {
        known = pass-known;
        spent = λ k below none. let old = s.looking.spent k below none in let more = at-more (get_or nodes k 0) in omega arith;
      };
      counted = record {
        places_sized = s.counted.places_sized;
        numbers_sized = s.counted.numbers_sized;
        at_sized = length-set at node (get_or at node 0 + 1) ∙ s.counted.at_sized;
        inside = s.counted.inside;
        begun = λ u. let old = s.counted.begun u in let more = at-more u in omega arith;
        fresh = λ u none. at-other u (λ same. let e : place_at places node ≡ None = subst (λ v. place_at places v ≡ None) same none in let f = node-placed in cc) ∙ s.counted.fresh u none;
        nodes_fit = s.counted.nodes_fit;
        parts_fit = s.counted.parts_fit;
      };
    }

    pub weight-pass : weight targets places (set at node (get_or at node 0 + 1)) bounds work < weight targets places at bounds work
    weight-pass =
        let moved = sum_by-set (λ j. length targets - j) at node (get_or at node 0 + 1) 0 node-at in
        let more = target-within in
        omega arith

  -- the step leads back over the last bound, which is taken away
  module _ (t : ℕ) (placed : place_at places to ≡ Some t) (unclosed : get_or numbers to 0 ≡ 0) (over : t < bound) where
    join-back : (j k : ℕ) → j ≤ k → k < length nodes → Uncut (take last bounds) j k → Way (leads starts targets) (get_or nodes k 0) (get_or nodes j 0)
    join-back j k up below uncut = ⊎_elim
        (λ (low : k < bound). s.joined.back j k up below (uncut-or j k uncut (λ under. absurd (omega arith))))
        (λ (high : bound ≤ k). ⊎_elim
        (λ (before : j < bound). way-then _ _ _ _ (chain-reaches k below) (subst (λ u. Way (leads starts targets) u (get_or nodes j 0)) there.1 (from-t j k up below before high uncut)))
        (λ (behind : bound ≤ j). s.joined.back j k up below (uncut-or j k uncut (λ under. behind)))
        (cases_lt j bound))
        (cases_lt k bound)
      where
        there : (t < length nodes) × (get_or nodes t 0 ≡ to)
        there = s.placed.there to t placed unclosed

        uncut-or : (j k : ℕ) → Uncut (take last bounds) j k → (bound ≤ k → bound ≤ j) → Uncut bounds j k
        uncut-or j k uncut at_last i low under = ⊎_elim
            (λ (front : i < last). let long = length-take last bounds in
            let left = get_or-take last bounds i 0 front in
            subst (λ b. b ≤ j) left (uncut i (omega arith) (subst (λ b. b ≤ k) (sym left) under)))
            (λ (end : last ≤ i). let same : i ≡ last = omega arith in
            let here : get_or bounds i 0 ≡ bound = ap (λ n. get_or bounds n 0) same ∙ sym is in
            subst (λ b. b ≤ j) (sym here) (at_last (subst (λ b. b ≤ k) here under)))
            (cases_lt i last)

        from-t : (j k : ℕ) → j ≤ k → k < length nodes → j < bound → bound ≤ k → Uncut (take last bounds) j k → Way (leads starts targets) (get_or nodes t 0) (get_or nodes j 0)
        from-t j k up below before high uncut = ⊎_elim
            (λ (early : t < j). s.joined.forth t j (omega arith) (omega arith))
            (λ (late : j ≤ t). s.joined.back j t late there.0
            (uncut-or j t (λ i low under. uncut i low (omega arith)) (λ under. absurd (omega arith))))
            (cases_lt t j)

    pub searching-join : Searching starts targets places numbers at nodes (take last bounds) work count
    searching-join =
        let long = length-take last bounds in
        let parts = s.counted.parts_fit in
        record {
          closed = s.closed;
          placed = s.placed;
          joined = record { forth = s.joined.forth; back = join-back };
          bounds_rise = rising-take bounds last (length nodes) s.bounds_rise;
          first = λ some. let f = s.first some in (some-left f.1, get_or-take last bounds 0 0 (last-some f.1) ∙ f.1);
          work_rises = s.work_rises;
          looking = record {
            known = λ k j below low high. ⊎_elim (λ numbered. inl numbered)
                (λ (chained : (t : ℕ) × (t < length nodes) × (get_or nodes t 0 ≡ get_or targets j 0) × Uncut bounds t k).
                inr (chained.0, chained.1, chained.2, uncut-take bounds last chained.0 k chained.3))
                (s.looking.known k j below low high);
            spent = s.looking.spent;
          };
          counted = record {
            places_sized = s.counted.places_sized;
            numbers_sized = s.counted.numbers_sized;
            at_sized = s.counted.at_sized;
            inside = s.counted.inside;
            begun = s.counted.begun;
            fresh = s.counted.fresh;
            nodes_fit = s.counted.nodes_fit;
            parts_fit = omega arith;
          };
        }
      where
        last-some : get_or bounds 0 0 ≡ 0 → 0 < last
        last-some zero = ⊎_elim (λ (some : 0 < last). some)
            (λ (none : last ≤ 0). let same : last ≡ 0 = omega arith in
            let here : bound ≡ 0 = is ∙ ap (λ i. get_or bounds i 0) same ∙ zero in absurd (omega arith))
            (cases_lt 0 last)

        some-left : get_or bounds 0 0 ≡ 0 → 0 < length (take last bounds)
        some-left zero = let long = length-take last bounds in let l = last-some zero in omega arith

-- the last node at work has no further step
pub searching-spend : (starts targets : List ℕ) (places : List (Option ℕ)) (numbers at nodes bounds work : List ℕ) (count : ℕ) → Searching starts targets places numbers at nodes bounds work count → (last : ℕ) → last + 1 ≡ length work → get_or starts (get_or nodes (get_or work last 0) 0 + 1) 0 ≤ get_or at (get_or nodes (get_or work last 0) 0) 0 → Searching starts targets places numbers at nodes bounds (take last work) count
searching-spend starts targets places numbers at nodes bounds work count s last ends done = record {
  closed = s.closed;
  placed = s.placed;
  joined = s.joined;
  bounds_rise = s.bounds_rise;
  first = s.first;
  work_rises = rising-take work last (length nodes) s.work_rises;
  looking = record {
    known = s.looking.known;
    spent = λ k below none. ⊎_elim
        (λ (same : get_or work last 0 ≡ k). subst (λ i. get_or starts (get_or nodes i 0 + 1) 0 ≤ get_or at (get_or nodes i 0) 0) same done)
        (λ (apart : get_or work last 0 ≢ k). s.looking.spent k below (λ i low is. ⊎_elim
        (λ (front : i < last). let long = length-take last work in none i (omega arith) (get_or-take last work i 0 front ∙ is))
        (λ (end : last ≤ i). let same : i ≡ last = omega arith in apart (ap (λ n. get_or work n 0) (sym same) ∙ is))
        (cases_lt i last)))
        (cases_eq (get_or work last 0) k);
  };
  counted = s.counted;
}
