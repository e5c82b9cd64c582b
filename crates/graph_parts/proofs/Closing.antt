-- The round of a search that closes the last part of the chain.
use Rattle.std.proofs.Common.{◌≡◌, ◌≢◌, ℕ, ◌+◌, ◌-◌, ◌<◌, ◌≤◌, ◌⊎◌, List, length, take, drop, get_or, Option, Some, arith, sym, ◌∙◌, ap, subst, ⊎_elim, inl, inr}
use Rattle.std.proofs.lemmas.Bool.{cases_lt}
use Rattle.std.proofs.lemmas.List.{get_or-take, get_or-drop, length-take, length-drop}
use Rattle.graph_parts.specs.Graph.{IsGraph, leads}
use Rattle.graph_parts.specs.private.Searching.{Way, place_at, Uncut, Closed, Placed, Joined, Rising, Known, Looking, Searching, marked}
use Rattle.graph_parts.proofs.Lists.{each-take, rising-front, rising-last, uncut-take, rising-within, stands, marked-length, marked-in, marked-out}

-- after a search with these bounds closed its last part
abbrev pub numbers_closed : List ℕ → List ℕ → ℕ → ℕ → List ℕ
numbers_closed numbers nodes bound count = marked numbers (count + 1) (drop bound nodes)

module _ (starts targets : List ℕ) (graph : IsGraph starts targets) (places : List (Option ℕ)) (numbers at nodes bounds work : List ℕ) (count : ℕ) (s : Searching starts targets places numbers at nodes bounds work count) (last bound : ℕ) (ends : last + 1 ≡ length bounds) (is : bound ≡ get_or bounds last 0) (done : (i : ℕ) → i < length work → get_or work i 0 < bound) where
  below-nodes : bound < length nodes
  below-nodes = subst (λ b. b < length nodes) (sym is) (s.bounds_rise.below last (omega arith))

  highest : (i : ℕ) → i < length bounds → get_or bounds i 0 ≤ bound
  highest i low = subst (λ b. get_or bounds i 0 ≤ b) (sym is) (rising-last bounds (length nodes) last i s.bounds_rise ends low)

  dropped : (k : ℕ) → bound ≤ k → get_or (drop bound nodes) (k - bound) 0 ≡ get_or nodes k 0
  dropped k high =
      let same : bound + (k - bound) ≡ k = omega arith in
      get_or-drop bound nodes (k - bound) 0 ∙ ap (λ i. get_or nodes i 0) same

  now-in : (k : ℕ) → bound ≤ k → k < length nodes → get_or (numbers_closed numbers nodes bound count) (get_or nodes k 0) 0 ≡ count + 1
  now-in k high low =
      let long = length-drop bound nodes in
      subst (λ u. get_or (numbers_closed numbers nodes bound count) u 0 ≡ count + 1) (dropped k high)
      (marked-in numbers (count + 1) (drop bound nodes) inside (k - bound) (omega arith))
    where
      inside : (k : ℕ) → k < length (drop bound nodes) → get_or (drop bound nodes) k 0 < length numbers
      inside k low =
          let long = length-drop bound nodes in
          let moved = get_or-drop bound nodes k 0 in
          let in_chain = s.counted.inside (bound + k) (omega arith) in
          let sized = s.counted.numbers_sized in
          omega arith

  now-out : (u : ℕ) → ((k : ℕ) → bound ≤ k → k < length nodes → get_or nodes k 0 ≢ u) → get_or (numbers_closed numbers nodes bound count) u 0 ≡ get_or numbers u 0
  now-out u none = marked-out numbers (count + 1) (drop bound nodes) u (λ k low same.
      let long = length-drop bound nodes in
      none (bound + k) (omega arith) (omega arith) (sym (get_or-drop bound nodes k 0) ∙ same))

  now-kept : (u : ℕ) → get_or numbers u 0 ≢ 0 → get_or (numbers_closed numbers nodes bound count) u 0 ≡ get_or numbers u 0
  now-kept u numbered = now-out u (λ k high low same. numbered (subst (λ v. get_or numbers v 0 ≡ 0) same (s.placed.here k low).1))

  -- each node is in the part that is closed, or keeps its number
  sorts : (u : ℕ) → ((k : ℕ) × (bound ≤ k) × (k < length nodes) × (get_or nodes k 0 ≡ u)) ⊎ (get_or (numbers_closed numbers nodes bound count) u 0 ≡ get_or numbers u 0)
  sorts u = ⊎_elim
      (λ (stand : (k : ℕ) × (k < length (drop bound nodes)) × (get_or (drop bound nodes) k 0 ≡ u)).
      let long = length-drop bound nodes in
      inl (bound + stand.0, omega arith, omega arith, sym (get_or-drop bound nodes stand.0 0) ∙ stand.2))
      (λ (none : (k : ℕ) → k < length (drop bound nodes) → get_or (drop bound nodes) k 0 ≢ u). inr (marked-out numbers (count + 1) (drop bound nodes) u none))
      (stands u (drop bound nodes))

  early : (k : ℕ) → k < bound → get_or (numbers_closed numbers nodes bound count) (get_or nodes k 0) 0 ≡ 0
  early k low =
      let inside = below-nodes in
      let h = s.placed.here k (omega arith) in
      now-out (get_or nodes k 0) (λ m high below same.
      let g : place_at places (get_or nodes k 0) ≡ Some m = subst (λ u. place_at places u ≡ Some m) same (s.placed.here m below).0 in
      let f = h.0 in
      let equal : k ≡ m = cc in
      omega arith)
      ∙ h.1

  uncut-behind : (j k : ℕ) → bound ≤ j → Uncut bounds j k
  uncut-behind j k behind i low under = let h = highest i low in omega arith

  -- each step of a node in the part leads to a closed part or into the part
  steps-in : (k j : ℕ) → bound ≤ k → k < length nodes → get_or starts (get_or nodes k 0) 0 ≤ j → j < get_or starts (get_or nodes k 0 + 1) 0 → (get_or (numbers_closed numbers nodes bound count) (get_or targets j 0) 0 ≢ 0) × (get_or (numbers_closed numbers nodes bound count) (get_or targets j 0) 0 ≤ count + 1)
  steps-in k j high low start stop =
      let spent = s.looking.spent k low (λ i under same. let d = done i under in omega arith) in
      ⊎_elim (λ (numbered : get_or numbers (get_or targets j 0) 0 ≢ 0).
      let kept = now-kept (get_or targets j 0) numbered in
      let most = s.closed.most (get_or targets j 0) in
      (λ zero. numbered (sym kept ∙ zero), omega arith))
      (λ (chained : (t : ℕ) × (t < length nodes) × (get_or nodes t 0 ≡ get_or targets j 0) × Uncut bounds t k).
      let over : bound ≤ chained.0 = subst (λ b. b ≤ chained.0) (sym is) (chained.3 last (omega arith) (subst (λ b. b ≤ k) is high)) in
      let now : get_or (numbers_closed numbers nodes bound count) (get_or targets j 0) 0 ≡ count + 1 = subst (λ u. get_or (numbers_closed numbers nodes bound count) u 0 ≡ count + 1) chained.2 (now-in chained.0 over chained.1) in
      (λ zero. omega arith, omega arith))
      (s.looking.known k j low start (omega arith))

  close-lower : (u j : ℕ) → get_or (numbers_closed numbers nodes bound count) u 0 ≢ 0 → get_or starts u 0 ≤ j → j < get_or starts (u + 1) 0 → (get_or (numbers_closed numbers nodes bound count) (get_or targets j 0) 0 ≢ 0) × (get_or (numbers_closed numbers nodes bound count) (get_or targets j 0) 0 ≤ get_or (numbers_closed numbers nodes bound count) u 0)
  close-lower u j numbered start stop = ⊎_elim
      (λ (stand : (k : ℕ) × (bound ≤ k) × (k < length nodes) × (get_or nodes k 0 ≡ u)).
      let now : get_or (numbers_closed numbers nodes bound count) u 0 ≡ count + 1 = subst (λ v. get_or (numbers_closed numbers nodes bound count) v 0 ≡ count + 1) stand.3 (now-in stand.0 stand.1 stand.2) in
      let steps = steps-in stand.0 j stand.1 stand.2 (subst (λ v. get_or starts v 0 ≤ j) (sym stand.3) start) (subst (λ v. j < get_or starts (v + 1) 0) (sym stand.3) stop) in
      (steps.0, rw now steps.1))
      (λ (same : get_or (numbers_closed numbers nodes bound count) u 0 ≡ get_or numbers u 0).
      let old = s.closed.lower u j (λ zero. numbered (same ∙ zero)) start stop in
      let kept = now-kept (get_or targets j 0) old.0 in
      (λ zero. old.0 (sym kept ∙ zero), rw (kept, same) old.1))
      (sorts u)

  -- any two nodes of the part reach each other
  inner : (j k : ℕ) → bound ≤ j → bound ≤ k → j < length nodes → k < length nodes → Way (leads starts targets) (get_or nodes j 0) (get_or nodes k 0)
  inner j k from to low below = ⊎_elim
      (λ (up : j < k). s.joined.forth j k (omega arith) below)
      (λ (down : k ≤ j). s.joined.back k j down low (uncut-behind k j to))
      (cases_lt j k)

  close-joined : (u v : ℕ) → get_or (numbers_closed numbers nodes bound count) u 0 ≢ 0 → get_or (numbers_closed numbers nodes bound count) u 0 ≡ get_or (numbers_closed numbers nodes bound count) v 0 → Way (leads starts targets) u v
  close-joined u v numbered same = ⊎_elim
      (λ (one : (k : ℕ) × (bound ≤ k) × (k < length nodes) × (get_or nodes k 0 ≡ u)).
      let now : get_or (numbers_closed numbers nodes bound count) u 0 ≡ count + 1 = subst (λ w. get_or (numbers_closed numbers nodes bound count) w 0 ≡ count + 1) one.3 (now-in one.0 one.1 one.2) in
      ⊎_elim
      (λ (other : (k : ℕ) × (bound ≤ k) × (k < length nodes) × (get_or nodes k 0 ≡ v)).
      subst (λ x. Way (leads starts targets) x v) one.3 (subst (λ y. Way (leads starts targets) (get_or nodes one.0 0) y) other.3 (inner one.0 other.0 one.1 other.1 one.2 other.2)))
      (λ (old : get_or (numbers_closed numbers nodes bound count) v 0 ≡ get_or numbers v 0). let most = s.closed.most v in absurd (omega arith))
      (sorts v))
      (λ (old : get_or (numbers_closed numbers nodes bound count) u 0 ≡ get_or numbers u 0). ⊎_elim
      (λ (other : (k : ℕ) × (bound ≤ k) × (k < length nodes) × (get_or nodes k 0 ≡ v)).
      let now : get_or (numbers_closed numbers nodes bound count) v 0 ≡ count + 1 = subst (λ w. get_or (numbers_closed numbers nodes bound count) w 0 ≡ count + 1) other.3 (now-in other.0 other.1 other.2) in
      let most = s.closed.most u in absurd (omega arith))
      (λ (kept : get_or (numbers_closed numbers nodes bound count) v 0 ≡ get_or numbers v 0). s.closed.joined u v (λ zero. numbered (old ∙ zero)) (sym old ∙ same ∙ kept))
      (sorts v))
      (sorts u)

  close-closed : Closed starts targets (numbers_closed numbers nodes bound count) (count + 1)
  close-closed = record {
    lower = close-lower;
    joined = close-joined;
    most = λ u. ⊎_elim
        (λ (stand : (k : ℕ) × (bound ≤ k) × (k < length nodes) × (get_or nodes k 0 ≡ u)).
        let now : get_or (numbers_closed numbers nodes bound count) u 0 ≡ count + 1 = subst (λ v. get_or (numbers_closed numbers nodes bound count) v 0 ≡ count + 1) stand.3 (now-in stand.0 stand.1 stand.2) in omega arith)
        (λ (same : get_or (numbers_closed numbers nodes bound count) u 0 ≡ get_or numbers u 0). let most = s.closed.most u in omega arith)
        (sorts u);
    each = λ i low high. ⊎_elim
        (λ (old : i < count + 1). let e = s.closed.each i low (omega arith) in
        (e.0, now-kept e.0 (λ zero. omega arith) ∙ e.1))
        (λ (new : count + 1 ≤ i). let last : count + 1 ≡ i = omega arith in
        (get_or nodes bound 0, now-in bound (omega arith) below-nodes ∙ last))
        (cases_lt i (count + 1));
  }

  close-placed : Placed places (numbers_closed numbers nodes bound count) (take bound nodes)
  close-placed = record {
    here = each-take (λ k u. (place_at places u ≡ Some k) × (get_or (numbers_closed numbers nodes bound count) u 0 ≡ 0)) nodes bound
        (λ k under low. ((s.placed.here k low).0, early k under));
    there = λ u k placed open_now. ⊎_elim
        (λ (stand : (k : ℕ) × (bound ≤ k) × (k < length nodes) × (get_or nodes k 0 ≡ u)).
        let now : get_or (numbers_closed numbers nodes bound count) u 0 ≡ count + 1 = subst (λ v. get_or (numbers_closed numbers nodes bound count) v 0 ≡ count + 1) stand.3 (now-in stand.0 stand.1 stand.2) in absurd (omega arith))
        (λ (same : get_or (numbers_closed numbers nodes bound count) u 0 ≡ get_or numbers u 0).
        let t = s.placed.there u k placed (sym same ∙ open_now) in
        let long = length-take bound nodes in
        let inside = below-nodes in
        ⊎_elim
        (λ (low : k < bound). (omega arith, get_or-take bound nodes k 0 low ∙ t.1))
        (λ (high : bound ≤ k). let now : get_or (numbers_closed numbers nodes bound count) u 0 ≡ count + 1 = subst (λ v. get_or (numbers_closed numbers nodes bound count) v 0 ≡ count + 1) t.1 (now-in k high t.0) in absurd (omega arith))
        (cases_lt k bound))
        (sorts u);
    new = λ u none. now-out u (λ k high low same. let e : place_at places u ≡ Some k = subst (λ v. place_at places v ≡ Some k) same (s.placed.here k low).0 in cc) ∙ s.placed.new u none;
  }

  uncut-more : (j k : ℕ) → k < bound → Uncut (take last bounds) j k → Uncut bounds j k
  uncut-more j k under uncut i low below = ⊎_elim
      (λ (front : i < last). let long = length-take last bounds in
      let left = get_or-take last bounds i 0 front in
      subst (λ b. b ≤ j) left (uncut i (omega arith) (subst (λ b. b ≤ k) (sym left) below)))
      (λ (end : last ≤ i). let same : i ≡ last = omega arith in
      let here : get_or bounds i 0 ≡ bound = ap (λ n. get_or bounds n 0) same ∙ sym is in absurd (omega arith))
      (cases_lt i last)

  close-joins : Joined starts targets (take bound nodes) (take last bounds)
  close-joins = record {
    forth = λ j k up below. each-take (λ k u. (j : ℕ) → j ≤ k → Way (leads starts targets) (get_or (take bound nodes) j 0) u) nodes bound
        (λ k under low j up. subst (λ v. Way (leads starts targets) v (get_or nodes k 0)) (sym (get_or-take bound nodes j 0 (omega arith))) (s.joined.forth j k up low))
        k below j up;
    back = λ j k up below uncut. each-take (λ k u. (j : ℕ) → j ≤ k → Uncut (take last bounds) j k → Way (leads starts targets) u (get_or (take bound nodes) j 0)) nodes bound
        (λ k under low j up uncut. subst (λ v. Way (leads starts targets) (get_or nodes k 0) v) (sym (get_or-take bound nodes j 0 (omega arith))) (s.joined.back j k up low (uncut-more j k under uncut)))
        k below j up uncut;
  }

  known-still : (to k : ℕ) → Known numbers nodes bounds to k → Known (numbers_closed numbers nodes bound count) (take bound nodes) (take last bounds) to k
  known-still to k known = ⊎_elim
      (λ (numbered : get_or numbers to 0 ≢ 0). inl (λ zero. numbered (sym (now-kept to numbered) ∙ zero)))
      (λ (chained : (t : ℕ) × (t < length nodes) × (get_or nodes t 0 ≡ to) × Uncut bounds t k). ⊎_elim
      (λ (low : chained.0 < bound). let long = length-take bound nodes in
      inr (chained.0, omega arith, get_or-take bound nodes chained.0 0 low ∙ chained.2, uncut-take bounds last chained.0 k chained.3))
      (λ (high : bound ≤ chained.0). let now : get_or (numbers_closed numbers nodes bound count) to 0 ≡ count + 1 = subst (λ v. get_or (numbers_closed numbers nodes bound count) v 0 ≡ count + 1) chained.2 (now-in chained.0 high chained.1) in
      inl (λ zero. omega arith))
      (cases_lt chained.0 bound))
      known

  close-looking : Looking starts targets (numbers_closed numbers nodes bound count) at (take bound nodes) (take last bounds) work
  close-looking = record {
    known = λ k j below low high. each-take (λ k u. get_or starts u 0 ≤ j → j < get_or at u 0 → Known (numbers_closed numbers nodes bound count) (take bound nodes) (take last bounds) (get_or targets j 0) k) nodes bound
        (λ k under inside low high. known-still (get_or targets j 0) k (s.looking.known k j inside low high))
        k below low high;
    spent = λ k below none. each-take (λ k u. ((i : ℕ) → i < length work → get_or work i 0 ≢ k) → get_or starts (u + 1) 0 ≤ get_or at u 0) nodes bound
        (λ k under low none. s.looking.spent k low none)
        k below none;
  }

  pub searching-close : Searching starts targets places (marked numbers (count + 1) (drop bound nodes)) at (take bound nodes) (take last bounds) work (count + 1)
  searching-close =
      let inside = below-nodes in
      let long : length (take bound nodes) ≡ bound = let l = length-take bound nodes in omega arith in
      let cut = length-take last bounds in
      let fit = s.counted.nodes_fit in
      let parts = s.counted.parts_fit in
      record {
        closed = close-closed;
        placed = close-placed;
        joined = close-joins;
        bounds_rise = subst (Rising (take last bounds)) (sym (long ∙ is)) (rising-front bounds (length nodes) last s.bounds_rise ends);
        first = λ some. let f = s.first (omega arith) in (some-left f.1 (omega arith), get_or-take last bounds 0 0 (last-some f.1 (omega arith)) ∙ f.1);
        work_rises = rising-within work (length nodes) (length (take bound nodes)) s.work_rises (λ i low. let d = done i low in omega arith);
        looking = close-looking;
        counted = record {
          places_sized = s.counted.places_sized;
          numbers_sized = let m = marked-length numbers (count + 1) (drop bound nodes) in let old = s.counted.numbers_sized in omega arith;
          at_sized = s.counted.at_sized;
          inside = each-take (λ k u. u + 1 < length starts) nodes bound (λ k under low. s.counted.inside k low);
          begun = s.counted.begun;
          fresh = s.counted.fresh;
          nodes_fit = omega arith;
          parts_fit = omega arith;
        };
      }
    where
      last-some : get_or bounds 0 0 ≡ 0 → 0 < bound → 0 < last
      last-some zero some = ⊎_elim (λ (more : 0 < last). more)
          (λ (none : last ≤ 0). let same : last ≡ 0 = omega arith in
          let here : bound ≡ 0 = is ∙ ap (λ i. get_or bounds i 0) same ∙ zero in absurd (omega arith))
          (cases_lt 0 last)

      some-left : get_or bounds 0 0 ≡ 0 → 0 < bound → 0 < length (take last bounds)
      some-left zero some = let long = length-take last bounds in let l = last-some zero some in omega arith
