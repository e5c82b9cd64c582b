-- What each round of a search keeps.
use Rattle.std.proofs.Common.{◌≡◌, ◌≢◌, ℕ, zero, suc, ◌+◌, ◌<◌, ◌≤◌, true, false, ◌⊎◌, ℤ, pos, List, [], ◌∷◌, ◌++◌, length, take, map, set, get_or, replicate, arith, refl, sym, ◌∙◌, ap, subst, ⊎_elim, inl, inr, Result, Ok, Err, Option, IsNone, IfOk}
use Rattle.std.specs.List.{AllPairs}
use Rattle.std.proofs.lemmas.Bool.{cases_eq, cases_lt}
use Rattle.std.proofs.lemmas.List.{get_or_append_left, get_or_push, get_or-set_same, get_or-set_other, get_or-take, get_or-map, length-set, length-take-le, length-map, length-replicate, length_push}
use Rattle.asp_base.specs.Walks.{IsWalk, Acyclic}
use Rattle.graph_cycles.specs.private.Arcs.{arc_at, Ascends, Starts}
use Rattle.graph_cycles.specs.Cycle.{leads}
use Rattle.graph_cycles.specs.private.Searching.{mark_at, is_unseen, step_at, node_of, Settled, IsOpen, Searching, StaysSeen, IsFound, IsEdge}
use Rattle.graph_cycles.specs.declared.descent.Mark.{Mark}
use Rattle.graph_cycles.specs.declared.descent.Mark.TheVariants.{Unseen, OnPath, Done}
use Rattle.graph_cycles.specs.declared.descent.Step.{Step}
use Rattle.graph_cycles.proofs.ArcLaws.{cases-int, not_below, leads-at, leads-found, Starts-one, starts-before}
use Rattle.graph_cycles.proofs.LoopLaws.{loop-back}
use Rattle.graph_cycles.proofs.WalkLaws.{walk-stays}

-- marks after a write

pub mark-set-same : (marks : List Mark) (start : ℕ) (mark : Mark) → start < length marks → mark_at (set marks start mark) start ≡ mark
mark-set-same marks start mark within = get_or-set_same marks start mark Done within

mark-set-other : (marks : List Mark) (start other : ℕ) (mark : Mark) → other ≢ start → mark_at (set marks start mark) other ≡ mark_at marks other
mark-set-other marks start other mark differ = get_or-set_other marks start other mark Done differ

pub seen-set : (marks : List Mark) (start : ℕ) (mark : Mark) → start < length marks → is_unseen mark ≡ false → StaysSeen marks (set marks start mark)
seen-set marks start mark within seen other was =
    ⊎_elim (λ same. ap is_unseen (ap (mark_at (set marks start mark)) same ∙ mark-set-same marks start mark within) ∙ seen)
    (λ differ. ap is_unseen (mark-set-other marks start other mark differ) ∙ was)
    (cases_eq other start)

-- an edge leads from a node with a place where its edges begin
leads-starts : (arcs : List (ℤ × ℤ)) → Ascends arcs → (node next : ℤ) → leads arcs node next ≡ true → (start : ℕ) × Starts arcs node start
leads-starts arcs ascends node next edge =
    let found = leads-found arcs node next edge in
    let starts = starts-before arcs ascends found.0 found.1 in
    (starts.0, subst (λ n. Starts arcs n starts.0) found.2 starts.1)

walk-starts : (arcs : List (ℤ × ℤ)) → Ascends arcs → (node : ℤ) (by : List ℤ) (to : ℤ) → IsWalk (leads arcs) node by to → (start : ℕ) × Starts arcs node start
walk-starts arcs ascends node [] to walk = leads-starts arcs ascends node to walk
walk-starts arcs ascends node (next ∷ by) to walk = leads-starts arcs ascends node next walk.0

-- the start

fresh-mark : (n start : ℕ) → mark_at (replicate n Unseen) start ≡ Unseen ⊎ mark_at (replicate n Unseen) start ≡ Done
fresh-mark zero start = inr refl
fresh-mark (suc n) zero = inl refl
fresh-mark (suc n) (suc start) = fresh-mark n start

fresh-within : (n start : ℕ) → start < n → mark_at (replicate n Unseen) start ≡ Unseen
fresh-within zero start below = absurd (omega arith)
fresh-within (suc n) zero below = refl
fresh-within (suc n) (suc start) below = fresh-within n start (omega arith)

unsettled : (arcs : List (ℤ × ℤ)) (node : ℤ) → (start : ℕ) × Starts arcs node start → Settled arcs (replicate (length arcs) Unseen) node → ⊥
unsettled arcs node starts settled =
    let done = settled starts.0 starts.1 in
    let fresh = fresh-within (length arcs) starts.0 starts.1.within in cc

pub searching-new : (arcs : List (ℤ × ℤ)) → Ascends arcs → Searching arcs (replicate (length arcs) Unseen) []
searching-new arcs ascends = record {
  sized = length-replicate (length arcs) Unseen;
  opened = λ k below. absurd (omega arith);
  placed = λ start place is. absurd (⊎_elim (λ (e : mark_at (replicate (length arcs) Unseen) start ≡ Unseen). cc) (λ (e : mark_at (replicate (length arcs) Unseen) start ≡ Done). cc) (fresh-mark (length arcs) start));
  joined = λ k below. absurd (omega arith);
  closed = λ node next settled edge. absurd (unsettled arcs node (leads-starts arcs ascends node next edge) settled);
  calm = λ node settled by walk. unsettled arcs node (walk-starts arcs ascends node by node walk) settled;
}

-- a node is put on the path

abbrev first_step : ℕ → Step
first_step start = record { start = start; at = start }

abbrev marks_open : List Mark → List Step → ℕ → List Mark
marks_open marks path start = set marks start (OnPath (length path))

abbrev path_open : List Step → ℕ → List Step
path_open path start = path ++ (first_step start ∷ [])

at-left : (path : List Step) (step : Step) (k : ℕ) → k < length path → step_at (path ++ (step ∷ [])) k ≡ step_at path k
at-left path step k below = get_or_append_left path (step ∷ []) (record { start = 0; at = 0 }) k below

at-end : (path : List Step) (step : Step) (k : ℕ) → length path ≡ k → step_at (path ++ (step ∷ [])) k ≡ step
at-end path step k ends = get_or_push path step (record { start = 0; at = 0 }) k ends

module _ (arcs : List (ℤ × ℤ)) (marks : List Mark) (path : List Step) (start : ℕ) (searching : Searching arcs marks path) (node : ℤ) (starts : Starts arcs node start) (unseen : mark_at marks start ≡ Unseen) where
  within : start < length marks
  within = let l = starts.within in let s = searching.sized in omega arith

  settled-then : (other : ℤ) → Settled arcs marks other → Settled arcs (marks_open marks path start) other
  settled-then other settled at begins =
      let done = settled at begins in
      let differ : at ≢ start = λ same. let e : mark_at marks start ≡ Done = subst (λ s. mark_at marks s ≡ Done) same done in cc in
      mark-set-other marks start at (OnPath (length path)) differ ∙ done

  settled-before : (other : ℤ) → Settled arcs (marks_open marks path start) other → Settled arcs marks other
  settled-before other settled at begins =
      let done = settled at begins in
      let differ : at ≢ start = λ same. let e : mark_at (marks_open marks path start) start ≡ Done = subst (λ s. mark_at (marks_open marks path start) s ≡ Done) same done in
      let is = mark-set-same marks start (OnPath (length path)) within in cc in
      sym (mark-set-other marks start at (OnPath (length path)) differ) ∙ done

  opened-before : (k : ℕ) → k < length path → IsOpen arcs (marks_open marks path start) k (step_at path k)
  opened-before k below =
      let o = searching.opened k below in
      let differ : (step_at path k).start ≢ start = λ same. let e : mark_at marks start ≡ OnPath k = subst (λ s. mark_at marks s ≡ OnPath k) same o.marked in cc in
      record {
        starts = o.starts;
        marked = mark-set-other marks start (step_at path k).start (OnPath (length path)) differ ∙ o.marked;
        begun = o.begun;
        within = o.within;
        looked = λ j low high. settled-then (arc_at arcs j).1 (o.looked j low high);
      }

  opened-end : IsOpen arcs (marks_open marks path start) (length path) (first_step start)
  opened-end = record {
    starts = subst (λ n. Starts arcs n start) (sym starts.here) starts;
    marked = mark-set-same marks start (OnPath (length path)) within;
    begun = omega arith;
    within = let l = starts.within in omega arith;
    looked = λ j low high. absurd (omega arith);
  }

  opened-now : (k : ℕ) → k < length (path_open path start) → IsOpen arcs (marks_open marks path start) k (step_at (path_open path start) k)
  opened-now k below =
      let long = length_push path (first_step start) in
      ⊎_elim (λ same. let ends : length path ≡ k = sym same in
      subst (λ step. IsOpen arcs (marks_open marks path start) k step) (sym (at-end path (first_step start) k ends))
      (subst (λ i. IsOpen arcs (marks_open marks path start) i (first_step start)) ends opened-end))
      (λ (differ : k ≢ length path). let before : k < length path = omega arith in
      subst (λ step. IsOpen arcs (marks_open marks path start) k step) (sym (at-left path (first_step start) k before)) (opened-before k before))
      (cases_eq k (length path))

  placed-now : (at place : ℕ) → mark_at (marks_open marks path start) at ≡ OnPath place → (place < length (path_open path start)) × ((step_at (path_open path start) place).start ≡ at)
  placed-now at place is =
      let long = length_push path (first_step start) in
      ⊎_elim (λ (same : at ≡ start). let e : mark_at (marks_open marks path start) start ≡ OnPath place = subst (λ s. mark_at (marks_open marks path start) s ≡ OnPath place) same is in
      let now = mark-set-same marks start (OnPath (length path)) within in
      let ends : length path ≡ place = cc in
      (omega arith, ap (λ step. step.start) (at-end path (first_step start) place ends) ∙ sym same))
      (λ (differ : at ≢ start). let before = searching.placed at place (sym (mark-set-other marks start at (OnPath (length path)) differ) ∙ is) in
      (omega arith, ap (λ step. step.start) (at-left path (first_step start) place before.0) ∙ before.1))
      (cases_eq at start)

  joined-now : ((k : ℕ) → k + 1 ≡ length path → leads arcs (node_of arcs (step_at path k)) node ≡ true) → (k : ℕ) → k + 1 < length (path_open path start) → leads arcs (node_of arcs (step_at (path_open path start) k)) (node_of arcs (step_at (path_open path start) (k + 1))) ≡ true
  joined-now edge k below =
      let long = length_push path (first_step start) in
      let here = at-left path (first_step start) k (omega arith) in
      ⊎_elim (λ (same : k + 1 ≡ length path). let next = at-end path (first_step start) (k + 1) (sym same) in
      rw (here, next, starts.here) (edge k same))
      (λ (differ : k + 1 ≢ length path). let before : k + 1 < length path = omega arith in
      let next = at-left path (first_step start) (k + 1) before in
      rw (here, next) (searching.joined k before))
      (cases_eq (k + 1) (length path))

  pub searching-open : ((k : ℕ) → k + 1 ≡ length path → leads arcs (node_of arcs (step_at path k)) node ≡ true) → Searching arcs (set marks start (OnPath (length path))) (path ++ (record { start = start; at = start } ∷ []))
  searching-open edge = record {
    sized = length-set marks start (OnPath (length path)) ∙ searching.sized;
    opened = opened-now;
    placed = placed-now;
    joined = joined-now edge;
    closed = λ one next settled leads-on. settled-then next (searching.closed one next (settled-before one settled) leads-on);
    calm = λ one settled by walk. searching.calm one (settled-before one settled) by walk;
  }

-- the last step goes on to its next edge

abbrev next_step : Step → Step
next_step step = record { start = step.start; at = step.at + 1 }

abbrev path_pass : List Step → ℕ → List Step
path_pass path last = set path last (next_step (step_at path last))

module _ (arcs : List (ℤ × ℤ)) (marks : List Mark) (path : List Step) (searching : Searching arcs marks path) (last : ℕ) (ends : last + 1 ≡ length path) (edge : IsEdge arcs (step_at path last)) (settled : Settled arcs marks (arc_at arcs (step_at path last).at).1) where
  at-last : step_at (path_pass path last) last ≡ next_step (step_at path last)
  at-last = get_or-set_same path last (next_step (step_at path last)) (record { start = 0; at = 0 }) (omega arith)

  at-other : (k : ℕ) → k ≢ last → step_at (path_pass path last) k ≡ step_at path k
  at-other k differ = get_or-set_other path last k (next_step (step_at path last)) (record { start = 0; at = 0 }) differ

  same-start : (k : ℕ) → (step_at (path_pass path last) k).start ≡ (step_at path k).start
  same-start k =
      ⊎_elim (λ (same : k ≡ last). subst (λ i. (step_at (path_pass path last) i).start ≡ (step_at path i).start) (sym same) (ap (λ step. step.start) at-last))
      (λ (differ : k ≢ last). ap (λ step. step.start) (at-other k differ))
      (cases_eq k last)

  same-node : (k : ℕ) → node_of arcs (step_at (path_pass path last) k) ≡ node_of arcs (step_at path k)
  same-node k = ap (λ start. (arc_at arcs start).0) (same-start k)

  passed-last : IsOpen arcs marks last (next_step (step_at path last))
  passed-last =
      let o = searching.opened last (omega arith) in
      record {
        starts = o.starts;
        marked = o.marked;
        begun = let b = o.begun in omega arith;
        within = let w = edge.within in omega arith;
        looked = λ j low high. ⊎_elim (λ (same : j ≡ (step_at path last).at). subst (λ i. Settled arcs marks (arc_at arcs i).1) (sym same) settled)
            (λ (differ : j ≢ (step_at path last).at). o.looked j low (omega arith))
            (cases_eq j (step_at path last).at);
      }

  passed-opened : (k : ℕ) → k < length path → IsOpen arcs marks k (step_at (path_pass path last) k)
  passed-opened k below =
      ⊎_elim (λ (same : k ≡ last). subst (λ step. IsOpen arcs marks k step) (sym (subst (λ i. step_at (path_pass path last) i ≡ next_step (step_at path last)) (sym same) at-last))
      (subst (λ i. IsOpen arcs marks i (next_step (step_at path last))) (sym same) passed-last))
      (λ (differ : k ≢ last). subst (λ step. IsOpen arcs marks k step) (sym (at-other k differ)) (searching.opened k below))
      (cases_eq k last)

  pub searching-pass : Searching arcs marks (set path last (record { start = (step_at path last).start; at = (step_at path last).at + 1 }))
  searching-pass =
      let long = length-set path last (next_step (step_at path last)) in
      record {
        sized = searching.sized;
        opened = λ k below. passed-opened k (omega arith);
        placed = λ start place is. let p = searching.placed start place is in (omega arith, same-start place ∙ p.1);
        joined = λ k below. rw (same-node k, same-node (k + 1)) (searching.joined k (omega arith));
        closed = searching.closed;
        calm = searching.calm;
      }

-- the last step is taken off

abbrev marks_close : List Mark → List Step → ℕ → List Mark
marks_close marks path last = set marks (step_at path last).start Done

module _ (arcs : List (ℤ × ℤ)) (marks : List Mark) (path : List Step) (searching : Searching arcs marks path) (last : ℕ) (ends : last + 1 ≡ length path) (no_more : (j : ℕ) → j < length arcs → (arc_at arcs j).0 ≡ node_of arcs (step_at path last) → j < (step_at path last).at) where
  entered : IsOpen arcs marks last (step_at path last)
  entered = searching.opened last (omega arith)

  inside : (step_at path last).start < length marks
  inside = let w = entered.starts.within in let s = searching.sized in omega arith

  settled-still : (other : ℤ) → Settled arcs marks other → Settled arcs (marks_close marks path last) other
  settled-still other settled at begins =
      ⊎_elim (λ (same : at ≡ (step_at path last).start). ap (mark_at (marks_close marks path last)) same ∙ mark-set-same marks (step_at path last).start Done inside)
      (λ (differ : at ≢ (step_at path last).start). mark-set-other marks (step_at path last).start at Done differ ∙ settled at begins)
      (cases_eq at (step_at path last).start)

  -- besides the node that is taken off nothing is settled anew
  settled-or : (other : ℤ) → other ≢ node_of arcs (step_at path last) → Settled arcs (marks_close marks path last) other → Settled arcs marks other
  settled-or other apart settled at begins =
      let differ : at ≢ (step_at path last).start = λ same. apart (sym begins.here ∙ ap (λ i. (arc_at arcs i).0) same) in
      sym (mark-set-other marks (step_at path last).start at Done differ) ∙ settled at begins

  -- each edge of the node that is taken off leads to a node that was settled before
  leads-settled : (next : ℤ) → leads arcs (node_of arcs (step_at path last)) next ≡ true → Settled arcs marks next
  leads-settled next edge =
      let found = leads-found arcs (node_of arcs (step_at path last)) next edge in
      let high = no_more found.0 found.1 found.2 in
      let low : (step_at path last).start ≤ found.0 = from_start found.0 found.2 in
      subst (Settled arcs marks) found.3 (entered.looked found.0 low high)
    where
      from_start : (j : ℕ) → (arc_at arcs j).0 ≡ node_of arcs (step_at path last) → (step_at path last).start ≤ j
      from_start j here = ⊎_elim (λ (below : j < (step_at path last).start). absurd (not_below _ _ here (entered.starts.first j below)))
          (λ (above : (step_at path last).start ≤ j). above)
          (cases_lt j (step_at path last).start)

  not_settled : Settled arcs marks (node_of arcs (step_at path last)) → ⊥
  not_settled settled =
      let done = settled (step_at path last).start entered.starts in
      let on_path = entered.marked in cc

  closed-still : (node next : ℤ) → Settled arcs (marks_close marks path last) node → leads arcs node next ≡ true → Settled arcs (marks_close marks path last) next
  closed-still node next settled edge = settled-still next
      (⊎_elim (λ (same : node ≡ node_of arcs (step_at path last)). leads-settled next (subst (λ n. leads arcs n next ≡ true) same edge))
      (λ (apart : node ≢ node_of arcs (step_at path last)). searching.closed node next (settled-or node apart settled) edge)
      (cases-int node (node_of arcs (step_at path last))))

  no_way_back : (by : List ℤ) → IsWalk (leads arcs) (node_of arcs (step_at path last)) by (node_of arcs (step_at path last)) → ⊥
  no_way_back [] walk = not_settled (leads-settled (node_of arcs (step_at path last)) walk)
  no_way_back (next ∷ by) walk = not_settled (walk-stays (leads arcs) (Settled arcs marks) searching.closed next by (node_of arcs (step_at path last)) (leads-settled next walk.0) walk.1)

  calm-still : (node : ℤ) → Settled arcs (marks_close marks path last) node → (by : List ℤ) → IsWalk (leads arcs) node by node → ⊥
  calm-still node settled by walk =
      ⊎_elim (λ (same : node ≡ node_of arcs (step_at path last)). no_way_back by (subst (λ n. IsWalk (leads arcs) n by n) same walk))
      (λ (apart : node ≢ node_of arcs (step_at path last)). searching.calm node (settled-or node apart settled) by walk)
      (cases-int node (node_of arcs (step_at path last)))

  at-kept : (k : ℕ) → k < last → step_at (take last path) k ≡ step_at path k
  at-kept k below = get_or-take last path k (record { start = 0; at = 0 }) below

  opened-still : (k : ℕ) → k < last → IsOpen arcs (marks_close marks path last) k (step_at path k)
  opened-still k below =
      let o = searching.opened k (omega arith) in
      let top = entered.marked in
      let apart : k ≢ last = omega arith in
      let differ : (step_at path k).start ≢ (step_at path last).start = λ same. let e : mark_at marks (step_at path last).start ≡ OnPath k = subst (λ s. mark_at marks s ≡ OnPath k) same o.marked in
      apart (cc) in
      record {
        starts = o.starts;
        marked = mark-set-other marks (step_at path last).start (step_at path k).start Done differ ∙ o.marked;
        begun = o.begun;
        within = o.within;
        looked = λ j low high. settled-still (arc_at arcs j).1 (o.looked j low high);
      }

  placed-still : (start place : ℕ) → mark_at (marks_close marks path last) start ≡ OnPath place → (place < last) × ((step_at path place).start ≡ start)
  placed-still start place is =
      ⊎_elim (λ (same : start ≡ (step_at path last).start). let e : mark_at (marks_close marks path last) (step_at path last).start ≡ OnPath place = subst (λ s. mark_at (marks_close marks path last) s ≡ OnPath place) same is in
      let done = mark-set-same marks (step_at path last).start Done inside in absurd (cc))
      (λ (differ : start ≢ (step_at path last).start). let was = searching.placed start place (sym (mark-set-other marks (step_at path last).start start Done differ) ∙ is) in
      let apart : place ≢ last = λ same. differ (sym was.1 ∙ ap (λ i. (step_at path i).start) same) in
      (omega arith, was.1))
      (cases_eq start (step_at path last).start)

  pub searching-close : Searching arcs (set marks (step_at path last).start Done) (take last path)
  searching-close =
      let long : length (take last path) ≡ last = length-take-le last path (omega arith) in
      record {
        sized = length-set marks (step_at path last).start Done ∙ searching.sized;
        opened = λ k below. let kept : k < last = omega arith in subst (λ step. IsOpen arcs (marks_close marks path last) k step) (sym (at-kept k kept)) (opened-still k kept);
        placed = λ start place is. let p = placed-still start place is in (omega arith, ap (λ step. step.start) (at-kept place p.0) ∙ p.1);
        joined = λ k below. let kept : k < last = omega arith in let next : k + 1 < last = omega arith in rw (at-kept k kept, at-kept (k + 1) next) (searching.joined k (omega arith));
        closed = closed-still;
        calm = calm-still;
      }

-- the path meets itself

module _ (arcs : List (ℤ × ℤ)) (marks : List Mark) (path : List Step) (searching : Searching arcs marks path) where
  node-at : (k : ℕ) (d : ℤ) → k < length path → get_or (map (node_of arcs) path) k d ≡ node_of arcs (step_at path k)
  node-at k d below = get_or-map (node_of arcs) path k (record { start = 0; at = 0 }) d below

  nodes-differ : AllPairs (λ x y. x ≢ y) (map (node_of arcs) path)
  nodes-differ i j d less below same =
      let long = length-map path (node_of arcs) in
      let o = searching.opened i (omega arith) in
      let p = searching.opened j (omega arith) in
      let nodes : node_of arcs (step_at path i) ≡ node_of arcs (step_at path j) = sym (node-at i d (omega arith)) ∙ (same ∙ node-at j d (omega arith)) in
      let starts = Starts-one arcs (node_of arcs (step_at path j)) (step_at path i).start (step_at path j).start (subst (λ n. Starts arcs n (step_at path i).start) nodes o.starts) p.starts in
      let e : mark_at marks (step_at path j).start ≡ OnPath i = subst (λ s. mark_at marks s ≡ OnPath i) starts o.marked in
      let f = p.marked in
      let equal : i ≡ j = cc in
      omega arith

  nodes-joined : (k : ℕ) → k + 1 < length (map (node_of arcs) path) → leads arcs (get_or (map (node_of arcs) path) k (pos 0)) (get_or (map (node_of arcs) path) (k + 1) (pos 0)) ≡ true
  nodes-joined k below =
      let long = length-map path (node_of arcs) in
      rw (node-at k (pos 0) (omega arith), node-at (k + 1) (pos 0) (omega arith)) (searching.joined k (omega arith))

  pub found-back : (last : ℕ) → last + 1 ≡ length path → IsEdge arcs (step_at path last) → (start place : ℕ) → Starts arcs (arc_at arcs (step_at path last).at).1 start → mark_at marks start ≡ OnPath place → IsFound arcs path place
  found-back last ends edge start place starts on_path =
      let long = length-map path (node_of arcs) in
      let at = searching.placed start place on_path in
      let target : node_of arcs (step_at path place) ≡ (arc_at arcs (step_at path last).at).1 = ap (λ i. (arc_at arcs i).0) at.1 ∙ starts.here in
      let back : leads arcs (node_of arcs (step_at path last)) (node_of arcs (step_at path place)) ≡ true = rw (target, sym edge.here) (leads-at arcs (step_at path last).at edge.within) in
      record {
        within = omega arith;
        starts = λ k below. let o = searching.opened k below in o.starts.within;
        loop = loop-back (leads arcs) (map (node_of arcs) path) place last nodes-differ nodes-joined (omega arith) (omega arith)
            (rw (node-at last (pos 0) (omega arith), node-at place (pos 0) at.0) back);
      }

-- with an empty path what was seen is done
pub seen-done : (arcs : List (ℤ × ℤ)) (marks : List Mark) → Searching arcs marks [] → (start : ℕ) → is_unseen (mark_at marks start) ≡ false → mark_at marks start ≡ Done
seen-done arcs marks searching start seen = go (mark_at marks start) refl where
  go : (mark : Mark) → mark_at marks start ≡ mark → mark_at marks start ≡ Done
  go Unseen is = let unseen : is_unseen (mark_at marks start) ≡ true = ap is_unseen is in absurd (cc)
  go (OnPath place) is = let p = searching.placed start place is in absurd (omega arith)
  go Done is = is

-- where each node with edges is settled, no walk comes back
pub all-settled : (arcs : List (ℤ × ℤ)) (marks : List Mark) (path : List Step) → Searching arcs marks path → ((j : ℕ) → j < length arcs → Settled arcs marks (arc_at arcs j).0) → Acyclic (leads arcs)
all-settled arcs marks path searching settled node by walk =
    searching.calm node (λ start starts. settled start starts.within start (subst (λ n. Starts arcs n start) (sym starts.here) starts)) by walk

-- a search that ended with an empty path settled what it had seen

pub not-unseen : (mark : Mark) → (mark ≡ Unseen → ⊥) → is_unseen mark ≡ false
not-unseen Unseen apart = absurd (apart refl)
not-unseen (OnPath place) apart = refl
not-unseen Done apart = refl

pub seen-settled : (arcs : List (ℤ × ℤ)) (marks : List Mark) (path : List Step) → Searching arcs marks path → path ≡ [] → (node : ℤ) (start : ℕ) → Starts arcs node start → is_unseen (mark_at marks start) ≡ false → Settled arcs marks node
seen-settled arcs marks path searching empty node start starts seen at begins =
    let same = Starts-one arcs node at start begins starts in
    ap (mark_at marks) same ∙ seen-done arcs marks (subst (Searching arcs marks) empty searching) start seen

pub still-settled : (arcs : List (ℤ × ℤ)) (old marks : List Mark) (path : List Step) → Searching arcs marks path → path ≡ [] → StaysSeen old marks → (node : ℤ) → Settled arcs old node → Settled arcs marks node
still-settled arcs old marks path searching empty stays node settled at begins =
    seen-done arcs marks (subst (Searching arcs marks) empty searching) at (stays at (ap is_unseen (settled at begins)))

pub settled-after : {E : Type 0} (arcs : List (ℤ × ℤ)) (marks : List Mark) (path : List Step) (node : ℤ) (start : ℕ) → Starts arcs node start → (r : Result (Option ℕ) E) → IfOk r (λ found. IsNone found → Searching arcs marks path) → IfOk r (λ found. IsNone found → path ≡ []) → IfOk r (λ found. IsNone found → is_unseen (mark_at marks start) ≡ false) → IfOk r (λ found. IsNone found → Settled arcs marks node)
settled-after arcs marks path node start starts (Ok found) searching empty seen =
    λ none. seen-settled arcs marks path (searching none) (empty none) node start starts (seen none)
settled-after arcs marks path node start starts (Err e) searching empty seen = tt

pub stays-after : {E : Type 0} (arcs : List (ℤ × ℤ)) (old marks : List Mark) (path : List Step) → (r : Result (Option ℕ) E) → IfOk r (λ found. IsNone found → Searching arcs marks path) → IfOk r (λ found. IsNone found → path ≡ []) → IfOk r (λ found. IsNone found → StaysSeen old marks) → IfOk r (λ found. IsNone found → (node : ℤ) → Settled arcs old node → Settled arcs marks node)
stays-after arcs old marks path (Ok found) searching empty stays =
    λ none. still-settled arcs old marks path (searching none) (empty none) (stays none)
stays-after arcs old marks path (Err e) searching empty stays = tt
