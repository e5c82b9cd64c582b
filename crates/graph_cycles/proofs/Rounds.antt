-- The rounds of a search, by what is seen at the last step.
use Rattle.std.proofs.Common.{◌≡◌, ℕ, ◌+◌, ◌-◌, ◌<◌, true, ℤ, List, [], ◌∷◌, ◌++◌, length, take, set, get_or, arith, refl, sym, subst}
use Rattle.std.proofs.lemmas.List.{get_or_read}
use Rattle.graph_cycles.specs.private.Arcs.{arc_at}
use Rattle.graph_cycles.specs.Cycle.{leads}
use Rattle.graph_cycles.specs.private.Searching.{step_at, node_of, Searching, IsFound, Looked, weight}
use Rattle.graph_cycles.specs.declared.descent.Look.TheVariants as looks
use Rattle.graph_cycles.specs.declared.descent.Mark.{Mark}
use Rattle.graph_cycles.specs.declared.descent.Mark.TheVariants.{OnPath, Done}
use Rattle.graph_cycles.specs.declared.descent.Step.{Step}
use Rattle.graph_cycles.proofs.ArcLaws.{leads-at}
use Rattle.graph_cycles.proofs.SearchingLaws.{searching-open, searching-pass, searching-close, found-back}
use Rattle.graph_cycles.proofs.Weights.{weight-open, weight-pass, weight-close}

-- a search goes on, and what falls fell
abbrev pub Round : List (ℤ × ℤ) → List Mark → List Step → List Mark → List Step → Type 0
Round arcs marks path new_marks new_path =
    Searching arcs new_marks new_path × (weight arcs new_marks new_path < weight arcs marks path)

-- The last of `len` steps was read.
module _ (arcs : List (ℤ × ℤ)) (marks : List Mark) (path : List Step) (searching : Searching arcs marks path) (some : 0 < length path) (len : ℕ) (many : len ≡ length path) (step : Step) (read : step ≡ get_or path (len - 1) step) where
  -- what is shown at the last step of the list holds at the step that was read
  at-step : (See : Step → Type 0) → ((last : ℕ) → last ≡ len - 1 → last + 1 ≡ length path → See (step_at path last)) → See step
  at-step See shown = subst See
      (sym (get_or_read path (len - 1) step (omega arith) read (record { start = 0; at = 0 })))
      (shown (len - 1) refl (omega arith))

  pub round-close : Looked arcs marks step looks.Ended → Round arcs marks path (set marks step.start Done) (take (len - 1) path)
  round-close = at-step (λ s. Looked arcs marks s looks.Ended → Round arcs marks path (set marks s.start Done) (take (len - 1) path))
      (λ last same ends no_more. let top = searching.opened last (omega arith) in
      let inside = top.starts.within in
      let sized = searching.sized in
      subst (λ i. Round arcs marks path (set marks (step_at path last).start Done) (take i path)) same (
        searching-close arcs marks path searching last ends no_more,
        weight-close arcs marks path last (step_at path last).start last ends (omega arith) top.marked top.within,
      ))

  pub round-pass : Looked arcs marks step looks.Past → Round arcs marks path marks (set path (len - 1) (record { start = step.start; at = step.at + 1 }))
  round-pass = at-step (λ s. Looked arcs marks s looks.Past → Round arcs marks path marks (set path (len - 1) (record { start = s.start; at = s.at + 1 })))
      (λ last same ends past. subst (λ i. Round arcs marks path marks (set path i (record { start = (step_at path last).start; at = (step_at path last).at + 1 }))) same (
        searching-pass arcs marks path searching last ends past.0 past.1,
        weight-pass arcs marks path last (omega arith) past.0.within,
      ))

  pub round-open : (start : ℕ) → Looked arcs marks step (looks.New start) → Round arcs marks path (set marks start (OnPath (length path))) (path ++ (record { start = start; at = start } ∷ []))
  round-open start = at-step (λ s. Looked arcs marks s (looks.New start) → Round arcs marks path (set marks start (OnPath (length path))) (path ++ (record { start = start; at = start } ∷ [])))
      (λ last same ends new. let within = new.1.within in
      let sized = searching.sized in
      let to = (arc_at arcs (step_at path last).at).1 in
      let edge : leads arcs (node_of arcs (step_at path last)) (arc_at arcs (step_at path last).at).1 ≡ true = subst (λ n. leads arcs n (arc_at arcs (step_at path last).at).1 ≡ true) new.0.here (leads-at arcs (step_at path last).at new.0.within) in (
        searching-open arcs marks path start searching to new.1 new.2 (λ k end. let top : k ≡ last = omega arith in
            subst (λ i. leads arcs (node_of arcs (step_at path i)) (arc_at arcs (step_at path last).at).1 ≡ true) (sym top) edge),
        weight-open arcs marks path start (omega arith) new.2,
      ))

  pub round-back : (place : ℕ) → Looked arcs marks step (looks.Back place) → IsFound arcs path place
  round-back place = at-step (λ s. Looked arcs marks s (looks.Back place) → IsFound arcs path place)
      (λ last same ends back. found-back arcs marks path searching last ends back.0 back.1.0 place back.1.1 back.1.2)
