-- What falls in each round of a search.
use Rattle.std.proofs.Common.{◌≡◌, ℕ, ◌+◌, ◌-◌, ◌<◌, ◌≤◌, ℤ, List, [], ◌∷◌, ◌++◌, length, take, set, arith, sym, ◌∙◌, ap, cond}
use Rattle.std.specs.List.{count_by, sum_by}
use Rattle.std.proofs.lemmas.List.{take_all}
use Rattle.std.proofs.lemmas.List.Sums.{sum_by-set, sum_by_push, sum_by_more}
use Rattle.graph_cycles.specs.private.Searching.{mark_at, is_unseen, step_at, weight}
use Rattle.graph_cycles.specs.declared.descent.Mark.{Mark}
use Rattle.graph_cycles.specs.declared.descent.Mark.TheVariants.{Unseen, OnPath, Done}
use Rattle.graph_cycles.specs.declared.descent.Step.{Step}

-- what one mark counts
abbrev pub unseen_count : Mark → ℕ
unseen_count mark = cond (is_unseen mark) 1 0

-- what one step weighs
abbrev pub left : List (ℤ × ℤ) → Step → ℕ
left arcs step = length arcs + 1 - step.at

pub weight-open : (arcs : List (ℤ × ℤ)) (marks : List Mark) (path : List Step) (start : ℕ) → start < length marks → mark_at marks start ≡ Unseen → weight arcs (set marks start (OnPath (length path))) (path ++ (record { start = start; at = start } ∷ [])) < weight arcs marks path
weight-open arcs marks path start within unseen =
    let count : count_by is_unseen (set marks start (OnPath (length path))) + unseen_count (mark_at marks start) ≡ count_by is_unseen marks + 0 = sum_by-set unseen_count marks start (OnPath (length path)) Done within in
    let one : unseen_count (mark_at marks start) ≡ 1 = ap unseen_count unseen in
    let fewer : count_by is_unseen marks ≡ count_by is_unseen (set marks start (OnPath (length path))) + 1 = omega arith in
    let pushed : sum_by (left arcs) (path ++ (record { start = start; at = start } ∷ [])) ≡ sum_by (left arcs) path + (length arcs + 1 - start) = sum_by_push (left arcs) path (record { start = start; at = start }) in
    rw (fewer, pushed) (omega arith)

pub weight-pass : (arcs : List (ℤ × ℤ)) (marks : List Mark) (path : List Step) (last : ℕ) → last < length path → (step_at path last).at < length arcs → weight arcs marks (set path last (record { start = (step_at path last).start; at = (step_at path last).at + 1 })) < weight arcs marks path
weight-pass arcs marks path last within more =
    let moved = sum_by-set (left arcs) path last (record { start = (step_at path last).start; at = (step_at path last).at + 1 }) (record { start = 0; at = 0 }) within in
    omega arith

pub weight-close : (arcs : List (ℤ × ℤ)) (marks : List Mark) (path : List Step) (last start place : ℕ) → last + 1 ≡ length path → start < length marks → mark_at marks start ≡ OnPath place → (step_at path last).at ≤ length arcs → weight arcs (set marks start Done) (take last path) < weight arcs marks path
weight-close arcs marks path last start place ends within entered at =
    let count : count_by is_unseen (set marks start Done) + unseen_count (mark_at marks start) ≡ count_by is_unseen marks + 0 = sum_by-set unseen_count marks start Done Done within in
    let none : unseen_count (mark_at marks start) ≡ 0 = ap unseen_count entered in
    let same : count_by is_unseen (set marks start Done) ≡ count_by is_unseen marks = omega arith in
    let parts : sum_by (left arcs) (take (last + 1) path) ≡ sum_by (left arcs) (take last path) + left arcs (step_at path last) = sum_by_more (left arcs) path last (record { start = 0; at = 0 }) (omega arith) in
    let whole : take (last + 1) path ≡ path = take_all (last + 1) path (omega arith) in
    let all : sum_by (left arcs) path ≡ sum_by (left arcs) (take last path) + (length arcs + 1 - (step_at path last).at) = ap (sum_by (left arcs)) (sym whole) ∙ parts in
    rw same (omega arith)
