-- What reaches a node of the graph is one of its nodes, since numbers never rise.
use Rattle.std.proofs.Common.{ℕ, ◌<◌, ◌≤◌, Bool, List, length, get_or, arith, ⊎_elim}
use Rattle.std.proofs.lemmas.Bool.{cases_lt}
use Rattle.std.proofs.lemmas.List.{get_or_past}
use Rattle.asp_base.specs.Walks.{Reaches}
use Rattle.graph_parts.specs.Parts.{AreParts}
use Rattle.graph_parts.proofs.CycleLaws.{large-or-loop, reaches-itself}
use Rattle.graph_parts.proofs.Ways.{walk-falls}
use Rattle.graph_parts.proofs.laws.cyclic_parts_are_large_or_loop.Goals as goal

inside-before : (step : ℕ → ℕ → Bool) (numbers : List ℕ) (count : ℕ) → AreParts step numbers count → (v u : ℕ) → u < length numbers → Reaches step v u → v < length numbers
inside-before step numbers count parts v u inside reaches =
    let down = walk-falls step (λ w. get_or numbers w 0) parts.lower v reaches.0 u reaches.1 in
    let least = parts.least u inside in
    ⊎_elim (λ (low : v < length numbers). low)
    (λ (high : length numbers ≤ v). let past = get_or_past numbers v 0 high in absurd (omega arith))
    (cases_lt v (length numbers))

pub returns : goal.returns
returns c step numbers count cyclic parts cycles u inside =
    let each = cycles.each u inside in (
      λ yes. let reaches = each.0 yes in large-or-loop step (λ v. v < length numbers) (λ v. get_or numbers v 0) parts.together (inside-before step numbers count parts) u inside reaches.0 reaches.1,
      λ either. each.1 (reaches-itself step (λ v. v < length numbers) (λ v. get_or numbers v 0) parts.together u inside either),
    )
