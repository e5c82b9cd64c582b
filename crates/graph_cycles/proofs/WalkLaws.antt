-- Walks in two parts, and along a list.
use Rattle.std.proofs.Common.{◌≡◌, ℕ, suc, ◌<◌, Bool, true, List, [], ◌∷◌, ◌++◌, length, get_or, arith}
use Rattle.asp_base.specs.Walks.{IsWalk}

pub walk-join : {N : Type 0} (step : N → N → Bool) (from : N) (by : List N) (mid : N) (more : List N) (to : N) → IsWalk step from by mid → IsWalk step mid more to → IsWalk step from (by ++ (mid ∷ more)) to
walk-join step from [] mid more to first second = (first, second)
walk-join step from (next ∷ by) mid more to first second =
    (first.0, walk-join step next by mid more to first.1 second)

pub walk-parts : {N : Type 0} (step : N → N → Bool) (from : N) (by : List N) (mid : N) (more : List N) (to : N) → IsWalk step from (by ++ (mid ∷ more)) to → IsWalk step from by mid × IsWalk step mid more to
walk-parts step from [] mid more to walk = (walk.0, walk.1)
walk-parts step from (next ∷ by) mid more to walk =
    let parts = walk-parts step next by mid more to walk.1 in ((walk.0, parts.0), parts.1)

-- a walk that begins among nodes whose steps stay among them ends there
pub walk-stays : {N : Type 0} (step : N → N → Bool) (Among : N → Type 0) → ((node next : N) → Among node → step node next ≡ true → Among next) → (from : N) (by : List N) (to : N) → Among from → IsWalk step from by to → Among to
walk-stays step Among stays from [] to here walk = stays from to here walk
walk-stays step Among stays from (next ∷ by) to here walk =
    walk-stays step Among stays next by to (stays from next here walk.0) walk.1

-- a list whose neighbours are joined is a walk
pub walk-along : {N : Type 0} (step : N → N → Bool) (from : N) (by : List N) (to d : N) → ((k : ℕ) → k < length by → step (get_or (from ∷ by) k d) (get_or by k d) ≡ true) → step (get_or (from ∷ by) (length by) d) to ≡ true → IsWalk step from by to
walk-along step from [] to d joined last = last
walk-along step from (next ∷ by) to d joined last =
    (joined 0 (omega arith), walk-along step next by to d (λ k below. joined (suc k) (omega arith)) last)
