-- The numbers are keys below the count and one, one for each atom.
use Rattle.std.proofs.Common.{◌≡◌, ℕ, ◌+◌, ◌<◌, List, ◌∙◌, ap, length, get_or, arith, subst, sym}
use Rattle.std.proofs.lemmas.List.FromFn.{length-map-range_with_len}
use Rattle.graph_parts.specs.Groups.{pair_at}
use Rattle.graph_parts.proofs.KeyLaws.{keys-below}
use Rattle.components.specs.private.Kept.{numbered}
use Rattle.components.proofs.finding.grouped_atoms.Goals as goal

pub grouped-requires-clause-keys : goal.grouped-requires-clause-keys
grouped-requires-clause-keys c =
    let are : c.as_slice.result.now ≡ numbered c.args.atoms.now c.args.parts.now.numbers = c.as_slice.ensures.value ∙ c.in_ok-pairs.ensures in
    let sized = c.requires.sized in
    let count = c.count.ensures in
    subst (λ (pairs : List (ℕ × ℕ)). (j : ℕ) → j < length pairs → (pair_at pairs j).0 < c.count.result + 1) (sym are)
    (keys-below (λ j. get_or c.args.parts.now.numbers j 0) (λ j. get_or c.args.atoms.now j 0) (length c.args.atoms.now) (c.count.result + 1) (λ u below. let most = c.requires.most u (omega arith) in omega arith))

pub grouped-requires-clause-few : goal.grouped-requires-clause-few
grouped-requires-clause-few c =
    let are : length c.as_slice.result.now ≡ length (numbered c.args.atoms.now c.args.parts.now.numbers) = ap length (c.as_slice.ensures.value ∙ c.in_ok-pairs.ensures) in
    let long : length (numbered c.args.atoms.now c.args.parts.now.numbers) ≡ length c.args.atoms.now = length-map-range_with_len (λ j. (get_or c.args.parts.now.numbers j 0, get_or c.args.atoms.now j 0)) 0 (length c.args.atoms.now) in
    let few = c.requires.few in
    omega arith
