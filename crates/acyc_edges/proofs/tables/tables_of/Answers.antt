-- What is left to show of `tables_of`.
use Rattle.std.proofs.Common.{◌≡◌, ℕ, ◌<◌, List, ◌∙◌, ap, sym, length, subst, arith}
use Rattle.graph_parts.specs.Groups.{pair_at}
use Rattle.acyc_edges.specs.private.Tables.{owners_of}
use Rattle.acyc_edges.proofs.TableLaws.{owners-below, owners-few}
use Rattle.acyc_edges.proofs.tables.tables_of.Goals as goal

pub grouped-requires-clause-keys : goal.grouped-requires-clause-keys
grouped-requires-clause-keys c =
    let are : c.as_slice.result.now ≡ owners_of c.args.program.now = c.as_slice.ensures.value ∙ c.in_ok-pairs.ensures in
    let count : c.len.result ≡ length c.args.program.now.atoms = c.len.ensures.is ∙ ap (λ g. length g.atoms) c.program.view_is in
    subst (λ (n : ℕ). (j : ℕ) → j < length c.as_slice.result.now → (pair_at c.as_slice.result.now j).0 < n) (sym count)
    (subst (λ (pairs : List (ℕ × ℕ)). (j : ℕ) → j < length pairs → (pair_at pairs j).0 < length c.args.program.now.atoms) (sym are) (owners-below c.args.program.now c.known.ensures.facts))

pub grouped-requires-clause-few : goal.grouped-requires-clause-few
grouped-requires-clause-few c =
    omega (arith, ap length (c.as_slice.ensures.value ∙ c.in_ok-pairs.ensures), owners-few c.args.program.now, c.requires.few)
