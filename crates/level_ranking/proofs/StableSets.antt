-- Without edges the founded sets are the stable models.
use Rattle.std.proofs.Common.{◌≡◌, sym, subst, ℕ, List, []}
use Rattle.asp_base.specs.Sets.{Set}
use Rattle.asp_base.specs.Walks.{Acyclic}
use Rattle.ground_program.specs.Ground.{Ground}
use Rattle.ground_program.specs.Stable.{Founded, Stable, joined}
use Rattle.ground_program.proofs.Negative.{Acyclic-no_edges}
use Rattle.clause_store.specs.Clauses.{Clauses}
use Rattle.completion.specs.Completion.{atoms_at}
use Rattle.completion.specs.Supported.{HasStable}
use Rattle.level_ranking.specs.Ranked.{HasFounded}

stable-from_founded : (P : Ground) (M : Set) → P.edges ≡ [] → Founded P M → Stable P M
stable-from_founded P M none founded = record {
  least_is = founded.least_is;
  keeps = founded.keeps;
  acyclic = subst (λ edges. Acyclic (joined edges M)) (sym none) (Acyclic-no_edges M);
}

pub stable-from_ranked : (P : Ground) (part : ℕ → ℕ) (parts : List ℕ) (F : Clauses) → P.edges ≡ [] → HasFounded P part parts F → HasStable P F
stable-from_ranked P part parts F none has = record {
  stable = λ A model. stable-from_founded P (atoms_at P.atoms A) none (has.founded A model);
  one = has.one;
  onto = λ M stable. has.onto M (record { least_is = stable.least_is; keeps = stable.keeps });
}
