use Rattle.std.proofs.Common.{rules, ◌≡◌, ◌∙◌, ap, None, List}
use Rattle.ground_program.specs.Stable.{names_of, costs_of}
use Rattle.ground_program.specs.declared.program.Level.{Level}
use Rattle.ground_program.specs.declared.program.Show.{Show}
use Rattle.asp_base.specs.Walks.{Acyclic}
use Rattle.clause_store.specs.Assigned.{true_in}
use Rattle.clause_store.specs.Models.{first_false, linked}
use Rattle.back_map.proofs.ModelLaws.{IsModel-from_true}
use Rattle.back_map.proofs.judge.back.Goals as goal

pub returns-clause-judged : goal.returns-clause-judged
returns-clause-judged c =
    let A = true_in c.args.values.now in
    let same : c.args.map.now.vars ≡ c.args.formula.now.vars = search rules in
    let first : first_false c.args.formula.now.hard A ≡ None = search rules in
    let acyclic : Acyclic (linked c.args.formula.now.edges A) = search rules in
    let shows : c.as_slice.result.now ≡ c.args.map.now.shows = search rules in
    let levels : c.as_slice-2.result.now ≡ c.args.map.now.levels = search rules in (
      same,
      (
        IsModel-from_true c.args.formula.now c.args.values.now c.requires.vars acyclic first,
        c.in_ok-seen.ensures.names ∙ ap (λ (xs : List Show). names_of xs A) shows,
        c.in_ok-seen.ensures.costs ∙ ap (λ (xs : List Level). costs_of xs A) levels,
      ),
    )
