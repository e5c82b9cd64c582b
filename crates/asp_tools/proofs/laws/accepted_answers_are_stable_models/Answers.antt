use Rattle.std.proofs.Common.{◌∙◌, ap}
use Rattle.ground_program.specs.Stable.{visible}
use Rattle.symbol_map.specs.Restrict.{restrict, costs}
use Rattle.asp_tools.specs.BackAnswers.{values_of}
use Rattle.asp_tools.specs.Sayings.{accepted_text}
use Rattle.asp_tools.proofs.laws.accepted_answers_are_stable_models.Goals as goal

pub returns-clause-stable : goal.returns-clause-stable
returns-clause-stable c = λ P F m x said f j. f.stable (values_of x) j.1

pub returns-clause-said : goal.returns-clause-said
returns-clause-said c = λ P F m x said f j.
    j.2 ∙ (ap (λ ns. accepted_text ns (costs m (values_of x))) (f.names (values_of x) j.1) ∙ ap (accepted_text (visible P (restrict m (values_of x)))) (f.costs (values_of x) j.1))
