use Rattle.std.proofs.Common.{sym, ◌∙◌, ap, ◌&&◌}
use Rattle.job_shell.specs.Reads.{names_of}
use Rattle.asp_tools.specs.Job.{all_differ, is_name}
use Rattle.asp_tools.proofs.NameLaws.{all-map, differ-from}
use Rattle.asp_tools.proofs.job.are_names.Goals as goal

pub returns-then-all_names-clause-names : goal.returns-then-all_names-clause-names
returns-then-all_names-clause-names c =
    c.all_differ.ensures ∙ ap (λ b. b && all_differ (names_of c.args.names.now)) (c.if-all_names.ensures ∙ sym (all-map is_name (λ name. name.now) c.args.names.now))

pub returns-then-all_names-clause-others : goal.returns-then-all_names-clause-others
returns-then-all_names-clause-others c = λ h. differ-from (names_of c.args.names.now) (sym c.all_differ.ensures ∙ h)

pub returns-else-all_names-clause-names : goal.returns-else-all_names-clause-names
returns-else-all_names-clause-names c =
    c.if-all_names.false ∙ ap (λ b. b && all_differ (names_of c.args.names.now)) (c.if-all_names.ensures ∙ sym (all-map is_name (λ name. name.now) c.args.names.now))
