use Rattle.std.proofs.Common.{sym, ◌∙◌, ap, ◌+◌, ◌&&◌, [], drop}
use Rattle.job_shell.specs.Reads.{names_of}
use Rattle.asp_tools.specs.Job.{all_differ}
use Rattle.asp_tools.proofs.NameLaws.{differ-step}
use Rattle.asp_tools.proofs.job.all_differ.Goals as goal

pub returns-then-not-differs : goal.returns-then-not-differs
returns-then-not-differs c =
    ap (λ b. b && all_differ (names_of (drop (c.loop-place.place + 1) c.args.names.now))) (c.if-not-differs.ensures)
    ∙ (sym (differ-step c.args.names.now c.loop-place.place (record { ref_ptr = (0, 0); now = [] }) c.loop-place-test.true) ∙ c.loop-place.invariant)

pub loop-place-preserved : goal.loop-place-preserved
loop-place-preserved c =
    ap (λ b. b && all_differ (names_of (drop (c.loop-place.place + 1) c.args.names.now))) (c.if-not-differs.ensures)
    ∙ (sym (differ-step c.args.names.now c.loop-place.place (record { ref_ptr = (0, 0); now = [] }) c.loop-place-test.true) ∙ c.loop-place.invariant)
