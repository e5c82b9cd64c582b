use Rattle.std.proofs.Common.{refl, ◌∙◌, arith}
use Rattle.std.proofs.lemmas.List.{length-map}
use Rattle.job_shell.specs.Reads.{names_of}
use Rattle.job_shell.proofs.RanLaws.{memory-completes, stopped-completes, delivered-ran, delivered-completes, delivered-exactly}
use Rattle.job_shell.proofs.TooLongLaws.{exactly-none}
use Rattle.job_shell.proofs.shell.run_job.Goals as goal

pub returns-in-Ok-reply-clause-ran : goal.returns-in-Ok-reply-clause-ran
returns-in-Ok-reply-clause-ran g c =
    delivered-ran (record { answers = g.C.Command.answers c.args.command.now; makes = g.C.Command.makes c.args.command.now; says = g.C.Command.says c.args.command.now }) _ _ _ _ _ _ c.in-Ok.ensures.ok
    c.in-Ok-reply.reply.answer c.in-Ok-reply.reply.made c.in-Ok-reply.reply.said c.in-Ok-reply.ensures.answers _ (length-map c.args.writes.now _ ∙ c.requires.outputs)
    c.in-Ok-reply.ensures.made c.in-Ok-reply.ensures.said _ (omega (arith, length-map c.args.reads.now (λ name. name.now))) c.deliver.result c.deliver.ensures

pub returns-in-Ok-reply-clause-completes : goal.returns-in-Ok-reply-clause-completes
returns-in-Ok-reply-clause-completes g c =
    delivered-completes (record { answers = g.C.Command.answers c.args.command.now; makes = g.C.Command.makes c.args.command.now; says = g.C.Command.says c.args.command.now }) _ _ _ _ _ _ c.in-Ok.ensures.ok
    c.in-Ok-reply.reply.answer c.in-Ok-reply.reply.made c.in-Ok-reply.reply.said c.in-Ok-reply.ensures.answers _ (length-map c.args.writes.now _ ∙ c.requires.outputs)
    c.in-Ok-reply.ensures.made c.in-Ok-reply.ensures.said _ (omega (arith, length-map c.args.reads.now (λ name. name.now))) c.deliver.result c.deliver.ensures

pub returns-in-Ok-reply-clause-too_long : goal.returns-in-Ok-reply-clause-too_long
returns-in-Ok-reply-clause-too_long g c = delivered-exactly _ _ _ _ _ c.in-Ok.ensures.ok _ _ _ _ _ c.deliver.result c.deliver.ensures

pub returns-in-Err-reply-clause-completes : goal.returns-in-Err-reply-clause-completes
returns-in-Err-reply-clause-completes g c =
    memory-completes (record { answers = g.C.Command.answers c.args.command.now; makes = g.C.Command.makes c.args.command.now; says = g.C.Command.says c.args.command.now }) (names_of c.args.reads.now) (g.D.Desk.state c.args.desk.now) (g.D.Desk.state c.read_texts.new.desk)

pub returns-in-Err-reply-clause-too_long : goal.returns-in-Err-reply-clause-too_long
returns-in-Err-reply-clause-too_long g c = exactly-none _ _ refl 1 _ c.in-Ok.ensures.ok.short

pub returns-in-Err-clause-completes : goal.returns-in-Err-clause-completes
returns-in-Err-clause-completes g c = stopped-completes _ _ _ _ c.in-Err.ended c.in-Err.ensures.err
