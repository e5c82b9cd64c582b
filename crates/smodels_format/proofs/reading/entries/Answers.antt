-- A fault of a line, and the end of the text, are faults of the part.
use Rattle.std.proofs.Common.{◌∙◌, ap}
use Rattle.asp_base.specs.Faults.{refusal_at}
use Rattle.smodels_format.specs.private.Steps.{entry_of}
use Rattle.smodels_format.proofs.Parts.{part-fails, part-stops}
use Rattle.smodels_format.proofs.reading.entries.Goals as goal

pub returns-in-Err-clause-err : goal.returns-in-Err-clause-err
returns-in-Err-clause-err c next =
    part-fails (entry_of c.args.entries) next c.lines.scan.last c.lines.builder _ _ _ _ _ _ _
    (c.lines.invariant.same next) c.lines-test.ensures.more.0 c.lines-test.ensures.more.1 c.in-Err.ensures.err
    (c.at.ensures ∙ ap (λ n. refusal_at n c.in-Err.fault) (c.line.ensures.line ∙ ap (λ s. s.line.number) c.entry_line.ensures.rest))

pub returns-clause-err : goal.returns-clause-err
returns-clause-err c next =
    part-stops (entry_of c.args.entries) next c.lines.builder _ _ c.lines.scan c.next_line.new.self
    (c.lines.invariant.same next) c.lines-test.ensures.none c.next_line.ensures.next c.no_end.ensures
