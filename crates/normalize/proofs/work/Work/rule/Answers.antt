-- A choice without atoms derives nothing. The literals of another rule are known, and a rule over a
-- sum is not normal.
use Rattle.std.proofs.Common.{◌∙◌, sym, subst}
use Rattle.std.proofs.lemmas.Result.{IfOk-weaker}
use Rattle.ground_program.specs.Dependencies.{positives_of_body}
use Rattle.ground_program.specs.Normal.{IsNormalBody}
use Rattle.ground_program.specs.Occurrences.{atoms_of_head}
use Rattle.normalize.specs.private.Stage.{LitsKnown}
use Rattle.normalize.proofs.AddedLaws.{Adds-nothing}
use Rattle.normalize.proofs.GoingOn.{idle-turns, rule-lits}
use Rattle.normalize.proofs.work.Work.rule.Goals as goal

pub returns-then-is_idle-clause-turns : goal.returns-then-is_idle-clause-turns
returns-then-is_idle-clause-turns c =
    idle-turns c.args.self c.known.ensures c.args.rule.now
    (sym c.is_idle.ensures ∙ c.if-is_idle.true)

pub returns-then-is_idle-clause-adds : goal.returns-then-is_idle-clause-adds
returns-then-is_idle-clause-adds c =
    Adds-nothing (atoms_of_head c.args.rule.now.head) (positives_of_body c.args.rule.now.body)
    c.args.self

pub over-requires-clause-lits : goal.over-requires-clause-lits
over-requires-clause-lits c =
    subst (LitsKnown c.args.self) (sym c.as_slice.ensures)
    (rule-lits c.args.self c.args.rule.now c.in-All.lits c.requires.fits c.in-All.is)

pub returns-in-Sum-clause-same : goal.returns-in-Sum-clause-same
returns-in-Sum-clause-same c =
    IfOk-weaker c.summed.result _ _
    (λ work p n. absurd (subst IsNormalBody c.in-Sum.is n.1)) c.summed.ensures.turns
