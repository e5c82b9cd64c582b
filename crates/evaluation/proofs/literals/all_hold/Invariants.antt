use Rattle.std.proofs.Common.{◌≡◌, drop}
use Rattle.asp_base.specs.Literal.{all_hold}
use Rattle.evaluation.proofs.literals.all_hold.Given as goal

abbrev pub invariant-loop-lit : goal.invariant-loop-lit
invariant-loop-lit g l = all_hold (drop l.lit-index l.lits) (g.I.Interpretation.truth l.truth) (g.I.Interpretation.truth l.truth) ≡ all_hold l.lits (g.I.Interpretation.truth l.truth) (g.I.Interpretation.truth l.truth)
