use Rattle.std.proofs.Common.{◌≡◌, ◌∙◌, ap, ap₂, subst, List, ℕ, map}
use Rattle.std.proofs.lemmas.Result.{IfOk-weaker}
use Rattle.asp_base.specs.Sets.{none}
use Rattle.ground_program.specs.Facts.{IsProgram}
use Rattle.ground_program.specs.Ground.{Ground}
use Rattle.ground_program.specs.Stable.{grown}
use Rattle.ground_program.specs.declared.program.Rule.{Rule}
use Rattle.stable_check.specs.private.Lack.{flag}
use Rattle.stable_check.proofs.LeastLaws.{least-by_flags}
use Rattle.stable_check.proofs.least_model.least_model.Goals as goal

pub returns : goal.returns
returns c =
    let P : Ground = c.args.program.now in
    let facts : IsProgram P = subst IsProgram c.program.view_is c.program.invariant in
    let atoms : c.program.inside.atoms ≡ P.atoms = ap (λ (P : Ground). P.atoms) c.program.view_is in
    let rules : c.as_slice-rules.result.now ≡ P.rules = c.as_slice-rules.ensures ∙ ap (λ (P : Ground). P.rules) c.program.view_is in
    IfOk-weaker c.grown.result _ _
    (λ model e M flags. e
    ∙ ap₂ (λ (as_ : List ℕ) (rs : List Rule). map (grown rs (flag as_ c.args.set.now) none) as_) atoms rules
    ∙ least-by_flags P.atoms P.rules c.args.set.now M facts.atoms_rise facts.rules flags)
    c.grown.ensures
