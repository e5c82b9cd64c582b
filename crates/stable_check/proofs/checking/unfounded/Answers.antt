use Rattle.std.proofs.Common.{◌≡◌, ◌∙◌, ap, subst, not, map, List, ℕ}
use Rattle.std.specs.List.{filter}
use Rattle.std.proofs.lemmas.Result.{IfOk-weaker}
use Rattle.asp_base.specs.Sets.{members}
use Rattle.ground_program.specs.Facts.{IsProgram}
use Rattle.ground_program.specs.Ground.{Ground}
use Rattle.ground_program.specs.Stable.{least}
use Rattle.stable_check.specs.private.Parts.{flagged}
use Rattle.stable_check.proofs.VerdictLaws.{unfounded-is}
use Rattle.stable_check.proofs.checking.unfounded.Goals as goal

pub returns : goal.returns
returns c =
    let P : Ground = c.args.program.now in
    let set : List ℕ = c.args.set.now in
    let facts : IsProgram P = subst IsProgram c.program.view_is c.program.invariant in
    let atoms : c.program.inside.atoms ≡ P.atoms = ap (λ (P : Ground). P.atoms) c.program.view_is in
    let flags : c.as_slice.result.now ≡ map (members set) P.atoms = c.as_slice.ensures.value ∙ c.in_ok-flags.ensures ∙ ap (map (members set)) atoms in
    let model : c.as_slice-2.result.now ≡ map (least P (members set)) P.atoms = c.as_slice-2.ensures.value ∙ c.in_ok-model.ensures (members set) flags in
    IfOk-weaker c.not_flagged.result _ _
    (λ rest e. e
    ∙ ap (λ (as_ : List ℕ). filter (λ a. not (flagged as_ c.as_slice-2.result.now a)) set) atoms
    ∙ unfounded-is P c.as_slice-2.result.now set facts model)
    c.not_flagged.ensures
