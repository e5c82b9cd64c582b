-- The parts that are put together are the program's.
use Rattle.std.proofs.Common.{◌≡◌, ◌∙◌, List, ap, subst, sym}
use Rattle.std.proofs.lemmas.Result.{IfOk-weaker}
use Rattle.ground_program.specs.declared.program.Rule.{Rule}
use Rattle.components.specs.Divided.{members_of}
use Rattle.components.specs.Parts.{ArePartsOf, AreSums}
use Rattle.components.proofs.finding.found.Goals as goal

pub returns : goal.returns
returns c =
    let atoms : c.program.inside.atoms ≡ c.args.program.now.atoms = ap (λ P. P.atoms) c.program.view_is in
    let rules : c.as_slice-rules.result.now ≡ c.args.program.now.rules = c.as_slice-rules.ensures ∙ ap (λ P. P.rules) c.program.view_is in
    IfOk-weaker c.put_together-2.result _ _ (λ all is. subst (ArePartsOf c.args.program.now) (sym is) (record {
      atoms = atoms;
      components = c.in_ok-parts-2.ensures.components;
      sums = subst (λ (rs : List Rule). AreSums rs (λ i. members_of i c.program.inside.atoms c.in_ok-parts-2.parts.numbers) c.in_ok-parts-2.parts.count c.in_ok-parts-2.parts.cyclic c.in_ok-sums.sums.weights.items c.in_ok-sums.sums.terms.items c.in_ok-sums.sums.odd.items) rules c.in_ok-sums.ensures.sums;
    })) c.put_together-2.ensures
