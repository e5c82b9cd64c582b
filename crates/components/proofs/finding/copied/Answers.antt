-- Rising atoms stay as they are.
use Rattle.std.proofs.Common.{◌≡◌, ◌∙◌, ap, rules, sym}
use Rattle.std.proofs.lemmas.Result.{IfOk-weaker}
use Rattle.rising_numbers.specs.Rising.{rising}
use Rattle.rising_numbers.proofs.RisingLaws.{IsStrictlyIncreasing-from_rises, rising-same}
use Rattle.components.proofs.AtomLaws.{atoms-fit}
use Rattle.components.proofs.finding.copied.Goals as goal

pub of_vec-requires : goal.of_vec-requires
of_vec-requires c =
    let same : c.in_ok-to_vec.field-0.items ≡ c.args.atoms.now = search rules in
    rw same (atoms-fit c.args.atoms.now c.as_slice.ensures.rise c.as_slice.ensures.fit)

pub returns : goal.returns
returns c =
    let same : c.in_ok-to_vec.field-0.items ≡ c.args.atoms.now = search rules in
    IfOk-weaker c.of_vec.result _ _
    (λ copy is. is ∙ ap rising same ∙ sym (rising-same c.args.atoms.now (IsStrictlyIncreasing-from_rises 0 c.args.atoms.now c.as_slice.ensures.rise)))
    c.of_vec.ensures
