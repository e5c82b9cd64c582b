-- A program's atoms rise, so that they stay as they are.
use Rattle.std.proofs.Common.{◌≡◌, ◌∙◌, ap, rules, sym}
use Rattle.std.proofs.lemmas.Result.{IfOk-weaker}
use Rattle.rising_numbers.specs.Rising.{rising}
use Rattle.rising_numbers.proofs.RisingLaws.{IsStrictlyIncreasing-from_rises, rising-same}
use Rattle.normalize.proofs.GivenLaws.{atoms-fit}
use Rattle.normalize.proofs.given.atoms_of.Goals as goal

pub of_vec-requires : goal.of_vec-requires
of_vec-requires c =
    let same : c.in_ok-to_vec.field-0.items ≡ c.args.program.now.atoms = search rules in
    rw same (atoms-fit 0 c.args.program.now.atoms c.known.ensures.facts.atoms_rise c.known.ensures.facts.atoms_fit)

pub returns : goal.returns
returns c =
    let same : c.in_ok-to_vec.field-0.items ≡ c.args.program.now.atoms = search rules in
    IfOk-weaker c.of_vec.result _ _
    (λ atoms is. is ∙ ap rising same ∙ sym (rising-same c.args.program.now.atoms (IsStrictlyIncreasing-from_rises 0 c.args.program.now.atoms c.known.ensures.facts.atoms_rise)))
    c.of_vec.ensures
