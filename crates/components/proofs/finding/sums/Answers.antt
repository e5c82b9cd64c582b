-- Three passes give what is added up for each component.
use Rattle.std.proofs.Common.{◌^◌, ◌∙◌, min}
use Rattle.ground_program.specs.Facts.{Among}
use Rattle.ground_program.specs.Room.{term}
use Rattle.ground_program.proofs.RoomLaws.{rules-measured}
use Rattle.components.specs.Divided.{members_of}
use Rattle.components.specs.private.Adding.{oddness}
use Rattle.components.proofs.SumLaws.{sums-added}
use Rattle.components.proofs.finding.sums.Goals as goal

pub terms-requires : goal.terms-requires
terms-requires c = rules-measured (Among c.args.atoms.now) c.args.rules.now c.requires.fit

pub returns : goal.returns
returns c =
    sums-added c.args.rules.now (λ i. members_of i c.args.atoms.now c.args.parts.now.numbers) c.args.parts.now
    c.in_ok-weights.weights.items c.in_ok-terms.terms.items c.in_ok-odd.odd.items
    c.in_ok-weights.ensures.sized (c.in_ok-weights.ensures.sums (λ rule. 1) (c.as_slice.ensures.value ∙ c.in_ok-costs.ensures))
    c.in_ok-terms.ensures.sized (c.in_ok-terms.ensures.sums (λ rule. min (term rule) (2 ^ 63)) (c.as_slice-2.ensures.value ∙ c.in_ok-costs-2.ensures))
    c.in_ok-odd.ensures.sized (c.in_ok-odd.ensures.sums oddness (c.as_slice-3.ensures.value ∙ c.in_ok-costs-3.ensures))
