-- The weights of a body are weights of a level.
use Rattle.std.proofs.Common.{arith}
use Rattle.std.proofs.lemmas.Int.{ints}
use Rattle.asp_base.specs.Literal.{atom_of}
use Rattle.asp_base.proofs.Each.{each-weaker}
use Rattle.ground_program.specs.Facts.{IsAtom, FitsWeight, FitsBodyWeight}
use Rattle.smodels_format.proofs.rule.minimize.Goals as goal

pub add_level-requires : goal.add_level-requires
add_level-requires c =
    each-weaker (λ item. IsAtom (atom_of item.0) × FitsBodyWeight item.1) (λ item. IsAtom (atom_of item.0) × FitsWeight item.1)
    (λ item h. (h.0, (omega (arith, ints, h.1.0), h.1.1))) _ c.in_ok-items.ensures.fits.1
