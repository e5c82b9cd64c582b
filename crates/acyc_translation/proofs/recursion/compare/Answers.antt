-- There are no more pairs than the tangle.
use Rattle.std.proofs.Common.{◌≡◌, refl, ◌≤◌, ◌*◌, ◌+◌, ◌^◌, arith}
use Rattle.ground_program.specs.Room.{room}
use Rattle.ground_program.specs.Size.{size}
use Rattle.ground_program.specs.Tangle.{pairs, tangle}
use Rattle.acyc_translation.specs.declared.encoding.Encoding.TheVariants as encodings
use Rattle.acyc_translation.proofs.EncodedLaws.{made-more}
use Rattle.acyc_translation.proofs.recursion.compare.Goals as goal

pub returns-in-Ok-clause-made : goal.returns-in-Ok-clause-made
returns-in-Ok-clause-made c =
    let t = c.in_ok-tangle.ensures in
    let own = c.in-Ok.ensures in
    let few : t.0 ≤ 2 ^ 24 = omega (arith, t.2, c.if-tangle-gt-TANGLE_LIMIT.false) in
    let more : pairs c.args.made.now.rules own.0 ≤ tangle c.args.program.now.rules t.1.parts = c.requires.tangle own.0 t.1.parts own.1 t.1.cyclic in
    let sum : tangle c.args.program.now.rules t.1.parts ≡ t.0 = t.1.sum in
    let within : size c.args.made.now ≤ room c.args.program.now = c.requires.size in (
      8 * (t.0 + room c.args.program.now),
      (t.0, t.1, few, refl),
      made-more encodings.Unique c.args.made.now c.in-Ok.made (8 * (pairs c.args.made.now.rules own.0 + size c.args.made.now)) (8 * (t.0 + room c.args.program.now)) (omega arith) own.2,
    )
