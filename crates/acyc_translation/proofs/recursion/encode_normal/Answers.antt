-- The size is within the room.
use Rattle.std.proofs.Common.{refl, sym, subst, ◌≤◌, ◌*◌, ℕ, arith}
use Rattle.ground_program.specs.Room.{room}
use Rattle.ground_program.specs.Size.{size}
use Rattle.acyc_translation.specs.Encoded.{IsBound}
use Rattle.acyc_translation.specs.declared.encoding.Encoding.TheVariants as encodings
use Rattle.acyc_translation.specs.private.Made.{MadeOf}
use Rattle.acyc_translation.proofs.EncodedLaws.{made-more}
use Rattle.acyc_translation.proofs.recursion.encode_normal.Goals as goal

pub returns-in_ok-choose-in-Plain-clause-made : goal.returns-in_ok-choose-in-Plain-clause-made
returns-in_ok-choose-in-Plain-clause-made c =
    let P = c.args.program.now in
    let N = c.args.made.now in
    let Q = c.in_ok-choose-in-Plain.field-0 in
    let within : size N ≤ room P = c.requires.size in
    subst (λ encoding. (most : ℕ) × IsBound encoding P most × MadeOf encoding N Q most) (sym c.in-Plain.is)
    (12 * room P, refl, made-more encodings.Plain N Q (12 * size N) (12 * room P) (omega arith) c.in_ok-choose-in-Plain.ensures)
