-- What stands for the normal rules stands for the program.
use Rattle.std.proofs.Common.{◌∙◌, ◌≤◌, ◌^◌, arith}
use Rattle.ground_program.specs.Room.{room}
use Rattle.ground_program.specs.Size.{size}
use Rattle.acyc_translation.proofs.EncodedLaws.{ok-weaker, made-acyclic, made-encoded, bound-few, light-from}
use Rattle.acyc_translation.proofs.recursion.encode.Goals as goal

pub returns-in-Ok-clause-acyclic : goal.returns-in-Ok-clause-acyclic
returns-in-Ok-clause-acyclic c =
    ok-weaker _ _
    (λ q h. made-acyclic c.args.encoding c.args.program.now c.in-Ok.made q h.0 c.in-Ok.ensures.faithful c.in-Ok.ensures.atoms h.1 h.2)
    c.encode_normal.result c.encode_normal.ensures.made

pub returns-in-Ok-clause-encoded : goal.returns-in-Ok-clause-encoded
returns-in-Ok-clause-encoded c =
    ok-weaker _ _ (λ q h. made-encoded c.args.encoding c.args.program.now c.in-Ok.made q h.0 c.in-Ok.ensures.same h.2) c.encode_normal.result c.encode_normal.ensures.made

pub returns-in-Ok-clause-levels : goal.returns-in-Ok-clause-levels
returns-in-Ok-clause-levels c = ok-weaker _ _ (λ q h. h.2.levels ∙ c.in-Ok.ensures.rest.levels) c.encode_normal.result c.encode_normal.ensures.made

pub returns-in-Ok-clause-light : goal.returns-in-Ok-clause-light
returns-in-Ok-clause-light c =
    let within : size c.in-Ok.made ≤ room c.args.program.now = c.in-Ok.ensures.size in
    let room : room c.args.program.now ≤ 2 ^ 24 = c.in-Ok.ensures.built in
    ok-weaker _ _ (λ q h. light-from c.in-Ok.made q (omega arith) h.2.levels) c.encode_normal.result c.encode_normal.ensures.made

pub returns-in-Ok-clause-small : goal.returns-in-Ok-clause-small
returns-in-Ok-clause-small c =
    ok-weaker _ _
    (λ q h.
    let few : h.0 ≤ 2 ^ 28 = bound-few c.args.encoding c.args.program.now h.0 c.in-Ok.ensures.built h.1 in
    let size : size q ≤ h.0 = h.2.size in omega arith)
    c.encode_normal.result c.encode_normal.ensures.made
