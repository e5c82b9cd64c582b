use Rattle.std.proofs.Common.{◌≡◌, ◌∙◌, ◌+◌, ◌^◌, min, sym, ap, subst}
use Rattle.std.specs.Bool.{⊤}
use Rattle.ground_program.specs.Facts.{BodyFits}
use Rattle.ground_program.specs.Room.{body_part, sum_measure}
use Rattle.ground_program.specs.declared.program.Body.TheVariants.{Sum}
use Rattle.ground_program.proofs.RoomLaws.{bound-back, sum-capped}
use Rattle.ground_program.proofs.rooms.body_part.Goals as goal

pub returns-in-Sum : goal.returns-in-Sum
returns-in-Sum c =
    let fits : BodyFits (λ a. ⊤) (Sum c.in-Sum.bound c.in-Sum.items) =
    subst (BodyFits (λ a. ⊤)) c.in-Sum.is c.requires in
    let e : c.sum_measure.result ≡ min (sum_measure c.in-Sum.bound c.as_slice-in-Sum.result.now) (2 ^ 63) =
    subst (λ b. c.sum_measure.result ≡ min (sum_measure b c.as_slice-in-Sum.result.now) (2 ^ 63))
    (bound-back c.in-Sum.bound fits.0) c.sum_measure.ensures in
    c.joined-in-Sum.ensures
    ∙ (sum-capped c.sum_measure.result (sum_measure c.in-Sum.bound c.as_slice-in-Sum.result.now) e
    ∙ (ap (λ xs. min (1 + sum_measure c.in-Sum.bound xs) (2 ^ 63)) c.as_slice-in-Sum.ensures
    ∙ ap (λ body. min (body_part body) (2 ^ 63)) (sym c.in-Sum.is)))
