use Rattle.std.proofs.Common.{◌∙◌, sym, subst, w64}
use Rattle.std.proofs.lemmas.Int.{to_z-of_z}
use Rattle.std.proofs.lemmas.Result.{IfOk-weaker}
use Rattle.std.specs.Result.{OnOk}
use Rattle.ground_program.specs.Room.{sum_measure}
use Rattle.rule_network.specs.Block.{Adds, HasRoom}
use Rattle.weight_rules.specs.Sum.{Reaches}
use Rattle.weight_rules.proofs.SignedLaws.{bound-abs}
use Rattle.weight_rules.proofs.sum.sum_at_least.Goals as goal

pub positive_sum_reached-requires-clause-room : goal.positive_sum_reached-requires-clause-room
positive_sum_reached-requires-clause-room c =
    subst (λ b. HasRoom (sum_measure b c.args.items.now) c.args.net.now)
    (sym (bound-abs _ c.if-bound-le0.false ∙ to_z-of_z w64 c.args.bound c.ranges.bound))
    c.requires.room

pub returns-clause-reaches : goal.returns-clause-reaches
returns-clause-reaches c =
    IfOk-weaker c.positive_sum_reached.result _ _
    (λ reach r. subst
    (λ b. Reaches b c.args.items.now c.args.net.now c.positive_sum_reached.new.net reach)
    (bound-abs _ c.if-bound-le0.false ∙ to_z-of_z w64 c.args.bound c.ranges.bound) r)
    c.positive_sum_reached.ensures.reaches

pub returns-clause-adds : goal.returns-clause-adds
returns-clause-adds c =
    subst
    (λ b. OnOk c.positive_sum_reached.result
    (Adds (sum_measure b c.args.items.now) (sum_measure b c.args.items.now) c.args.net.now
    c.positive_sum_reached.new.net))
    (bound-abs _ c.if-bound-le0.false ∙ to_z-of_z w64 c.args.bound c.ranges.bound)
    c.positive_sum_reached.ensures.adds
