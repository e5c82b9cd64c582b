use Rattle.std.proofs.Common.{◌≡◌, ◌∙◌, sym, subst, codes, []}
use Rattle.std.specs.Fmt.{signed_decimal}
use Rattle.asp_tools.specs.Sayings.{rejected_cycle_text}
use Rattle.asp_tools.proofs.SayingLaws.{line-written, cycle-words}
use Rattle.asp_tools.proofs.sayings.rejected_cycle_text.Goals as goal

pub returns : goal.returns
returns c =
    subst (λ nodes. c.push.new.self.items ≡ rejected_cycle_text nodes) c.as_slice.ensures
    (line-written [] c.in_ok-text.text.items c.push_nodes.new.out.items c.push.new.self.items (codes "rejected cycle") signed_decimal c.as_slice.result.now c.in_ok-text.ensures.items c.in_ok-push_nodes.ensures c.in_ok-push.ensures.items
    ∙ sym (cycle-words c.as_slice.result.now))
