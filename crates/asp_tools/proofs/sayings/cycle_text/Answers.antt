use Rattle.std.proofs.Common.{◌≡◌, subst, codes, []}
use Rattle.std.specs.Fmt.{signed_decimal}
use Rattle.asp_tools.specs.Sayings.{cycle_text}
use Rattle.asp_tools.proofs.SayingLaws.{line-written}
use Rattle.asp_tools.proofs.sayings.cycle_text.Goals as goal

pub returns : goal.returns
returns c =
    subst (λ nodes. c.push.new.self.items ≡ cycle_text nodes) c.as_slice.ensures
    (line-written [] c.in_ok-text.text.items c.push_nodes.new.out.items c.push.new.self.items (codes "cycle") signed_decimal c.as_slice.result.now c.in_ok-text.ensures.items c.in_ok-push_nodes.ensures c.in_ok-push.ensures.items)
