use Rattle.std.proofs.Common.{◌∙◌, ap, sym, ◌++◌, codes}
use Rattle.std.specs.Fmt.{signed_decimal}
use Rattle.asp_tools.proofs.SayingLaws.{line-written, costs-line}
use Rattle.asp_tools.proofs.sayings.push_costs.Goals as goal

pub returns : goal.returns
returns c =
    line-written c.args.out.now.items c.extend_from_slice.new.self.items c.push_numbers.new.out.items c.push.new.self.items (codes "cost") signed_decimal c.args.costs.now
    c.in_ok-extend_from_slice.ensures.items c.in_ok-push_numbers.ensures c.in_ok-push.ensures.items
    ∙ ap (λ s. c.args.out.now.items ++ s) (sym (costs-line c.args.costs.now c.if-is_empty.ensures))
