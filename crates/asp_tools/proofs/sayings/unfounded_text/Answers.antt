use Rattle.std.proofs.Common.{◌≡◌, subst, decimal, codes, []}
use Rattle.asp_tools.specs.Sayings.{unfounded_text}
use Rattle.asp_tools.proofs.SayingLaws.{line-written}
use Rattle.asp_tools.proofs.sayings.unfounded_text.Goals as goal

pub returns : goal.returns
returns c =
    subst (λ atoms. c.push.new.self.items ≡ unfounded_text atoms) c.atoms.ensures.atoms
    (line-written [] c.in_ok-text.text.items c.push_each_atom.new.out.items c.push.new.self.items (codes "unfounded") decimal c.atoms.result.now c.in_ok-text.ensures.items c.in_ok-push_each_atom.ensures c.in_ok-push.ensures.items)
