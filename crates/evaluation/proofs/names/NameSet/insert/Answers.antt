use Rattle.std.proofs.Common.{◌∙◌, ap, map, Bor, List, ℕ}
use Rattle.evaluation.proofs.FirstOnes.{keys-put}
use Rattle.evaluation.proofs.names.NameSet.insert.Goals as goal

pub returns : goal.returns
returns c =
    rw (← c.self.view_is)
    (ap (λ keys. map (λ (name : Bor (List ℕ)). name.now) keys) c.in_ok-insert.ensures.keys
    ∙ keys-put (λ (name : Bor (List ℕ)). name.now) c.self.inside.names.keys c.args.name)
