-- Required literals that are added one by one.
use Rattle.std.proofs.Common.{◌≡◌, List, [], ◌∷◌, ◌++◌, ap, append_assoc, append-nil}
use Rattle.asp_base.specs.Literal.{Literal}
use Rattle.ground_program.specs.Draft.{Draft, with_required}

pub with_required-none : (d : Draft) → with_required [] d ≡ d
with_required-none d = ap (λ lits. record d { required = lits }) (append-nil d.required)

pub with_required-more : (front : List Literal) (l : Literal) (d : Draft) → with_required (l ∷ []) (with_required front d) ≡ with_required (front ++ (l ∷ [])) d
with_required-more front l d = ap (λ lits. record d { required = lits }) (append_assoc d.required front (l ∷ []))

pub ruleset required_steps = (with_required-none, with_required-more)
