-- What is left to show of `get`.
use Rattle.std.proofs.Common.{◌<◌, ◌≤◌, ◌^◌, sym, ◌∙◌, ap, subst, option_copied}
use Rattle.acyc_edges.specs.private.Numbers.{number_in}
use Rattle.acyc_edges.proofs.NameEq.{lookup-some, lookup-none, number-fits}
use Rattle.acyc_edges.proofs.numbers.Numbers.get.Goals as goal

pub returns-in-Some-clause-is : goal.returns-in-Some-clause-is
returns-in-Some-clause-is c =
    sym (lookup-some c.self.inside.atoms.entries c.args.name c.in-Some.atom.now (sym c.get.ensures.value ∙ ap option_copied c.in-Some.is)) ∙ ap (λ es. number_in es c.args.name) c.self.view_is

pub returns-in-None-clause-is : goal.returns-in-None-clause-is
returns-in-None-clause-is c =
    sym (lookup-none c.self.inside.atoms.entries c.args.name (sym c.get.ensures.value ∙ ap option_copied c.in-None.is)) ∙ ap (λ es. number_in es c.args.name) c.self.view_is

pub returns-in-Some-clause-above : goal.returns-in-Some-clause-above
returns-in-Some-clause-above c =
    subst (λ a. 0 < a) (lookup-some c.self.inside.atoms.entries c.args.name c.in-Some.atom.now (sym c.get.ensures.value ∙ ap option_copied c.in-Some.is))
    ((number-fits c.self.inside.atoms.entries c.args.name c.self.invariant).0)

pub returns-in-Some-clause-below : goal.returns-in-Some-clause-below
returns-in-Some-clause-below c =
    subst (λ a. a ≤ 2 ^ 30) (lookup-some c.self.inside.atoms.entries c.args.name c.in-Some.atom.now (sym c.get.ensures.value ∙ ap option_copied c.in-Some.is))
    ((number-fits c.self.inside.atoms.entries c.args.name c.self.invariant).1)
