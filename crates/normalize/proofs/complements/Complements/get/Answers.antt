-- What is found is listed, and where nothing is found nothing is.
use Rattle.std.proofs.Common.{◌∙◌, sym, subst, IfSome, IfNone}
use Rattle.normalize.specs.private.Stage.{Listed, IsUnlisted}
use Rattle.normalize.proofs.Listing.{lookup-listed, lookup-unlisted}
use Rattle.normalize.proofs.complements.Complements.get.Goals as goal

pub returns-clause-listed : goal.returns-clause-listed
returns-clause-listed c =
    subst (λ pairs. IfSome c.copied.result (λ x. Listed pairs c.args.atom x)) c.self.view_is
    (subst (λ r. IfSome r (λ x. Listed c.self.inside.atoms.entries c.args.atom x))
    (sym (c.copied.ensures ∙ c.get.ensures.value))
    (lookup-listed c.args.atom c.self.inside.atoms.entries))

pub returns-clause-unlisted : goal.returns-clause-unlisted
returns-clause-unlisted c =
    subst (λ pairs. IfNone c.copied.result (IsUnlisted pairs c.args.atom)) c.self.view_is
    (subst (λ r. IfNone r (IsUnlisted c.self.inside.atoms.entries c.args.atom))
    (sym (c.copied.ensures ∙ c.get.ensures.value))
    (lookup-unlisted c.args.atom c.self.inside.atoms.entries))
