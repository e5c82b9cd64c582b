-- A new entry stands behind the others.
use Rattle.std.proofs.Common.{◌∙◌, ◌==◌, sym, subst, ap, ◌++◌, ◌∷◌, []}
use Rattle.indexmap.proofs.CallerLemmas.{insert_entry-new}
use Rattle.normalize.specs.private.Stage.{IsUnlisted}
use Rattle.normalize.proofs.Listing.{unlisted-lookup}
use Rattle.normalize.proofs.complements.Complements.insert.Goals as goal

pub returns : goal.returns
returns c =
    let none =
    unlisted-lookup c.args.atom c.self.inside.atoms.entries
    (subst (λ pairs. IsUnlisted pairs c.args.atom) (sym c.self.view_is) c.requires.unlisted) in
    c.in_ok-insert.ensures.entries
    ∙ (insert_entry-new (λ v w. v == w) c.self.inside.atoms c.args.atom c.args.complement none
    ∙ ap (λ pairs. pairs ++ ((c.args.atom, c.args.complement) ∷ [])) c.self.view_is)
