-- The numbers and the atoms of both signs are the words of the body.
use Rattle.std.proofs.Common.{sym, ◌∙◌, ap, ◌∷◌, ◌++◌, length, decimal}
use Rattle.std.specs.List.{flat_map}
use Rattle.smodels_format.specs.private.Writing.{atom_piece}
use Rattle.smodels_format.specs.declared.sign.Sign.TheVariants.{Negative, Positive}
use Rattle.smodels_format.proofs.WrittenBodies.{literals-written}
use Rattle.statement_fields.proofs.LinePieces.{four_appends-ok}
use Rattle.smodels_format.proofs.push_bodies.push_literals.Goals as goal

pub returns-clause-ok : goal.returns-clause-ok
returns-clause-ok c =
    let lits = c.args.lits.now in
    four_appends-ok _ c.args.out.now.items _ _ _ _ _ _ _ _ _ c.in_ok-push_count.ensures.ok c.in_ok-push_count-2.ensures.ok c.in_ok-push_atoms_of.ensures.ok
    (literals-written lits
    ∙ ap (λ n. (32 ∷ decimal (length lits)) ++ ((32 ∷ decimal n) ++ (flat_map (λ l. atom_piece Negative l) lits ++ flat_map (λ l. atom_piece Positive l) lits))) (sym c.negatives.ensures))
    c.push_atoms_of-2.ensures.ok
