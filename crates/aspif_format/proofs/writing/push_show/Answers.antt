use Rattle.std.proofs.Common.{ℕ, List, length, ◌∷◌, [], ◌++◌, codes}
use Rattle.asp_base.specs.Literal.{Literal}
use Rattle.std.specs.Fmt.{decimal}
use Rattle.statement_fields.specs.FieldWords.{literal_words, spaced_before}
use Rattle.statement_fields.proofs.LinePieces.{four_appends, made_of_two, two_lists-line}
use Rattle.aspif_format.proofs.writing.push_show.Goals as goal

pub returns-clause-ok : goal.returns-clause-ok
returns-clause-ok c =
    let show = c.args.show.now in
    let made : List ℕ → List Literal → List ℕ = λ name lits. codes "4" ++ (spaced_before (decimal (length name) ∷ name ∷ []) ++ (spaced_before (literal_words lits) ++ (10 ∷ []))) in
    made_of_two made c.args.out.now.items _ _ _ show.name _ show.condition
    (four_appends _ _ _ _ _ _ _ _ _ c.in_ok-push.ensures.items c.in_ok-push_name.ensures.ok c.in_ok-push_literals.ensures.ok c.in_ok-push-2.ensures.items)
    c.as_slice.ensures c.as_slice-2.ensures (two_lists-line (codes "4") (decimal (length show.name) ∷ show.name ∷ []) (literal_words show.condition))
