use Rattle.std.proofs.Common.{length, decimal, ◌∷◌, [], ◌++◌, codes}
use Rattle.statement_fields.specs.FieldWords.{literal_words, spaced_before}
use Rattle.statement_fields.proofs.LinePieces.{made_of_two, three_appends, two_more-line}
use Rattle.symbol_map.specs.private.Fronts.{name_front}
use Rattle.symbol_map.proofs.text.push_show.Goals as goal

pub returns-clause-ok : goal.returns-clause-ok
returns-clause-ok c =
    let show = c.args.show.now in
    made_of_two (λ name lits. name_front name ++ (spaced_before (literal_words lits) ++ (10 ∷ []))) _ _ _ _ show.name _ show.condition
    (three_appends c.args.out.now.items _ _ _ _ _ _ c.in_ok-push_name.ensures.ok c.in_ok-push_literals.ensures.ok c.in_ok-push.ensures.items)
    c.as_slice.ensures c.as_slice-2.ensures (two_more-line (codes "show") (decimal (length show.name)) show.name (literal_words show.condition))
