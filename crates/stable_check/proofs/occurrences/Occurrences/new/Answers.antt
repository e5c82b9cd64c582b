use Rattle.std.proofs.Common.{◌∙◌, ap, ap₂, ℕ, List}
use Rattle.stable_check.specs.declared.occurrences.Link.{Link}
use Rattle.stable_check.specs.private.Links.{Entry, rows_of}
use Rattle.stable_check.proofs.LinkLaws.{rows-none}
use Rattle.stable_check.proofs.occurrences.Occurrences.new.Goals as goal

pub returns : goal.returns
returns c =
    ap₂ (λ (first : List ℕ) (links : List Link). record { rules = c.args.rules; rows = rows_of first links })
    (c.in_ok-first.ensures.items_if_clones_equal (λ y e. e)) c.new.ensures.items
    ∙ ap (λ (rows : List (List Entry)). record { rules = c.args.rules; rows = rows }) (rows-none c.args.atoms)
