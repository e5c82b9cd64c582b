-- There is room for the new atoms behind those of the rules.
use Rattle.std.proofs.Common.{◌∙◌, ap, length}
use Rattle.smodels_format.proofs.WrittenSteps.{room-behind, length-symbol_atoms}
use Rattle.smodels_format.proofs.writing.push_rule_part.Goals as goal

pub symbol_atoms-requires : goal.symbol_atoms-requires
symbol_atoms-requires c =
    room-behind c.args.program.now c.args.atoms.now c.push_rules.new.atoms c.as_slice.result.now c.as_slice-shows.result.now
    (c.as_slice.ensures ∙ ap (λ p. p.rules) c.program.view_is) (c.as_slice-shows.ensures ∙ ap (λ p. p.shows) c.program.view_is) c.in_ok-push_rules.ensures.drawn c.requires

pub push_condition_rules-requires : goal.push_condition_rules-requires
push_condition_rules-requires c = ap length (c.as_slice-2.ensures.value ∙ c.in_ok-symbols.ensures) ∙ length-symbol_atoms _ _ c.as_slice-shows.result.now
