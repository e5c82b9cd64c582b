-- There is room for the new atoms, and the parts are the text.
use Rattle.std.proofs.Common.{sym, ◌∙◌, ap, length}
use Rattle.smodels_format.proofs.WrittenSteps.{room-left, length-symbol_atoms}
use Rattle.smodels_format.proofs.WrittenText.{program-written}
use Rattle.smodels_format.proofs.writing.push_program.Goals as goal

pub push_rule_part-requires : goal.push_rule_part-requires
push_rule_part-requires c =
    room-left c.args.program.now c.in_ok-atoms.atoms c.refuted_atom-refuted.new.atoms c.as_slice.result.now c.in_ok-atoms.ensures c.refuted_atom-refuted.ensures.drawn c.requires

pub push_symbol_part-requires : goal.push_symbol_part-requires
push_symbol_part-requires c =
    ap length (c.as_slice-3.ensures.value ∙ c.in_ok-symbols.ensures.symbols)
    ∙ length-symbol_atoms _ _ c.args.program.now.shows
    ∙ ap length (sym (c.as_slice-4.ensures ∙ ap (λ p. p.shows) c.program.view_is))

pub returns-clause-ok : goal.returns-clause-ok
returns-clause-ok c =
    program-written c.args.program.now c.in_ok-atoms.atoms c.refuted_atom-refuted.new.atoms c.as_slice.result.now c.as_slice-2.result.now c.as_slice-4.result.now c.as_slice-5.result.now
    c.refuted_atom-refuted.result c.as_slice-3.result.now
    c.args.out.now.items c.push_rule_part.new.out.items c.push_levels.new.out.items c.push_symbol_part.new.out.items c.push_required_part.new.out.items c.extend_from_slice.new.self.items
    c.in_ok-atoms.ensures
    (c.as_slice.ensures ∙ ap (λ p. p.rules) c.program.view_is)
    (c.as_slice-2.ensures ∙ ap (λ p. p.levels) c.program.view_is)
    (c.as_slice-4.ensures ∙ ap (λ p. p.shows) c.program.view_is)
    (c.as_slice-5.ensures ∙ ap (λ p. p.required) c.program.view_is)
    c.refuted_atom-refuted.ensures.atom c.refuted_atom-refuted.ensures.drawn
    (c.as_slice-3.ensures.value ∙ c.in_ok-symbols.ensures.symbols)
    c.in_ok-symbols.ensures.ok c.in_ok-push_levels.ensures.ok c.in_ok-push_symbol_part.ensures.ok c.in_ok-push_required_part.ensures.ok c.in_ok-extend_from_slice.ensures.items
