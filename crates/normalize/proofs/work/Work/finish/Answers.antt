-- The made program is a program.
use Rattle.std.proofs.Common.{◌∙◌, ◌++◌, ap, ap₂}
use Rattle.std.specs.List.{flat_map}
use Rattle.ground_program.specs.private.Inside.{ground_of}
use Rattle.ground_program.specs.Occurrences.{atoms_of_rule}
use Rattle.rising_numbers.specs.Rising.{rising}
use Rattle.normalize.specs.private.Inside.{stage_of}
use Rattle.normalize.proofs.MadeLaws.{finish-atoms, finish-program}
use Rattle.normalize.proofs.work.Work.finish.Goals as goal

pub of_vec-requires : goal.of_vec-requires
of_vec-requires c =
    finish-atoms c.args.program.now (ground_of c.program.inside) c.program.view_is c.args.self
    (stage_of c.self.inside) c.self.view_is c.known.ensures.facts c.requires.room
    c.self.invariant c.requires.turns c.requires.spends
    c.push_rules.new.out.items
    (c.in_ok-push_rules.ensures ∙ ap₂ (λ xs rules. xs ++ flat_map atoms_of_rule rules)
    (c.in_ok-atoms.ensures.items ∙ c.as_slice.ensures.is) c.as_slice-2.ensures.value)

pub invariant_of-result : goal.invariant_of-result
invariant_of-result c =
    finish-program c.args.program.now (ground_of c.program.inside) c.program.view_is c.args.self
    (stage_of c.self.inside) c.self.view_is c.known.ensures.facts c.requires.room
    c.self.invariant c.requires.turns c.requires.spends
    c.in_ok-of_vec.field-0 c.from_vec.result c.in_ok-from_slice.field-0 c.in_ok-copied_edges.field-0
    c.in_ok-copied_levels.field-0 c.in_ok-copied_shows.field-0
    (c.in_ok-of_vec.ensures
    ∙ ap rising (c.in_ok-push_rules.ensures ∙ ap₂
    (λ xs rules. xs ++ flat_map atoms_of_rule rules)
    (c.in_ok-atoms.ensures.items ∙ c.as_slice.ensures.is) c.as_slice-2.ensures.value))
    c.from_vec.ensures (c.in_ok-from_slice.ensures ∙ c.as_slice-3.ensures)
    (c.in_ok-copied_edges.ensures ∙ c.as_slice-4.ensures)
    (c.in_ok-copied_levels.ensures ∙ c.as_slice-5.ensures)
    (c.in_ok-copied_shows.ensures ∙ c.as_slice-6.ensures)
