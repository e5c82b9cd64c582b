-- What the soft clauses of the map's levels leave of the formula.
use Rattle.std.proofs.Common.{◌≡◌, sym, ◌∙◌, ap, subst, map}
use Rattle.symbol_map.specs.Symbols.{Symbols}
use Rattle.sat_translation.specs.InputMap.{level_over}
use Rattle.sat_translation.specs.Translated.{IsWcnf}
use Rattle.sat_translation.specs.private.Scaled.{PassesAs}
use Rattle.sat_translation.specs.private.Sizes.{FitsSize}
use Rattle.sat_translation.proofs.SoftenedLaws.{map-passes, scaled-passes, softened-size, softened-wcnf}
use Rattle.sat_translation.proofs.softened.softened.Goals as goal

pub returns-in-Ok-clause-wcnf : goal.returns-in-Ok-clause-wcnf
returns-in-Ok-clause-wcnf c =
    subst IsWcnf (sym c.finish.ensures)
    (softened-wcnf c.in_ok-store.field-0.store c.soften.new.store c.levels.result.now c.in-Ok.ensures.2 c.in_ok-store.ensures.cnf c.in-Ok.scale c.in-Ok.ensures.0)

pub returns-in-Ok-clause-size : goal.returns-in-Ok-clause-size
returns-in-Ok-clause-size c =
    subst (FitsSize c.args.made.program) (sym c.finish.ensures)
    (softened-size c.in_ok-store.field-0.store c.soften.new.store c.levels.result.now c.in-Ok.ensures.2 c.in_ok-store.ensures.cnf c.args.made.program c.in-Ok.scale.top c.in_ok-store.ensures.size)

pub returns-in-Ok-clause-fits : goal.returns-in-Ok-clause-fits
returns-in-Ok-clause-fits c =
    let levels : c.levels.result.now ≡ map (level_over c.args.made.program.atoms) c.args.made.program.levels = c.levels.ensures.levels ∙ ap (λ (m : Symbols). m.levels) c.in_ok-store.ensures.map in
    map-passes c.args.made.program c.levels.result.now levels ∙ c.in-Ok.ensures.1

pub returns-in-Err-clause-passes : goal.returns-in-Err-clause-passes
returns-in-Err-clause-passes c =
    let levels : c.levels.result.now ≡ map (level_over c.args.made.program.atoms) c.args.made.program.levels = c.levels.ensures.levels ∙ ap (λ (m : Symbols). m.levels) c.in_ok-store.ensures.map in
    subst (PassesAs c.args.made.program.levels) (sym c.soft_refusal.ensures)
    (scaled-passes c.args.made.program c.levels.result.now c.in_ok-store.field-0.store c.soften.new.store c.in-Err.refusal levels c.in-Err.ensures)
