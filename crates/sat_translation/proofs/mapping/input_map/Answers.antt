-- Each part is made of the program's own.
use Rattle.std.proofs.Common.{◌≡◌, ◌∙◌, sym, ap, ap₂, subst, subst₂, ℕ, List, map}
use Rattle.std.specs.List.{AllByRecursion}
use Rattle.ground_program.specs.Facts.{IsProgram, IsAtom, Among}
use Rattle.ground_program.specs.Ground.{Ground}
use Rattle.sat_translation.specs.InputMap.{placed, show_over, level_over}
use Rattle.sat_translation.proofs.IsInputMap.{input_map-made, kept-fit}
use Rattle.sat_translation.proofs.mapping.input_map.Goals as goal

pub places_of-requires : goal.places_of-requires
places_of-requires c =
    subst₂ (λ (atoms kept : List ℕ). AllByRecursion (λ a. IsAtom a × Among atoms a) kept) (sym (ap (λ (P : Ground). P.atoms) c.program.view_is)) (sym c.as_slice.ensures.is)
    (kept-fit c.args.program.atoms 0 c.args.kept.now c.as_slice.ensures.rise c.as_slice.ensures.fit c.requires.within)

pub invariant_of-result : goal.invariant_of-result
invariant_of-result c =
    let atoms : c.program.inside.atoms ≡ c.args.program.atoms = ap (λ (P : Ground). P.atoms) c.program.view_is in
    let shows = ap (λ (P : Ground). P.shows) c.program.view_is in
    let levels = ap (λ (P : Ground). P.levels) c.program.view_is in
    input_map-made c.args.program c.args.kept.now c.args.vars c.in_ok-atoms.atoms c.in_ok-shows.shows c.in_ok-levels.levels
    (subst IsProgram c.program.view_is c.program.invariant) c.requires.light c.requires.atoms c.requires.room c.as_slice.ensures.rise
    (kept-fit c.args.program.atoms 0 c.args.kept.now c.as_slice.ensures.rise c.as_slice.ensures.fit c.requires.within)
    (c.in_ok-atoms.ensures ∙ ap₂ (λ (as_ kept : List ℕ). map (placed as_) kept) atoms c.as_slice.ensures.is)
    (c.in_ok-shows.ensures ∙ ap (λ (as_ : List ℕ). map (show_over as_) c.program.inside.shows) atoms ∙ ap (map (show_over c.args.program.atoms)) shows)
    (c.in_ok-levels.ensures ∙ ap (λ (as_ : List ℕ). map (level_over as_) c.program.inside.levels) atoms ∙ ap (map (level_over c.args.program.atoms)) levels)
