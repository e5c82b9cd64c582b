use Rattle.std.proofs.Common.{rules, ◌≡◌, ◌∙◌, ap, ap₂, ◌<◌, [], get_or, length}
use Rattle.ground_program.specs.Ground.{Ground}
use Rattle.ground_program.specs.private.Gaps.{gaps_of, inside_below, outside}
use Rattle.ground_program.proofs.GapLaws.{gaps-begin}
use Rattle.ground_program.proofs.fresh.FreshAtoms.new.Goals as goal

pub index-requires : goal.index-requires
index-requires c =
    let atoms = c.program.inside.atoms in
    let made : c.in_ok-gaps.gaps.items ≡ gaps_of 1 atoms = search rules in
    let some : 0 < length c.in_ok-gaps.gaps.items = (gaps-begin atoms c.in_ok-gaps.gaps.items (record { from = 0; to = 0 }) c.program.invariant.atoms_rise c.program.invariant.atoms_fit made).0 in
    search rules

pub invariant_of-result : goal.invariant_of-result
invariant_of-result c =
    let atoms = c.program.inside.atoms in
    let made : c.in_ok-gaps.gaps.items ≡ gaps_of 1 atoms = search rules in
    let read : c.index.result.now ≡ get_or c.in_ok-gaps.gaps.items 0 c.index.result.now = search rules in
    let h = (gaps-begin atoms c.in_ok-gaps.gaps.items c.index.result.now c.program.invariant.atoms_rise c.program.invariant.atoms_fit made).1 in
    rw (← read) at h

pub returns : goal.returns
returns c =
    let atoms = c.program.inside.atoms in
    let made : c.in_ok-gaps.gaps.items ≡ gaps_of 1 atoms = search rules in
    let read : c.index.result.now ≡ get_or c.in_ok-gaps.gaps.items 0 c.index.result.now = search rules in
    let begin = gaps-begin atoms c.in_ok-gaps.gaps.items c.index.result.now c.program.invariant.atoms_rise c.program.invariant.atoms_fit made in
    let atoms_is : outside 1 c.in_ok-gaps.gaps.items ≡ c.args.program.now.atoms = begin.2 ∙ ap (λ (p : Ground). p.atoms) c.program.view_is in
    let none : inside_below c.index.result.now.from c.in_ok-gaps.gaps.items ≡ [] = rw (← read) at begin.3 in
    ap₂ (λ atoms given. record { atoms = atoms; given = given }) atoms_is none
