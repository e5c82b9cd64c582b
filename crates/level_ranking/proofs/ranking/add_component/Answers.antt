-- The atom at hand is one of the component, and there is room for it.
use Rattle.std.proofs.Common.{◌≡◌, ◌∙◌, ap, subst, ◌<◌, ◌+◌, ◌==◌, length, get_or, arith, filter}
use Rattle.components.specs.Divided.{part_of}
use Rattle.level_ranking.specs.private.Sources.{atoms_in}
use Rattle.level_ranking.proofs.SourceLaws.{from_cyclic}
use Rattle.level_ranking.proofs.PartLoops.{atoms-start, atoms-next}
use Rattle.level_ranking.proofs.ranking.add_component.Goals as goal

pub members-atom-items-requires : goal.members-atom-items-requires
members-atom-items-requires c = (from_cyclic c.args.sources.now.given.parts.now c.args.part c.requires.cyclic).1

pub loop-atom-init : goal.loop-atom-init
loop-atom-init c = atoms-start c.args.sources.now.given.program.now c.args.sources.now.given.parts.now c.args.part c.args.store.now

pub loop-atom-preserved : goal.loop-atom-preserved
loop-atom-preserved c =
    let items_are : c.members-atom-items.result.now ≡ atoms_in c.args.sources.now.given.program.now c.args.sources.now.given.parts.now c.args.part =
    c.members-atom-items.ensures ∙ ap (λ atoms. filter (λ a. part_of c.args.sources.now.given.parts.now a == c.args.part) atoms) c.requires.ready.given.parts.atoms in
    let i = c.loop-atom.atom-index in
    atoms-next c.args.sources.now.given.program.now c.args.sources.now.given.parts.now c.args.part c.args.store.now c.loop-atom.store (atoms_in c.args.sources.now.given.program.now c.args.sources.now.given.parts.now c.args.part) c.loop-atom.atom-index
    (get_or c.members-atom-items.result.now c.loop-atom.atom-index 0) (subst (λ xs. c.loop-atom.atom-index < length xs) items_are c.loop-atom-test.true) (ap (λ xs. get_or xs i 0) items_are)
    c.loop-atom.invariant (c.loop-atom.atom-index + 1) (omega arith) c.add_ranked.new.store c.in_ok-add_ranked.ensures.store c.in_ok-add_ranked.ensures.from c.in_ok-add_ranked.ensures.few
