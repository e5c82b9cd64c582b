-- What was gathered of the atom is what the definitions say of it.
use Rattle.std.proofs.Common.{◌∙◌, sym, ap, subst, ◌-◌, true, ◌≡◌, arith}
use Rattle.rising_numbers.specs.Rising.{place}
use Rattle.asp_base.specs.Sets.{members}
use Rattle.level_ranking.proofs.ReadyLaws.{atom-among, place-low, var-high, own-some, own-over, rules-can, own-vars, own-after}
use Rattle.level_ranking.proofs.ranking.add_ranked.Goals as goal

pub node_of-index-requires : goal.node_of-index-requires
node_of-index-requires c =
    subst (λ atoms. members atoms c.args.atom ≡ true) (sym (ap (λ p. p.atoms) c.program.view_is)) (atom-among c.args.sources.now c.known.ensures.facts c.requires.ready c.args.part c.requires.cyclic c.args.atom c.requires.inside)

pub bounds-table-index : goal.bounds-table-index
bounds-table-index c =
    place-low c.args.sources.now c.known.ensures.facts c.requires.ready c.args.part c.requires.cyclic c.args.atom c.requires.inside
    c.node_of-index.result (c.node_of-index.ensures.is ∙ ap (λ p. place p.atoms c.args.atom - 1) c.program.view_is)

pub add_atom-requires-clause-within : goal.add_atom-requires-clause-within
add_atom-requires-clause-within c =
    let high = var-high c.args.sources.now c.known.ensures.facts c.requires.ready c.args.part c.requires.cyclic c.args.atom c.requires.inside
    c.node_of-index.result (c.node_of-index.ensures.is ∙ ap (λ p. place p.atoms c.args.atom - 1) c.program.view_is) in
    omega (arith, high, c.requires.above)

pub add_atom-requires-clause-some : goal.add_atom-requires-clause-some
add_atom-requires-clause-some c =
    own-some c.args.sources.now c.known.ensures.facts c.requires.ready c.args.part c.requires.cyclic c.args.atom c.requires.inside
    c.node_of-index.result (c.node_of-index.ensures.is ∙ ap (λ p. place p.atoms c.args.atom - 1) c.program.view_is)
    c.index-table-index.result c.index-table-index.is c.as_slice.result.now (c.as_slice.ensures.value ∙ c.in_ok-rules.ensures)

pub add_atom-requires-clause-own : goal.add_atom-requires-clause-own
add_atom-requires-clause-own c =
    own-over c.args.sources.now c.known.ensures.facts c.requires.ready c.args.part c.requires.cyclic c.args.atom c.requires.inside
    c.node_of-index.result (c.node_of-index.ensures.is ∙ ap (λ p. place p.atoms c.args.atom - 1) c.program.view_is)
    c.index-table-index.result c.index-table-index.is c.as_slice.result.now (c.as_slice.ensures.value ∙ c.in_ok-rules.ensures) c.args.store.now.vars c.requires.above

pub add_atom-requires-clause-can : goal.add_atom-requires-clause-can
add_atom-requires-clause-can c =
    rules-can c.args.sources.now c.known.ensures.facts c.requires.ready c.args.part c.requires.cyclic c.args.atom c.requires.inside
    c.node_of-index.result (c.node_of-index.ensures.is ∙ ap (λ p. place p.atoms c.args.atom - 1) c.program.view_is)
    c.index-table-index.result c.index-table-index.is c.as_slice.result.now (c.as_slice.ensures.value ∙ c.in_ok-rules.ensures) c.args.store.now.vars c.requires.above

pub add_atom-requires-clause-room : goal.add_atom-requires-clause-room
add_atom-requires-clause-room c =
    let vars = own-vars c.args.sources.now c.known.ensures.facts c.requires.ready c.args.part c.requires.cyclic c.args.atom c.requires.inside
    c.node_of-index.result (c.node_of-index.ensures.is ∙ ap (λ p. place p.atoms c.args.atom - 1) c.program.view_is)
    c.index-table-index.result c.index-table-index.is c.as_slice.result.now (c.as_slice.ensures.value ∙ c.in_ok-rules.ensures) in
    omega (arith, vars, c.requires.room)

pub returns-clause-store : goal.returns-clause-store
returns-clause-store c =
    c.in_ok-add_atom.ensures.store ∙ own-after c.args.sources.now c.known.ensures.facts c.requires.ready c.args.part c.requires.cyclic c.args.atom c.requires.inside
    c.node_of-index.result (c.node_of-index.ensures.is ∙ ap (λ p. place p.atoms c.args.atom - 1) c.program.view_is)
    c.index-table-index.result c.index-table-index.is c.as_slice.result.now (c.as_slice.ensures.value ∙ c.in_ok-rules.ensures) c.args.store.now

pub returns-clause-few : goal.returns-clause-few
returns-clause-few c =
    let vars = own-vars c.args.sources.now c.known.ensures.facts c.requires.ready c.args.part c.requires.cyclic c.args.atom c.requires.inside
    c.node_of-index.result (c.node_of-index.ensures.is ∙ ap (λ p. place p.atoms c.args.atom - 1) c.program.view_is)
    c.index-table-index.result c.index-table-index.is c.as_slice.result.now (c.as_slice.ensures.value ∙ c.in_ok-rules.ensures) in
    omega (arith, vars, c.in_ok-add_atom.ensures.few)
