-- What the calls leave in the store.
use Rattle.std.proofs.Common.{◌+◌, ◌-◌, ◌<◌, ◌≤◌, ◌^◌, sym, subst, List, length}
use Rattle.ground_program.specs.Ground.{Ground}
use Rattle.ground_program.specs.declared.program.Edge.{Edge}
use Rattle.acyc_translation.specs.private.Linked.{Linked}
use Rattle.acyc_translation.proofs.StoreLaws.{atoms-up, edges-none, edges-room, store-ecnf, store-fits}
use Rattle.acyc_translation.proofs.TightLaws.{edges-stable}
use Rattle.acyc_translation.proofs.translation.add_all.Goals as goal

pub add_edges-requires-clause-up : goal.add_edges-requires-clause-up
add_edges-requires-clause-up c =
    subst (λ (P : Ground). length P.atoms ≤ c.complete.new.store.vars) (sym c.program.view_is)
    (atoms-up c.args.program.now c.known.ensures.facts c.complete.new.store c.in_ok-bodies.ensures.store)

pub add_edges-requires-clause-room : goal.add_edges-requires-clause-room
add_edges-requires-clause-room c =
    subst (λ (edges : List Edge). c.complete.new.store.vars + length edges < 2 ^ 31 - 1) (sym c.as_slice.ensures)
    (subst (λ (P : Ground). c.complete.new.store.vars + length P.edges < 2 ^ 31 - 1) (sym c.program.view_is)
    (edges-room c.args.program.now c.known.ensures.facts c.complete.new.store c.in_ok-bodies.ensures.store c.in_ok-bodies.ensures.few c.requires.small))

pub add_edges-requires-clause-none : goal.add_edges-requires-clause-none
add_edges-requires-clause-none c = edges-none c.args.program.now c.known.ensures.facts c.complete.new.store c.in_ok-bodies.ensures.store

pub returns-clause-stable : goal.returns-clause-stable
returns-clause-stable c =
    edges-stable c.args.program.now c.known.ensures.facts c.requires.normal c.requires.acyclic c.complete.new.store c.in_ok-bodies.ensures.store c.add_edges.new.store
    (subst (λ (P : Ground). Linked P.atoms P.edges c.complete.new.store c.add_edges.new.store) c.program.view_is
    (subst (λ (edges : List Edge). Linked c.program.inside.atoms edges c.complete.new.store c.add_edges.new.store) c.as_slice.ensures c.in_ok-add_edges.ensures))

pub returns-clause-ecnf : goal.returns-clause-ecnf
returns-clause-ecnf c =
    store-ecnf c.args.program.now c.known.ensures.facts c.complete.new.store c.in_ok-bodies.ensures.store c.add_edges.new.store
    (subst (λ (P : Ground). Linked P.atoms P.edges c.complete.new.store c.add_edges.new.store) c.program.view_is
    (subst (λ (edges : List Edge). Linked c.program.inside.atoms edges c.complete.new.store c.add_edges.new.store) c.as_slice.ensures c.in_ok-add_edges.ensures))

pub returns-clause-few : goal.returns-clause-few
returns-clause-few c =
    store-fits c.args.program.now c.known.ensures.facts c.complete.new.store c.in_ok-bodies.ensures.store c.add_edges.new.store
    (subst (λ (P : Ground). Linked P.atoms P.edges c.complete.new.store c.add_edges.new.store) c.program.view_is
    (subst (λ (edges : List Edge). Linked c.program.inside.atoms edges c.complete.new.store c.add_edges.new.store) c.as_slice.ensures c.in_ok-add_edges.ensures))
    c.in_ok-bodies.ensures.few c.known-2.ensures.few
