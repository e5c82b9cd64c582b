-- What the calls leave in the store.
use Rattle.sat_translation.proofs.MadeLaws.{store-ranked, store-cnf, store-fits}
use Rattle.sat_translation.proofs.translation.add_ranked.Goals as goal

pub returns-clause-ranked : goal.returns-clause-ranked
returns-clause-ranked c =
    store-ranked c.args.program.now c.in_ok-parts.parts c.complete.new.store c.rank.new.store c.in_ok-bodies.ensures.store c.in_ok-rank.ensures.few
    c.in_ok-parts.ensures.parts c.in_ok-rank.ensures.store c.in_ok-rank.ensures.founded c.in_ok-rank.ensures.digits c.in_ok-rank.ensures.unchanged

pub returns-clause-cnf : goal.returns-clause-cnf
returns-clause-cnf c =
    store-cnf c.args.program.now c.in_ok-parts.parts c.complete.new.store c.rank.new.store c.in_ok-bodies.ensures.store c.in_ok-rank.ensures.few
    c.known.ensures.facts

pub returns-clause-size : goal.returns-clause-size
returns-clause-size c =
    store-fits c.args.program.now c.in_ok-parts.parts c.complete.new.store c.rank.new.store c.in_ok-bodies.ensures.store c.in_ok-rank.ensures.few
    c.known.ensures.facts c.in_ok-bodies.ensures.few c.known-2.ensures.few
