-- What is left to show of `plain`.
use Rattle.std.proofs.Common.{◌*◌, ◌≤◌, sym, subst}
use Rattle.std.specs.List.{flat_map}
use Rattle.asp_base.specs.Sets.{members, Within}
use Rattle.asp_base.specs.Walks.{Acyclic}
use Rattle.graph_parts.specs.Divided.{is_cyclic_at}
use Rattle.components.specs.Divided.{cyclic_numbers, part_of}
use Rattle.ground_program.specs.Dependencies.{depends}
use Rattle.ground_program.specs.Faithful.{Covers}
use Rattle.ground_program.specs.Normal.{AreNormal}
use Rattle.ground_program.specs.Size.{size}
use Rattle.acyc_edges.specs.Encoding.{plain_names}
use Rattle.acyc_edges.proofs.CyclicLaws.{rises-parts}
use Rattle.acyc_edges.proofs.Tight.{made-normal}
use Rattle.acyc_edges.proofs.PartLaws.{are-parts_of}
use Rattle.acyc_edges.proofs.PlainLaws.{plain-covers, plain-tight}
use Rattle.acyc_edges.proofs.SizeLaws.{plain-size}
use Rattle.acyc_edges.proofs.SourceLaws.{plain-are}
use Rattle.acyc_edges.proofs.StayLaws.{made-atoms}
use Rattle.acyc_edges.proofs.choosing.plain.Goals as goal

pub returns-clause-covers : goal.returns-clause-covers
returns-clause-covers c = subst (Covers c.args.program.now) (sym c.in_ok-made.ensures)
    (plain-covers c.args.program.now c.known.ensures.facts c.requires.normal (part_of c.args.parts.now) (cyclic_numbers c.args.parts.now) (are-parts_of c.args.program.now c.known.ensures.facts c.args.parts.now c.requires.parts))

pub returns-clause-acyclic : goal.returns-clause-acyclic
returns-clause-acyclic c = subst (λ q. Acyclic (depends q.rules)) (sym c.in_ok-made.ensures)
    (plain-tight c.args.program.now c.known.ensures.facts c.requires.normal (part_of c.args.parts.now) (cyclic_numbers c.args.parts.now) (are-parts_of c.args.program.now c.known.ensures.facts c.args.parts.now c.requires.parts))

pub returns-clause-normal : goal.returns-clause-normal
returns-clause-normal c = subst (λ q. AreNormal q.rules) (sym c.in_ok-made.ensures)
    (made-normal c.args.program.now c.known.ensures.facts c.requires.normal (part_of c.args.parts.now) (cyclic_numbers c.args.parts.now) (flat_map (plain_names c.args.program.now (part_of c.args.parts.now) (cyclic_numbers c.args.parts.now)) (cyclic_numbers c.args.parts.now))
    (plain-are c.args.program.now c.known.ensures.facts c.requires.normal (part_of c.args.parts.now) (cyclic_numbers c.args.parts.now)))

pub returns-clause-atoms : goal.returns-clause-atoms
returns-clause-atoms c = subst (λ q. Within (members c.args.program.now.atoms) (members q.atoms)) (sym c.in_ok-made.ensures) (made-atoms c.args.program.now (part_of c.args.parts.now) (cyclic_numbers c.args.parts.now) (flat_map (plain_names c.args.program.now (part_of c.args.parts.now) (cyclic_numbers c.args.parts.now)) (cyclic_numbers c.args.parts.now)))

pub returns-clause-size : goal.returns-clause-size
returns-clause-size c = subst (λ q. size q ≤ 12 * size c.args.program.now) (sym c.in_ok-made.ensures)
    (plain-size c.args.program.now c.known.ensures.facts c.requires.normal (part_of c.args.parts.now) (cyclic_numbers c.args.parts.now) (rises-parts (is_cyclic_at c.args.parts.now.cyclic) c.args.parts.now.count))
