use Rattle.std.proofs.Common.{◌≡◌, ◌+◌, ◌*◌, ◌≤◌, ℕ, sym, subst}
use Rattle.std.specs.List.{flat_map}
use Rattle.asp_base.specs.Sets.{members, Within}
use Rattle.asp_base.specs.Walks.{Acyclic}
use Rattle.components.specs.Divided.{cyclic_numbers, cyclic_parts, part_of}
use Rattle.graph_parts.specs.Divided.{is_cyclic_at}
use Rattle.ground_program.specs.Dependencies.{depends}
use Rattle.ground_program.specs.Faithful.{Faithful}
use Rattle.ground_program.specs.Ground.{Ground}
use Rattle.ground_program.specs.Normal.{AreNormal}
use Rattle.ground_program.specs.Size.{size}
use Rattle.ground_program.specs.Tangle as tangle
use Rattle.acyc_edges.specs.Encoding.{unique, unique_names}
use Rattle.acyc_edges.specs.Staying.{StayFirst}
use Rattle.acyc_edges.specs.private.Pairs.{pairs}
use Rattle.acyc_edges.proofs.TangleLaws.{pairs-of}
use Rattle.acyc_edges.proofs.CyclicLaws.{rises-parts}
use Rattle.acyc_edges.proofs.PartLaws.{are-parts_of}
use Rattle.acyc_edges.proofs.SizeLaws.{unique-size}
use Rattle.acyc_edges.proofs.SourceLaws.{unique-are}
use Rattle.acyc_edges.proofs.StayLaws.{made-atoms, made-first}
use Rattle.acyc_edges.proofs.Tight.{made-normal}
use Rattle.acyc_edges.proofs.UniqueLaws.{unique-faithful, unique-tight}
use Rattle.acyc_edges.proofs.comparing.unique.Goals as goal

pub returns-clause-faithful : goal.returns-clause-faithful
returns-clause-faithful c = subst (Faithful c.args.program.now) (sym c.in_ok-made.ensures) (unique-faithful c.args.program.now c.known.ensures.facts c.requires.normal (part_of c.args.parts.now) (cyclic_numbers c.args.parts.now) (are-parts_of c.args.program.now c.known.ensures.facts c.args.parts.now c.requires.parts))

pub returns-clause-acyclic : goal.returns-clause-acyclic
returns-clause-acyclic c = subst (λ (Q : Ground). Acyclic (depends Q.rules)) (sym c.in_ok-made.ensures) (unique-tight c.args.program.now c.known.ensures.facts c.requires.normal (part_of c.args.parts.now) (cyclic_numbers c.args.parts.now) (are-parts_of c.args.program.now c.known.ensures.facts c.args.parts.now c.requires.parts))

pub returns-clause-normal : goal.returns-clause-normal
returns-clause-normal c = subst (λ (Q : Ground). AreNormal Q.rules) (sym c.in_ok-made.ensures) (made-normal c.args.program.now c.known.ensures.facts c.requires.normal (part_of c.args.parts.now) (cyclic_numbers c.args.parts.now) (flat_map (unique_names c.args.program.now (part_of c.args.parts.now) (cyclic_numbers c.args.parts.now)) (cyclic_numbers c.args.parts.now)) (unique-are c.args.program.now c.known.ensures.facts c.requires.normal (part_of c.args.parts.now) (cyclic_numbers c.args.parts.now)))

pub returns-clause-atoms : goal.returns-clause-atoms
returns-clause-atoms c = subst (λ (Q : Ground). Within (members c.args.program.now.atoms) (members Q.atoms)) (sym c.in_ok-made.ensures) (made-atoms c.args.program.now (part_of c.args.parts.now) (cyclic_numbers c.args.parts.now) (flat_map (unique_names c.args.program.now (part_of c.args.parts.now) (cyclic_numbers c.args.parts.now)) (cyclic_numbers c.args.parts.now)))

pub returns-clause-first : goal.returns-clause-first
returns-clause-first c = subst (λ (Q : Ground). StayFirst c.args.program.now (part_of c.args.parts.now) (cyclic_numbers c.args.parts.now) Q) (sym c.in_ok-made.ensures) (made-first c.args.program.now (part_of c.args.parts.now) (cyclic_numbers c.args.parts.now) (flat_map (unique_names c.args.program.now (part_of c.args.parts.now) (cyclic_numbers c.args.parts.now)) (cyclic_numbers c.args.parts.now)))

pub returns-clause-size : goal.returns-clause-size
returns-clause-size c =
    let same : pairs c.args.program.now (part_of c.args.parts.now) (cyclic_numbers c.args.parts.now) ≡ tangle.pairs c.args.program.now.rules (cyclic_parts c.args.parts.now) = sym (pairs-of c.args.program.now c.known.ensures.facts c.requires.normal c.args.parts.now c.requires.parts) in
    subst (λ (Q : Ground). size Q ≤ 8 * (tangle.pairs c.args.program.now.rules (cyclic_parts c.args.parts.now) + size c.args.program.now)) (sym c.in_ok-made.ensures)
    (subst (λ (n : ℕ). size (unique c.args.program.now (part_of c.args.parts.now) (cyclic_numbers c.args.parts.now)) ≤ 8 * (n + size c.args.program.now)) same (unique-size c.args.program.now c.known.ensures.facts c.requires.normal (part_of c.args.parts.now) (cyclic_numbers c.args.parts.now) (rises-parts (is_cyclic_at c.args.parts.now.cyclic) c.args.parts.now.count)))
