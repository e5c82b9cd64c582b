-- What depends on an atom is an atom of the program.
use Rattle.std.proofs.Common.{◌≡◌, true}
use Rattle.asp_base.specs.Sets.{members}
use Rattle.graph_parts.proofs.CycleLaws.{large-or-loop, reaches-itself}
use Rattle.ground_program.specs.Dependencies.{depends}
use Rattle.components.specs.Components.{number_of}
use Rattle.components.proofs.CyclicLaws.{head-of_walk}
use Rattle.components.proofs.laws.cyclic_components_are_large_or_loop.Goals as goal

pub returns : goal.returns
returns c P numbers count cyclic program are a member =
    let each = are.cycles a member in (
      λ yes. let reaches = each.0 yes in large-or-loop (depends P.rules) (λ b. members P.atoms b ≡ true) (number_of P.atoms numbers) are.together (λ b u in_u back. head-of_walk P program b back.0 u back.1) a member reaches.0 reaches.1,
      λ either. each.1 (reaches-itself (depends P.rules) (λ b. members P.atoms b ≡ true) (number_of P.atoms numbers) are.together a member either),
    )
