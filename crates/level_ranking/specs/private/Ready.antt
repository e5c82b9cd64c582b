-- What is given for rankings, and what they are made from, is that of the program.
use Rattle.std.specs.Prelude.{◌≡◌, ◌<◌, ◌≤◌, ◌^◌, length, slice_index, EachIndex}
use Rattle.graph_parts.specs.Groups.{AreGroups}
use Rattle.ground_program.specs.Normal.{AreNormal}
use Rattle.ground_program.specs.Size.{size}
use Rattle.components.specs.Parts.{ArePartsOf}
use Rattle.completion.specs.Completion.{body_literals, completed}
use Rattle.level_ranking.specs.private.Sources.{is_ranked, width_among, digit_table}
use Rattle.completion.specs.Heads.{heads_from}
use Rattle.level_ranking.specs.declared.gathering.Given.{Given}
use Rattle.level_ranking.specs.declared.gathering.Sources.{Sources}

-- the components and the literals are those of the program, which is normal and small
pub record IsGiven (g : Given) : Type 0 where
  pub normal : AreNormal g.program.now.rules
  pub small : size g.program.now ≤ 2 ^ 24
  pub parts : ArePartsOf g.program.now g.parts.now
  pub literals : g.bodies.now ≡ body_literals g.program.now

pub record IsReady (s : Sources) : Type 0 where
  pub given : IsGiven s.given
  pub digits : s.numbers.now
      ≡ digit_table (is_ranked s.given.parts.now)
      (width_among s.given.parts.now s.given.program.now.atoms)
      s.given.program.now.atoms (completed s.given.program.now).vars
  pub heads : AreGroups (heads_from s.given.program.now.atoms 0 s.given.program.now.rules)
      (length s.given.program.now.atoms) s.heads.now.starts s.heads.now.values
  pub places : EachIndex s.heads.now.values
      (λ j. slice_index s.heads.now.values j < length s.given.program.now.rules)
