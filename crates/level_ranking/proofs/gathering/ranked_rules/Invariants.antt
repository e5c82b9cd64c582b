-- The rules so far lead to all of them.
use Rattle.std.proofs.Common.{◌≡◌, ◌++◌, map, drop}
use Rattle.level_ranking.specs.Components.{component}
use Rattle.components.specs.Divided.{part_of}
use Rattle.level_ranking.specs.private.Sources.{placed, rows_listed}
use Rattle.level_ranking.proofs.gathering.ranked_rules.Given as goal

abbrev pub invariant-loop-place : goal.invariant-loop-place
invariant-loop-place l =
    l.rows.items ++ map (placed l.sources.given.program.now.atoms) (rows_listed (component l.sources.given.program.now (part_of l.sources.given.parts.now) l.part) l.sources.given.program.now.rules l.sources.given.bodies.now (drop l.place-index l.places))
    ≡ map (placed l.sources.given.program.now.atoms) (rows_listed (component l.sources.given.program.now (part_of l.sources.given.parts.now) l.part) l.sources.given.program.now.rules l.sources.given.bodies.now l.places)
