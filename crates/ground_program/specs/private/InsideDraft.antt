-- What the fields of a builder stand for.
use Rattle.ground_program.specs.Draft.{Draft}
use Rattle.ground_program.specs.declared.builder.ProgramBuilder.TheInside.{Inside}

abbrev pub draft_of : Inside → Draft
draft_of b = record {
  rules = b.rules;
  required = b.required;
  edges = b.edges;
  levels = b.levels;
  shows = b.shows;
  externals = b.externals.items;
}
