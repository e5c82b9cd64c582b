-- What the fields of a program stand for.
use Rattle.ground_program.specs.Ground.{Ground}
use Rattle.ground_program.specs.declared.program.Program.TheInside.{Inside}

abbrev pub ground_of : Inside → Ground
ground_of p = record {
  atoms = p.atoms;
  rules = p.rules;
  required = p.required;
  edges = p.edges;
  levels = p.levels;
  shows = p.shows;
}
