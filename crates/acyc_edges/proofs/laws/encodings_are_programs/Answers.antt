-- What is left to show of `encodings_are_programs`.
use Rattle.acyc_edges.proofs.MadeProgram.{plain-is_program, unique-is_program}
use Rattle.acyc_edges.proofs.laws.encodings_are_programs.Goals as goal

pub returns-clause-plain : goal.returns-clause-plain
returns-clause-plain c P part parts program normal rise small = plain-is_program P program normal part parts rise small

pub returns-clause-unique : goal.returns-clause-unique
returns-clause-unique c P part parts program normal rise small few = unique-is_program P program normal part parts rise small few
