-- What is left to show of `encodings_are_small`.
use Rattle.acyc_edges.proofs.SizeLaws.{plain-size, unique-size}
use Rattle.acyc_edges.proofs.laws.encodings_are_small.Goals as goal

pub returns-clause-plain : goal.returns-clause-plain
returns-clause-plain c P part parts program normal rise = plain-size P program normal part parts rise

pub returns-clause-unique : goal.returns-clause-unique
returns-clause-unique c P part parts program normal rise = unique-size P program normal part parts rise
