-- What is left to show of `compared_stages_are_faithful`.
use Rattle.acyc_edges.specs.Encoding.{unique_names}
use Rattle.std.specs.List.{flat_map}
use Rattle.acyc_edges.proofs.SourceLaws.{unique-are}
use Rattle.acyc_edges.proofs.UniqueLaws.{unique-faithful, unique-tight}
use Rattle.acyc_edges.proofs.Tight.{made-normal}
use Rattle.acyc_edges.proofs.laws.compared_stages_are_faithful.Goals as goal

pub returns-clause-faithful : goal.returns-clause-faithful
returns-clause-faithful c P part parts program normal are = unique-faithful P program normal part parts are

pub returns-clause-tight : goal.returns-clause-tight
returns-clause-tight c P part parts program normal are = unique-tight P program normal part parts are

pub returns-clause-normal : goal.returns-clause-normal
returns-clause-normal c P part parts program normal = made-normal P program normal part parts (flat_map (unique_names P part parts) parts) (unique-are P program normal part parts)
