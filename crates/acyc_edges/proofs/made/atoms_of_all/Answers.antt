-- What is left to show of `atoms_of_all`.
use Rattle.std.proofs.Common.{◌++◌, ap, ap₂, ◌∙◌, map, filter}
use Rattle.rising_numbers.specs.Rising.{rising}
use Rattle.acyc_edges.specs.Names.{is_new}
use Rattle.acyc_edges.specs.private.Numbers.{number_of}
use Rattle.acyc_edges.proofs.FitLaws.{drawn-same}
use Rattle.acyc_edges.proofs.made.atoms_of_all.Goals as goal

pub returns : goal.returns
returns c =
    c.in_ok-atoms.ensures
    ∙ (ap₂ (λ g ps. rising (g.atoms ++ map (number_of ps) (filter is_new c.args.names.now))) c.program-program.ensures c.requires
    ∙ ap (λ xs. rising (c.args.writer.now.setting.now.program.atoms ++ xs)) (drawn-same c.args.writer.now.setting.now.program.atoms c.args.names.now))
