-- What the fields of a supply of new atoms stand for.
use Rattle.ground_program.specs.Fresh.{Supply}
use Rattle.ground_program.specs.private.Gaps.{outside, inside_below}
use Rattle.ground_program.specs.declared.fresh.FreshAtoms.TheInside.{Inside}

abbrev pub supply_of : Inside → Supply
supply_of f =
    record { atoms = outside 1 f.gaps.items; given = inside_below f.at.number f.gaps.items }
