use Rattle.std.proofs.Common.{◌<◌, ◌+◌, ◌^◌, length, length-append, arith}
use Rattle.ground_program.specs.private.Gaps.{outside, inside_below}
use Rattle.ground_program.proofs.FreshLaws.{is-least_free, least_free-most}
use Rattle.ground_program.proofs.GapLaws.{gaps-least}
use Rattle.ground_program.proofs.fresh.FreshAtoms.next.Goals as goal

pub following-self-inside-requires-clause-small : goal.following-self-inside-requires-clause-small
following-self-inside-requires-clause-small c =
    let few : length (outside 1 c.self.inside.gaps.items) + length (inside_below c.self.inside.at.number c.self.inside.gaps.items) < 2 ^ 30 = rw (← c.self.view_is) at c.requires in
    let most = least_free-most _ c.self.inside.at.number (gaps-least c.self.inside.gaps.items c.self.inside.at c.self.invariant) in
    omega (arith, length-append (inside_below c.self.inside.at.number c.self.inside.gaps.items) (outside 1 c.self.inside.gaps.items))

pub returns-clause-least : goal.returns-clause-least
returns-clause-least c = rw (← c.self.view_is) (gaps-least c.self.inside.gaps.items c.self.inside.at c.self.invariant)

pub returns-clause-number : goal.returns-clause-number
returns-clause-number c = rw (← c.self.view_is) (is-least_free _ c.self.inside.at.number (gaps-least c.self.inside.gaps.items c.self.inside.at c.self.invariant))

pub returns-clause-most : goal.returns-clause-most
returns-clause-most c =
    let few : length (outside 1 c.self.inside.gaps.items) + length (inside_below c.self.inside.at.number c.self.inside.gaps.items) < 2 ^ 30 = rw (← c.self.view_is) at c.requires in
    let most = least_free-most _ c.self.inside.at.number (gaps-least c.self.inside.gaps.items c.self.inside.at c.self.invariant) in
    omega (arith, length-append (inside_below c.self.inside.at.number c.self.inside.gaps.items) (outside 1 c.self.inside.gaps.items))
