-- The atoms of a component, where each is one atom, and where they are put together.
use Rattle.std.proofs.Common.{◌∙◌, ◌-◌, ◌≤◌, ap, subst, length, slice_range, arith}
use Rattle.components.specs.Divided.{members_of}
use Rattle.components.specs.private.Kept.{HoldMembers}
use Rattle.components.specs.declared.parts.Members.TheVariants.{Each, Grouped}
use Rattle.components.proofs.MemberLaws.{members-are, only-member}
use Rattle.components.proofs.parts.Parts.members.Goals as goal

pub returns-in-Each : goal.returns-in-Each
returns-in-Each c =
    let held : HoldMembers c.self.inside.atoms c.self.inside.parts.numbers c.self.inside.parts.count Each =
    subst (HoldMembers c.self.inside.atoms c.self.inside.parts.numbers c.self.inside.parts.count) c.in-Each.is c.self.invariant.held in
    let count = ap (λ d. d.count) c.self.view_is in
    let within : c.args.i ≤ length c.self.inside.atoms = omega (arith, held.0, count, c.requires) in
    c.only.ensures ∙ ap (λ xs. slice_range xs (c.args.i - 1) c.args.i) c.as_slice.ensures.is
    ∙ only-member c.self.inside.atoms c.self.inside.parts.numbers c.self.invariant.rise c.self.invariant.sized held.1 c.args.i within
    ∙ ap (λ d. members_of c.args.i d.atoms d.numbers) c.self.view_is

pub returns-in-Grouped : goal.returns-in-Grouped
returns-in-Grouped c =
    let held : HoldMembers c.self.inside.atoms c.self.inside.parts.numbers c.self.inside.parts.count (Grouped c.in-Grouped.groups) =
    subst (HoldMembers c.self.inside.atoms c.self.inside.parts.numbers c.self.inside.parts.count) c.in-Grouped.is c.self.invariant.held in
    let count = ap (λ d. d.count) c.self.view_is in
    let within : c.args.i ≤ c.self.inside.parts.count = omega (arith, count, c.requires) in
    c.under.ensures
    ∙ members-are c.self.inside.atoms c.self.inside.parts.numbers c.self.inside.parts.count c.in-Grouped.groups.starts c.in-Grouped.groups.values c.self.invariant.rise held c.args.i within
    ∙ ap (λ d. members_of c.args.i d.atoms d.numbers) c.self.view_is
