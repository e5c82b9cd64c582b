-- What is left to show of `names_of`.
use Rattle.std.proofs.Common.{◌≡◌, ◌+◌, ◌++◌, ◌==◌, ap, ap₂, ◌∙◌, sym, subst, filter, []}
use Rattle.std.specs.List.{AllByRecursion}
use Rattle.ground_program.specs.Facts.{Among}
use Rattle.graph_parts.specs.Divided.{is_cyclic_at}
use Rattle.components.specs.Divided.{members_of, part_of}
use Rattle.acyc_edges.specs.Encoding.{atoms_in}
use Rattle.acyc_edges.specs.private.Kinds.{names_in, names_over}
use Rattle.acyc_edges.proofs.TableLaws.{part-among, part-taken, part-left}
use Rattle.acyc_edges.proofs.names.names_of.Goals as goal
use Rattle.acyc_edges.proofs.names.names_of.Goals.{then-is_cyclic+in_ok-push_part, else-is_cyclic}

pub push_part-requires : goal.push_part-requires
push_part-requires c =
    let are : c.members.result.now ≡ atoms_in c.args.setting.now.program (part_of c.args.setting.now.parts) [] (c.loop-number.number + 1) =
    c.members.ensures
    ∙ (ap (λ d. members_of (c.loop-number.number + 1) d.atoms d.numbers) c.parts-parts.ensures
    ∙ ap (filter (λ a. part_of c.args.setting.now.parts a == c.loop-number.number + 1)) c.known.ensures.parts.atoms) in
    subst (AllByRecursion (Among c.args.setting.now.program.atoms)) (sym are) (part-among (λ a. part_of c.args.setting.now.parts a == c.loop-number.number + 1) c.args.setting.now.program.atoms)

pub loop-number-preserved : goal.loop-number-preserved
loop-number-preserved c =
    let is : is_cyclic_at c.args.setting.now.parts.cyclic (c.loop-number.number + 1) ≡ c.is_cyclic.result =
    ap (λ d. is_cyclic_at d.cyclic (c.loop-number.number + 1)) (sym c.parts-parts.ensures) ∙ sym c.is_cyclic.ensures in
    elim c.if-is_cyclic.branch [
      | then-is_cyclic+in_ok-push_part w ↦
          let are : w.members.result.now ≡ atoms_in c.args.setting.now.program (part_of c.args.setting.now.parts) [] (c.loop-number.number + 1) =
          w.members.ensures
          ∙ (ap (λ d. members_of (c.loop-number.number + 1) d.atoms d.numbers) c.parts-parts.ensures
          ∙ ap (filter (λ a. part_of c.args.setting.now.parts a == c.loop-number.number + 1)) c.known.ensures.parts.atoms) in
          ap (λ v. v.items) w.names-is ∙ (w.in_ok-push_part.ensures
          ∙ (ap₂ (λ xs atoms. xs ++ names_over c.args.kind c.args.setting.now atoms) c.loop-number.invariant are
          ∙ part-taken (names_in c.args.kind c.args.setting.now) (is_cyclic_at c.args.setting.now.parts.cyclic) c.loop-number.number (is ∙ w.if-is_cyclic.true)))
      | else-is_cyclic w ↦
          ap (λ v. v.items) w.names-is ∙ (c.loop-number.invariant ∙ part-left (names_in c.args.kind c.args.setting.now) (is_cyclic_at c.args.setting.now.parts.cyclic) c.loop-number.number (is ∙ w.if-is_cyclic.false))
    ]
