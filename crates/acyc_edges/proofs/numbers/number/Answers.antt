-- What is left to show of `number`.
use Rattle.std.proofs.Common.{◌+◌, ◌<◌, ◌^◌, length, arith, sym, ◌∙◌, ap, subst, slice_index_or}
use Rattle.acyc_edges.specs.declared.name.Name.TheVariants.{Atom}
use Rattle.std.specs.List.{filter}
use Rattle.acyc_edges.specs.Names.{atom_of_name, is_new}
use Rattle.acyc_edges.specs.private.Numbers.{is_numbered}
use Rattle.acyc_edges.proofs.Numbering.{few-given, not-numbered, round-new, round-old}
use Rattle.acyc_edges.proofs.numbers.number.Goals as goal
use Rattle.acyc_edges.proofs.numbers.number.Goals.{then-is_new+in_ok-insert, else-is_new}

pub next-atom-requires : goal.next-atom-requires
next-atom-requires c =
    let room : length c.args.program.now.atoms + length (filter is_new c.args.names.now) < 2 ^ 30 = c.requires.room in
    let few = few-given (atom_of_name c.args.program.now.atoms c.args.names.now) c.args.names.now c.loop-name.name-index in
    subst (λ s. length s.atoms + length s.given < 2 ^ 30) (sym c.loop-name.invariant.fresh) (omega arith)

pub insert-requires-clause-new : goal.insert-requires-clause-new
insert-requires-clause-new c =
    ap (λ ps. is_numbered ps (slice_index_or c.args.names.now c.loop-name.name-index (Atom 0))) c.loop-name.invariant.numbers
    ∙ not-numbered (atom_of_name c.args.program.now.atoms c.args.names.now) c.args.names.now c.loop-name.name-index (Atom 0) c.loop-name-test.true c.requires.once

pub loop-name-preserved : goal.loop-name-preserved
loop-name-preserved c = elim c.if-is_new.branch [
  | then-is_new+in_ok-insert w ↦
      let r = round-new c.args.program.now.atoms c.args.names.now c.loop-name.name-index (Atom 0) c.loop-name-test.true c.requires.once (sym c.is_new.ensures ∙ w.if-is_new.true)
      c.loop-name.numbers c.if-is_new.numbers c.loop-name.fresh c.if-is_new.fresh w.next-atom.result c.loop-name.invariant.numbers c.loop-name.invariant.fresh w.next-atom.ensures.number
      (w.numbers-is ∙ w.in_ok-insert.ensures.ok) (w.fresh-is ∙ w.next-atom.ensures.given) in
      record { numbers = r.0; fresh = r.1 }
  | else-is_new w ↦
      let r = round-old c.args.program.now.atoms c.args.names.now c.loop-name.name-index (Atom 0) c.loop-name-test.true (sym c.is_new.ensures ∙ w.if-is_new.false)
      c.loop-name.numbers c.if-is_new.numbers c.loop-name.fresh c.if-is_new.fresh c.loop-name.invariant.numbers c.loop-name.invariant.fresh w.numbers-is w.fresh-is in
      record { numbers = r.0; fresh = r.1 }
]

pub insert-requires-clause-above : goal.insert-requires-clause-above
insert-requires-clause-above c = c.next-atom.ensures.least.positive
