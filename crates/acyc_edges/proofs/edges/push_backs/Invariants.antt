-- What the loop of `push_backs` has done so far.
use Rattle.std.proofs.Common.{◌≡◌, ◌++◌, [], ◌∷◌, map, take}
use Rattle.asp_base.specs.Literal.{Pos}
use Rattle.components.specs.Divided.{cyclic_numbers, part_of}
use Rattle.acyc_edges.specs.Encoding.{head_at, inner_at, node_of_atom}
use Rattle.acyc_edges.specs.declared.name.Name.TheVariants.{Backs}
use Rattle.acyc_edges.specs.private.Numbers.{number_of}
use Rattle.acyc_edges.proofs.edges.push_backs.Given as goal

abbrev pub invariant-loop-to : goal.invariant-loop-to
invariant-loop-to l =
    l.edges ≡ l.initial.edges
    ++ map (λ b. record { from = node_of_atom l.writer.setting.now.program (part_of l.writer.setting.now.parts) (cyclic_numbers l.writer.setting.now.parts) (head_at l.writer.setting.now.program (part_of l.writer.setting.now.parts) [] l.index); to = node_of_atom l.writer.setting.now.program (part_of l.writer.setting.now.parts) (cyclic_numbers l.writer.setting.now.parts) b; condition = Pos (number_of l.writer.numbers.now (Backs l.index)) ∷ [] })
    (take l.to-index (inner_at l.writer.setting.now.program (part_of l.writer.setting.now.parts) [] l.index))
