-- What is true of the names of each kind of encoding.
use Rattle.std.proofs.Common.{◌≡◌, refl, sym, ◌+◌, ◌*◌, ◌≤◌, ◌<◌, ◌^◌, length, filter, arith}
use Rattle.components.specs.Divided.{Divided, cyclic_numbers, cyclic_parts, part_of}
use Rattle.components.specs.Parts.{ArePartsOf}
use Rattle.graph_parts.specs.Divided.{is_cyclic_at}
use Rattle.ground_program.specs.Facts.{IsProgram}
use Rattle.ground_program.specs.Ground.{Ground}
use Rattle.ground_program.specs.Normal.{AreNormal}
use Rattle.ground_program.specs.Size.{size}
use Rattle.ground_program.specs.Tangle as tangle
use Rattle.rising_numbers.specs.Rising.{RisesFrom}
use Rattle.acyc_edges.specs.Names.{is_new}
use Rattle.acyc_edges.specs.declared.kind.Kind.{Kind}
use Rattle.acyc_edges.specs.declared.kind.Kind.TheVariants.{Plain, Unique}
use Rattle.acyc_edges.specs.private.Kinds.{FewPairs, all_names, encoding}
use Rattle.acyc_edges.specs.private.Numbers.{IsOnce}
use Rattle.acyc_edges.specs.private.Pairs.{pairs}
use Rattle.acyc_edges.specs.private.Setting.{AreNamesOf, Given, made_by}
use Rattle.acyc_edges.proofs.CyclicLaws.{rises-parts}
use Rattle.acyc_edges.proofs.NameOrder.{plain-apart, unique-apart}
use Rattle.acyc_edges.proofs.Numbering.{apart-once_names}
use Rattle.acyc_edges.proofs.SizeLaws.{plain-new, unique-new}
use Rattle.acyc_edges.proofs.SourceLaws.{plain-are, unique-are}
use Rattle.acyc_edges.proofs.TangleLaws.{pairs-of}

module _ (P : Ground) (program : IsProgram P) (normal : AreNormal P.rules) (d : Divided) where
  abbrev given : Given
  given = record { program = P; parts = d }

  rise : RisesFrom 0 (cyclic_numbers d)
  rise = rises-parts (is_cyclic_at d.cyclic) d.count

  pub all-are : (kind : Kind) → AreNamesOf given (all_names kind given)
  all-are Plain = plain-are P program normal (part_of d) (cyclic_numbers d)
  all-are Unique = unique-are P program normal (part_of d) (cyclic_numbers d)

  pub all-once : (kind : Kind) → IsOnce (all_names kind given)
  all-once Plain = apart-once_names (all_names Plain given) (plain-apart P program normal (part_of d) (cyclic_numbers d) rise)
  all-once Unique = apart-once_names (all_names Unique given) (unique-apart P program normal (part_of d) (cyclic_numbers d) rise)

  pub all-room : (kind : Kind) → ArePartsOf P d → size P ≤ 2 ^ 24 → FewPairs kind P d → length P.atoms + length (filter is_new (all_names kind given)) < 2 ^ 30
  all-room Plain are small few =
      let new : length (filter is_new (all_names Plain given)) ≤ 12 * size P = plain-new P program normal (part_of d) (cyclic_numbers d) rise in
      let atoms : length P.atoms ≤ size P = omega arith in
      omega arith
  all-room Unique are small few =
      let new : length (filter is_new (all_names Unique given)) ≤ 8 * (pairs P (part_of d) (cyclic_numbers d) + size P) = unique-new P program normal (part_of d) (cyclic_numbers d) rise in
      let same : pairs P (part_of d) (cyclic_numbers d) ≡ tangle.pairs P.rules (cyclic_parts d) = sym (pairs-of P program normal d are) in
      let atoms : length P.atoms ≤ size P = omega arith in
      omega arith

  pub all-made : (kind : Kind) → made_by given (all_names kind given) ≡ encoding kind P d
  all-made Plain = refl
  all-made Unique = refl
