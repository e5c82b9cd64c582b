-- The pairs of the made rules are within the tangle of the given ones: each component of the made
-- rules meets one of the given rules, and those that meet one are within what it may have.
use Rattle.std.proofs.Common.{◌≡◌, sym, subst, ⊎_elim, ℕ, ◌*◌, ◌≤◌, true, List, arith}
use Rattle.std.specs.List.{filter, list_any}
use Rattle.std.proofs.lemmas.Bool.{cases_Bool, cond-true, cond-false}
use Rattle.asp_base.specs.Sets.{In, members}
use Rattle.ground_program.specs.Tangle.{IsCyclicComponent, AreCyclicComponents, all_basic, pairs, part_pairs, part_room, part_tangle, tangle}
use Rattle.ground_program.specs.declared.program.Rule.{Rule}
use Rattle.tangle_laws.specs.Pieces.{Piece, ArePieces, AreApart, made_rules}
use Rattle.tangle_laws.proofs.PartElements.{any-among, among-any, each-among, any-from_shared, kept-among}
use Rattle.tangle_laws.proofs.PartSums.{total, total-le, total-met, sum_by-total}
use Rattle.tangle_laws.proofs.PartDistinct.{distinct-kept}
use Rattle.tangle_laws.proofs.PartInside.{meets, HasOld, has-old, old-loop}
use Rattle.tangle_laws.proofs.TangleRooms.{AreMet, met-within_room}
use Rattle.tangle_laws.proofs.TangleBasics.{met-within_pairs}

module _ (rules : List Rule) (pieces : List Piece) (made parts : List (List ℕ))
    (are : ArePieces rules pieces) (apart : AreApart rules pieces)
    (made_are : AreCyclicComponents (made_rules pieces) made)
    (parts_are : AreCyclicComponents rules parts) where
  meets-some : (atoms : List ℕ) → In atoms made → list_any (λ part. meets part atoms) parts
      ≡ true
  meets-some atoms among =
      let comp : IsCyclicComponent (made_rules pieces) atoms =
      each-among _ made atoms made_are.each among in
      let has : HasOld rules pieces are apart atoms = has-old rules pieces are apart atoms comp in
      let part : (p : List ℕ) × In p parts × (members p has.at ≡ true) =
      any-among (λ p. members p has.at) parts (parts_are.all has.at
      (old-loop rules pieces are apart atoms comp has)) in
      among-any (λ p. meets p atoms) parts part.0 part.1
      (any-from_shared atoms part.0 has.at has.inside part.2)

  -- the components that meet a part
  met : (part : List ℕ) → AreMet (made_rules pieces) part (filter (meets part) made)
  met part = record {
    each = λ atoms a. each-among _ made atoms made_are.each
        (kept-among (meets part) made atoms a).0;
    meet = λ atoms a. (kept-among (meets part) made atoms a).1;
    once = distinct-kept (meets part) made made_are.once;
  }

  met-within : (part : List ℕ) → In part parts → total (part_pairs (made_rules pieces))
      (filter (meets part) made) ≤ part_tangle rules part
  met-within part among =
      let given : IsCyclicComponent rules part = each-among _ parts part parts_are.each among in
      ⊎_elim
      (λ basic. let is : part_tangle rules part ≡ part_pairs rules part =
      cond-true (all_basic rules part) (part_pairs rules part)
      (part_room rules part * part_room rules part) basic in
      let le = met-within_pairs rules pieces are apart part given basic (filter (meets part) made)
      (met part) in
      subst (λ n. total (part_pairs (made_rules pieces)) (filter (meets part) made) ≤ n)
      (sym is) le)
      (λ other. let is : part_tangle rules part ≡ part_room rules part * part_room rules part =
      cond-false (all_basic rules part) (part_pairs rules part)
      (part_room rules part * part_room rules part) other in
      let le = met-within_room rules pieces are apart part (filter (meets part) made) given
      (met part) in
      subst (λ n. total (part_pairs (made_rules pieces)) (filter (meets part) made) ≤ n)
      (sym is) le)
      (cases_Bool (all_basic rules part))

  pub pairs-within_tangle : pairs (made_rules pieces) made ≤ tangle rules parts
  pairs-within_tangle =
      let spread : total (part_pairs (made_rules pieces)) made
      ≤ total (λ part. total (part_pairs (made_rules pieces)) (filter (meets part) made)) parts
      = total-met meets (part_pairs (made_rules pieces)) made parts meets-some in
      let within : total (λ part. total (part_pairs (made_rules pieces)) (filter (meets part) made))
      parts ≤ total (part_tangle rules) parts =
      total-le (λ part. total (part_pairs (made_rules pieces)) (filter (meets part) made))
      (part_tangle rules) parts met-within in
      let one : pairs (made_rules pieces) made ≡ total (part_pairs (made_rules pieces)) made =
      sum_by-total (part_pairs (made_rules pieces)) made in
      let other : tangle rules parts ≡ total (part_tangle rules) parts =
      sum_by-total (part_tangle rules) parts in
      rw (one, other) (omega (arith, spread, within))
