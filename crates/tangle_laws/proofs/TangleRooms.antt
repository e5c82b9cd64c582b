-- The components of the made rules that meet one component of the given rules are within its room.
use Rattle.std.proofs.Common.{◌≡◌, ap, ⊎_elim, ℕ, ◌+◌, ◌*◌, ◌≤◌, true, false, cond, List, [], ◌++◌, length, arith, length-append, mul-le-mul}
use Rattle.std.specs.List.{sum_by}
use Rattle.std.proofs.lemmas.Bool.{cases_Bool, cond-true, cond-false}
use Rattle.asp_base.specs.Sets.{In, members}
use Rattle.ground_program.specs.Room.{term}
use Rattle.ground_program.specs.Size.{rule_size}
use Rattle.ground_program.specs.Tangle.{IsCyclicComponent, enters, links, part_pairs, part_room}
use Rattle.ground_program.specs.declared.program.Rule.{Rule}
use Rattle.tangle_laws.specs.Pieces.{Piece, IsPiece, ArePieces, AreApart, new_atoms, made_rules}
use Rattle.tangle_laws.proofs.PartElements.{each-among, member-left, member-right}
use Rattle.tangle_laws.proofs.PartSums.{total, total-le, total-none, total-both, total-swap, total-square, sum_by-total, length-joined}
use Rattle.tangle_laws.proofs.PartDistinct.{Distinct, joined, joined-member, length-within}
use Rattle.tangle_laws.proofs.PartLinks.{link, links-total, link-none, link-once}
use Rattle.tangle_laws.proofs.PartInside.{meets, old-inside, new-inside, made-stays_out}
use Rattle.tangle_laws.proofs.PieceStands.{Stands, stands-piece, IsNew, new-stands}
use Rattle.tangle_laws.proofs.PieceSums.{fresh_where, fresh_where-member, made-within}

-- components of the made rules, each of which meets a part
pub record AreMet (rules : List Rule) (part : List ℕ) (comps : List (List ℕ)) : Type 0 where
  pub each : (atoms : List ℕ) → In atoms comps → IsCyclicComponent rules atoms
  pub meet : (atoms : List ℕ) → In atoms comps → meets part atoms ≡ true
  pub once : Distinct (joined comps)

module _ (rules : List Rule) (pieces : List Piece) (are : ArePieces rules pieces)
    (apart : AreApart rules pieces) (part : List ℕ) (comps : List (List ℕ))
    (given : IsCyclicComponent rules part) (met : AreMet (made_rules pieces) part comps) where
  -- ---- atoms

  inside : (a : ℕ) → members (joined comps) a ≡ true →
      members (part ++ fresh_where (enters part) rules pieces) a ≡ true
  inside a m =
      let in_one : (atoms : List ℕ) × In atoms comps × (members atoms a ≡ true) =
      joined-member comps a m in
      let comp = met.each in_one.0 in_one.1 in
      let meet = met.meet in_one.0 in_one.1 in
      ⊎_elim
      (λ new. let is : IsNew rules pieces a = new-stands rules pieces a are new in
      member-right part (fresh_where (enters part) rules pieces) a
      (fresh_where-member (enters part) rules pieces is.rule is.piece a is.stands
      (new-inside rules pieces are apart part in_one.0 given comp meet is.rule is.piece a is.stands
      is.inside in_one.2) is.inside))
      (λ old. member-left part (fresh_where (enters part) rules pieces) a
      (old-inside rules pieces are apart part in_one.0 given comp meet a in_one.2 old))
      (cases_Bool (members (new_atoms pieces) a))

  atoms-le : total (λ atoms. length atoms) comps ≤ length part
      + length (fresh_where (enters part) rules pieces)
  atoms-le =
      let within : length (joined comps) ≤ length (part ++ fresh_where (enters part) rules pieces) =
      length-within (joined comps) (part ++ fresh_where (enters part) rules pieces) met.once
      inside in
      let long = length-joined comps in
      let both = length-append part (fresh_where (enters part) rules pieces) in
      omega arith

  -- ---- rules

  abbrev counts : Rule → ℕ
  counts rule = total (λ atoms. link atoms rule) comps

  abbrev has_room : Rule → ℕ
  has_room rule = cond (enters part rule) (term rule) 0

  within-size : (rule : Rule) (piece : Piece) → Stands rules pieces rule piece
      → total counts piece.rules ≤ sum_by rule_size piece.rules
  within-size rule piece stands =
      let is : IsPiece rule piece = stands-piece rules pieces rule piece are stands in
      let sizes = sum_by-total rule_size piece.rules in
      let le : total counts piece.rules ≤ total rule_size piece.rules =
      total-le counts rule_size piece.rules (λ made a. link-once made comps
      (each-among _ piece.rules made is.normal a).0 met.once) in
      omega arith

  counts-none : (rule : Rule) (piece : Piece) → Stands rules pieces rule piece
      → enters part rule ≡ false → total counts piece.rules ≡ 0
  counts-none rule piece stands out = total-none counts piece.rules (λ made a.
      total-none (λ atoms. link atoms made) comps (λ atoms b.
      link-none atoms made (made-stays_out rules pieces are apart part atoms given
      (met.each atoms b) (met.meet atoms b) rule piece made stands out a)))

  piece-le : (rule : Rule) (piece : Piece) → Stands rules pieces rule piece
      → length (cond (enters part rule) piece.fresh []) + total counts piece.rules ≤ has_room rule
  piece-le rule piece stands = ⊎_elim
      (λ into. let is : IsPiece rule piece = stands-piece rules pieces rule piece are stands in
      let size = is.size in
      let le = within-size rule piece stands in
      let fresh : length (cond (enters part rule) piece.fresh []) ≡ length piece.fresh =
      ap length (cond-true (enters part rule) piece.fresh [] into) in
      let room : has_room rule ≡ term rule = cond-true (enters part rule) (term rule) 0 into in
      omega arith)
      (λ out. let none = counts-none rule piece stands out in
      let fresh : length (cond (enters part rule) piece.fresh []) ≡ 0 =
      ap length (cond-false (enters part rule) piece.fresh [] out) in
      omega arith)
      (cases_Bool (enters part rule))

  rules-le : length (fresh_where (enters part) rules pieces) + total counts (made_rules pieces)
      ≤ total has_room rules
  rules-le = made-within (enters part) counts has_room rules pieces are piece-le

  links-swap : total (λ atoms. links (made_rules pieces) atoms) comps
      ≤ total counts (made_rules pieces)
  links-swap =
      let each : total (λ atoms. links (made_rules pieces) atoms) comps
      ≤ total (λ atoms. total (λ rule. link atoms rule) (made_rules pieces)) comps =
      total-le (λ atoms. links (made_rules pieces) atoms)
      (λ atoms. total (λ rule. link atoms rule) (made_rules pieces)) comps
      (λ atoms a. let e = links-total (made_rules pieces) atoms in omega arith) in
      let swap : total (λ atoms. total (λ rule. link atoms rule) (made_rules pieces)) comps
      ≡ total counts (made_rules pieces) = total-swap (λ atoms rule. link atoms rule) comps
      (made_rules pieces) in
      omega arith

  -- ---- both

  measure-le : total (λ atoms. length atoms + links (made_rules pieces) atoms) comps
      ≤ part_room rules part
  measure-le =
      let both = total-both (λ atoms. length atoms) (λ atoms. links (made_rules pieces) atoms) comps
      in
      let atoms = atoms-le in
      let links = links-swap in
      let rules_le = rules-le in
      let room = sum_by-total has_room rules in
      omega arith

  pub met-within_room : total (part_pairs (made_rules pieces)) comps
      ≤ part_room rules part * part_room rules part
  met-within_room =
      let square : total (part_pairs (made_rules pieces)) comps
      ≤ total (λ atoms. length atoms + links (made_rules pieces) atoms) comps
      * total (λ atoms. length atoms + links (made_rules pieces) atoms) comps =
      total-square (λ atoms. length atoms) (λ atoms. links (made_rules pieces) atoms) comps in
      let up : total (λ atoms. length atoms + links (made_rules pieces) atoms) comps
      * total (λ atoms. length atoms + links (made_rules pieces) atoms) comps
      ≤ part_room rules part * part_room rules part = mul-le-mul measure-le measure-le in
      omega arith
