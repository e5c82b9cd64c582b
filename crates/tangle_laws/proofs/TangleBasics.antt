-- Where all rules that enter a component of the given rules are basic, their pieces are those
-- rules, and one component of the made rules at most meets it: the same atoms, with the same links.
use Rattle.std.proofs.Common.{◌≡◌, refl, sym, subst, ap, ⊎_elim, inl, ℕ, ◌+◌, ◌≤◌, true, false, not, cond, ◌||◌, List, [], ◌∷◌, length, arith, mul-le-mul}
use Rattle.std.proofs.lemmas.Bool.{cases_Bool, both_ways, true≢false, cond-true}
use Rattle.asp_base.specs.Sets.{In, members}
use Rattle.asp_base.specs.Walks.{IsWalk, Reaches}
use Rattle.asp_base.proofs.Bools.{imply}
use Rattle.ground_program.specs.Dependencies.{depends, positives_of_body}
use Rattle.ground_program.specs.Occurrences.{atoms_of_head}
use Rattle.ground_program.specs.Tangle.{IsCyclicComponent, all_basic, enters, is_basic, links, occurrences, part_pairs}
use Rattle.ground_program.specs.declared.program.Rule.{Rule}
use Rattle.tangle_laws.specs.Pieces.{Piece, IsPiece, ArePieces, AreApart, new_atoms, made_rules}
use Rattle.tangle_laws.proofs.PartElements.{all-among, flat-among, any-from_shared, Shared, shared-from_any}
use Rattle.tangle_laws.proofs.PartSums.{total, total-none, cond-le}
use Rattle.tangle_laws.proofs.PartDistinct.{Distinct, AreApartLists, distinct-parts, joined, length-within, total-one}
use Rattle.tangle_laws.proofs.PartLinks.{link, links-total, link-none, kept-more}
use Rattle.tangle_laws.proofs.PartInside.{meets, old-inside, new-inside, made-stays_out}
use Rattle.tangle_laws.proofs.PieceStands.{Stands, stands-piece, stands-rule, stands-among, rule-stands, IsNew, new-stands, IsEdge, depends-edge, depends-by}
use Rattle.tangle_laws.proofs.PieceSums.{fresh_where, made-within}
use Rattle.tangle_laws.proofs.WalkReaches.{reaches-step, reaches-join}
use Rattle.tangle_laws.proofs.TangleRooms.{AreMet}

-- each of joined lists without repetition has none
distinct-one : (xss : List (List ℕ)) (xs : List ℕ) → Distinct (joined xss) → In xs xss
    → Distinct xs
distinct-one [] xs d a = absurd a
distinct-one (ys ∷ xss) xs d a =
    let parts : AreApartLists ys (joined xss) = distinct-parts ys (joined xss) d in
    ⊎_elim (λ e. subst Distinct e parts.left) (λ b. distinct-one xss xs parts.right b) a

module _ (rules : List Rule) (pieces : List Piece) (are : ArePieces rules pieces)
    (apart : AreApart rules pieces) (part : List ℕ) (given : IsCyclicComponent rules part)
    (basic : all_basic rules part ≡ true) where
  -- the piece of a rule that enters the part
  own : (rule : Rule) (piece : Piece) → Stands rules pieces rule piece → enters part rule ≡ true
      → piece ≡ record { fresh = []; rules = rule ∷ [] }
  own rule piece stands into =
      let is : IsPiece rule piece = stands-piece rules pieces rule piece are stands in
      is.basic (imply (enters part rule) (is_basic rule)
      (all-among (λ r. not (enters part r) || is_basic r) rules rule basic
      (stands-rule rules pieces rule piece stands)) into)

  -- ---- walks within the part are walks along the made rules

  edge-made : (a b : ℕ) → members part a ≡ true → depends rules a b ≡ true
      → depends (made_rules pieces) a b ≡ true
  edge-made a b inside step =
      let edge : IsEdge rules a b = depends-edge rules a b step in
      let piece : (p : Piece) × Stands rules pieces edge.rule p =
      rule-stands rules pieces edge.rule are edge.among in
      let into : enters part edge.rule ≡ true =
      any-from_shared (atoms_of_head edge.rule.head) part a edge.head inside in
      let is = own edge.rule piece.0 piece.1 into in
      let here : In edge.rule piece.0.rules = subst (λ p. In edge.rule p.rules) (sym is)
      (inl refl) in
      depends-by (made_rules pieces) edge.rule a b
      (flat-among (λ p. p.rules) pieces piece.0 edge.rule
      (stands-among rules pieces edge.rule piece.0 piece.1) here) edge.head edge.body

  walk-made : (a : ℕ) (by : List ℕ) (b : ℕ) → members part a ≡ true → members part b ≡ true
      → IsWalk (depends rules) a by b → IsWalk (depends (made_rules pieces)) a by b
  walk-made a [] b one other walk = edge-made a b one walk
  walk-made a (next ∷ by) b one other walk =
      let there : Reaches (depends rules) a next = reaches-step (depends rules) a next walk.0 in
      let back : Reaches (depends rules) next a = reaches-join (depends rules) next b a (by, walk.1)
      (given.connected b a other one) in (
        edge-made a next one walk.0,
        walk-made next by b (given.whole a next one there back) other walk.1,
      )

  reaches-made : (a b : ℕ) → members part a ≡ true → members part b ≡ true
      → Reaches (depends (made_rules pieces)) a b
  reaches-made a b one other = let r : Reaches (depends rules) a b =
      given.connected a b one other in (r.0, walk-made a r.0 b one other r.1)

  -- ---- a component that meets the part is the part

  module _ (atoms : List ℕ) (comp : IsCyclicComponent (made_rules pieces) atoms)
      (meet : meets part atoms ≡ true) where
    atoms-inside : (a : ℕ) → members atoms a ≡ true → members part a ≡ true
    atoms-inside a mem = ⊎_elim
        (λ new. let is : IsNew rules pieces a = new-stands rules pieces a are new in
        let into = new-inside rules pieces are apart part atoms given comp meet is.rule is.piece a
        is.stands is.inside mem in
        absurd (true≢false (sym (subst (λ p. members p.fresh a ≡ true)
        (own is.rule is.piece is.stands into) is.inside))))
        (λ old. old-inside rules pieces are apart part atoms given comp meet a mem old)
        (cases_Bool (members (new_atoms pieces) a))

    part-inside : (a : ℕ) → members part a ≡ true → members atoms a ≡ true
    part-inside a mem =
        let both : Shared atoms part = shared-from_any atoms part meet in
        comp.whole both.at a both.one (reaches-made both.at a both.other mem)
        (reaches-made a both.at mem both.other)

    link-same : (rule : Rule) → enters part rule ≡ true → link atoms rule ≤ link part rule
    link-same rule into =
        let more : occurrences atoms rule ≤ occurrences part rule =
        kept-more (λ a. members atoms a) (λ a. members part a) atoms-inside
        (positives_of_body rule.body) in
        let full : link part rule ≡ 1 + occurrences part rule =
        cond-true (enters part rule) (1 + occurrences part rule) 0 into in
        let le : link atoms rule ≤ 1 + occurrences part rule =
        cond-le (enters atoms rule) (1 + occurrences atoms rule) (1 + occurrences part rule)
        (λ e. omega arith) in
        omega arith

    piece-same : (rule : Rule) (piece : Piece) → Stands rules pieces rule piece
        → length (cond false piece.fresh []) + total (λ made. link atoms made) piece.rules
        ≤ link part rule
    piece-same rule piece stands = ⊎_elim
        (λ into. let is = own rule piece stands into in
        let alone : total (λ made. link atoms made) piece.rules ≡ link atoms rule + 0 =
        ap (λ p. total (λ made. link atoms made) p.rules) is in
        let le = link-same rule into in
        omega arith)
        (λ out. let none : total (λ made. link atoms made) piece.rules ≡ 0 =
        total-none (λ made. link atoms made) piece.rules
        (λ made a. link-none atoms made
        (made-stays_out rules pieces are apart part atoms given comp meet rule piece made stands
        out a)) in
        omega arith)
        (cases_Bool (enters part rule))

    links-same : links (made_rules pieces) atoms ≤ links rules part
    links-same =
        let le : length (fresh_where (λ r. false) rules pieces)
        + total (λ made. link atoms made) (made_rules pieces)
        ≤ total (λ rule. link part rule) rules = made-within (λ r. false)
        (λ made. link atoms made) (λ rule. link part rule) rules pieces are piece-same in
        let one = links-total (made_rules pieces) atoms in
        let other = links-total rules part in
        omega arith

    pairs-same : Distinct atoms → part_pairs (made_rules pieces) atoms ≤ part_pairs rules part
    pairs-same d =
        let long : length atoms ≤ length part = length-within atoms part d atoms-inside in
        let links_le = links-same in
        let both : length atoms + links (made_rules pieces) atoms ≤ length part + links rules part =
        omega arith in
        mul-le-mul long both

  pub met-within_pairs : (comps : List (List ℕ)) → AreMet (made_rules pieces) part comps
      → total (part_pairs (made_rules pieces)) comps ≤ part_pairs rules part
  met-within_pairs comps met =
      total-one (part_pairs (made_rules pieces)) given.some.0 (part_pairs rules part) comps met.once
      (λ atoms a. pairs-same atoms (met.each atoms a) (met.meet atoms a)
      (distinct-one comps atoms met.once a))
      (λ atoms a out. absurd (both_ways _ out (part-inside atoms (met.each atoms a)
      (met.meet atoms a) given.some.0 given.some.1)))
