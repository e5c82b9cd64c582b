-- Row by row the grid counts the literals.
use Rattle.std.proofs.Common.{◌≡◌, refl, sym, ◌∙◌, ap, ap₂, subst, ℕ, suc, ◌+◌, ◌*◌, ◌-◌, ◌≤◌, ◌<◌, min, Bool, true, false, cond, leb, ltb, List, [], ◌∷◌, ◌++◌, length, get_or, take, arith, length-take}
use Rattle.std.proofs.lemmas.List.{length-map, get_or-map, take_more, take_all}
use Rattle.asp_base.specs.Literal.{Literal}
use Rattle.asp_base.specs.Sets.{Set, none}
use Rattle.rule_network.specs.Block.{Block, Known, AllKnown, HasRoom, Defines, Adds, value, values}
use Rattle.rule_network.specs.Truths.{count}
use Rattle.rule_network.proofs.TruthLaws.{count_le-length, count-append}
use Rattle.rule_network.proofs.GrowthLaws.{Grew-trans, value-kept}
use Rattle.rule_network.proofs.CellLaws.{adds-more, adds-same}
use Rattle.rule_network.proofs.EntryLaws.{each-entry}
use Rattle.counting_grid.specs.private.Rows.{next_values, next_says, next_length, row_low, row_length, cells, Appends, Row}
use Rattle.counting_grid.proofs.GridLaws.{row_of, length-row_of, same_thresholds, next-row, cells-more, cells-all, cells-within}
use Rattle.counting_grid.proofs.RowLaws.{length-next}

count-first : (i : ℕ) (bs : List Bool) → count (take i bs) ≤ i
count-first i bs =
    let h : count (take i bs) ≤ length (take i bs) = count_le-length (take i bs) in
    let e : length (take i bs) ≡ min i (length bs) = length-take i bs in
    omega arith

count-more : (bs : List Bool) (i : ℕ) → i < length bs → (v : Bool) → get_or bs i true ≡ v
    → count (take (i + 1) bs) ≡ cond v (suc (count (take i bs))) (count (take i bs))
count-more bs i l v e =
    ap count (take_more bs i true l ∙ ap (λ b. take i bs ++ (b ∷ [])) e)
    ∙ count-append (take i bs) (v ∷ [])
    ∙ plus v (count (take i bs))
  where
    plus : (v : Bool) (n : ℕ) → n + count (v ∷ []) ≡ cond v (suc n) n
    plus true n = omega arith
    plus false n = omega arith

length-row : (old now : Block) (lits row : List Literal) (k w i : ℕ) → Row old now lits row k w i
    → length row ≡ row_length k w i
length-row old now lits row k w i p =
    sym (length-map row (value now none none))
    ∙ ap length (p.says none none)
    ∙ length-row_of k w i (count (take i (values old none none lits)))

-- ---- the next row

module _ (old now : Block) (lits row : List Literal) (k w i : ℕ) (p : Row old now lits row k w i)
    (ok : 0 < k) (ow : 0 < w) (l : i < length lits) (whole : length lits + 1 ≡ k + w) where
  next_length-is : next_length (ltb i w) (ltb i k) (length row) ≡ row_length k w (suc i)
  next_length-is =
      let f : Bool = ltb i w in
      let g : Bool = ltb i k in
      ap (next_length f g)
      (length-row old now lits row k w i p ∙ sym (length-row_of k w i 0))
      ∙ sym (length-next f g (row_of k w i 0) false)
      ∙ ap length (next-row k w i 0 false f g ok ow (omega arith) (omega arith) refl refl)
      ∙ length-row_of k w (suc i) 0

  pub room-next : HasRoom (k * w) old → HasRoom (next_length (ltb i w) (ltb i k) (length row)) now
  room-next r =
      let e : next_length (ltb i w) (ltb i k) (length row) ≡ row_length k w (suc i) =
      next_length-is in
      let m : cells k w (suc i) ≡ cells k w i + row_length k w (suc i) = cells-more k w i in
      let a : cells k w (suc i) ≤ cells k w (length lits) =
      cells-within k w (suc i) (length lits) l in
      let b : cells k w (length lits) ≡ k * w = cells-all k w (length lits) (omega arith) in
      let h : length now.supply.atoms ≡ length old.supply.atoms = ap length p.adds.program in
      omega (arith, p.adds.drawn)

  module _ (new : Block) (lit : Literal) (next : List Literal) (known : AllKnown old lits)
      (at : lit ≡ get_or lits i lit)
      (q : Appends now new [] next (next_says now row lit (ltb i w) (ltb i k))) where
    next-are : (X M : Set)
        → values new X M next ≡ row_of k w (suc i) (count (take (suc i) (values old X M lits)))
    next-are X M =
        let f : Bool = ltb i w in
        let g : Bool = ltb i k in
        let vs : List Bool = values old X M lits in
        let v : Bool = value old X M lit in
        let up : suc i ≡ i + 1 = omega arith in
        let few : i < length vs =
        subst (λ n. i < n) (sym (length-map lits (value old X M))) l in
        let this : get_or vs i true ≡ v =
        get_or-map (value old X M) lits i lit true l ∙ ap (value old X M) (sym at) in
        q.says X M
        ∙ ap₂ (next_values f g) (p.says X M)
        (value-kept old now p.grew X M lit (each-entry (Known old) lits i lit at l known))
        ∙ next-row k w i (count (take i vs)) v f g ok ow (omega arith) (count-first i vs) refl refl
        ∙ ap (row_of k w (suc i))
        (sym (ap (λ j. count (take j vs)) up ∙ count-more vs i few v this))

    length-next_row : length next ≡ row_length k w (suc i)
    length-next_row =
        sym (length-map next (value new none none)) ∙ ap length (next-are none none)
        ∙ length-row_of k w (suc i) (count (take (suc i) (values old none none lits)))

    next-is : Row old new lits next k w (suc i)
    next-is =
        let e : length next ≡ row_length k w (suc i) = length-next_row in
        let m : cells k w (suc i) ≡ cells k w i + row_length k w (suc i) = cells-more k w i in
        let c : ℕ = cells k w i in
        let d : ℕ = length next - 0 in
        let s : ℕ = cells k w (suc i) in
        record {
          grew = Grew-trans old now new p.grew q.grew;
          known = q.known;
          says = next-are;
          adds = adds-same (c + d) s (6 * c + 6 * d) (6 * s) old new (omega arith) (omega arith)
              (adds-more c d (6 * c) (6 * d) old now new p.adds q.adds);
        }

    pub row-more : Row old new lits next k w (i + 1)
    row-more = subst (Row old new lits next k w) (omega arith) next-is

-- ---- the last row

module _ (old now : Block) (lits row : List Literal) (k w i : ℕ) (p : Row old now lits row k w i)
    (ok : 0 < k) (ow : 0 < w) (whole : length lits + 1 ≡ k + w) (e : i ≡ length lits) where
  pub row-some : length row ≡ 1
  row-some = length-row old now lits row k w i p ∙ omega arith

  first-at : 0 < length row
  first-at = subst (λ n. 0 < n) (sym row-some) (omega arith)

  pub row-defines : (cell : Literal) → cell ≡ get_or row 0 cell
      → Defines old now cell (λ X M. leb k (count (values old X M lits)))
  row-defines cell at = record {
    grew = p.grew;
    known = each-entry (Known now) row 0 cell at first-at p.known;
    says = λ X M.
        let vs : List Bool = values old X M lits in
        let few : length vs ≤ i =
        subst (λ n. n ≤ i) (sym (length-map lits (value old X M))) (omega arith) in
        ap (value now X M) at
        ∙ sym (get_or-map (value now X M) row 0 cell true first-at)
        ∙ ap (λ bs. get_or bs 0 true)
        (p.says X M
        ∙ same_thresholds (row_low w i) k (row_length k w i) 1 (count (take i vs)) (omega arith)
        (omega arith))
        ∙ ap (λ bs. leb k (count bs)) (take_all i vs few);
  }

  pub row-adds : Adds (k * w) (6 * (k * w)) old now
  row-adds =
      let c : cells k w i ≡ k * w = cells-all k w i (omega arith) in
      adds-same (cells k w i) (k * w) (6 * cells k w i) (6 * (k * w)) old now (omega arith)
      (omega arith) p.adds
