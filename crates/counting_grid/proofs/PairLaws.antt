-- The cells of a row that have one above them, one after another.
use Rattle.std.proofs.Common.{◌≡◌, refl, sym, ◌∙◌, ap, ap₂, ℕ, ◌+◌, ◌*◌, ◌-◌, ◌≤◌, ◌<◌, Bool, ◌&&◌, ◌||◌, List, [], ◌∷◌, ◌++◌, length, get_or, drop, arith, length-append, length-drop}
use Rattle.std.specs.List.{list_all}
use Rattle.std.proofs.lemmas.List.{drop_more, append_assoc, append-nil, map-append, length-map}
use Rattle.asp_base.specs.Literal.{Literal}
use Rattle.asp_base.specs.Sets.{Set}
use Rattle.asp_base.proofs.Bools.{and_true}
use Rattle.asp_base.proofs.Each.{each-push}
use Rattle.rule_network.specs.Block.{Block, Known, AllKnown, Grew, Defines, Adds, value, values}
use Rattle.rule_network.proofs.GrowthLaws.{Grew-trans, all_known-kept, value-kept, values-kept}
use Rattle.rule_network.proofs.CellLaws.{adds-more, adds-same}
use Rattle.counting_grid.specs.private.Rows.{pair_values, pairs_say, Appends}

-- so many of them were put behind the others
pub record RowPairs (old now : Block) (row grown before : List Literal) (lit : Literal) (i : ℕ)
    : Type 0 where
  pub grew : Grew old now
  pub known : AllKnown now grown
  pub says : (X M : Set) → values now X M grown ++ pairs_say old (drop i before) lit X M
      ≡ values old X M row ++ pairs_say old before lit X M
  pub longer : length grown ≡ length row + i
  pub adds : Adds i (6 * i) old now

module _ (old now new : Block) (row grown before : List Literal) (lit b c cell : Literal) (i : ℕ)
    (p : RowPairs old now row grown before lit i) (l : i + 1 < length before)
    (eb : b ≡ get_or before i b) (ec : c ≡ get_or before (i + 1) c)
    (kb : Known old b) (kc : Known old c) (kl : Known old lit)
    (d : Defines now new cell (λ X M. value now X M c || list_all (value now X M) (b ∷ lit ∷ [])))
    (a : Adds 1 6 now new) where
  -- what is left begins with the two
  rest_more : drop (i + 1) before ≡ c ∷ drop (i + 1 + 1) before
  rest_more = drop_more before (i + 1) c l ∙ ap (λ x. x ∷ drop (i + 1 + 1) before) (sym ec)

  rest : drop i before ≡ b ∷ (c ∷ drop (i + 1 + 1) before)
  rest = drop_more before i b (omega arith) ∙ ap₂ ◌∷◌ (sym eb) rest_more

  cell-says : (X M : Set)
      → value new X M cell ≡ (value old X M c || (value old X M b && value old X M lit))
  cell-says X M =
      d.says X M
      ∙ ap₂ ◌||◌ (value-kept old now p.grew X M c kc)
      (ap₂ ◌&&◌ (value-kept old now p.grew X M b kb)
      (and_true (value now X M lit) ∙ value-kept old now p.grew X M lit kl))

  says-more : (X M : Set)
      → values new X M (grown ++ (cell ∷ [])) ++ pairs_say old (drop (i + 1) before) lit X M
      ≡ values old X M row ++ pairs_say old before lit X M
  says-more X M =
      let v : Bool = value old X M c || (value old X M b && value old X M lit) in
      let left : List Bool = pairs_say old (c ∷ drop (i + 1 + 1) before) lit X M in
      ap₂ (λ bs xs. bs ++ pairs_say old xs lit X M)
      (map-append (value new X M) grown (cell ∷ [])
      ∙ ap₂ (λ bs p. bs ++ (p ∷ [])) (values-kept now new d.grew X M grown p.known)
      (cell-says X M))
      rest_more
      ∙ append_assoc (values now X M grown) (v ∷ []) left
      ∙ ap (λ xs. values now X M grown ++ pairs_say old xs lit X M) (sym rest)
      ∙ p.says X M

  pub pairs-more : RowPairs old new row (grown ++ (cell ∷ [])) before lit (i + 1)
  pairs-more = record {
    grew = Grew-trans old now new p.grew d.grew;
    known = each-push (Known new) grown cell (all_known-kept now new d.grew grown p.known) d.known;
    says = says-more;
    longer = length-append grown (cell ∷ []) ∙ omega (arith, p.longer);
    adds = adds-same (i + 1) (i + 1) (6 * i + 6) (6 * (i + 1)) old new (omega arith) (omega arith)
        (adds-more i 1 (6 * i) 6 old now new p.adds a);
  }

pair_values-few : (bs : List Bool) (v : Bool) → length bs ≤ 1 → pair_values bs v ≡ []
pair_values-few [] v l = refl
pair_values-few (b ∷ []) v l = refl
pair_values-few (b ∷ c ∷ bs) v l = absurd (omega arith)

pub pairs-all : (old new : Block) (row grown before : List Literal) (lit : Literal) (i : ℕ)
    → RowPairs old new row grown before lit i → length before ≤ i + 1 → i ≤ length before - 1
    → Appends old new row grown (pairs_say old before lit)
pairs-all old new row grown before lit i p l m =
    let more : ℕ = length grown - length row in
    record {
      grew = p.grew;
      known = p.known;
      says = λ X M.
          sym (append-nil (values new X M grown))
          ∙ ap (λ bs. values new X M grown ++ bs)
          (sym (pair_values-few (values old X M (drop i before)) (value old X M lit) (few X M)))
          ∙ p.says X M;
      longer = omega (arith, p.longer);
      adds = adds-same i more (6 * i) (6 * more) old new (omega (arith, p.longer))
          (omega (arith, p.longer)) p.adds;
    }
  where
    few : (X M : Set) → length (values old X M (drop i before)) ≤ 1
    few X M =
        let e : length (values old X M (drop i before)) ≡ length (drop i before) =
        length-map (drop i before) (value old X M) in
        let d : length (drop i before) ≡ length before - i = length-drop i before in
        omega arith
