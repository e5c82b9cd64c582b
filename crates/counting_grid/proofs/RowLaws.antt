-- Cells that are put behind others, and a whole row of them.
use Rattle.std.proofs.Common.{◌≡◌, refl, sym, ◌∙◌, ap, ap₂, subst, ℕ, zero, suc, ◌+◌, ◌*◌, ◌-◌, min, Bool, true, false, cond, ◌&&◌, List, [], ◌∷◌, ◌++◌, length, get_or, arith, length-append}
use Rattle.std.specs.List.{list_all}
use Rattle.std.proofs.lemmas.List.{append_assoc, map-append, length-map, get_or-map}
use Rattle.asp_base.specs.Literal.{Literal}
use Rattle.asp_base.specs.Sets.{Set, none}
use Rattle.asp_base.proofs.Bools.{and_true}
use Rattle.asp_base.proofs.Each.{each-push}
use Rattle.rule_network.specs.Block.{Block, Known, AllKnown, HasRoom, Grew, Defines, DefinesAll, Adds, value, values}
use Rattle.rule_network.proofs.GrowthLaws.{Grew-trans, all_known-kept, value-kept, values-kept}
use Rattle.rule_network.proofs.CellLaws.{adds-more, adds-same}
use Rattle.counting_grid.specs.private.Rows.{first_value, pair_values, last_value, next_values, first_says, pairs_say, last_says, next_says, next_length, Appends}

-- ---- one cell, and one after another

pub appends-one : (old new : Block) (lits : List Literal) (cell : Literal)
    (tests : Set → Set → List Bool) → AllKnown old lits → DefinesAll old new (cell ∷ []) tests
    → Adds 1 6 old new → Appends old new lits (lits ++ (cell ∷ [])) tests
appends-one old new lits cell tests k d a =
    let more : ℕ = length (lits ++ (cell ∷ [])) - length lits in
    let n : length (lits ++ (cell ∷ [])) ≡ length lits + 1 = length-append lits (cell ∷ []) in
    record {
      grew = d.grew;
      known = each-push (Known new) lits cell (all_known-kept old new d.grew lits k) d.known.0;
      says = λ X M.
          map-append (value new X M) lits (cell ∷ [])
          ∙ ap₂ ◌++◌ (values-kept old new d.grew X M lits k) (d.says X M);
      longer = omega arith;
      adds = adds-same 1 more 6 (6 * more) old new (omega arith) (omega arith) a;
    }

appends-then : (old mid new : Block) (lits more most : List Literal) (f g : Set → Set → List Bool)
    → Appends old mid lits more f → Appends mid new more most g
    → Appends old new lits most (λ X M. f X M ++ g X M)
appends-then old mid new lits more most f g p q =
    let m : ℕ = length more - length lits in
    let n : ℕ = length most - length more in
    let s : ℕ = length most - length lits in
    record {
      grew = Grew-trans old mid new p.grew q.grew;
      known = q.known;
      says = λ X M.
          q.says X M ∙ ap (λ bs. bs ++ g X M) (p.says X M)
          ∙ append_assoc (values old X M lits) (f X M) (g X M);
      longer = omega (arith, p.longer, q.longer);
      adds = adds-same (m + n) s (6 * m + 6 * n) (6 * s) old new
          (omega (arith, p.longer, q.longer)) (omega (arith, p.longer, q.longer))
          (adds-more m n (6 * m) (6 * n) old mid new p.adds q.adds);
    }

pub appends-same : (old new : Block) (lits more : List Literal) (f g : Set → Set → List Bool)
    → ((X M : Set) → f X M ≡ g X M) → Appends old new lits more f → Appends old new lits more g
appends-same old new lits more f g e p = record {
  grew = p.grew;
  known = p.known;
  says = λ X M. p.says X M ∙ ap (λ bs. values old X M lits ++ bs) (e X M);
  longer = p.longer;
  adds = p.adds;
}

-- ---- the last cell

last_value-is : (bs : List Bool) (v d : Bool) (n : ℕ) → length bs ≡ suc n
    → last_value bs v ≡ (get_or bs n d && v) ∷ []
last_value-is [] v d n e = absurd (omega arith)
last_value-is (b ∷ []) v d zero e = refl
last_value-is (b ∷ []) v d (suc n) e = absurd (omega arith)
last_value-is (b ∷ c ∷ bs) v d zero e = absurd (omega arith)
last_value-is (b ∷ c ∷ bs) v d (suc n) e = last_value-is (c ∷ bs) v d n (omega arith)

pub last-defines : (old new : Block) (before : List Literal) (lit b cell : Literal) (n : ℕ)
    → length before ≡ suc n → b ≡ get_or before n b
    → Defines old new cell (λ X M. list_all (value old X M) (b ∷ lit ∷ []))
    → DefinesAll old new (cell ∷ []) (λ X M. last_value (values old X M before) (value old X M lit))
last-defines old new before lit b cell n e eb d = record {
  grew = d.grew;
  known = (d.known, tt);
  says = λ X M.
      let v : Bool = value old X M lit in
      let last : value old X M b ≡ get_or (values old X M before) n true =
      ap (value old X M) eb ∙ sym (get_or-map (value old X M) before n b true (omega arith)) in
      ap (λ p. p ∷ [])
      (d.says X M ∙ ap₂ ◌&&◌ last (and_true v))
      ∙ sym (last_value-is (values old X M before) v true n
      (length-map before (value old X M) ∙ e));
}

-- ---- how many

appends-length : (old new : Block) (lits more : List Literal) (f : Set → Set → List Bool)
    → Appends old new lits more f → length more ≡ length lits + length (f none none)
appends-length old new lits more f p =
    sym (length-map more (value new none none))
    ∙ ap length (p.says none none)
    ∙ length-append (values old none none lits) (f none none)
    ∙ ap (λ n. n + length (f none none)) (length-map lits (value old none none))

pub length-first : (f : Bool) (bs : List Bool) (v : Bool)
    → length (cond f (first_value bs v) []) ≡ cond f 1 0
length-first true [] v = refl
length-first true (b ∷ bs) v = refl
length-first false bs v = refl

pub length-pairs : (bs : List Bool) (v : Bool) → length (pair_values bs v) ≡ length bs - 1
length-pairs [] v = omega arith
length-pairs (b ∷ []) v = omega arith
length-pairs (b ∷ c ∷ bs) v =
    let h : length (pair_values (c ∷ bs) v) ≡ length (c ∷ bs) - 1 = length-pairs (c ∷ bs) v in
    omega arith

length-last : (l : Bool) (bs : List Bool) (v : Bool)
    → length (cond l (last_value bs v) []) ≡ cond l (min 1 (length bs)) 0
length-last false bs v = refl
length-last true [] v = omega arith
length-last true (b ∷ []) v = omega arith
length-last true (b ∷ c ∷ bs) v =
    let h : length (last_value (c ∷ bs) v) ≡ min 1 (length (c ∷ bs)) =
    length-last true (c ∷ bs) v in
    omega arith

pub length-next : (f l : Bool) (bs : List Bool) (v : Bool)
    → length (next_values f l bs v) ≡ next_length f l (length bs)
length-next f l bs v =
    let first : List Bool = cond f (first_value bs v) [] in
    length-append (first ++ pair_values bs v) (cond l (last_value bs v) [])
    ∙ ap₂ ◌+◌
    (length-append first (pair_values bs v)
    ∙ ap₂ ◌+◌ (length-first f bs v) (length-pairs bs v))
    (length-last l bs v)

-- what room is left behind cells
pub room-behind : (a b : ℕ) (old new : Block) (lits more : List Literal)
    (f : Set → Set → List Bool) → Appends old new lits more f → length (f none none) ≡ a
    → HasRoom (a + b) old → HasRoom b new
room-behind a b old new lits more f p e r =
    let n : length more ≡ length lits + length (f none none) =
    appends-length old new lits more f p in
    let h : length new.supply.atoms ≡ length old.supply.atoms = ap length p.adds.program in
    omega (arith, p.adds.drawn)

-- ---- a whole row

pub row-from : (old mid two new : Block) (start one more row before : List Literal) (lit : Literal)
    (f l : Bool) → start ≡ [] → AllKnown old before → Known old lit
    → Appends old mid start one (first_says old before lit f)
    → Appends mid two one more (pairs_say mid before lit)
    → Appends two new more row (last_says two before lit l)
    → Appends old new [] row (next_says old before lit f l)
row-from old mid two new start one more row before lit f l e k h p q r =
    subst (λ lits. Appends old new lits row (next_says old before lit f l)) e
    (appends-then old two new start more row
    (λ X M. first_says old before lit f X M ++ pairs_say old before lit X M)
    (last_says old before lit l)
    (appends-then old mid two start one more
    (first_says old before lit f) (pairs_say old before lit) p
    (appends-same mid two one more (pairs_say mid before lit) (pairs_say old before lit)
    (λ X M. ap₂ pair_values (values-kept old mid p.grew X M before k)
    (value-kept old mid p.grew X M lit h)) q))
    (appends-same two new more row (last_says two before lit l) (last_says old before lit l)
    (λ X M. ap₂ (λ bs v. cond l (last_value bs v) []) (values-kept old two grew X M before k)
    (value-kept old two grew X M lit h)) r))
  where
    grew : Grew old two
    grew = Grew-trans old mid two p.grew q.grew
