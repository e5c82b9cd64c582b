-- A literal for a sum of weights, level by level.
use Rattle.std.proofs.Common.{◌≡◌, refl, sym, ◌∙◌, ap, ap₂, subst, ℕ, zero, suc, ◌+◌, ◌*◌, ◌/◌, ◌%◌, ◌-◌, ◌≤◌, ◌<◌, Bool, true, leb, List, [], ◌∷◌, ◌++◌, map, replicate, length, get_or, arith, length-append}
use Rattle.std.specs.List.{AllByRecursion}
use Rattle.std.proofs.lemmas.List.{map-append, length-replicate, get_or-map}
use Rattle.std.proofs.lemmas.List.Sums.{sum_by-cons}
use Rattle.asp_base.specs.Literal.{Literal}
use Rattle.asp_base.specs.Sets.{Set}
use Rattle.asp_base.proofs.Each.{each-append}
use Rattle.ground_program.specs.Digits.{digits}
use Rattle.ground_program.specs.Radix.{total, rest_sum, divided}
use Rattle.ground_program.specs.Room.{network_measure}
use Rattle.ground_program.proofs.RadixLaws.{total-cons}
use Rattle.rule_network.specs.Block.{Block, Known, AllKnown, HasRoom, Grew, Defines, Adds, value, values}
use Rattle.rule_network.specs.Truths.{count, ones}
use Rattle.rule_network.proofs.TruthLaws.{count-map, count-append, ones-at}
use Rattle.rule_network.proofs.GrowthLaws.{Grew-trans, known-kept, value-kept}
use Rattle.rule_network.proofs.CellLaws.{adds-more, adds-same}
use Rattle.rule_network.proofs.EntryLaws.{each-entry}
use Rattle.merge_networks.proofs.SortedLaws.{length-ordered}
use Rattle.merge_networks.specs.Networks.{Orders, SortCost, HasSortRoom}
use Rattle.weight_rules.specs.private.Kept.{ItemsKnown}
use Rattle.weight_rules.specs.private.Levels.{held, rests, picked, truths, rest_lits, all_lits, Carries}
use Rattle.weight_rules.proofs.RadixLaws.{count-carries, count-replicate, quotients, next-held, next-total, same-reached, bound-enough}

-- ---- the list of a level

map-replicate : {A C : Type 0} (f : A → C) (n : ℕ) (x : A)
    → map f (replicate n x) ≡ replicate n (f x)
map-replicate f zero x = refl
map-replicate f (suc n) x = ap (λ ys. f x ∷ ys) (map-replicate f n x)

each-replicate : {A : Type 0} (P : A → Type 0) (n : ℕ) (x : A) → P x
    → AllByRecursion P (replicate n x)
each-replicate P zero x h = tt
each-replicate P (suc n) x h = (h, each-replicate P n x h)

pub known-rests : (net : Block) (b : ℕ) (items : List (Literal × ℕ)) → ItemsKnown net items
    → AllKnown net (rest_lits b items)
known-rests net b [] k = tt
known-rests net b (item ∷ items) k =
    each-append (Known net) (replicate (item.1 % b) item.0) (rest_lits b items)
    (each-replicate (Known net) (item.1 % b) item.0 k.0) (known-rests net b items k.1)

pub known-all : (net : Block) (items : List (Literal × ℕ)) → ItemsKnown net items
    → AllKnown net (all_lits items)
known-all net [] k = tt
known-all net (item ∷ items) k =
    each-append (Known net) (replicate item.1 item.0) (all_lits items)
    (each-replicate (Known net) item.1 item.0 k.0) (known-all net items k.1)

length-rests : (b : ℕ) (items : List (Literal × ℕ)) → length (rest_lits b items) ≡ rest_sum b items
length-rests b [] = refl
length-rests b (item ∷ items) =
    length-append (replicate (item.1 % b) item.0) (rest_lits b items)
    ∙ ap₂ ◌+◌ (length-replicate (item.1 % b) item.0) (length-rests b items)
    ∙ sym (sum_by-cons (λ item. item.1 % b) item items)

length-all : (items : List (Literal × ℕ)) → length (all_lits items) ≡ total items
length-all [] = refl
length-all (item ∷ items) =
    length-append (replicate item.1 item.0) (all_lits items)
    ∙ ap₂ ◌+◌ (length-replicate item.1 item.0) (length-all items)
    ∙ sym (total-cons item items)

pub length-level : (b : ℕ) (items : List (Literal × ℕ)) (carries : List Literal)
    → length (rest_lits b items ++ carries) ≡ rest_sum b items + length carries
length-level b items carries =
    length-append (rest_lits b items) carries ∙ ap (λ n. n + length carries) (length-rests b items)

pub length-top : (items : List (Literal × ℕ)) (carries : List Literal)
    → length (all_lits items ++ carries) ≡ total items + length carries
length-top items carries =
    length-append (all_lits items) carries ∙ ap (λ n. n + length carries) (length-all items)

values-rests : (net : Block) (X M : Set) (b : ℕ) (items : List (Literal × ℕ))
    → values net X M (rest_lits b items) ≡ rests b (truths net X M items)
values-rests net X M b [] = refl
values-rests net X M b (item ∷ items) =
    map-append (value net X M) (replicate (item.1 % b) item.0) (rest_lits b items)
    ∙ ap₂ ◌++◌ (map-replicate (value net X M) (item.1 % b) item.0) (values-rests net X M b items)

count-level : (net : Block) (X M : Set) (b : ℕ) (items : List (Literal × ℕ))
    (carries : List Literal)
    → count (values net X M (rest_lits b items ++ carries))
    ≡ count (rests b (truths net X M items)) + count (values net X M carries)
count-level net X M b items carries =
    ap count (map-append (value net X M) (rest_lits b items) carries
    ∙ ap (λ bs. bs ++ values net X M carries) (values-rests net X M b items))
    ∙ count-append (rests b (truths net X M items)) (values net X M carries)

count-all : (net : Block) (X M : Set) (items : List (Literal × ℕ))
    → count (values net X M (all_lits items)) ≡ held (truths net X M items)
count-all net X M [] = refl
count-all net X M (item ∷ items) =
    ap count (map-append (value net X M) (replicate item.1 item.0) (all_lits items)
    ∙ ap (λ bs. bs ++ values net X M (all_lits items))
    (map-replicate (value net X M) item.1 item.0))
    ∙ count-append (replicate item.1 (value net X M item.0)) (values net X M (all_lits items))
    ∙ ap₂ ◌+◌ (count-replicate (value net X M item.0) item.1) (count-all net X M items)

count-top : (net : Block) (X M : Set) (items : List (Literal × ℕ)) (carries : List Literal)
    → count (values net X M (all_lits items ++ carries))
    ≡ held (truths net X M items) + count (values net X M carries)
count-top net X M items carries =
    ap count (map-append (value net X M) (all_lits items) carries)
    ∙ count-append (values net X M (all_lits items)) (values net X M carries)
    ∙ ap (λ n. n + count (values net X M carries)) (count-all net X M items)

-- ---- the ordered list

-- the entry at the place k says that at least k of the literals hold
pub entry-defines : (old new : Block) (lits sorted : List Literal) (k : ℕ) (cell : Literal) → 0 < k
    → k ≤ length lits
    → Orders old new lits sorted → cell ≡ get_or sorted (k - 1) cell
    → Defines old new cell (λ X M. leb k (count (values old X M lits)))
entry-defines old new lits sorted k cell o l orders at =
    let s : length sorted ≡ length lits = length-ordered old new lits sorted orders in
    let e : suc (k - 1) ≡ k = omega arith in
    record {
      grew = orders.grew;
      known = each-entry (Known new) sorted (k - 1) cell at (omega arith) orders.known;
      says = λ X M. ap (value new X M) at
          ∙ sym (get_or-map (value new X M) sorted (k - 1) cell true (omega arith))
          ∙ ap (λ bs. get_or bs (k - 1) true) (orders.says X M)
          ∙ ones-at (count (values old X M lits)) (length lits) (k - 1) true (count-map (value old X M) lits)
          (omega arith)
          ∙ ap (λ j. leb j (count (values old X M lits))) e;
    }

pub same-test : (old new : Block) (lit : Literal) (f g : Set → Set → Bool)
    → ((X M : Set) → f X M ≡ g X M)
    → Defines old new lit f → Defines old new lit g
same-test old new lit f g e d =
    record { grew = d.grew; known = d.known; says = λ X M. d.says X M ∙ e X M }

pub top-defines : (old new : Block) (items : List (Literal × ℕ)) (carries sorted : List Literal)
    (bound : ℕ) (cell : Literal)
    → 0 < bound → bound ≤ total items + length carries
    → Orders old new (all_lits items ++ carries) sorted → cell ≡ get_or sorted (bound - 1) cell
    → Defines old new cell
    (λ X M. leb bound (held (truths old X M items) + count (values old X M carries)))
top-defines old new items carries sorted bound cell o enough orders at =
    let n : length (all_lits items ++ carries) ≡ total items + length carries =
    length-top items carries in
    same-test old new cell (λ X M. leb bound (count (values old X M (all_lits items ++ carries))))
    (λ X M. leb bound (held (truths old X M items) + count (values old X M carries)))
    (λ X M. ap (leb bound) (count-top old X M items carries))
    (entry-defines old new (all_lits items ++ carries) sorted bound cell o (omega arith) orders at)

-- ---- carries

map-picked : {A C : Type 0} (f : A → C) (b skip : ℕ) (xs : List A)
    → map f (picked b skip xs) ≡ picked b skip (map f xs)
map-picked f b zero [] = refl
map-picked f b (suc skip) [] = refl
map-picked f b zero (x ∷ xs) = ap (λ ys. f x ∷ ys) (map-picked f b (b - 1) xs)
map-picked f b (suc skip) (x ∷ xs) = map-picked f b skip xs

each-picked : {A : Type 0} (P : A → Type 0) (b skip : ℕ) (xs : List A) → AllByRecursion P xs
    → AllByRecursion P (picked b skip xs)
each-picked P b zero [] h = tt
each-picked P b (suc skip) [] h = tt
each-picked P b zero (x ∷ xs) h = (h.0, each-picked P b (b - 1) xs h.1)
each-picked P b (suc skip) (x ∷ xs) h = each-picked P b skip xs h.1

length-picked : {A : Type 0} (b skip : ℕ) (xs : List A)
    → length (picked b skip xs) ≡ count (picked b skip (ones (length xs) (length xs)))
length-picked b zero [] = refl
length-picked b (suc skip) [] = refl
length-picked b zero (x ∷ xs) = ap suc (length-picked b (b - 1) xs)
length-picked b (suc skip) (x ∷ xs) = length-picked b skip xs

pub level-carries : (old mid : Block) (items : List (Literal × ℕ))
    (carries sorted next : List Literal) (b t : ℕ) → t < b
    → Orders old mid (rest_lits b items ++ carries) sorted → next ≡ picked b (b - t - 1) sorted
    → Carries old mid items carries next b t
level-carries old mid items carries sorted next b t l orders is =
    let list : List Literal = rest_lits b items ++ carries in
    record {
      grew = orders.grew;
      known =
          subst (AllKnown mid) (sym is) (each-picked (Known mid) b (b - t - 1) sorted orders.known);
      entries = ap length is ∙ length-picked b (b - t - 1) sorted
          ∙ count-carries b t (length sorted) (length sorted) l (omega arith)
          ∙ ap (λ n. (n + t) / b)
          (length-ordered old mid list sorted orders ∙ length-level b items carries);
      says = λ X M. ap (λ lits. count (values mid X M lits)) is
          ∙ ap count
          (map-picked (value mid X M) b (b - t - 1) sorted
          ∙ ap (picked b (b - t - 1)) (orders.says X M))
          ∙ count-carries b t (count (values old X M list)) (length list) l (count-map (value old X M) list)
          ∙ ap (λ n. (n + t) / b) (count-level old X M b items carries);
    }

-- ---- from level to level

pub known-divided : (old new : Block) (b : ℕ) (items : List (Literal × ℕ)) → Grew old new
    → ItemsKnown old items → ItemsKnown new (divided b items)
known-divided old new b [] g k = tt
known-divided old new b (item ∷ items) g k =
    (known-kept old new g item.0 k.0, known-divided old new b items g k.1)

truths-divided : (old new : Block) (X M : Set) (b : ℕ) (items : List (Literal × ℕ)) → Grew old new
    → ItemsKnown old items
    → truths new X M (divided b items) ≡ quotients b (truths old X M items)
truths-divided old new X M b [] g k = refl
truths-divided old new X M b (item ∷ items) g k =
    ap₂ (λ t rest. (t, item.1 / b) ∷ rest) (value-kept old new g X M item.0 k.0)
    (truths-divided old new X M b items g k.1)

-- what reaches the bound of the next level reaches that of this one
pub level-defines : (old mid new : Block) (items xs : List (Literal × ℕ))
    (carries next : List Literal) (b t bound : ℕ) (lit : Literal)
    → 0 < b → b * ((bound + t) / b) ≡ bound + t → ItemsKnown old items
    → Carries old mid items carries next b t → xs ≡ divided b items
    → Defines mid new lit
    (λ X M. leb ((bound + t) / b) (held (truths mid X M xs) + count (values mid X M next)))
    → Defines old new lit
    (λ X M. leb bound (held (truths old X M items) + count (values old X M carries)))
level-defines old mid new items xs carries next b t bound lit o whole known c e d = record {
  grew = Grew-trans old mid new c.grew d.grew;
  known = d.known;
  says = λ X M. d.says X M
      ∙ ap (leb ((bound + t) / b))
      (ap₂ ◌+◌
      (ap (λ ys. held (truths mid X M ys)) e
      ∙ ap held (truths-divided old mid X M b items c.grew known)) (c.says X M)
      ∙ next-held b t (count (values old X M carries)) (truths old X M items) o)
      ∙ same-reached b t bound (held (truths old X M items) + count (values old X M carries)) o
      whole;
}

pub level-enough : (old mid : Block) (items xs : List (Literal × ℕ)) (carries next : List Literal)
    (b t bound : ℕ)
    → 0 < b → b * ((bound + t) / b) ≡ bound + t → Carries old mid items carries next b t
    → xs ≡ divided b items
    → bound ≤ total items + length carries → (bound + t) / b ≤ total xs + length next
level-enough old mid items xs carries next b t bound o whole c e l =
    let f : total xs + length next ≡ (total items + length carries + t) / b =
    ap₂ ◌+◌ (ap total e) c.entries ∙ next-total b t (length carries) items o in
    let h : (bound + t) / b ≤ (total items + length carries + t) / b =
    bound-enough b t bound (total items + length carries) o whole l in
    omega arith

-- ---- room and cost

pub sort-room : (n m : ℕ) (net : Block) → n ≡ m → HasRoom (network_measure m) net
    → HasSortRoom n net
sort-room n m net e r =
    (n, omega arith, subst (λ x. HasRoom (x * (digits x * digits x)) net) (sym e) (omega arith))

pub sort-adds : (n m : ℕ) (old new : Block) → n ≡ m → SortCost n old new
    → Adds (network_measure m) (network_measure m) old new
sort-adds n m old new e p =
    let a : 2 * p.0 ≤ n * (digits n * digits n) = p.1 n (omega arith) in
    subst (λ x. Adds (network_measure x) (network_measure x) old new) e
    (adds-same (2 * p.0) (network_measure n) (9 * p.0) (network_measure n) old new (omega arith)
    (omega arith) p.2)

pub room-left : (m n : ℕ) (old mid : Block) → HasRoom (m + n) old → Adds m m old mid → HasRoom n mid
room-left m n old mid r a =
    let p : length mid.supply.atoms ≡ length old.supply.atoms =
    ap length a.program in omega (arith, a.drawn)

pub adds-both : (m n k : ℕ) (old mid new : Block) → k ≡ m + n → Adds m m old mid → Adds n n mid new
    → Adds k k old new
adds-both m n k old mid new e a b =
    subst (λ x. Adds x x old new) (sym e) (adds-more m n m n old mid new a b)
