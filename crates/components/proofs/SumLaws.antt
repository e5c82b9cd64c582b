-- What is added up for each component, and the measures that it gives. All of it saturates.
use Rattle.std.proofs.Common.{not, ◌||◌, ◌&&◌, ◌==◌, ◌≡◌, ℕ, zero, suc, ◌+◌, ◌*◌, ◌^◌, ◌<◌, ◌≤◌, Bool, true, false, cond, min, List, [], ◌∷◌, length, map, get_or, arith, refl, sym, ◌∙◌, ap, ⊎_elim}
use mathlib.Core.Path.{fun_ext}
use Rattle.std.specs.List.{AllByRecursion, filter, list_all, range_with_len, sum_by}
use Rattle.std.proofs.lemmas.Bool.{cases_eq, cases_lt, eq-eqb, ne_eqb}
use Rattle.std.proofs.lemmas.List.{map-id}
use Rattle.std.proofs.lemmas.List.FromFn.{sum_by-map-range_with_len_more}
use Rattle.std.proofs.lemmas.List.Sums.{sum_by-cons}
use Rattle.std.proofs.lemmas.Nat.{mul-le}
use Rattle.asp_base.proofs.Each.{each}
use Rattle.graph_parts.specs.Divided as graph
use Rattle.graph_parts.specs.Divided.{is_cyclic_at}
use Rattle.graph_parts.specs.Groups.{pair_at}
use Rattle.ground_program.specs.Facts.{Among, RuleFits}
use Rattle.ground_program.specs.Room.{term}
use Rattle.ground_program.specs.Tangle.{all_basic, enters, is_basic, links, occurrences, pairs, part_pairs, part_room, part_tangle, tangle}
use Rattle.ground_program.specs.declared.program.Rule.{Rule}
use Rattle.components.specs.Divided.{Divided, cyclic_parts, members_of}
use Rattle.components.specs.Parts.{AreSums, entering_terms}
use Rattle.components.specs.private.Adding.{added, oddness, run}
use Rattle.components.specs.private.Kept.{HaveSums}
use Rattle.components.specs.private.Links.{LinkFits, links_of_rules}
use Rattle.components.specs.private.Measured.{pairs_kept, room_kept, size_of, tangle_kept}
use Rattle.components.proofs.AddingLaws.{sums-are}
use Rattle.components.proofs.ComponentLaws.{links-fit}

-- ---- numbers that are alike once they saturate

pub lists-alike : {X : Type 0} (f g : X → ℕ) (xs : List X) → AllByRecursion (λ x. min (f x) (2 ^ 63) ≡ min (g x) (2 ^ 63)) xs → min (sum_by f xs) (2 ^ 63) ≡ min (sum_by g xs) (2 ^ 63)
lists-alike f g [] same = refl
lists-alike f g (x ∷ xs) same =
    let one : sum_by f (x ∷ xs) ≡ f x + sum_by f xs = sum_by-cons f x xs in
    let other : sum_by g (x ∷ xs) ≡ g x + sum_by g xs = sum_by-cons g x xs in
    let here : min (f x) (2 ^ 63) ≡ min (g x) (2 ^ 63) = same.0 in
    let rest : min (sum_by f xs) (2 ^ 63) ≡ min (sum_by g xs) (2 ^ 63) = lists-alike f g xs same.1 in
    omega arith

saturated : (p q : ℕ) → 2 ^ 63 ≤ p → 2 ^ 63 ≤ q → min p (2 ^ 63) ≡ min q (2 ^ 63)
saturated p q one other = omega arith

products-alike : (n x y : ℕ) → min x (2 ^ 63) ≡ min y (2 ^ 63) → min (n * x) (2 ^ 63) ≡ min (n * y) (2 ^ 63)
products-alike zero x y same =
    let one : 0 * x ≡ 0 = omega arith in
    let other : 0 * y ≡ 0 = omega arith in
    ap (λ z. min z (2 ^ 63)) (one ∙ sym other)
products-alike (suc n) x y same = ⊎_elim
    (λ (low : x < 2 ^ 63). let is : x ≡ y = omega arith in ap (λ z. min (suc n * z) (2 ^ 63)) is)
    (λ (high : 2 ^ 63 ≤ x).
    let first : 1 * 2 ^ 63 ≤ suc n * x = mul-le 1 (2 ^ 63) (suc n) x (omega arith) high in
    let second : 1 * 2 ^ 63 ≤ suc n * y = mul-le 1 (2 ^ 63) (suc n) y (omega arith) (omega arith) in
    saturated (suc n * x) (suc n * y) (omega arith) (omega arith))
    (cases_lt x (2 ^ 63))

pub squares-alike : (x y : ℕ) → min x (2 ^ 63) ≡ min y (2 ^ 63) → min (x * x) (2 ^ 63) ≡ min (y * y) (2 ^ 63)
squares-alike x y same = ⊎_elim
    (λ (low : x < 2 ^ 63). let is : x ≡ y = omega arith in ap (λ z. min (z * z) (2 ^ 63)) is)
    (λ (high : 2 ^ 63 ≤ x).
    let first : 1 * 2 ^ 63 ≤ x * x = mul-le 1 (2 ^ 63) x x (omega arith) high in
    let second : 1 * 2 ^ 63 ≤ y * y = mul-le 1 (2 ^ 63) y y (omega arith) (omega arith) in
    saturated (x * x) (y * y) (omega arith) (omega arith))
    (cases_lt x (2 ^ 63))

choose-alike : (b : Bool) (x y z w : ℕ) → min x (2 ^ 63) ≡ min y (2 ^ 63) → min z (2 ^ 63) ≡ min w (2 ^ 63) → min (cond b x z) (2 ^ 63) ≡ min (cond b y w) (2 ^ 63)
choose-alike true x y z w one other = one
choose-alike false x y z w one other = other

-- only what is chosen counts
chosen-alike : (b : Bool) (x y : ℕ) → (b ≡ true → min x (2 ^ 63) ≡ min y (2 ^ 63)) → min (cond b x 0) (2 ^ 63) ≡ min (cond b y 0) (2 ^ 63)
chosen-alike true x y same = same refl
chosen-alike false x y same = refl

-- ---- what one pass leaves

pub sums-kept : (atoms numbers given costs : List ℕ) (edges : List (ℕ × ℕ)) (cost : Rule → ℕ) (each : ℕ) (rules : List Rule) → given ≡ numbers → costs ≡ map cost rules → edges ≡ links_of_rules atoms (length atoms) rules → length numbers ≡ length atoms → AllByRecursion (RuleFits (Among atoms)) rules → (i : ℕ) → (run (length given) each i given costs edges (0, 0)).1 ≡ min (added (members_of i atoms numbers) cost each rules) (2 ^ 63)
sums-kept atoms numbers given costs edges cost each rules same costs_are edges_are sized fit i =
    ap (λ (ns : List ℕ). (run (length ns) each i ns costs edges (0, 0)).1) same
    ∙ ap (λ (cs : List ℕ). (run (length numbers) each i numbers cs edges (0, 0)).1) costs_are
    ∙ ap (λ (es : List (ℕ × ℕ)). (run (length numbers) each i numbers (map cost rules) es (0, 0)).1) edges_are
    ∙ sums-are atoms numbers cost each i rules sized fit

pub links-kept : (atoms numbers given costs : List ℕ) (edges : List (ℕ × ℕ)) (rules : List Rule) → given ≡ numbers → length costs ≡ length rules → edges ≡ links_of_rules atoms (length atoms) rules → length numbers ≡ length atoms → AllByRecursion (RuleFits (Among atoms)) rules → (j : ℕ) → j < length edges → LinkFits (length given) (length costs) (pair_at edges j)
links-kept atoms numbers given costs edges rules same many edges_are sized fit =
    let first : length given ≡ length atoms = ap length same ∙ sized in
    rw (first, many, edges_are) (links-fit atoms rules fit)

-- ---- sums of the three kinds of costs

one-each : (part : List ℕ) (rules : List Rule) → added part (λ rule. 1) 1 rules ≡ links rules part
one-each part rules = ap (λ (f : Rule → ℕ). sum_by f rules)
    (fun_ext (λ rule.
    let once : 1 * occurrences part rule ≡ occurrences part rule = omega arith in
    ap (λ n. cond (enters part rule) (1 + n) 0) once))

term-each : (part : List ℕ) (rules : List Rule) → min (added part (λ rule. min (term rule) (2 ^ 63)) 0 rules) (2 ^ 63) ≡ min (entering_terms rules part) (2 ^ 63)
term-each part rules = lists-alike _ _ rules (each _ (λ rule. choose-alike (enters part rule) (min (term rule) (2 ^ 63) + 0 * occurrences part rule) (term rule) 0 0 (omega arith) refl) rules)

zero-both : (a b : ℕ) → (a + b == 0) ≡ (a == 0 && b == 0)
zero-both a b = ⊎_elim
    (λ (none : a ≡ 0).
    let is : a + b ≡ b = omega arith in
    ap (λ n. n == 0) is ∙ ap (λ (t : Bool). t && b == 0) (sym (eq-eqb a 0 none)))
    (λ some. ne_eqb (a + b) 0 (λ (e : a + b ≡ 0). some (omega arith)) ∙ ap (λ (t : Bool). t && b == 0) (sym (ne_eqb a 0 some)))
    (cases_eq a 0)

all-zero : (f : Rule → ℕ) (p : Rule → Bool) → ((rule : Rule) → (f rule == 0) ≡ p rule) → (rules : List Rule) → (sum_by f rules == 0) ≡ list_all p rules
all-zero f p same [] = refl
all-zero f p same (rule ∷ rules) =
    ap (λ n. n == 0) (sum_by-cons f rule rules) ∙ zero-both (f rule) (sum_by f rules)
    ∙ ap (λ (t : Bool). t && sum_by f rules == 0) (same rule) ∙ ap (λ (t : Bool). p rule && t) (all-zero f p same rules)

odd-one : (entered basic : Bool) (o : ℕ) → (cond entered (cond basic 0 1 + 0 * o) 0 == 0) ≡ (not entered || basic)
odd-one true true o = let is : 0 + 0 * o ≡ 0 = omega arith in eq-eqb (0 + 0 * o) 0 is
odd-one true false o = ne_eqb (1 + 0 * o) 0 (λ (e : 1 + 0 * o ≡ 0). omega arith)
odd-one false basic o = refl

zero-kept : (x : ℕ) → (min x (2 ^ 63) == 0) ≡ (x == 0)
zero-kept x = ⊎_elim
    (λ (none : x ≡ 0). let is : min x (2 ^ 63) ≡ 0 = omega arith in eq-eqb (min x (2 ^ 63)) 0 is ∙ sym (eq-eqb x 0 none))
    (λ (some : x ≡ 0 → ⊥). ne_eqb (min x (2 ^ 63)) 0 (λ (e : min x (2 ^ 63) ≡ 0). some (omega arith)) ∙ sym (ne_eqb x 0 some))
    (cases_eq x 0)

odd-each : (part : List ℕ) (rules : List Rule) → (min (added part oddness 0 rules) (2 ^ 63) == 0) ≡ all_basic rules part
odd-each part rules =
    zero-kept (added part oddness 0 rules)
    ∙ all-zero (λ rule. cond (enters part rule) (oddness rule + 0 * occurrences part rule) 0) (λ rule. not (enters part rule) || is_basic rule) (λ rule. odd-one (enters part rule) (is_basic rule) (occurrences part rule)) rules

-- sums of these costs over the rules with a head in each component
abbrev pub AreAdded : List Rule → (ℕ → List ℕ) → ℕ → (Rule → ℕ) → ℕ → List ℕ → Type 0
AreAdded rules part count cost each sums = (i : ℕ) → i ≤ count → get_or sums i 0 ≡ min (added (part i) cost each rules) (2 ^ 63)

pub sums-added : (rules : List Rule) (part : ℕ → List ℕ) (parts : graph.Divided) (weights terms odd : List ℕ) → length weights ≡ parts.count + 1 → AreAdded rules part parts.count (λ rule. 1) 1 weights → length terms ≡ parts.count + 1 → AreAdded rules part parts.count (λ rule. min (term rule) (2 ^ 63)) 0 terms → length odd ≡ parts.count + 1 → AreAdded rules part parts.count oddness 0 odd → HaveSums rules part parts weights terms odd
sums-added rules part parts weights terms odd weights_sized weighed terms_sized termed odd_sized basic = record {
  sums = record {
    weighed = λ i low high cyclic. weighed i high ∙ ap (λ n. min n (2 ^ 63)) (one-each (part i) rules);
    termed = λ i low high cyclic. termed i high ∙ term-each (part i) rules;
    basic = λ i low high cyclic. ap (λ n. n == 0) (basic i high) ∙ odd-each (part i) rules;
  };
  weighed = λ i low high cyclic. omega arith;
  termed = λ i low high cyclic. omega arith;
  basic = λ i low high cyclic. omega arith;
}

-- ---- the measures

pub range-each : (P : ℕ → Type 0) (a n : ℕ) → ((i : ℕ) → a ≤ i → i < a + n → P i) → AllByRecursion P (range_with_len a n)
range-each P a zero all = tt
range-each P a (suc n) all = (all a (omega arith) (omega arith), range-each P (a + 1) n (λ i low high. all i (omega arith) (omega arith)))

pub sum-next : (f : ℕ → ℕ) (k : ℕ) → sum_by f (range_with_len 1 (k + 1)) ≡ sum_by f (range_with_len 1 k) + f (k + 1)
sum-next f k =
    ap (sum_by f) (sym (map-id (range_with_len 1 (k + 1))))
    ∙ sum_by-map-range_with_len_more f (λ i. i) 1 k (k + 1) (omega arith)
    ∙ ap (λ is. sum_by f is + f (k + 1)) (map-id (range_with_len 1 k))

-- a sum over kept elements is one with nothing for the others
sum-chosen : (f : List ℕ → ℕ) (part : ℕ → List ℕ) (test : ℕ → Bool) (is : List ℕ) → sum_by (λ i. cond (test i) (f (part i)) 0) is ≡ sum_by f (map part (filter test is))
sum-chosen f part test [] = refl
sum-chosen f part test (i ∷ is) =
    sum_by-cons (λ j. cond (test j) (f (part j)) 0) i is ∙ go (test i) (sum-chosen f part test is)
  where
    go : (b : Bool) → sum_by (λ j. cond (test j) (f (part j)) 0) is ≡ sum_by f (map part (filter test is)) → cond b (f (part i)) 0 + sum_by (λ j. cond (test j) (f (part j)) 0) is ≡ sum_by f (map part (cond b (i ∷ filter test is) (filter test is)))
    go true rest = ap (λ n. f (part i) + n) rest ∙ sym (sum_by-cons f (part i) (map part (filter test is)))
    go false rest = omega arith

module _ (rules : List Rule) (d : Divided) (sums : AreSums rules (λ i. members_of i d.atoms d.numbers) d.count d.cyclic d.weights d.terms d.odd) where
  one-pairs : (i : ℕ) → 1 ≤ i → i ≤ d.count → is_cyclic_at d.cyclic i ≡ true → min (size_of d i * (size_of d i + get_or d.weights i 0)) (2 ^ 63) ≡ min (part_pairs rules (members_of i d.atoms d.numbers)) (2 ^ 63)
  one-pairs i low high cyclic =
      let kept : get_or d.weights i 0 ≡ min (links rules (members_of i d.atoms d.numbers)) (2 ^ 63) = sums.weighed i low high cyclic in
      products-alike (size_of d i) (size_of d i + get_or d.weights i 0) (size_of d i + links rules (members_of i d.atoms d.numbers)) (omega arith)

  one-room : (i : ℕ) → 1 ≤ i → i ≤ d.count → is_cyclic_at d.cyclic i ≡ true → min (room_kept d i * room_kept d i) (2 ^ 63) ≡ min (part_room rules (members_of i d.atoms d.numbers) * part_room rules (members_of i d.atoms d.numbers)) (2 ^ 63)
  one-room i low high cyclic =
      let kept : get_or d.terms i 0 ≡ min (entering_terms rules (members_of i d.atoms d.numbers)) (2 ^ 63) = sums.termed i low high cyclic in
      squares-alike (room_kept d i) (size_of d i + entering_terms rules (members_of i d.atoms d.numbers)) (omega arith)

  one-tangle : (i : ℕ) → 1 ≤ i → i ≤ d.count → is_cyclic_at d.cyclic i ≡ true → min (cond (get_or d.odd i 0 == 0) (size_of d i * (size_of d i + get_or d.weights i 0)) (room_kept d i * room_kept d i)) (2 ^ 63) ≡ min (part_tangle rules (members_of i d.atoms d.numbers)) (2 ^ 63)
  one-tangle i low high cyclic =
      ap (λ (t : Bool). min (cond t (size_of d i * (size_of d i + get_or d.weights i 0)) (room_kept d i * room_kept d i)) (2 ^ 63)) (sums.basic i low high cyclic)
      ∙ choose-alike (all_basic rules (members_of i d.atoms d.numbers)) (size_of d i * (size_of d i + get_or d.weights i 0)) (part_pairs rules (members_of i d.atoms d.numbers)) (room_kept d i * room_kept d i) (part_room rules (members_of i d.atoms d.numbers) * part_room rules (members_of i d.atoms d.numbers)) (one-pairs i low high cyclic) (one-room i low high cyclic)

  measured : (kept : ℕ → ℕ) (f : List ℕ → ℕ) → ((i : ℕ) → 1 ≤ i → i ≤ d.count → is_cyclic_at d.cyclic i ≡ true → min (kept i) (2 ^ 63) ≡ min (f (members_of i d.atoms d.numbers)) (2 ^ 63)) → min (sum_by (λ i. cond (is_cyclic_at d.cyclic i) (kept i) 0) (range_with_len 1 d.count)) (2 ^ 63) ≡ min (sum_by f (cyclic_parts d)) (2 ^ 63)
  measured kept f same =
      lists-alike (λ i. cond (is_cyclic_at d.cyclic i) (kept i) 0) (λ i. cond (is_cyclic_at d.cyclic i) (f (members_of i d.atoms d.numbers)) 0) (range_with_len 1 d.count)
      (range-each _ 1 d.count (λ i low high. chosen-alike (is_cyclic_at d.cyclic i) (kept i) (f (members_of i d.atoms d.numbers)) (same i low (omega arith))))
      ∙ ap (λ n. min n (2 ^ 63)) (sum-chosen f (λ i. members_of i d.atoms d.numbers) (λ i. is_cyclic_at d.cyclic i) (range_with_len 1 d.count))

  pub pairs-are : min (sum_by (pairs_kept d) (range_with_len 1 d.count)) (2 ^ 63) ≡ min (pairs rules (cyclic_parts d)) (2 ^ 63)
  pairs-are = measured (λ i. size_of d i * (size_of d i + get_or d.weights i 0)) (part_pairs rules) one-pairs

  pub tangle-are : min (sum_by (tangle_kept d) (range_with_len 1 d.count)) (2 ^ 63) ≡ min (tangle rules (cyclic_parts d)) (2 ^ 63)
  tangle-are = measured (λ i. cond (get_or d.odd i 0 == 0) (size_of d i * (size_of d i + get_or d.weights i 0)) (room_kept d i * room_kept d i)) (part_tangle rules) one-tangle
