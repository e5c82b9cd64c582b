-- Nodes that are 2^31 higher are ordered as the nodes are.
use Rattle.std.proofs.Common.{◌≡◌, refl, sym, ◌∙◌, ap, ap₂, subst, ℕ, suc, ◌<◌, ◌≤◌, ◌^◌, ◌*◌, nat_lt, int_lt, Bool, true, false, cond, ◌==◌, ◌||◌, List, [], ◌∷◌, map, length, arith}
use Rattle.std.specs.List.{sum_by}
use Rattle.std.specs.Ordering.{int_eq}
use Rattle.std.proofs.lemmas.Bool.{eqb-true, eq-eqb, or_parts, cond-false}
use Rattle.std.proofs.lemmas.Int.{ints}
use Rattle.asp_base.proofs.Bools.{same_test}
use Rattle.asp_base.specs.Sets.{members}
use Rattle.rising_numbers.specs.Rising.{RisesFrom, into_rising, rising, place}
use Rattle.rising_numbers.proofs.RisingLaws.{Ascends-from_rises, rising-is}
use Rattle.ground_program.specs.Size.{size}
use Rattle.ground_program.specs.Ground.{Ground}
use Rattle.ground_program.specs.declared.program.Edge.{Edge}
use Rattle.tangle_laws.proofs.PartSums.{total}
use Rattle.acyc_edges.specs.Encoding.{into_rising_nodes, nodes_of}
use Rattle.acyc_edges.specs.Names.{index_by}
use Rattle.acyc_edges.specs.private.Nodes.{node_at, ends_of_edges}
use Rattle.acyc_edges.proofs.Covered.{int_eq-is, int_eq-again}
use Rattle.acyc_edges.proofs.CyclicLaws.{place-index}
use Rattle.acyc_edges.proofs.Inside.{false-from, not-both}
use Rattle.acyc_edges.proofs.MadeProgram.{nodes-few}
use Rattle.acyc_edges.proofs.SizeLaws.{edge_size}
use Rattle.acyc_edges.proofs.Totals.{total-sum_by}

node_at-one : (m n : ℕ) → node_at m ≡ node_at n → m ≡ n
node_at-one m n e = omega (arith, ints)

lt-is : (m n : ℕ) → int_lt (node_at m) (node_at n) ≡ nat_lt m n
lt-is m n = grind (arith, ints)

eq-is : (m n : ℕ) → int_eq (node_at m) (node_at n) ≡ (m == n)
eq-is m n = same_test _ _
    (λ h. eq-eqb m n (node_at-one m n (int_eq-is (node_at m) (node_at n) h)))
    (λ h. subst (λ k. int_eq (node_at m) (node_at k) ≡ true) (eqb-true m n h) (int_eq-again (node_at m)))

into-map : (a : ℕ) (xs : List ℕ) → into_rising_nodes (node_at a) (map node_at xs) ≡ map node_at (into_rising a xs)
into-map a [] = refl
into-map a (x ∷ xs) =
    ap₂ (λ (l e : Bool). cond l (node_at a ∷ node_at x ∷ map node_at xs) (cond e (node_at x ∷ map node_at xs) (node_at x ∷ into_rising_nodes (node_at a) (map node_at xs)))) (lt-is a x) (eq-is a x)
    ∙ go (nat_lt a x) (a == x) (into-map a xs)
  where
    go : (l e : Bool) → into_rising_nodes (node_at a) (map node_at xs) ≡ map node_at (into_rising a xs)
        → cond l (node_at a ∷ node_at x ∷ map node_at xs) (cond e (node_at x ∷ map node_at xs) (node_at x ∷ into_rising_nodes (node_at a) (map node_at xs)))
        ≡ map node_at (cond l (a ∷ x ∷ xs) (cond e (x ∷ xs) (x ∷ into_rising a xs)))
    go true e h = refl
    go false true h = refl
    go false false h = ap (λ ys. node_at x ∷ ys) h

pub nodes-are : (edges : List Edge) (ns : List ℕ) → map node_at ns ≡ ends_of_edges edges → map node_at (rising ns) ≡ nodes_of edges
nodes-are [] [] h = refl
nodes-are [] (n ∷ ns) h = absurd (cc)
nodes-are (edge ∷ edges) [] h = absurd (cc)
nodes-are (edge ∷ edges) (m ∷ []) h = absurd (cc)
nodes-are (edge ∷ edges) (m ∷ (n ∷ ns)) h =
    let a : node_at m ≡ edge.from = cc in
    let b : node_at n ≡ edge.to = cc in
    let c : map node_at ns ≡ ends_of_edges edges = cc in
    sym (into-map m (rising (n ∷ ns))) ∙ ap₂ into_rising_nodes a (sym (into-map n (rising ns)) ∙ ap₂ into_rising_nodes b (nodes-are edges ns c))

pub index-map : (xs : List ℕ) (a : ℕ) → index_by int_eq (map node_at xs) (node_at a) ≡ index_by ◌==◌ xs a
index-map [] a = refl
index-map (x ∷ xs) a = ap₂ (λ (b : Bool) k. cond b 0 (suc k)) (eq-is a x) (index-map xs a)

pub length-nodes : (P : Ground) (given : List ℕ) → map node_at given ≡ nodes_of P.edges → length given ≡ length (nodes_of P.edges)
length-nodes P given e = sym (long given) ∙ ap length e
  where
    long : (xs : List ℕ) → length (map node_at xs) ≡ length xs
    long [] = refl
    long (x ∷ xs) = ap suc (long xs)

pub given-few : (P : Ground) (given : List ℕ) → map node_at given ≡ nodes_of P.edges → size P ≤ 2 ^ 24 → length given ≤ 2 ^ 26
given-few P given e small =
    let long : length given ≡ length (nodes_of P.edges) = length-nodes P given e in
    let few : length (nodes_of P.edges) ≤ 2 * total edge_size P.edges = nodes-few P.edges in
    let same : total edge_size P.edges ≡ sum_by edge_size P.edges = total-sum_by edge_size P.edges in
    omega arith

-- ---- the index of a number

pub missing : (xs : List ℕ) (a : ℕ) → members xs a ≡ false → index_by ◌==◌ xs a ≡ length xs
missing [] a h = refl
missing (x ∷ xs) a h =
    let p : ((x == a) ≡ false) × (members xs a ≡ false) = or_parts (x == a) (members xs a) h in
    let d : (a == x) ≡ false = false-from (a == x) (λ t. not-both (x == a) (eq-eqb x a (sym (eqb-true a x t))) p.0) in
    cond-false (a == x) _ _ d ∙ ap suc (missing xs a p.1)

member-placed : (xs : List ℕ) (a : ℕ) → 0 < place xs a → members xs a ≡ true
member-placed [] a h = absurd (omega arith)
member-placed (x ∷ xs) a h = go (x == a) (members xs a) h
  where
    go : (b c : Bool) → 0 < cond b 1 (cond c (suc (place xs a)) 0) → (b || c) ≡ true
    go true c h = refl
    go false true h = refl
    go false false h = absurd (omega arith)

pub placed : (xs : List ℕ) (a : ℕ) → 0 < place xs a → place xs a ≡ suc (index_by ◌==◌ xs a)
placed xs a h = place-index xs a (member-placed xs a h)

pub rising-kept : (xs : List ℕ) → RisesFrom 0 xs → rising xs ≡ xs
rising-kept xs r = sym (rising-is xs xs (Ascends-from_rises 0 xs r) (λ a. refl))
