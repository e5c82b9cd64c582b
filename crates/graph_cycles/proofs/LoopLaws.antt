-- Closed walks: one turned to its least node, and one on the path of a search.
use Rattle.std.proofs.Common.{◌≡◌, ◌≢◌, ℕ, suc, ◌+◌, ◌<◌, Bool, true, false, ℤ, pos, ◌≤ℤ◌, List, [], ◌∷◌, ◌++◌, length, take, drop, get_or, arith, refl, sym, ◌∙◌, ap, subst, subst₂, append-nil}
use Rattle.std.specs.List.{All, AllPairs}
use Rattle.std.specs.Ordering.{int_eq}
use Rattle.std.proofs.lemmas.Bool.Decides.{Decides-int_eq}
use Rattle.std.proofs.lemmas.List.{drop_more, get_or-drop, get_or_default, length-drop, take-append-drop}
use Rattle.std.proofs.lemmas.List.Elements.{All-tail, recursion_from_All}
use Rattle.std.proofs.lemmas.List.Sorted.{All-permutation, IsPermutation-append_comm}
use Rattle.std.proofs.lemmas.Map.Keys.{IsDistinct-IsPermutation}
use Rattle.std.proofs.lemmas.Map.Made.{IsDistinct-from_AllPairs}
use Rattle.asp_base.specs.Walks.{IsWalk}
use Rattle.graph_cycles.specs.Cycle.{IsCycle}
use Rattle.graph_cycles.specs.private.Loop.{IsLoop}
use Rattle.graph_cycles.proofs.ArcLaws.{same-int, int-same}
use Rattle.graph_cycles.proofs.WalkLaws.{walk-join, walk-parts, walk-along}

flips : (x y : ℤ) → int_eq x y ≡ int_eq y x
flips x y = go (int_eq x y) (int_eq y x) refl refl where
  go : (a b : Bool) → int_eq x y ≡ a → int_eq y x ≡ b → a ≡ b
  go true b e f = sym (sym f ∙ same-int y x (sym (int-same x y e)))
  go false false e f = refl
  go false true e f = sym e ∙ same-int x y (sym (int-same y x f))

loop-steps : (step : ℤ → ℤ → Bool) (from : ℤ) (by : List ℤ) → IsLoop step (from ∷ by) → IsWalk step from by from
loop-steps step from by loop =
    let are = loop.are in
    let first : loop.start ≡ from = cc in
    let rest : loop.by ≡ by = cc in
    subst₂ (λ start rest. IsWalk step start rest start) first rest loop.steps

turned-steps : (step : ℤ → ℤ → Bool) (xs : List ℤ) (y : ℤ) (ys : List ℤ) → IsLoop step (xs ++ (y ∷ ys)) → IsWalk step y (ys ++ xs) y
turned-steps step [] y ys loop =
    subst (λ by. IsWalk step y by y) (sym (append-nil ys)) (loop-steps step y ys loop)
turned-steps step (x ∷ xs) y ys loop =
    let parts = walk-parts step x xs y ys x (loop-steps step x (xs ++ (y ∷ ys)) loop) in
    walk-join step y ys x xs y parts.1 parts.0

-- a closed walk in two parts, of which the second begins at a least node: the parts change places, and it is a cycle once closed
pub loop-turned : (step : ℤ → ℤ → Bool) (xs : List ℤ) (y : ℤ) (ys : List ℤ) → IsLoop step (xs ++ (y ∷ ys)) → All (λ node. y ≤ℤ node) (xs ++ (y ∷ ys)) → IsCycle step (((y ∷ ys) ++ xs) ++ (y ∷ []))
loop-turned step xs y ys loop least = record {
  start = y;
  by = ys ++ xs;
  closed = refl;
  steps = turned-steps step xs y ys loop;
  differ = IsDistinct-IsPermutation int_eq flips (xs ++ (y ∷ ys)) ((y ∷ ys) ++ xs) (IsPermutation-append_comm xs (y ∷ ys)) loop.differ;
  least = recursion_from_All _ (ys ++ xs) (All-tail (λ node. y ≤ℤ node) y (ys ++ xs) (All-permutation (λ node. y ≤ℤ node) (xs ++ (y ∷ ys)) ((y ∷ ys) ++ xs) (IsPermutation-append_comm xs (y ∷ ys)) least));
}

pairs-drop : (place : ℕ) (nodes : List ℤ) → AllPairs (λ x y. x ≢ y) nodes → AllPairs (λ x y. x ≢ y) (drop place nodes)
pairs-drop place nodes apart i j d less below =
    let length-is = length-drop place nodes in
    let differ : get_or nodes (place + i) d ≢ get_or nodes (place + j) d = apart (place + i) (place + j) d (omega arith) (omega arith) in
    rw (get_or-drop place nodes i d, get_or-drop place nodes j d) differ

-- nodes that differ, each with an edge to the next one, where the last one has an edge back to a place
pub loop-back : (step : ℤ → ℤ → Bool) (nodes : List ℤ) (place last : ℕ) → AllPairs (λ x y. x ≢ y) nodes → ((k : ℕ) → k + 1 < length nodes → step (get_or nodes k (pos 0)) (get_or nodes (k + 1) (pos 0)) ≡ true) → last + 1 ≡ length nodes → place < length nodes → step (get_or nodes last (pos 0)) (get_or nodes place (pos 0)) ≡ true → IsLoop step (drop place nodes)
loop-back step nodes place last apart joined ends within back =
    let are : drop place nodes ≡ get_or nodes place (pos 0) ∷ drop (place + 1) nodes = drop_more nodes place (pos 0) within in
    let along : (k : ℕ) → get_or (get_or nodes place (pos 0) ∷ drop (place + 1) nodes) k (pos 0) ≡ get_or nodes (place + k) (pos 0) = λ k. ap (λ l. get_or l k (pos 0)) (sym are) ∙ get_or-drop place nodes k (pos 0) in
    let long = length-drop (place + 1) nodes in
    let many : place + length (drop (place + 1) nodes) ≡ last = omega arith in
    record {
      start = get_or nodes place (pos 0);
      by = drop (place + 1) nodes;
      are = are;
      steps = walk-along step (get_or nodes place (pos 0)) (drop (place + 1) nodes) (get_or nodes place (pos 0)) (pos 0)
          (λ k below. let next : get_or (drop (place + 1) nodes) k (pos 0) ≡ get_or nodes ((place + k) + 1) (pos 0) = get_or-drop (place + 1) nodes k (pos 0) ∙ ap (λ i. get_or nodes i (pos 0)) (omega arith) in
          rw (along k, next) (joined (place + k) (omega arith)))
          (rw (along (length (drop (place + 1) nodes)), many) back);
      differ = IsDistinct-from_AllPairs Decides-int_eq (drop place nodes) (pairs-drop place nodes apart);
    }

-- a closed walk, turned to the place of a least node and closed, is a cycle
pub turned-cycle : (step : ℤ → ℤ → Bool) (nodes : List ℤ) (place : ℕ) (walk : List ℤ) → place < length nodes → ((k : ℕ) (d : ℤ) → k < length nodes → get_or nodes place d ≤ℤ get_or nodes k d) → walk ≡ (drop place nodes ++ take place nodes) ++ (get_or nodes place (pos 0) ∷ []) → IsLoop step nodes → IsCycle step walk
turned-cycle step nodes place walk within least is loop =
    let rest : drop place nodes ≡ get_or nodes place (pos 0) ∷ drop (place + 1) nodes = drop_more nodes place (pos 0) within in
    let parts : nodes ≡ take place nodes ++ (get_or nodes place (pos 0) ∷ drop (place + 1) nodes) = sym (take-append-drop place nodes) ∙ ap (λ l. take place nodes ++ l) rest in
    let below : All (λ node. get_or nodes place (pos 0) ≤ℤ node) nodes = λ k d under. subst (λ node. node ≤ℤ get_or nodes k d) (get_or_default nodes place d (pos 0) within) (least k d under) in
    let made : walk ≡ ((get_or nodes place (pos 0) ∷ drop (place + 1) nodes) ++ take place nodes) ++ (get_or nodes place (pos 0) ∷ []) = is ∙ ap (λ l. (l ++ take place nodes) ++ (get_or nodes place (pos 0) ∷ [])) rest in
    subst (IsCycle step) (sym made)
    (loop-turned step (take place nodes) (get_or nodes place (pos 0)) (drop (place + 1) nodes)
    (subst (IsLoop step) parts loop)
    (subst (λ l. All (λ node. get_or nodes place (pos 0) ≤ℤ node) l) parts below))

pub loop-some : (step : ℤ → ℤ → Bool) (nodes : List ℤ) → IsLoop step nodes → 0 < length nodes
loop-some step nodes loop =
    let long : length nodes ≡ suc (length loop.by) = ap length loop.are in omega arith
