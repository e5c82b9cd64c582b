-- The loops over comparisons: what is still to be done leads to the whole.
use Rattle.std.proofs.Common.{◌≡◌, refl, sym, ◌∙◌, ap, subst, subst₂, ℕ, suc, ◌+◌, ◌*◌, ◌≤◌, ◌<◌, List, [], ◌∷◌, ◌++◌, length, drop, get_or, slice_index_or, arith, append_assoc}
use Rattle.std.proofs.Math.Nat.{mul-suc}
use Rattle.std.proofs.Math.Seq.{drop-cons}
use Rattle.std.proofs.lemmas.List.{length-map, drop_all, append-nil, get_or-map, get_or_read}
use Rattle.std.specs.List.{AllByRecursion}
use Rattle.asp_base.specs.Literal.{Literal, negation}
use Rattle.asp_base.proofs.Each.{each-get}
use Rattle.clause_store.specs.Stored.{Stored}
use Rattle.digit_gates.specs.DigitGates.{after_less, less_output, IsLess, less_vars}
use Rattle.level_ranking.specs.Encoding.{after_compared, compared}
use Rattle.level_ranking.specs.private.Pairs.{IsPair, in_order, paired}
use Rattle.level_ranking.specs.declared.comparisons.First.{First}
use Rattle.level_ranking.proofs.CompareLaws.{pair-up}

-- so many pairs are done
pub record Pushing (w : ℕ) (pairs : List (List Literal × List Literal)) (first now : Stored) (start out : List Literal) (i : ℕ) : Type 0 where
  pub store : after_compared (drop i pairs) now ≡ after_compared pairs first
  pub literals : out ++ compared (drop i pairs) now ≡ start ++ compared pairs first
  pub are : AllByRecursion (IsPair w now.vars) (drop i pairs)
  pub vars : now.vars + less_vars w * length (drop i pairs) ≤ first.vars + less_vars w * length pairs

pub pushing-start : (w : ℕ) (pairs : List (List Literal × List Literal)) (s : Stored) (out : List Literal) → AllByRecursion (IsPair w s.vars) pairs → Pushing w pairs s s out out 0
pushing-start w pairs s out o = record { store = refl; literals = refl; are = o; vars = omega arith }

pub pushing-next : (w : ℕ) (pairs : List (List Literal × List Literal)) (first now : Stored) (start out : List Literal) (i j : ℕ) (p : List Literal × List Literal) → j ≡ suc i → i < length pairs → get_or pairs i p ≡ p
    → Pushing w pairs first now start out i → IsLess p.0 p.1 (less_output p.0 p.1 now) now (after_less p.0 p.1 now)
    → Pushing w pairs first (after_less p.0 p.1 now) start (out ++ (negation (less_output p.0 p.1 now) ∷ [])) j
pushing-next w pairs first now start out i j p q h e c g =
    let d : drop i pairs ≡ p ∷ drop (suc i) pairs = drop-cons pairs i p h ∙ ap (λ x. x ∷ drop (suc i) pairs) e in
    let both : AllByRecursion (IsPair w now.vars) (p ∷ drop (suc i) pairs) = subst (λ xs. AllByRecursion (IsPair w now.vars) xs) d c.are in
    let up : now.vars ≤ (after_less p.0 p.1 now).vars = g.adds.extends.vars in
    let more : (after_less p.0 p.1 now).vars ≤ now.vars + less_vars (length p.0) = g.adds.vars in
    let v : now.vars + less_vars w * length (drop i pairs) ≤ first.vars + less_vars w * length pairs = c.vars in
    let l : length (drop i pairs) ≡ suc (length (drop (suc i) pairs)) = ap length d in
    let m : less_vars w * length (drop i pairs) ≡ less_vars w * length (drop (suc i) pairs) + less_vars w = ap (λ n. less_vars w * n) l ∙ mul-suc (less_vars w) (length (drop (suc i) pairs)) in
    let f : less_vars (length p.0) ≡ less_vars w = ap less_vars both.0.first in
    rw q (record {
      store = sym (ap (λ xs. after_compared xs now) d) ∙ c.store;
      literals = append_assoc out (negation (less_output p.0 p.1 now) ∷ []) (compared (drop (suc i) pairs) (after_less p.0 p.1 now))
          ∙ (sym (ap (λ xs. out ++ compared xs now) d) ∙ c.literals);
      are = pair-up w now.vars (after_less p.0 p.1 now).vars up (drop (suc i) pairs) both.1;
      vars = omega arith;
    })

pub pushing-done : (w : ℕ) (pairs : List (List Literal × List Literal)) (first now : Stored) (start out : List Literal) (i : ℕ) → length pairs ≤ i → Pushing w pairs first now start out i
    → (now ≡ after_compared pairs first) × (out ≡ start ++ compared pairs first)
pushing-done w pairs first now start out i h c =
    let d : drop i pairs ≡ [] = drop_all i pairs h in
    (ap (λ xs. after_compared xs now) (sym d) ∙ c.store, sym (append-nil out) ∙ (ap (λ xs. out ++ compared xs now) (sym d) ∙ c.literals))

-- what less asks of the pair at hand
pub pushing-here : (w : ℕ) (pairs : List (List Literal × List Literal)) (first now : Stored) (start out : List Literal) (i : ℕ) (p : List Literal × List Literal) → i < length pairs → get_or pairs i p ≡ p
    → Pushing w pairs first now start out i → IsPair w now.vars p × (now.vars + less_vars w ≤ first.vars + less_vars w * length pairs)
pushing-here w pairs first now start out i p h e c =
    let d : drop i pairs ≡ p ∷ drop (suc i) pairs = drop-cons pairs i p h ∙ ap (λ x. x ∷ drop (suc i) pairs) e in
    let both : AllByRecursion (IsPair w now.vars) (p ∷ drop (suc i) pairs) = subst (λ xs. AllByRecursion (IsPair w now.vars) xs) d c.are in
    let v : now.vars + less_vars w * length (drop i pairs) ≤ first.vars + less_vars w * length pairs = c.vars in
    let l : length (drop i pairs) ≡ suc (length (drop (suc i) pairs)) = ap length d in
    let m : less_vars w * length (drop i pairs) ≡ less_vars w * length (drop (suc i) pairs) + less_vars w = ap (λ n. less_vars w * n) l ∙ mul-suc (less_vars w) (length (drop (suc i) pairs)) in
    (both.0, omega arith)

-- the pair at a place
pub paired-at : (f : First) (x : List Literal) (digits : List (List Literal)) (places : List ℕ) (i : ℕ) (d : List Literal) → i < length places → get_or places i 0 < length digits → d ≡ get_or digits (get_or places i 0) d
    → get_or (paired f x digits places) i (in_order f x d) ≡ in_order f x d
paired-at f x digits places i d h k e =
    get_or-map (λ j. in_order f x (slice_index_or digits j [])) places i 0 (in_order f x d) h ∙ ap (in_order f x) (sym (get_or_read digits (get_or places i 0) d k e []))

pub length-paired : (f : First) (x : List Literal) (digits : List (List Literal)) (places : List ℕ) → length (paired f x digits places) ≡ length places
length-paired f x digits places = length-map places (λ i. in_order f x (slice_index_or digits i []))

-- a loop over places, at one of which the digits d stand
module _ (f : First) (x : List Literal) (digits : List (List Literal)) (places : List ℕ) (first now : Stored) (start out : List Literal) (i : ℕ) (d : List Literal)
    (within : AllByRecursion (λ k. k < length digits) places) (inside : i < length places) (read : d ≡ get_or digits (get_or places i 0) d)
    (c : Pushing (length x) (paired f x digits places) first now start out i) (p : List Literal × List Literal) (is : p ≡ in_order f x d) where
  inside_pairs : i < length (paired f x digits places)
  inside_pairs = omega (arith, inside, length-paired f x digits places)

  read_pair : get_or (paired f x digits places) i p ≡ p
  read_pair = rw is (paired-at f x digits places i d inside (each-get (λ k. k < length digits) places i 0 inside within) read)

  pub paired-here : IsPair (length x) now.vars p
  paired-here = (pushing-here (length x) (paired f x digits places) first now start out i p inside_pairs read_pair c).0

  pub paired-next : (j : ℕ) → j ≡ suc i → IsLess p.0 p.1 (less_output p.0 p.1 now) now (after_less p.0 p.1 now)
      → Pushing (length x) (paired f x digits places) first (after_less p.0 p.1 now) start (out ++ (negation (less_output p.0 p.1 now) ∷ [])) j
  paired-next j q g = pushing-next (length x) (paired f x digits places) first now start out i j p q inside_pairs read_pair c g

  pub paired-room : (n : ℕ) → first.vars + less_vars (length x) * length places < n → now.vars + less_vars (length p.0) < n
  paired-room n h =
      let k : IsPair (length x) now.vars p × (now.vars + less_vars (length x) ≤ first.vars + less_vars (length x) * length (paired f x digits places)) =
      pushing-here (length x) (paired f x digits places) first now start out i p inside_pairs read_pair c in
      let room : now.vars + less_vars (length x) ≤ first.vars + less_vars (length x) * length (paired f x digits places) = k.1 in
      let same : less_vars (length x) * length (paired f x digits places) ≡ less_vars (length x) * length places = ap (λ m. less_vars (length x) * m) (length-paired f x digits places) in
      let count : less_vars (length p.0) ≡ less_vars (length x) = ap less_vars k.0.first in
      omega arith

-- what less answers, as the functions of stores have it
pub less-as : (x y : List Literal) (s t : Stored) (l : Literal) → t ≡ after_less x y s → l ≡ less_output x y s → IsLess x y l s t → IsLess x y (less_output x y s) s (after_less x y s)
less-as x y s t l e f g = subst₂ (λ k u. IsLess x y k s u) f e g
