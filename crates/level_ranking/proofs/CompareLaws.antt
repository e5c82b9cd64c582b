-- Comparisons of several pairs of numbers.
use Rattle.std.proofs.Common.{◌≡◌, refl, sym, ◌∙◌, ap, ap₂, subst, ℕ, suc, ◌+◌, ◌*◌, ◌≤◌, Bool, true, not, ◌&&◌, ◌||◌, ltb, List, [], ◌∷◌, length, arith}
use Rattle.std.specs.List.{list_any, list_all, AllByRecursion}
use Rattle.std.proofs.Math.Nat.{mul-suc}
use Rattle.asp_base.specs.Literal.{Literal, negation}
use Rattle.asp_base.specs.Sets.{Set}
use Rattle.clause_store.specs.Additions.{Adds, IsSound}
use Rattle.clause_store.specs.Facts.{IsOver}
use Rattle.clause_store.specs.Models.{is_true, clauses_true}
use Rattle.clause_store.specs.Stored.{Stored}
use Rattle.clause_store.proofs.GateLaws.{negation-over, literals-up, IsOver-up}
use Rattle.asp_base.proofs.LiteralLaws.{literal_holds-negation}
use Rattle.clause_store.proofs.AddLaws.{Adds-nothing, Adds-more, Adds-compose}
use Rattle.digit_gates.specs.Digits.{number_at}
use Rattle.digit_gates.specs.DigitGates.{after_less, less_output, IsLess, less_vars}
use Rattle.digit_gates.proofs.DigitGateLaws.{less-is}
use Rattle.level_ranking.specs.private.Pairs.{IsPair}
use Rattle.level_ranking.specs.Encoding.{after_compared, compared}

pub pair-up : (w m n : ℕ) → m ≤ n → (pairs : List (List Literal × List Literal)) → AllByRecursion (IsPair w m) pairs → AllByRecursion (IsPair w n) pairs
pair-up w m n h [] o = tt
pair-up w m n h (pair ∷ pairs) o = (
  record { some = o.0.some; first = o.0.first; second = o.0.second; over_first = literals-up m n h pair.0 o.0.over_first; over_second = literals-up m n h pair.1 o.0.over_second },
  pair-up w m n h pairs o.1,
)

-- the first number is not below the second
abbrev pub is_not_below : Set → List Literal × List Literal → Bool
is_not_below A pair = not (ltb (number_at A pair.0) (number_at A pair.1))

pub record AreCompared (w : ℕ) (pairs : List (List Literal × List Literal)) (s t : Stored) (outputs : List Literal) : Type 0 where
  pub adds : Adds (less_vars w * length pairs) (7 * w * length pairs) s t
  pub over : AllByRecursion (IsOver t.vars) outputs
  pub count : length outputs ≡ length pairs
  pub all : (A : Set) → clauses_true t.hard A ≡ true → list_all (λ l. is_true l A) outputs ≡ list_all (is_not_below A) pairs
  pub any : (A : Set) → clauses_true t.hard A ≡ true → list_any (λ l. is_true l A) outputs ≡ list_any (is_not_below A) pairs

module _ (w : ℕ) where
  counts : (v n : ℕ) → v + v * n ≡ v * suc n
  counts v n = omega (arith, mul-suc v n)

  pub compared-are : (pairs : List (List Literal × List Literal)) (s : Stored) → IsSound s → AllByRecursion (IsPair w s.vars) pairs
      → AreCompared w pairs s (after_compared pairs s) (compared pairs s)
  compared-are [] s x o = record { adds = Adds-more 0 0 (less_vars w * 0) (7 * w * 0) s s (omega arith) (omega arith) (Adds-nothing s x); over = tt; count = refl; all = λ A t. refl; any = λ A t. refl }
  compared-are (pair ∷ pairs) s x o =
      let p : IsPair w s.vars pair = o.0 in
      let t : Stored = after_less pair.0 pair.1 s in
      let l : Literal = less_output pair.0 pair.1 s in
      let g : IsLess pair.0 pair.1 l s t = less-is pair.0 pair.1 s p.some (p.first ∙ sym p.second) x p.over_first p.over_second in
      let grown : s.vars ≤ t.vars = g.adds.extends.vars in
      let i : AreCompared w pairs t (after_compared pairs t) (compared pairs t) = compared-are pairs t g.adds.sound (pair-up w s.vars t.vars grown pairs o.1) in
      let u : Stored = after_compared pairs t in
      let more : t.vars ≤ u.vars = i.adds.extends.vars in
      let here : (A : Set) → clauses_true u.hard A ≡ true → is_true (negation l) A ≡ is_not_below A pair = λ A k. literal_holds-negation l A ∙ ap not (g.says A (i.adds.extends.keeps A k)) in
      let wide : length pair.0 ≡ w = p.first in
      let sum : less_vars w + less_vars w * length pairs ≡ less_vars w * suc (length pairs) = counts (less_vars w) (length pairs) in
      let sum7 : 7 * w + 7 * w * length pairs ≡ 7 * w * suc (length pairs) = counts (7 * w) (length pairs) in
      record {
        adds = Adds-more (less_vars w + less_vars w * length pairs) (7 * w + 7 * w * length pairs) (less_vars w * suc (length pairs)) (7 * w * suc (length pairs)) s u (omega arith) (omega arith)
            (Adds-compose (less_vars w) (7 * w) (less_vars w * length pairs) (7 * w * length pairs) s t u (subst (λ n. Adds (less_vars n) (7 * n) s t) wide g.adds) i.adds);
        over = (negation-over l u.vars (IsOver-up t.vars u.vars more l g.over), i.over);
        count = ap (λ n. suc n) i.count;
        all = λ A k. ap₂ ◌&&◌ (here A k) (i.all A k);
        any = λ A k. ap₂ ◌||◌ (here A k) (i.any A k);
      }
