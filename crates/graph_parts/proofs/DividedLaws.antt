-- Which parts are cyclic.
use Rattle.std.proofs.Common.{◌≡◌, ◌≢◌, ℕ, suc, ◌+◌, ◌<◌, ◌≤◌, Bool, true, false, ◌==◌, List, [], ◌∷◌, ◌++◌, ◌-◌, length, set, take, drop, get_or, arith, refl, sym, ◌∙◌, ap, subst, ⊎_elim, eq-eqb, eqb-true}
use Rattle.std.specs.List.{list_any}
use Rattle.std.proofs.lemmas.Bool.{cases_eq, cases_lt, or_cases, true≢false}
use Rattle.std.proofs.lemmas.List.{get_or-set_same, get_or-set_other, get_or_past}
use Rattle.std.proofs.lemmas.List.Folds.{list_any_at}
use Rattle.asp_base.specs.Walks.{IsWalk, Reaches}
use Rattle.graph_parts.specs.Divided.{AreCycles, is_cyclic_at}
use Rattle.graph_parts.specs.private.Marks.{AreMarked, steps_within}
use Rattle.graph_parts.specs.Graph.{leads}
use Rattle.graph_parts.specs.Parts.{AreParts, Together}
use Rattle.graph_parts.proofs.Ways.{found-at, walk-falls}
use Rattle.graph_cycles.proofs.WalkLaws.{walk-join}

-- ---- the marks

pub marked-not : (starts targets numbers : List ℕ) (u : ℕ) (cyclic : List Bool) → AreMarked starts targets numbers u cyclic → steps_within starts targets numbers u ≡ false → AreMarked starts targets numbers (u + 1) cyclic
marked-not starts targets numbers u cyclic are none = record {
  sound = λ i is. let s = are.sound i is in (s.0, omega arith, s.2, s.3);
  complete = λ v below within. ⊎_elim
      (λ (same : v ≡ u). absurd (true≢false (sym within ∙ ap (steps_within starts targets numbers) same ∙ none)))
      (λ (apart : v ≢ u). are.complete v (omega arith) within)
      (cases_eq v u);
}

pub marked-more : (starts targets numbers : List ℕ) (u : ℕ) (cyclic : List Bool) → AreMarked starts targets numbers u cyclic → get_or numbers u 0 < length cyclic → steps_within starts targets numbers u ≡ true → AreMarked starts targets numbers (u + 1) (set cyclic (get_or numbers u 0) true)
marked-more starts targets numbers u cyclic are inside here = record {
  sound = λ i is. ⊎_elim
      (λ (same : i ≡ get_or numbers u 0). (u, omega arith, sym same, here))
      (λ (apart : i ≢ get_or numbers u 0). let s = are.sound i (sym (get_or-set_other cyclic (get_or numbers u 0) i true false apart) ∙ is) in (s.0, omega arith, s.2, s.3))
      (cases_eq i (get_or numbers u 0));
  complete = λ v below within. ⊎_elim
      (λ (same : get_or numbers v 0 ≡ get_or numbers u 0). ap (is_cyclic_at (set cyclic (get_or numbers u 0) true)) same ∙ get_or-set_same cyclic (get_or numbers u 0) true false inside)
      (λ (apart : get_or numbers v 0 ≢ get_or numbers u 0). get_or-set_other cyclic (get_or numbers u 0) (get_or numbers v 0) true false apart
      ∙ are.complete v (before v below apart) within)
      (cases_eq (get_or numbers v 0) (get_or numbers u 0));
}
  where
    before : (v : ℕ) → v < u + 1 → get_or numbers v 0 ≢ get_or numbers u 0 → v < u
    before v below apart = ⊎_elim (λ (low : v < u). low)
        (λ (high : u ≤ v). let same : v ≡ u = omega arith in absurd (apart (ap (λ w. get_or numbers w 0) same)))
        (cases_lt v u)

-- ---- cyclic parts

reaches-by : {N : Type 0} (step : N → N → Bool) (u x v : N) → Together step u x → step x v ≡ true → Together step v u → Reaches step u u
reaches-by step u x v to edge back =
    ⊎_elim (λ (same : u ≡ x). back-from (subst (λ w. step w v ≡ true) (sym same) edge) back)
    (λ (both : Reaches step u x × Reaches step x u). let rest = from-x in (both.0.0 ++ (x ∷ rest.0), walk-join step u both.0.0 x rest.0 u both.0.1 rest.1))
    to
  where
    back-from : step u v ≡ true → Together step v u → Reaches step u u
    back-from e together = ⊎_elim (λ (same : v ≡ u). ([], subst (λ w. step u w ≡ true) same e))
        (λ (both : Reaches step v u × Reaches step u v). (v ∷ both.0.0, (e, both.0.1)))
        together

    from-x : Reaches step x u
    from-x = ⊎_elim (λ (same : v ≡ u). ([], subst (λ w. step x w ≡ true) same edge))
        (λ (both : Reaches step v u × Reaches step u v). (v ∷ both.0.0, (edge, both.0.1)))
        back

module _ (starts targets numbers : List ℕ) (count : ℕ) (parts : AreParts (leads starts targets) numbers count) (cyclic : List Bool) (marked : AreMarked starts targets numbers (length numbers) cyclic) where
  inside : (v i : ℕ) → 1 ≤ i → get_or numbers v 0 ≡ i → v < length numbers
  inside v i some is = ⊎_elim (λ (low : v < length numbers). low)
      (λ (high : length numbers ≤ v). let past = get_or_past numbers v 0 high in absurd (omega arith))
      (cases_lt v (length numbers))

  -- a step within a part is one to a node with the same number
  within-step : (u : ℕ) → steps_within starts targets numbers u ≡ true → (v : ℕ) × (leads starts targets u v ≡ true) × (get_or numbers v 0 ≡ get_or numbers u 0)
  within-step u is =
      let found = found-by (take (get_or starts (u + 1) 0 - get_or starts u 0) (drop (get_or starts u 0) targets)) is in (
        get_or (take (get_or starts (u + 1) 0 - get_or starts u 0) (drop (get_or starts u 0) targets)) found.0 0,
        list_any_at _ (take (get_or starts (u + 1) 0 - get_or starts u 0) (drop (get_or starts u 0) targets)) found.0 0 found.1 (eq-eqb _ _ refl),
        found.2,
      )
    where
      found-by : (xs : List ℕ) → list_any (λ v. get_or numbers v 0 == get_or numbers u 0) xs ≡ true → (k : ℕ) × (k < length xs) × (get_or numbers (get_or xs k 0) 0 ≡ get_or numbers u 0)
      found-by [] e = absurd (true≢false (sym e))
      found-by (x ∷ xs) e =
          ⊎_elim (λ (here : (get_or numbers x 0 == get_or numbers u 0) ≡ true). (0, omega arith, eqb-true _ _ here))
          (λ there. let found = found-by xs there in (suc found.0, omega arith, found.2))
          (or_cases (get_or numbers x 0 == get_or numbers u 0) (list_any (λ v. get_or numbers v 0 == get_or numbers u 0) xs) e)

  step-within : (u v : ℕ) → leads starts targets u v ≡ true → get_or numbers v 0 ≡ get_or numbers u 0 → steps_within starts targets numbers u ≡ true
  step-within u v edge same =
      let found = found-at v (take (get_or starts (u + 1) 0 - get_or starts u 0) (drop (get_or starts u 0) targets)) edge in
      list_any_at (λ w. get_or numbers w 0 == get_or numbers u 0) (take (get_or starts (u + 1) 0 - get_or starts u 0) (drop (get_or starts u 0) targets)) found.0 0 found.1 (eq-eqb _ _ (ap (λ w. get_or numbers w 0) found.2 ∙ same))

  falls : (u v : ℕ) (by : List ℕ) → IsWalk (leads starts targets) u by v → get_or numbers v 0 ≤ get_or numbers u 0
  falls u v by walk = walk-falls (leads starts targets) (λ w. get_or numbers w 0) parts.lower u by v walk

  first-step : (u : ℕ) (by : List ℕ) → IsWalk (leads starts targets) u by u → (v : ℕ) × (leads starts targets u v ≡ true) × (get_or numbers v 0 ≡ get_or numbers u 0)
  first-step u [] walk = (u, walk, refl)
  first-step u (v ∷ by) walk =
      let down = parts.lower u v walk.0 in
      let up = falls v u by walk.1 in
      (v, walk.0, omega arith)

  pub cycles-are : AreCycles (leads starts targets) numbers cyclic
  cycles-are = record {
    each = λ u in_u. (
      λ is. let s = marked.sound (get_or numbers u 0) is in
          let v = within-step s.0 s.3 in
          let some = parts.least u in_u in
          reaches-by (leads starts targets) u s.0 v.0
          ((parts.together u s.0 in_u s.1).0 (sym s.2))
          v.1
          ((parts.together v.0 u (inside v.0 (get_or numbers u 0) some (v.2 ∙ s.2)) in_u).0 (v.2 ∙ s.2)),
      λ reaches. let v = first-step u reaches.0 reaches.1 in
          marked.complete u in_u (step-within u v.0 v.1 v.2),
    );
  }
