-- Numbers that are numbered anew without gaps.
use Rattle.std.proofs.Common.{◌≡◌, ◌≢◌, ℕ, zero, suc, ◌+◌, ◌<◌, ◌≤◌, Bool, List, length, map, take, set, get_or, arith, sym, ◌∙◌, ap, subst, ⊎_elim, add-one, add-zero, ◌-◌}
use Rattle.std.specs.List.{sum}
use Rattle.std.proofs.lemmas.Bool.{cases_eq, cases_lt, cases_order}
use Rattle.std.proofs.lemmas.List.{get_or_past, get_or-map, get_or-set_same, get_or-set_other, get_or-take, length-map, length-take, take_all}
use Rattle.std.proofs.lemmas.List.Sums.{sum_by_more}
use Rattle.graph_parts.specs.Divided.{AreCycles, is_cyclic_at}
use Rattle.graph_parts.specs.Parts.{AreParts, ArePartsAmong}
use Rattle.graph_parts.specs.private.Ranks.{AreMoved, AreRanked, AreRanks, AreUsed, rank_of}
use Rattle.graph_parts.proofs.Ways.{walk-falls}

used-within : (used : List ℕ) (i : ℕ) → get_or used i 0 ≡ 1 → i < length used
used-within used i one = ⊎_elim (λ (low : i < length used). low)
    (λ (high : length used ≤ i). let past = get_or_past used i 0 high in absurd (omega arith))
    (cases_lt i (length used))

pub rank-first : (used : List ℕ) → 0 < length used → rank_of used 0 ≡ get_or used 0 0
rank-first used some =
    let more : sum (take (0 + 1) used) ≡ sum (take 0 used) + get_or used 0 0 = sum_by_more (λ x. x) used 0 0 some in
    omega arith

pub rank-next : (used : List ℕ) (i : ℕ) → i + 1 < length used → rank_of used (i + 1) ≡ rank_of used i + get_or used (i + 1) 0
rank-next used i within = sum_by_more (λ x. x) used (i + 1) 0 within

rank-rises : (used : List ℕ) (i n : ℕ) → i + n < length used → rank_of used i ≤ rank_of used (i + n)
rank-rises used i zero within = rw add-zero (omega arith)
rank-rises used i (suc n) within =
    let before = rank-rises used i n (omega arith) in
    let next = rank-next used (i + n) (omega arith) in
    let same : (i + n) + 1 ≡ i + suc n = omega arith in
    let is = ap (rank_of used) same in
    omega arith

pub rank-up : (used : List ℕ) (i j : ℕ) → i ≤ j → j < length used → rank_of used i ≤ rank_of used j
rank-up used i j up within =
    let same : i + (j - i) ≡ j = omega arith in
    subst (λ k. rank_of used i ≤ rank_of used k) same (rank-rises used i (j - i) (omega arith))

-- a used number has a greater rank than a lower one
pub rank-over : (used : List ℕ) (i j : ℕ) → i < j → get_or used j 0 ≡ 1 → rank_of used i < rank_of used j
rank-over used i j less one =
    let within = used-within used j one in
    let up = rank-up used i (j - 1) (omega arith) (omega arith) in
    let next = rank-next used (j - 1) (omega arith) in
    let same : (j - 1) + 1 ≡ j = omega arith in
    let is = ap (rank_of used) same in
    let here = ap (λ k. get_or used k 0) same in
    omega arith

-- used numbers of one rank are the same
pub rank-same : (used : List ℕ) (i j : ℕ) → get_or used i 0 ≡ 1 → get_or used j 0 ≡ 1 → rank_of used i ≡ rank_of used j → i ≡ j
rank-same used i j one other same = ⊎_elim (λ e. e)
    (λ differ. absurd (⊎_elim (λ (less : i < j). let over = rank-over used i j less other in omega arith) (λ (more : j < i). let over = rank-over used j i more one in omega arith) differ))
    (cases_order i j)

pub rank-least : (used : List ℕ) (i : ℕ) → get_or used i 0 ≡ 1 → 1 ≤ rank_of used i
rank-least used i one =
    let within = used-within used i one in
    ⊎_elim (λ (zero_is : i ≡ 0). let first = rank-first used (omega arith) in
    let here = ap (λ k. get_or used k 0) zero_is in
    subst (λ k. 1 ≤ rank_of used k) (sym zero_is) (omega arith))
    (λ (some : i ≢ 0). let over = rank-over used 0 i (omega arith) one in omega arith)
    (cases_eq i 0)

pub rank-most : (used : List ℕ) → ((i : ℕ) → get_or used i 0 ≤ 1) → get_or used 0 0 ≡ 0 → (i : ℕ) → i < length used → rank_of used i ≤ i
rank-most used bits first zero within = let f = rank-first used within in omega arith
rank-most used bits first (suc i) within =
    let before = rank-most used bits first i (omega arith) in
    let next = rank-next used i (omega arith) in
    let bit = bits (i + 1) in
    let is = ap (rank_of used) (add-one i) in
    omega arith

-- each rank is that of a used number
pub rank-each : (used : List ℕ) → ((i : ℕ) → get_or used i 0 ≤ 1) → (i c : ℕ) → i < length used → 1 ≤ c → c ≤ rank_of used i → (j : ℕ) × (get_or used j 0 ≡ 1) × (rank_of used j ≡ c)
rank-each used bits zero c within low high =
    let first = rank-first used within in
    let bit = bits 0 in
    (0, omega arith, omega arith)
rank-each used bits (suc i) c within low high =
    let next = rank-next used i (omega arith) in
    let bit = bits (i + 1) in
    let is = ap (rank_of used) (add-one i) in
    ⊎_elim
    (λ (more : rank_of used i < c). (i + 1, omega arith, omega arith))
    (λ (less : c ≤ rank_of used i). rank-each used bits i c (omega arith) low less)
    (cases_lt (rank_of used i) c)

-- the ranks of used numbers
module _ (numbers used ranked : List ℕ) (count : ℕ) (long : length used ≡ count + 1) (are_used : AreUsed numbers used) (are_ranked : AreRanked numbers used ranked) where
  one : (u : ℕ) → u < length numbers → get_or used (get_or numbers u 0) 0 ≡ 1
  one u inside = are_used.all u inside

  in-used : (u : ℕ) → u < length numbers → get_or numbers u 0 < length used
  in-used u inside = used-within used (get_or numbers u 0) (one u inside)

  pub ranks-are : AreRanks numbers ranked (rank_of used count)
  ranks-are = record {
    sized = are_ranked.sized;
    same = λ u v in_u in_v. (
      λ same. rank-same used (get_or numbers u 0) (get_or numbers v 0) (one u in_u) (one v in_v) (sym (are_ranked.each u in_u) ∙ same ∙ are_ranked.each v in_v),
      λ same. are_ranked.each u in_u ∙ ap (rank_of used) same ∙ sym (are_ranked.each v in_v),
    );
    up = λ u v in_u in_v low.
        let up = rank-up used (get_or numbers u 0) (get_or numbers v 0) low (in-used v in_v) in
        let rank_u = are_ranked.each u in_u in
        let rank_v = are_ranked.each v in_v in
        omega arith;
    least = λ u inside. let rank_u = are_ranked.each u inside in let least = rank-least used (get_or numbers u 0) (one u inside) in omega arith;
    most = λ u inside.
        let rank_u = are_ranked.each u inside in
        let in_u = in-used u inside in
        let up = rank-up used (get_or numbers u 0) count (omega arith) (omega arith) in
        omega arith;
    each = λ c low high.
        let found = rank-each used are_used.bits count c (omega arith) low high in
        let user = are_used.only found.0 found.1 in
        (user.0, user.1, are_ranked.each user.0 user.1 ∙ ap (rank_of used) user.2 ∙ found.2);
  }

pub used-first : (numbers used : List ℕ) → AreUsed numbers used → ((u : ℕ) → u < length numbers → 1 ≤ get_or numbers u 0) → get_or used 0 0 ≡ 0
used-first numbers used are least = ⊎_elim
    (λ (is : get_or used 0 0 ≡ 1). let user = are.only 0 is in let l = least user.0 user.1 in let zero_is = user.2 in absurd (omega arith))
    (λ (not : get_or used 0 0 ≢ 1). let bit = are.bits 0 in omega arith)
    (cases_eq (get_or used 0 0) 1)

pub rank-whole : (used : List ℕ) (count : ℕ) → length used ≡ count + 1 → rank_of used count ≡ sum used
rank-whole used count long = ap sum (take_all (count + 1) used (omega arith))

-- parts among the first nodes, numbered anew
module _ (step : ℕ → ℕ → Bool) (all numbers : List ℕ) (count : ℕ) (parts : AreParts step all count) (front : (u : ℕ) → u < length numbers → get_or numbers u 0 ≡ get_or all u 0) (fewer : length numbers ≤ length all) (ranked : List ℕ) (total : ℕ) (ranks : AreRanks numbers ranked total) where
  pub parts-among : ArePartsAmong step ranked total
  parts-among =
      let sized = ranks.sized in
      record {
        together = λ u v in_u in_v. (
          λ same. (parts.together u v (omega arith) (omega arith)).0 (sym (front u (omega arith)) ∙ (ranks.same u v (omega arith) (omega arith)).0 same ∙ front v (omega arith)),
          λ together. (ranks.same u v (omega arith) (omega arith)).1 (front u (omega arith) ∙ (parts.together u v (omega arith) (omega arith)).1 together ∙ sym (front v (omega arith))),
        );
        lower = λ u v in_u in_v reaches.
            let down = walk-falls step (λ w. get_or all w 0) parts.lower u reaches.0 v reaches.1 in
            let front_u = front u (omega arith) in
            let front_v = front v (omega arith) in
            ranks.up v u (omega arith) (omega arith) (omega arith);
        least = λ u inside. ranks.least u (omega arith);
        most = λ u inside. ranks.most u (omega arith);
        each = λ i low high. let e = ranks.each i low high in (e.0, subst (λ n. e.0 < n) (sym sized) e.1, e.2);
      }

  pub cycles-among : (cyclic moved : List Bool) → AreCycles step all cyclic → AreMoved numbers ranked cyclic (length numbers) moved → AreCycles step ranked moved
  cycles-among cyclic moved cycles are =
      let sized = ranks.sized in
      record {
        each = λ u inside.
            let is : is_cyclic_at moved (get_or ranked u 0) ≡ is_cyclic_at cyclic (get_or all u 0) = are u (omega arith) ∙ ap (is_cyclic_at cyclic) (front u (omega arith)) in
            let old = cycles.each u (omega arith) in
            (λ yes. old.0 (sym is ∙ yes), λ reaches. is ∙ old.1 reaches);
      }

-- ---- which numbers are used

pub used-more : (numbers used : List ℕ) (u : ℕ) → u < length numbers → get_or numbers u 0 < length used → AreUsed (take u numbers) used → AreUsed (take (u + 1) numbers) (set used (get_or numbers u 0) 1)
used-more numbers used u below inside are =
    let short = length-take u numbers in
    let long = length-take (u + 1) numbers in
    record {
      bits = λ i. ⊎_elim
          (λ (same : i ≡ get_or numbers u 0). let here = get_or-set_same used (get_or numbers u 0) 1 0 inside in subst (λ k. get_or (set used (get_or numbers u 0) 1) k 0 ≤ 1) (sym same) (omega arith))
          (λ (apart : i ≢ get_or numbers u 0). let there = get_or-set_other used (get_or numbers u 0) i 1 0 apart in let bit = are.bits i in omega arith)
          (cases_eq i (get_or numbers u 0));
      all = λ v low. let is = get_or-take (u + 1) numbers v 0 (omega arith) in
          subst (λ n. get_or (set used (get_or numbers u 0) 1) n 0 ≡ 1) (sym is) (one v (omega arith));
      only = λ i is. ⊎_elim
          (λ (same : i ≡ get_or numbers u 0). (u, omega arith, get_or-take (u + 1) numbers u 0 (omega arith) ∙ sym same))
          (λ (apart : i ≢ get_or numbers u 0).
          let o = are.only i (sym (get_or-set_other used (get_or numbers u 0) i 1 0 apart) ∙ is) in
          let low = o.1 in
          (o.0, omega arith, get_or-take (u + 1) numbers o.0 0 (omega arith) ∙ sym (get_or-take u numbers o.0 0 (omega arith)) ∙ o.2))
          (cases_eq i (get_or numbers u 0));
    }
  where
    one : (v : ℕ) → v < u + 1 → get_or (set used (get_or numbers u 0) 1) (get_or numbers v 0) 0 ≡ 1
    one v low = ⊎_elim
        (λ (same : get_or numbers v 0 ≡ get_or numbers u 0). ap (λ k. get_or (set used (get_or numbers u 0) 1) k 0) same ∙ get_or-set_same used (get_or numbers u 0) 1 0 inside)
        (λ (apart : get_or numbers v 0 ≢ get_or numbers u 0).
        let before : v < u = not-last v low apart in
        let short = length-take u numbers in
        get_or-set_other used (get_or numbers u 0) (get_or numbers v 0) 1 0 apart
        ∙ ap (λ n. get_or used n 0) (sym (get_or-take u numbers v 0 before)) ∙ are.all v (omega arith))
        (cases_eq (get_or numbers v 0) (get_or numbers u 0))
      where
        not-last : (v : ℕ) → v < u + 1 → get_or numbers v 0 ≢ get_or numbers u 0 → v < u
        not-last v low apart = ⊎_elim (λ (before : v < u). before)
            (λ (high : u ≤ v). let same : v ≡ u = omega arith in absurd (apart (ap (λ w. get_or numbers w 0) same)))
            (cases_lt v u)

pub ranked-are : (numbers used ranks ranked : List ℕ) → ((k : ℕ) → k < length ranks → get_or ranks k 0 ≡ rank_of used k) → ((u : ℕ) → u < length numbers → get_or numbers u 0 < length ranks) → ranked ≡ map (λ i. get_or ranks i 0) numbers → AreRanked numbers used ranked
ranked-are numbers used ranks ranked sums within is = record {
  sized = ap length is ∙ length-map numbers (λ i. get_or ranks i 0);
  each = λ u inside. ap (λ l. get_or l u 0) is ∙ get_or-map (λ i. get_or ranks i 0) numbers u 0 0 inside ∙ sums (get_or numbers u 0) (within u inside);
}
