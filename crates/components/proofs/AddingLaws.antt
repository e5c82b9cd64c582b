-- What one pass over the links adds up.
use Rattle.std.proofs.Common.{map, ◌||◌, ◌≡◌, ◌≢◌, ℕ, suc, ◌+◌, ◌*◌, ◌-◌, ◌^◌, ◌<◌, ◌≤◌, Bool, true, false, ◌==◌, cond, min, List, [], ◌∷◌, ◌++◌, length, get_or, drop, arith, refl, sym, ◌∙◌, ap, ap₂, subst, ⊎_elim}
use Rattle.std.specs.List.{AllByRecursion, count_by, list_any}
use Rattle.std.proofs.lemmas.Bool.{cases_Bool, cond-true, cond-false, eq-eqb, ne_eqb, le-ltb, lt-ltb, or_left}
use Rattle.std.proofs.lemmas.List.{drop_more}
use Rattle.std.proofs.lemmas.List.Sums.{sum_by-cons}
use Rattle.ground_program.specs.Dependencies.{positives_of_body}
use Rattle.ground_program.specs.Facts.{Among, RuleFits}
use Rattle.ground_program.specs.Occurrences.{atoms_of_head}
use Rattle.ground_program.specs.Tangle.{enters, occurrences}
use Rattle.ground_program.specs.declared.program.Rule.{Rule}
use Rattle.components.specs.Components.{node_of, number_of}
use Rattle.components.specs.Divided.{members_of}
use Rattle.components.specs.private.Adding.{CostsAre, added, into, from, step, run}
use Rattle.components.specs.private.Links.{edges_from, edges_into, links_of_rule, links_of_rules}
use Rattle.components.proofs.AtomLaws.{heads-fit, node-below}
use Rattle.components.proofs.MemberLaws.{enters-numbered, occurrences-numbered}

mul-zero-right : (a : ℕ) → a * 0 ≡ 0
mul-zero-right a = omega arith

plus-none : (n : ℕ) → n ≡ 0 + n
plus-none n = omega arith

mul-more : (a c : ℕ) → a * (1 + c) ≡ a + a * c
mul-more a c = omega arith

min-twice : (a b c : ℕ) → min (min (a + b) (2 ^ 63) + c) (2 ^ 63) ≡ min (a + (b + c)) (2 ^ 63)
min-twice a b c = omega arith

module _ (first each i : ℕ) (numbers costs : List ℕ) where
  pub run-next : (edges : List (ℕ × ℕ)) (k : ℕ) (s t : ℕ × ℕ) → k < length edges → t ≡ step first each i numbers costs (get_or edges k (0, 0)) s → run first each i numbers costs (drop (k + 1) edges) t ≡ run first each i numbers costs (drop k edges) s
  run-next edges k s t within is =
      ap (run first each i numbers costs (drop (k + 1) edges)) is
      ∙ sym (ap (λ es. run first each i numbers costs es s) (drop_more edges k (0, 0) within))

  pub step-into : (u v : ℕ) (s : ℕ × ℕ) → u < first → step first each i numbers costs (u, v) s ≡ into first each i numbers costs (u, v) s
  step-into u v s low = cond-true _ _ _ (lt-ltb u first low)

  pub step-from : (u v : ℕ) (s : ℕ × ℕ) → first ≤ u → step first each i numbers costs (u, v) s ≡ from first each i numbers costs (u, v) s
  step-from u v s high = cond-false _ _ _ (le-ltb u first high)

  pub run-append : (xs ys : List (ℕ × ℕ)) (s : ℕ × ℕ) → run first each i numbers costs (xs ++ ys) s ≡ run first each i numbers costs ys (run first each i numbers costs xs s)
  run-append [] ys s = refl
  run-append (e ∷ xs) ys s = run-append xs ys (step first each i numbers costs e s)

  into-miss : (u v : ℕ) (s : ℕ × ℕ) → (get_or numbers u 0 == i) ≡ false → into first each i numbers costs (u, v) s ≡ s
  into-miss u v s miss = cond-false _ _ _ miss

  into-again : (u v w : ℕ) → into first each i numbers costs (u, v) (v + 1, w) ≡ (v + 1, w)
  into-again u v w = ⊎_elim
      (λ here. cond-true _ _ _ here ∙ cond-true _ _ _ (eq-eqb (v + 1) (v + 1) refl))
      (λ miss. cond-false _ _ _ miss)
      (cases_Bool (get_or numbers u 0 == i))

  into-first : (u v l w : ℕ) → (get_or numbers u 0 == i) ≡ true → l ≢ v + 1 → into first each i numbers costs (u, v) (l, w) ≡ (v + 1, min (w + get_or costs (v - first) 0) (2 ^ 63))
  into-first u v l w here differs = cond-true _ _ _ here ∙ cond-false _ _ _ (ne_eqb l (v + 1) differs)

  module _ (atoms : List ℕ) (sized : length atoms ≡ first) (node : ℕ) where
    heads-again : (heads : List ℕ) (w : ℕ) → AllByRecursion (Among atoms) heads → run first each i numbers costs (edges_into atoms node heads) (node + 1, w) ≡ (node + 1, w)
    heads-again [] w fit = refl
    heads-again (a ∷ heads) w fit =
        let low = node-below atoms a fit.0 in
        ap (run first each i numbers costs (edges_into atoms node heads)) (step-into (node_of atoms a) node (node + 1, w) (omega arith) ∙ into-again (node_of atoms a) node w)
        ∙ heads-again heads w fit.1

    pub heads-run : (heads : List ℕ) (l w : ℕ) → AllByRecursion (Among atoms) heads → l ≢ node + 1 → run first each i numbers costs (edges_into atoms node heads) (l, w) ≡ cond (list_any (λ a. number_of atoms numbers a == i) heads) (node + 1, min (w + get_or costs (node - first) 0) (2 ^ 63)) (l, w)
    heads-run [] l w fit differs = refl
    heads-run (a ∷ heads) l w fit differs =
        let low = node-below atoms a fit.0 in
        let one = step-into (node_of atoms a) node (l, w) (omega arith) in
        ⊎_elim
        (λ here.
        ap (run first each i numbers costs (edges_into atoms node heads)) (one ∙ into-first (node_of atoms a) node l w here differs)
        ∙ heads-again heads (min (w + get_or costs (node - first) 0) (2 ^ 63)) fit.1
        ∙ sym (cond-true _ _ _ (or_left _ _ here)))
        (λ miss.
        ap (run first each i numbers costs (edges_into atoms node heads)) (one ∙ into-miss (node_of atoms a) node (l, w) miss)
        ∙ heads-run heads l w fit.1 differs
        ∙ ap (λ (b : Bool). cond (b || list_any (λ x. number_of atoms numbers x == i) heads) (node + 1, min (w + get_or costs (node - first) 0) (2 ^ 63)) (l, w)) (sym miss))
        (cases_Bool (number_of atoms numbers a == i))

    from-idle : (v l w : ℕ) → l ≢ node + 1 → from first each i numbers costs (node, v) (l, w) ≡ (l, w)
    from-idle v l w differs = ⊎_elim
        (λ here. cond-true _ _ _ here ∙ cond-false _ _ _ (ne_eqb l (node + 1) differs))
        (λ miss. cond-false _ _ _ miss)
        (cases_Bool (get_or numbers v 0 == i))

    pub positives-idle : (positives : List ℕ) (l w : ℕ) → first ≤ node → l ≢ node + 1 → run first each i numbers costs (edges_from atoms node positives) (l, w) ≡ (l, w)
    positives-idle [] l w high differs = refl
    positives-idle (b ∷ positives) l w high differs =
        ap (run first each i numbers costs (edges_from atoms node positives)) (step-from node (node_of atoms b) (l, w) high ∙ from-idle (node_of atoms b) l w differs)
        ∙ positives-idle positives l w high differs

    counted : (b : ℕ) (positives : List ℕ) (w : ℕ) → min (w + each * (cond (number_of atoms numbers b == i) 1 0 + count_by (λ x. number_of atoms numbers x == i) positives)) (2 ^ 63) ≡ min (w + each * count_by (λ x. number_of atoms numbers x == i) (b ∷ positives)) (2 ^ 63)
    counted b positives w = ap (λ n. min (w + each * n) (2 ^ 63)) (sym (sum_by-cons (λ x. cond (number_of atoms numbers x == i) 1 0) b positives))

    pub positives-run : (positives : List ℕ) (w : ℕ) → first ≤ node → w ≤ 2 ^ 63 → run first each i numbers costs (edges_from atoms node positives) (node + 1, w) ≡ (node + 1, min (w + each * count_by (λ b. number_of atoms numbers b == i) positives) (2 ^ 63))
    positives-run [] w high low =
        let none : each * 0 ≡ 0 = mul-zero-right each in
        ap (λ x. (node + 1, x)) (omega arith)
    positives-run (b ∷ positives) w high low =
        let one = step-from node (node_of atoms b) (node + 1, w) high in
        let c : ℕ = count_by (λ x. number_of atoms numbers x == i) positives in
        let more : each * (1 + c) ≡ each + each * c = mul-more each c in
        ⊎_elim
        (λ here.
        ap (run first each i numbers costs (edges_from atoms node positives)) (one ∙ cond-true _ _ _ here ∙ cond-true _ _ _ (eq-eqb (node + 1) (node + 1) refl))
        ∙ positives-run positives (min (w + each) (2 ^ 63)) high (omega arith)
        ∙ ap (λ x. (node + 1, x)) (omega arith)
        ∙ ap (λ n. (node + 1, min (w + each * (n + c)) (2 ^ 63))) (sym (cond-true (number_of atoms numbers b == i) 1 0 here))
        ∙ ap (λ x. (node + 1, x)) (counted b positives w))
        (λ miss.
        ap (run first each i numbers costs (edges_from atoms node positives)) (one ∙ cond-false _ _ _ miss)
        ∙ positives-run positives w high low
        ∙ ap (λ n. (node + 1, min (w + each * n) (2 ^ 63))) (plus-none c)
        ∙ ap (λ n. (node + 1, min (w + each * (n + c)) (2 ^ 63))) (sym (cond-false (number_of atoms numbers b == i) 1 0 miss))
        ∙ ap (λ x. (node + 1, x)) (counted b positives w))
        (cases_Bool (number_of atoms numbers b == i))

    rule-numbered : (rule : Rule) (l w : ℕ) → RuleFits (Among atoms) rule → first ≤ node → l ≤ node → run first each i numbers costs (links_of_rule atoms node rule) (l, w) ≡ cond (list_any (λ a. number_of atoms numbers a == i) (atoms_of_head rule.head)) (node + 1, min (w + (get_or costs (node - first) 0 + each * count_by (λ b. number_of atoms numbers b == i) (positives_of_body rule.body))) (2 ^ 63)) (l, w)
    rule-numbered rule l w fit high low =
        let differs : l ≢ node + 1 = λ e. omega arith in
        let heads = heads-run (atoms_of_head rule.head) l w (heads-fit (Among atoms) rule.head fit.0) differs in
        let append = run-append (edges_into atoms node (atoms_of_head rule.head)) (edges_from atoms node (positives_of_body rule.body)) (l, w) in
        ⊎_elim
        (λ here.
        append
        ∙ ap (run first each i numbers costs (edges_from atoms node (positives_of_body rule.body))) (heads ∙ cond-true _ _ _ here)
        ∙ positives-run (positives_of_body rule.body) (min (w + get_or costs (node - first) 0) (2 ^ 63)) high (omega arith)
        ∙ ap (λ x. (node + 1, x)) (min-twice w (get_or costs (node - first) 0) (each * count_by (λ b. number_of atoms numbers b == i) (positives_of_body rule.body)))
        ∙ sym (cond-true _ _ _ here))
        (λ miss.
        append
        ∙ ap (run first each i numbers costs (edges_from atoms node (positives_of_body rule.body))) (heads ∙ cond-false _ _ _ miss)
        ∙ positives-idle (positives_of_body rule.body) l w high differs
        ∙ sym (cond-false _ _ _ miss))
        (cases_Bool (list_any (λ a. number_of atoms numbers a == i) (atoms_of_head rule.head)))

    pub rule-run : (rule : Rule) (l w : ℕ) → RuleFits (Among atoms) rule → first ≤ node → l ≤ node → run first each i numbers costs (links_of_rule atoms node rule) (l, w) ≡ cond (enters (members_of i atoms numbers) rule) (node + 1, min (w + (get_or costs (node - first) 0 + each * occurrences (members_of i atoms numbers) rule)) (2 ^ 63)) (l, w)
    rule-run rule l w fit high low =
        rule-numbered rule l w fit high low
        ∙ ap₂ (λ (b : Bool) (n : ℕ). cond b (node + 1, min (w + (get_or costs (node - first) 0 + each * n)) (2 ^ 63)) (l, w))
        (sym (enters-numbered atoms numbers i rule fit)) (sym (occurrences-numbered atoms numbers i rule fit))

  module _ (atoms : List ℕ) (sized : length atoms ≡ first) (cost : Rule → ℕ) where
    pub rules-run : (node : ℕ) (rules : List Rule) (l w : ℕ) → AllByRecursion (RuleFits (Among atoms)) rules → CostsAre first costs cost node rules → first ≤ node → l ≤ node → w ≤ 2 ^ 63 → (run first each i numbers costs (links_of_rules atoms node rules) (l, w)).1 ≡ min (w + added (members_of i atoms numbers) cost each rules) (2 ^ 63)
    rules-run node [] l w fit are high low small = omega arith
    rules-run node (rule ∷ rules) l w fit are high low small =
        let append = run-append (links_of_rule atoms node rule) (links_of_rules atoms (node + 1) rules) (l, w) in
        let one = rule-run atoms sized node rule l w fit.0 high low in
        let part : ℕ = cost rule + each * occurrences (members_of i atoms numbers) rule in
        let rest : ℕ = added (members_of i atoms numbers) cost each rules in
        let total : min (w + (cond (enters (members_of i atoms numbers) rule) part 0 + rest)) (2 ^ 63) ≡ min (w + added (members_of i atoms numbers) cost each (rule ∷ rules)) (2 ^ 63) = ap (λ n. min (w + n) (2 ^ 63)) (sym (sum_by-cons (λ r. cond (enters (members_of i atoms numbers) r) (cost r + each * occurrences (members_of i atoms numbers) r) 0) rule rules)) in
        ap (λ s. s.1) append
        ∙ ⊎_elim
        (λ here.
        ap (λ s. (run first each i numbers costs (links_of_rules atoms (node + 1) rules) s).1) (one ∙ cond-true _ _ _ here ∙ ap (λ n. (node + 1, min (w + (n + each * occurrences (members_of i atoms numbers) rule)) (2 ^ 63))) are.0)
        ∙ rules-run (node + 1) rules (node + 1) (min (w + part) (2 ^ 63)) fit.1 are.1 (omega arith) (omega arith) (omega arith)
        ∙ min-twice w part rest
        ∙ ap (λ n. min (w + (n + rest)) (2 ^ 63)) (sym (cond-true (enters (members_of i atoms numbers) rule) part 0 here))
        ∙ total)
        (λ miss.
        ap (λ s. (run first each i numbers costs (links_of_rules atoms (node + 1) rules) s).1) (one ∙ cond-false _ _ _ miss)
        ∙ rules-run (node + 1) rules l w fit.1 are.1 (omega arith) (omega arith) small
        ∙ ap (λ n. min (w + n) (2 ^ 63)) (plus-none rest)
        ∙ ap (λ n. min (w + (n + rest)) (2 ^ 63)) (sym (cond-false (enters (members_of i atoms numbers) rule) part 0 miss))
        ∙ total)
        (cases_Bool (enters (members_of i atoms numbers) rule))

-- costs in the order of the rules

pub costs-are : (first : ℕ) (costs : List ℕ) (cost : Rule → ℕ) (k : ℕ) (rules : List Rule) → ((j : ℕ) → j < length rules → get_or costs (k + j) 0 ≡ get_or (map cost rules) j 0) → CostsAre first costs cost (first + k) rules
costs-are first costs cost k [] same = tt
costs-are first costs cost k (rule ∷ rules) same =
    let here : (first + k) - first ≡ k + 0 = omega arith in
    let node : first + (k + 1) ≡ (first + k) + 1 = omega arith in
    let at : get_or costs (k + 0) 0 ≡ cost rule = same 0 (omega arith) in (
      ap (λ n. get_or costs n 0) here ∙ at,
      subst (λ n. CostsAre first costs cost n rules) node (costs-are first costs cost (k + 1) rules
          (λ j low.
          let next : (k + 1) + j ≡ k + suc j = omega arith in
          ap (λ n. get_or costs n 0) next ∙ same (suc j) (omega arith))),
    )

-- the sums of one pass

pub sums-are : (atoms numbers : List ℕ) (cost : Rule → ℕ) (each i : ℕ) (rules : List Rule) → length numbers ≡ length atoms → AllByRecursion (RuleFits (Among atoms)) rules → (run (length numbers) each i numbers (map cost rules) (links_of_rules atoms (length atoms) rules) (0, 0)).1 ≡ min (added (members_of i atoms numbers) cost each rules) (2 ^ 63)
sums-are atoms numbers cost each i rules sized fit =
    let node : length numbers + 0 ≡ length atoms = omega arith in
    rules-run (length numbers) each i numbers (map cost rules) atoms (sym sized) cost (length atoms) rules 0 0 fit
    (subst (λ n. CostsAre (length numbers) (map cost rules) cost n rules) node (costs-are (length numbers) (map cost rules) cost 0 rules (λ j low. let zero_first : 0 + j ≡ j = omega arith in ap (λ k. get_or (map cost rules) k 0) zero_first)))
    (omega arith) (omega arith) (omega arith)
    ∙ ap (λ n. min n (2 ^ 63)) (sym (plus-none (added (members_of i atoms numbers) cost each rules)))
