-- The digits of all atoms come first behind the completion's variables, and without cyclic components there are none.
use Rattle.std.proofs.Common.{◌≡◌, refl, sym, ◌∙◌, ap, ℕ, ◌+◌, ◌<◌, ◌≤◌, ◌==◌, Bool, false, true, ⊎_elim, List, [], ◌∷◌, ◌++◌, filter, arith, subst}
use Rattle.std.specs.List.{sum_by}
use Rattle.std.proofs.lemmas.Bool.{eq-eqb, ne_eqb, cond-true, cond-false, cases_lt, true≢false}
use Rattle.std.proofs.lemmas.List.Sums.{sum_by-cons}
use Rattle.asp_base.specs.Sets.{members}
use Rattle.asp_base.specs.Walks.{Reaches}
use Rattle.rising_numbers.specs.Rising.{RisesFrom, place}
use Rattle.rising_numbers.proofs.RisingLaws.{members-above, members-head, rises-filter}
use Rattle.graph_parts.specs.Divided.{is_cyclic_at}
use Rattle.ground_program.specs.Dependencies.{depends}
use Rattle.ground_program.specs.Facts.{IsProgram}
use Rattle.ground_program.specs.Ground.{Ground}
use Rattle.ground_program.proofs.Plain.{members-append_right}
use Rattle.components.specs.Divided.{Divided, cyclic_numbers, part_of}
use Rattle.components.specs.Parts.{ArePartsOf}
use Rattle.completion.specs.Completion.{completed}
use Rattle.digit_gates.specs.DigitGates.{variables_from}
use Rattle.level_ranking.specs.Encoding.{after_digits, digits_of, width_of, with_rankings}
use Rattle.level_ranking.specs.Ranked.{DigitsComeFirst}
use Rattle.level_ranking.proofs.SourceLaws.{from_cyclic}

digits-behind : (width : ℕ → ℕ) (low : ℕ) (before after : List ℕ) (a n : ℕ) → RisesFrom low (before ++ (a ∷ after))
    → digits_of width (before ++ (a ∷ after)) n a ≡ variables_from (width a) (n + sum_by width before)
digits-behind width low [] after a n rises =
    cond-true (a == a) (variables_from (width a) n) (digits_of width after (n + width a) a) (eq-eqb a a refl)
    ∙ ap (variables_from (width a)) (omega arith)
digits-behind width low (x ∷ before) after a n rises =
    let less : x < a = members-above x (before ++ (a ∷ after)) a rises.1 (members-append_right before (a ∷ after) a (members-head a after)) in
    cond-false (x == a) (variables_from (width x) n) (digits_of width (before ++ (a ∷ after)) (n + width x) a) (ne_eqb x a (λ e. omega arith))
    ∙ (digits-behind width x before after a (n + width x) rises.1
    ∙ ap (variables_from (width a)) (omega (arith, sum_by-cons width x before)))

pub digits-first : (P : Ground) → IsProgram P → (part : ℕ → ℕ) (parts : List ℕ) → DigitsComeFirst P part parts
digits-first P program part parts before after a is =
    ap (λ atoms. digits_of (width_of P part parts) atoms (completed P).vars a) is
    ∙ digits-behind (width_of P part parts) 0 before after a (completed P).vars
    (subst (RisesFrom 0) is (rises-filter (λ b. members parts (part b)) 0 P.atoms program.atoms_rise))

-- ---- without cyclic components

none-pass : (xs : List ℕ) → filter (λ a. false) xs ≡ []
none-pass [] = refl
none-pass (x ∷ xs) = none-pass xs

pub no-rankings : (P : Ground) (part : ℕ → ℕ) → with_rankings P part [] ≡ completed P
no-rankings P part = ap (λ atoms. after_digits (place P.atoms) (width_of P part []) atoms (completed P)) (none-pass P.atoms)

no-members : (xs : List ℕ) → ((x : ℕ) → members xs x ≡ true → ⊥) → xs ≡ []
no-members [] none = refl
no-members (x ∷ xs) none = absurd (none x (members-head x xs))

-- where no atom reaches itself
pub none-cyclic : (P : Ground) (d : Divided) → ArePartsOf P d → ((a : ℕ) → Reaches (depends P.rules) a a → ⊥) → cyclic_numbers d ≡ []
none-cyclic P d are tight = no-members (cyclic_numbers d) (λ c member.
    let found = from_cyclic d c member in
    let one = are.components.each c found.0 found.1 in
    tight one.0 ((are.components.cycles one.0 one.1).0 (ap (is_cyclic_at d.cyclic) one.2 ∙ found.2)))

-- where no number is that of a cyclic component
pub without_cyclic : (P : Ground) (d : Divided) → ((i : ℕ) → 1 ≤ i → i ≤ d.count → is_cyclic_at d.cyclic i ≡ false)
    → with_rankings P (part_of d) (cyclic_numbers d) ≡ completed P
without_cyclic P d none =
    ap (with_rankings P (part_of d)) (no-members (cyclic_numbers d) (λ c member.
    let found = from_cyclic d c member in
    true≢false (sym found.2 ∙ none c found.0 found.1))) ∙ no-rankings P (part_of d)

-- one more number is not
pub none-more : (f : ℕ → Bool) (n : ℕ) → ((i : ℕ) → 1 ≤ i → i ≤ n → f i ≡ false) → f (n + 1) ≡ false
    → (i : ℕ) → 1 ≤ i → i ≤ n + 1 → f i ≡ false
none-more f n h e i low high = ⊎_elim (λ k. h i low (omega arith)) (λ k. ap f (let q : i ≡ n + 1 = omega arith in q) ∙ e) (cases_lt i (n + 1))
