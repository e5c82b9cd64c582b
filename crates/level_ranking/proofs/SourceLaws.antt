-- The numbers of the cyclic components, and the atoms of literals in a component.
use Rattle.std.proofs.Common.{◌≡◌, refl, sym, ◌∙◌, ap, ℕ, zero, suc, ◌+◌, ◌≤◌, ◌<◌, ◌==◌, true, false, cond, ◌&&◌, List, [], ◌∷◌, ⊎_elim, arith}
use Rattle.std.specs.List.{range_with_len}
use Rattle.std.proofs.lemmas.Bool.{true≢false, eqb-true, eq-eqb, and_parts, and_from, or_cases}
use Rattle.asp_base.specs.Literal.{Literal, Pos, Neg, atom_of, is_positive}
use Rattle.asp_base.specs.Sets.{members}
use Rattle.asp_base.proofs.Bools.{and_false}
use Rattle.graph_parts.specs.Divided.{is_cyclic_at}
use Rattle.rising_numbers.specs.Rising.{RisesFrom}
use Rattle.rising_numbers.proofs.RisingLaws.{rises-filter}
use Rattle.ground_program.proofs.GapLaws.{range-has}
use Rattle.ground_program.proofs.Plain.{members-filter}
use Rattle.components.specs.Divided.{Divided, cyclic_numbers, part_of}
use Rattle.level_ranking.specs.Components.{atoms_of_part}
use Rattle.level_ranking.specs.Encoding.{positive_in}
use Rattle.level_ranking.specs.private.Sources.{is_ranked, AreNumbered}

-- ---- cyclic components

range-rises : (n k low : ℕ) → low < n → RisesFrom low (range_with_len n k)
range-rises n zero low h = tt
range-rises n (suc k) low h = (h, range-rises (n + 1) k n (omega arith))

range-within : (n k c : ℕ) → members (range_with_len n k) c ≡ true → (n ≤ c) × (c < n + k)
range-within n zero c m = absurd (true≢false (sym m))
range-within n (suc k) c m = ⊎_elim
    (λ e. let q : n ≡ c = eqb-true n c e in (omega arith, omega arith))
    (λ r. let i : (n + 1 ≤ c) × (c < n + 1 + k) = range-within (n + 1) k c r in (omega (arith, i.0), omega (arith, i.1)))
    (or_cases _ _ m)

pub cyclic-rises : (d : Divided) → RisesFrom 0 (cyclic_numbers d)
cyclic-rises d = rises-filter (λ i. is_cyclic_at d.cyclic i) 0 (range_with_len 1 d.count) (range-rises 1 d.count 0 (omega arith))

pub members-cyclic : (d : Divided) (c : ℕ) → 1 ≤ c → c ≤ d.count → members (cyclic_numbers d) c ≡ is_cyclic_at d.cyclic c
members-cyclic d c low high =
    members-filter (λ i. is_cyclic_at d.cyclic i) (range_with_len 1 d.count) c
    ∙ ap (λ b. b && is_cyclic_at d.cyclic c) (range-has d.count 1 c low (omega arith))

-- a number of a cyclic component
pub from_cyclic : (d : Divided) (c : ℕ) → members (cyclic_numbers d) c ≡ true → (1 ≤ c) × (c ≤ d.count) × (is_cyclic_at d.cyclic c ≡ true)
from_cyclic d c m =
    let k : (members (range_with_len 1 d.count) c ≡ true) × (is_cyclic_at d.cyclic c ≡ true) =
    and_parts _ _ (sym (members-filter (λ i. is_cyclic_at d.cyclic i) (range_with_len 1 d.count) c) ∙ m) in
    let w : (1 ≤ c) × (c < 1 + d.count) = range-within 1 d.count c k.0 in
    (w.0, omega (arith, w.1), k.1)

pub ranked-is : (d : Divided) → AreNumbered d → (a : ℕ) → members d.atoms a ≡ true → is_ranked d a ≡ is_cyclic_at d.cyclic (part_of d a)
ranked-is d h a m = members-cyclic d (part_of d a) (h.least a m) (h.most a m)

-- ---- the atom of a literal in a component

pub inside-true : (part : ℕ → ℕ) (atoms : List ℕ) (c : ℕ) (l : Literal) → is_positive l ≡ true → members atoms (atom_of l) ≡ true → part (atom_of l) ≡ c
    → positive_in (members (atoms_of_part part c atoms)) (l ∷ []) ≡ atom_of l ∷ []
inside-true part atoms c (Neg a) p m e = absurd (true≢false (sym p))
inside-true part atoms c (Pos a) p m e = ap (λ b. cond b (a ∷ []) []) (members-filter (λ b. part b == c) atoms a ∙ and_from _ _ m (eq-eqb (part a) c e))

pub inside-other : (part : ℕ → ℕ) (atoms : List ℕ) (c : ℕ) (l : Literal) → (part (atom_of l) == c) ≡ false
    → positive_in (members (atoms_of_part part c atoms)) (l ∷ []) ≡ []
inside-other part atoms c (Neg a) e = refl
inside-other part atoms c (Pos a) e = ap (λ b. cond b (a ∷ []) []) (members-filter (λ b. part b == c) atoms a ∙ (ap (λ t. members atoms a && t) e ∙ and_false (members atoms a)))

pub inside-negative : (part : ℕ → ℕ) (atoms : List ℕ) (c : ℕ) (l : Literal) → is_positive l ≡ false → positive_in (members (atoms_of_part part c atoms)) (l ∷ []) ≡ []
inside-negative part atoms c (Pos a) p = absurd (true≢false p)
inside-negative part atoms c (Neg a) p = refl
