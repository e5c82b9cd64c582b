-- Gaps between numbers: what lies in them and what does not, and the next number that does.
use Rattle.std.proofs.Common.{◌≡◌, refl, sym, ◌∙◌, ap, ap₂, subst, ℕ, zero, suc, ◌+◌, ◌-◌, ◌<◌, ◌≤◌, ◌^◌, nat_lt, min, true, false, List, [], ◌∷◌, ◌++◌, length, get_or, ◌⊎◌, inl, inr, ⊎_elim, append-nil, append_assoc, add-one, arith}
use Rattle.std.specs.List.{AllByRecursion, range_with_len}
use Rattle.std.proofs.lemmas.Bool.{or_left, or_right, or_from, eq-eqb, ne_eqb, cases_lt, cases_eq, ltb-true, ltb-false, cond_both}
use Rattle.asp_base.specs.Sets.{members}
use Rattle.rising_numbers.specs.Rising.{RisesFrom}
use Rattle.ground_program.specs.Fresh.{IsLeastFree}
use Rattle.ground_program.specs.private.Gaps.{up_to, outside, inside_below, GapsFrom, EndsLast, LiesIn, AreGaps, gaps_of}
use Rattle.ground_program.specs.declared.fresh.Gap.{Gap}
use Rattle.ground_program.specs.declared.fresh.Position.{Position}
use Rattle.rising_numbers.proofs.RisingLaws.{members-append}

-- ---- consecutive numbers

pub range-has : (n a b : ℕ) → a ≤ b → b < a + n → members (range_with_len a n) b ≡ true
range-has zero a b l h = absurd (omega arith)
range-has (suc n) a b l h = ⊎_elim
    (λ e. or_left _ _ (eq-eqb a b e))
    (λ ne. or_right _ _ (range-has n (a + 1) b (omega arith) (omega arith)))
    (cases_eq a b)

range-lacks : (n a b : ℕ) → (b < a) ⊎ (a + n ≤ b) → members (range_with_len a n) b ≡ false
range-lacks zero a b h = refl
range-lacks (suc n) a b (inl l) = or_from _ _ (ne_eqb a b (λ e. omega arith)) (range-lacks n (a + 1) b (inl (omega arith)))
range-lacks (suc n) a b (inr l) = or_from _ _ (ne_eqb a b (λ e. omega arith)) (range-lacks n (a + 1) b (inr (omega arith)))

pub range-more : (n a : ℕ) → range_with_len a (suc n) ≡ range_with_len a n ++ ((a + n) ∷ [])
range-more zero a = let same : a ≡ a + 0 = omega arith in ap (λ z. z ∷ []) same
range-more (suc n) a =
    let same : a + 1 + n ≡ a + suc n = omega arith in
    ap (λ xs. a ∷ xs) (range-more n (a + 1) ∙ ap (λ z. range_with_len (a + 1) n ++ (z ∷ [])) same)

up_to-has : (from end b : ℕ) → from ≤ b → b < end → members (up_to from end) b ≡ true
up_to-has from end b l h = range-has (end - from) from b l (omega arith)

up_to-lacks_lower : (from end b : ℕ) → b < from → members (up_to from end) b ≡ false
up_to-lacks_lower from end b l = range-lacks (end - from) from b (inl l)

up_to-lacks_higher : (from end b : ℕ) → from ≤ b → end ≤ b → members (up_to from end) b ≡ false
up_to-lacks_higher from end b l h = range-lacks (end - from) from b (inr (omega arith))

up_to-none : (from end : ℕ) → end ≤ from → up_to from end ≡ []
up_to-none from end l = let none : end - from ≡ 0 = omega arith in ap (range_with_len from) none

up_to-more : (from n : ℕ) → from ≤ n → up_to from (n + 1) ≡ up_to from n ++ (n ∷ [])
up_to-more from n l =
    let length-is : n + 1 - from ≡ suc (n - from) = omega arith in
    let last-is : from + (n - from) ≡ n = omega arith in
    ap (range_with_len from) length-is ∙ range-more (n - from) from ∙ ap (λ z. up_to from n ++ (z ∷ [])) last-is

up_to-first : (from end : ℕ) → from < end → up_to from end ≡ from ∷ up_to (from + 1) end
up_to-first from end l =
    let length-is : end - from ≡ suc (end - (from + 1)) = omega arith in
    ap (range_with_len from) length-is

-- ---- the gap in which a number lies

lies-above : (low n i : ℕ) (gaps : List Gap) → GapsFrom low gaps → LiesIn n i gaps → low ≤ n
lies-above low n i [] r h = absurd h
lies-above low n zero (gap ∷ gaps) r h = let a : low ≤ gap.from = r.0 in let b : gap.from ≤ n = h.0 in omega arith
lies-above low n (suc i) (gap ∷ gaps) r h =
    let a : low ≤ gap.from = r.0 in
    let b : gap.from < gap.to = r.1 in
    let k : gap.to ≤ n = lies-above gap.to n i gaps r.2 h in
    omega arith

pub lies-within : (n i : ℕ) (gaps : List Gap) → LiesIn n i gaps → i < length gaps
lies-within n i [] h = absurd h
lies-within n zero (gap ∷ gaps) h = omega arith
lies-within n (suc i) (gap ∷ gaps) h = let k : i < length gaps = lies-within n i gaps h in omega arith

-- the number above one that lies in a gap lies there too, or is where that gap ends
pub lies-next : (n i : ℕ) (d : Gap) (gaps : List Gap) → LiesIn n i gaps → n + 1 < (get_or gaps i d).to → LiesIn (n + 1) i gaps
lies-next n i d [] h l = absurd h
lies-next n zero d (gap ∷ gaps) h l = let a : gap.from ≤ n = h.0 in (omega arith, l)
lies-next n (suc i) d (gap ∷ gaps) h l = lies-next n i d gaps h l

lies-end : (n i : ℕ) (d : Gap) (gaps : List Gap) → LiesIn n i gaps → n < (get_or gaps i d).to
lies-end n i d [] h = absurd h
lies-end n zero d (gap ∷ gaps) h = h.1
lies-end n (suc i) d (gap ∷ gaps) h = lies-end n i d gaps h

-- where each gap begins, it lies
pub lies-first : (low i : ℕ) (d : Gap) (gaps : List Gap) → GapsFrom low gaps → i < length gaps → LiesIn (get_or gaps i d).from i gaps
lies-first low i d [] r l = absurd (omega arith)
lies-first low zero d (gap ∷ gaps) r l = (omega arith, r.1)
lies-first low (suc i) d (gap ∷ gaps) r l = lies-first gap.to i d gaps r.2 (omega arith)

-- a gap that ends early is not the last one
pub not-last : (n i : ℕ) (d : Gap) (gaps : List Gap) → EndsLast gaps → LiesIn n i gaps → (get_or gaps i d).to < 2 ^ 32 - 1 → i + 1 < length gaps
not-last n i d [] e h l = absurd h
not-last n zero d (gap ∷ []) e h l = let k : gap.to ≡ 2 ^ 32 - 1 = e in absurd (omega arith)
not-last n zero d (gap ∷ g ∷ gaps) e h l = omega arith
not-last n (suc i) d (gap ∷ []) e h l = absurd h
not-last n (suc i) d (gap ∷ g ∷ gaps) e h l = let k : i + 1 < length (g ∷ gaps) = not-last n i d (g ∷ gaps) e h l in omega arith

-- ---- the least number that is not taken

lower-apart : (low b : ℕ) (gaps : List Gap) → GapsFrom low gaps → b < low → members (outside low gaps) b ≡ false
lower-apart low b [] r l = refl
lower-apart low b (gap ∷ gaps) r l =
    let a : low ≤ gap.from = r.0 in
    let e : gap.from < gap.to = r.1 in
    members-append (up_to low gap.from) (outside gap.to gaps) b
    ∙ or_from _ _ (up_to-lacks_lower low gap.from b l) (lower-apart gap.to b gaps r.2 (omega arith))

not-outside : (low n i : ℕ) (gaps : List Gap) → GapsFrom low gaps → LiesIn n i gaps → members (outside low gaps) n ≡ false
not-outside low n i [] r h = refl
not-outside low n zero (gap ∷ gaps) r h =
    let a : low ≤ gap.from = r.0 in
    let b : gap.from ≤ n = h.0 in
    members-append (up_to low gap.from) (outside gap.to gaps) n
    ∙ or_from _ _ (up_to-lacks_higher low gap.from n (omega arith) b) (lower-apart gap.to n gaps r.2 h.1)
not-outside low n (suc i) (gap ∷ gaps) r h =
    let a : low ≤ gap.from = r.0 in
    let e : gap.from < gap.to = r.1 in
    let k : gap.to ≤ n = lies-above gap.to n i gaps r.2 h in
    members-append (up_to low gap.from) (outside gap.to gaps) n
    ∙ or_from _ _ (up_to-lacks_higher low gap.from n (omega arith) (omega arith)) (not-outside gap.to n i gaps r.2 h)

not-inside : (n : ℕ) (gaps : List Gap) → members (inside_below n gaps) n ≡ false
not-inside n [] = refl
not-inside n (gap ∷ gaps) =
    members-append (up_to gap.from (min n gap.to)) (inside_below n gaps) n
    ∙ or_from _ _ (⊎_elim (λ l. up_to-lacks_lower gap.from (min n gap.to) n l) (λ l. up_to-lacks_higher gap.from (min n gap.to) n l (omega arith)) (cases_lt n gap.from))
    (not-inside n gaps)

lower-taken : (low n i : ℕ) (gaps : List Gap) → GapsFrom low gaps → LiesIn n i gaps → (b : ℕ) → low ≤ b → b < n
    → (members (inside_below n gaps) b ≡ true) ⊎ (members (outside low gaps) b ≡ true)
lower-taken low n i [] r h b l k = absurd h
lower-taken low n zero (gap ∷ gaps) r h b l k =
    let e : n < gap.to = h.1 in
    ⊎_elim
    (λ p. inr (members-append (up_to low gap.from) (outside gap.to gaps) b ∙ or_left _ _ (up_to-has low gap.from b l p)))
    (λ p. inl (members-append (up_to gap.from (min n gap.to)) (inside_below n gaps) b ∙ or_left _ _ (up_to-has gap.from (min n gap.to) b p (omega arith))))
    (cases_lt b gap.from)
lower-taken low n (suc i) (gap ∷ gaps) r h b l k =
    ⊎_elim
    (λ p. inr (members-append (up_to low gap.from) (outside gap.to gaps) b ∙ or_left _ _ (up_to-has low gap.from b l p)))
    (λ p. ⊎_elim
    (λ q. inl (members-append (up_to gap.from (min n gap.to)) (inside_below n gaps) b ∙ or_left _ _ (up_to-has gap.from (min n gap.to) b p (omega arith))))
    (λ q. ⊎_elim
    (λ m. inl (members-append (up_to gap.from (min n gap.to)) (inside_below n gaps) b ∙ or_right _ _ m))
    (λ m. inr (members-append (up_to low gap.from) (outside gap.to gaps) b ∙ or_right _ _ m))
    (lower-taken gap.to n i gaps r.2 h b q k))
    (cases_lt b gap.to))
    (cases_lt b gap.from)

pub gaps-least : (gaps : List Gap) (at : Position) → AreGaps gaps at → IsLeastFree (inside_below at.number gaps ++ outside 1 gaps) at.number
gaps-least gaps at g = record {
  positive = let l : 1 ≤ at.number = lies-above 1 at.number at.gap gaps g.rise g.here in omega arith;
  free = members-append (inside_below at.number gaps) (outside 1 gaps) at.number ∙ or_from _ _ (not-inside at.number gaps) (not-outside 1 at.number at.gap gaps g.rise g.here);
  least = λ b p l. members-append (inside_below at.number gaps) (outside 1 gaps) b
      ∙ ⊎_elim (λ m. or_left _ _ m) (λ m. or_right _ _ m) (lower-taken 1 at.number at.gap gaps g.rise g.here b (omega arith) l);
}

-- ---- one number more

pub inside-none : (n low : ℕ) (gaps : List Gap) → n ≤ low → GapsFrom low gaps → inside_below n gaps ≡ []
inside-none n low [] l r = refl
inside-none n low (gap ∷ gaps) l r =
    let a : low ≤ gap.from = r.0 in
    let e : gap.from < gap.to = r.1 in
    ap₂ ◌++◌ (up_to-none gap.from (min n gap.to) (omega arith)) (inside-none n gap.to gaps (omega arith) r.2)

pub inside-next : (low n i : ℕ) (gaps : List Gap) → GapsFrom low gaps → LiesIn n i gaps → inside_below (n + 1) gaps ≡ inside_below n gaps ++ (n ∷ [])
inside-next low n i [] r h = absurd h
inside-next low n zero (gap ∷ gaps) r h =
    let a : gap.from ≤ n = h.0 in
    let b : n < gap.to = h.1 in
    let more : min (n + 1) gap.to ≡ n + 1 = omega arith in
    let less : n ≡ min n gap.to = omega arith in
    ap₂ (λ z xs. up_to gap.from z ++ xs) more (inside-none (n + 1) gap.to gaps (omega arith) r.2)
    ∙ append-nil (up_to gap.from (n + 1))
    ∙ up_to-more gap.from n a
    ∙ ap (λ xs. xs ++ (n ∷ [])) (sym (append-nil (up_to gap.from n)) ∙ ap₂ (λ z xs. up_to gap.from z ++ xs) less (sym (inside-none n gap.to gaps (omega arith) r.2)))
inside-next low n (suc i) (gap ∷ gaps) r h =
    let k : gap.to ≤ n = lies-above gap.to n i gaps r.2 h in
    let same : min (n + 1) gap.to ≡ min n gap.to = omega arith in
    ap₂ (λ z xs. up_to gap.from z ++ xs) same (inside-next gap.to n i gaps r.2 h)
    ∙ sym (append_assoc (up_to gap.from (min n gap.to)) (inside_below n gaps) (n ∷ []))

-- from the end of a gap to where the next one begins nothing lies in a gap
pub inside-jump : (low i : ℕ) (d : Gap) (gaps : List Gap) → GapsFrom low gaps → i + 1 < length gaps
    → (low ≤ (get_or gaps i d).to) × ((get_or gaps i d).to ≤ (get_or gaps (suc i) d).from) × (inside_below (get_or gaps (suc i) d).from gaps ≡ inside_below (get_or gaps i d).to gaps)
inside-jump low i d [] r l = absurd (omega arith)
inside-jump low zero d (gap ∷ []) r l = absurd (omega arith)
inside-jump low zero d (gap ∷ g ∷ gaps) r l =
    let a : low ≤ gap.from = r.0 in
    let b : gap.from < gap.to = r.1 in
    let e : gap.to ≤ g.from = r.2.0 in
    let same : min g.from gap.to ≡ min gap.to gap.to = omega arith in (
      omega arith,
      e,
      ap₂ (λ z xs. up_to gap.from z ++ xs) same
          (inside-none g.from g.from (g ∷ gaps) (omega arith) (omega arith, r.2.1, r.2.2) ∙ sym (inside-none gap.to gap.to (g ∷ gaps) (omega arith) r.2)),
    )
inside-jump low (suc i) d (gap ∷ gaps) r l =
    let a : low ≤ gap.from = r.0 in
    let b : gap.from < gap.to = r.1 in
    let k : (gap.to ≤ (get_or gaps i d).to) × ((get_or gaps i d).to ≤ (get_or gaps (suc i) d).from) × (inside_below (get_or gaps (suc i) d).from gaps ≡ inside_below (get_or gaps i d).to gaps) = inside-jump gap.to i d gaps r.2 (omega arith) in
    let low-is : gap.to ≤ (get_or gaps i d).to = k.0 in
    let up : (get_or gaps i d).to ≤ (get_or gaps (suc i) d).from = k.1 in
    let same : min (get_or gaps (suc i) d).from gap.to ≡ min (get_or gaps i d).to gap.to = omega arith in
    (omega arith, up, ap₂ (λ z xs. up_to gap.from z ++ xs) same k.2)

-- the number where the next gap begins, where the present gap is used up
pub gaps-jump : (gaps : List Gap) (at : Position) (d : Gap) → AreGaps gaps at → (get_or gaps at.gap d).to ≤ at.number + 1 → at.gap + 1 < length gaps
    → AreGaps gaps (record { gap = at.gap + 1; number = (get_or gaps (at.gap + 1) d).from })
    × (inside_below (get_or gaps (at.gap + 1) d).from gaps ≡ inside_below at.number gaps ++ (at.number ∷ []))
gaps-jump gaps at d g l within =
    let end : at.number < (get_or gaps at.gap d).to = lies-end at.number at.gap d gaps g.here in
    let is : (get_or gaps at.gap d).to ≡ at.number + 1 = omega arith in
    let next : at.gap + 1 ≡ suc at.gap = add-one at.gap in (
      record { rise = g.rise; last = g.last; here = lies-first 1 (at.gap + 1) d gaps g.rise within },
      ap (λ i. inside_below (get_or gaps i d).from gaps) next
          ∙ (inside-jump 1 at.gap d gaps g.rise within).2
          ∙ ap (λ n. inside_below n gaps) is
          ∙ inside-next 1 at.number at.gap gaps g.rise g.here,
    )

-- ---- the gaps between rising numbers

first-outside : (low : ℕ) (gaps : List Gap) → GapsFrom (low + 1) gaps → EndsLast gaps → outside low gaps ≡ low ∷ outside (low + 1) gaps
first-outside low [] r e = absurd e
first-outside low (gap ∷ gaps) r e =
    let a : low + 1 ≤ gap.from = r.0 in
    ap (λ xs. xs ++ outside gap.to gaps) (up_to-first low gap.from (omega arith))

GapsFrom-lower : (low high : ℕ) (gaps : List Gap) → low ≤ high → GapsFrom high gaps → GapsFrom low gaps
GapsFrom-lower low high [] l r = tt
GapsFrom-lower low high (gap ∷ gaps) l r = (let a : high ≤ gap.from = r.0 in omega arith, r.1, r.2)

ends-behind : (gap : Gap) (gaps : List Gap) → EndsLast gaps → EndsLast (gap ∷ gaps)
ends-behind gap [] e = absurd e
ends-behind gap (g ∷ gaps) e = e

-- what the gaps between rising atoms are
pub record Between (low : ℕ) (atoms : List ℕ) (gaps : List Gap) : Type 0 where
  pub rise : GapsFrom low gaps
  pub last : EndsLast gaps
  pub outside_is : outside low gaps ≡ atoms

pub gaps_of-between : (low : ℕ) (atoms : List ℕ) → low ≤ 2 ^ 30 → RisesFrom low atoms → AllByRecursion (λ a. a ≤ 2 ^ 30) atoms → Between (low + 1) atoms (gaps_of (low + 1) atoms)
gaps_of-between low [] l r f = record {
  rise = (omega arith, omega arith, tt);
  last = refl;
  outside_is = append-nil (up_to (low + 1) (low + 1)) ∙ up_to-none (low + 1) (low + 1) (omega arith);
}
gaps_of-between low (a ∷ as_) l r f =
    let above : low < a = r.0 in
    let rest : Between (a + 1) as_ (gaps_of (a + 1) as_) = gaps_of-between a as_ f.0 r.1 f.1 in
    let whole : outside a (gaps_of (a + 1) as_) ≡ a ∷ as_ = first-outside a (gaps_of (a + 1) as_) rest.rise rest.last ∙ ap (λ xs. a ∷ xs) rest.outside_is in
    cond_both (nat_lt (low + 1) a) (record { from = low + 1; to = a } ∷ gaps_of (a + 1) as_) (gaps_of (a + 1) as_) (Between (low + 1) (a ∷ as_))
    (λ e. let below : low + 1 < a = ltb-true (low + 1) a e in record {
      rise = (omega arith, below, GapsFrom-lower a (a + 1) (gaps_of (a + 1) as_) (omega arith) rest.rise);
      last = ends-behind (record { from = low + 1; to = a }) (gaps_of (a + 1) as_) rest.last;
      outside_is = ap (λ xs. xs ++ outside a (gaps_of (a + 1) as_)) (up_to-none (low + 1) (low + 1) (omega arith)) ∙ whole;
    })
    (λ e. let le : a ≤ low + 1 = ltb-false (low + 1) a e in let same : a ≡ low + 1 = omega arith in record {
      rise = GapsFrom-lower (low + 1) (a + 1) (gaps_of (a + 1) as_) (omega arith) rest.rise;
      last = rest.last;
      outside_is = ap (λ n. outside n (gaps_of (a + 1) as_)) (sym same) ∙ whole;
    })

-- the first position
pub gaps-begin : (atoms : List ℕ) (gaps : List Gap) (d : Gap) → RisesFrom 0 atoms → AllByRecursion (λ a. a ≤ 2 ^ 30) atoms → gaps ≡ gaps_of 1 atoms
    → (0 < length gaps) × AreGaps gaps (record { gap = 0; number = (get_or gaps 0 d).from }) × (outside 1 gaps ≡ atoms) × (inside_below (get_or gaps 0 d).from gaps ≡ [])
gaps-begin atoms gaps d r f is =
    let between : Between 1 atoms gaps = subst (Between 1 atoms) (sym is) (gaps_of-between 0 atoms (omega arith) r f) in by gaps between
  where
    by : (gs : List Gap) → Between 1 atoms gs
        → (0 < length gs) × AreGaps gs (record { gap = 0; number = (get_or gs 0 d).from }) × (outside 1 gs ≡ atoms) × (inside_below (get_or gs 0 d).from gs ≡ [])
    by [] b = absurd b.last
    by (gap ∷ gs) b = (
      omega arith,
      record { rise = b.rise; last = b.last; here = (omega arith, b.rise.1) },
      b.outside_is,
      inside-none gap.from gap.from (gap ∷ gs) (omega arith) (omega arith, b.rise.1, b.rise.2),
    )
