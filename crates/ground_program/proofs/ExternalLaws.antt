-- The rules of external atoms, from their settings sorted by atom.
use Rattle.std.proofs.Common.{◌≡◌, refl, sym, ◌∙◌, ap, ap₂, subst, ℕ, suc, ◌<◌, ◌≤◌, ◌==◌, Bool, true, false, cond, not, ◌||◌, ◌&&◌, List, [], ◌∷◌, ◌++◌, length, get_or, map, filter, is_lt, add-one, arith}
use Rattle.std.specs.Prelude.{⊤}
use Rattle.std.specs.List.{AllByRecursion, list_any, flat_map}
use Rattle.std.specs.List.Sorted.{IsPermutation, IsSortedByKey, IsStableByKey, ties}
use Rattle.std.specs.Ordering.{nat_cmp}
use Rattle.std.proofs.lemmas.Bool.{or_left, true≢false, cond-true, cond-false, eqb-false, eqb-true, eq-eqb, ne_eqb}
use Rattle.std.proofs.lemmas.Bool.Decides.{nat_tests}
use Rattle.std.proofs.lemmas.List.Folds.{list_any-append}
use Rattle.std.proofs.lemmas.List.Sorted.{IsPermutation-map, list_any-IsPermutation}
use Rattle.asp_base.specs.Sets.{members}
use Rattle.ground_program.specs.Draft.{external_rule, external_rules, heads_rule, value_of}
use Rattle.ground_program.specs.private.Externals.{begins_with, rules_of_setting, rules_of_last}
use Rattle.rising_numbers.specs.Rising.{RisesFrom}
use Rattle.ground_program.specs.Occurrences.{atoms_of_head}
use Rattle.rising_numbers.specs.Rising.{into_rising, rising}
use Rattle.ground_program.specs.declared.builder.External.{External}
use Rattle.ground_program.specs.declared.builder.External.TheVariants.{Release}
use Rattle.ground_program.specs.declared.program.Rule.{Rule}
use Rattle.rising_numbers.proofs.RisingLaws.{Ascends-rising, RisesFrom-rising, into-lower, into-member, members-rising, same_rising}
use mathlib.Core.Path.{fun_ext}

abbrev Setting : Type 0
Setting = ℕ × External

abbrev atoms_of_settings : List Setting → List ℕ
atoms_of_settings sets = map (λ set. set.0) sets

abbrev is_set : ℕ → List Setting → Bool
is_set a sets = list_any (λ later. later.0 == a) sets

-- no atom is below the one before it
abbrev NoneFalls : ℕ → List Setting → Type 0
NoneFalls low [] = ⊤
NoneFalls low (set ∷ sets) = (low ≤ set.0) × NoneFalls set.0 sets

abbrev rules_of_value : List ℕ → ℕ → External → List Rule
rules_of_value heads a value = cond (members heads a) [] (external_rule a value)

-- ---- values

value-repeated : (a : ℕ) (set : Setting) (sets : List Setting) → is_set set.0 sets ≡ true → value_of a (set ∷ sets) ≡ value_of a sets
value-repeated a set sets h = cond-false ((set.0 == a) && not (is_set a sets)) _ _ (by (set.0 == a) refl)
  where
    by : (v : Bool) → (set.0 == a) ≡ v → (v && not (is_set a sets)) ≡ false
    by true e = ap not (subst (λ z. is_set z sets ≡ true) (eqb-true set.0 a e) h)
    by false e = refl

value-last : (set : Setting) (sets : List Setting) → is_set set.0 sets ≡ false → value_of set.0 (set ∷ sets) ≡ set.1
value-last set sets h = cond-true ((set.0 == set.0) && not (is_set set.0 sets)) _ _ (ap₂ ◌&&◌ (eq-eqb set.0 set.0 refl) (ap not h))

value-other : (a : ℕ) (set : Setting) (sets : List Setting) → (set.0 == a) ≡ false → value_of a (set ∷ sets) ≡ value_of a sets
value-other a set sets h = cond-false ((set.0 == a) && not (is_set a sets)) _ _ (ap (λ v. v && not (is_set a sets)) h)

-- ---- settings sorted by atom

begins-set : (a : ℕ) (sets : List Setting) → begins_with a sets ≡ true → is_set a sets ≡ true
begins-set a [] e = absurd (true≢false (sym e))
begins-set a (set ∷ sets) e = or_left _ _ e

above-all : (low : ℕ) (sets : List Setting) → NoneFalls low sets → (a : ℕ) → a < low → AllByRecursion (λ x. a < x) (atoms_of_settings sets)
above-all low [] r a h = tt
above-all low (set ∷ sets) r a h = let le : low ≤ set.0 = r.0 in (omega arith, above-all set.0 sets r.1 a (omega arith))

above-others : (a : ℕ) (sets : List Setting) → NoneFalls a sets → begins_with a sets ≡ false → AllByRecursion (λ x. a < x) (atoms_of_settings sets)
above-others a [] r e = tt
above-others a (set ∷ sets) r e =
    let le : a ≤ set.0 = r.0 in
    let ne : set.0 ≡ a → ⊥ = eqb-false set.0 a e in
    (omega arith, above-all set.0 sets r.1 a (omega arith))

none-set : (a : ℕ) (sets : List Setting) → AllByRecursion (λ x. a < x) (atoms_of_settings sets) → is_set a sets ≡ false
none-set a [] h = refl
none-set a (set ∷ sets) h = ap₂ ◌||◌ (ne_eqb set.0 a (λ e. let k : a < set.0 = h.0 in omega arith)) (none-set a sets h.1)

set-members : (a : ℕ) (sets : List Setting) → members (atoms_of_settings sets) a ≡ is_set a sets
set-members a [] = refl
set-members a (set ∷ sets) = ap (λ m. (set.0 == a) || m) (set-members a sets)

-- the same function above where the list begins
flat_map-above : (low : ℕ) (f g : ℕ → List Rule) (xs : List ℕ) → RisesFrom low xs → ((a : ℕ) → low < a → f a ≡ g a) → flat_map f xs ≡ flat_map g xs
flat_map-above low f g [] r h = refl
flat_map-above low f g (x ∷ xs) r h = ap₂ ◌++◌ (h x r.0) (flat_map-above x f g xs r.1 (λ a k. h a (let j : low < x = r.0 in omega arith)))

last-rules : (heads : List ℕ) (low : ℕ) (sets : List Setting) → NoneFalls low sets
    → rules_of_last heads sets ≡ flat_map (λ a. rules_of_value heads a (value_of a sets)) (rising (atoms_of_settings sets))
last-rules heads low [] r = refl
last-rules heads low (set ∷ sets) r = by (begins_with set.0 sets) refl (last-rules heads set.0 sets r.1)
  where
    by : (v : Bool) → begins_with set.0 sets ≡ v
        → rules_of_last heads sets ≡ flat_map (λ a. rules_of_value heads a (value_of a sets)) (rising (atoms_of_settings sets))
        → cond v [] (rules_of_setting heads set) ++ rules_of_last heads sets
        ≡ flat_map (λ a. rules_of_value heads a (value_of a (set ∷ sets))) (into_rising set.0 (rising (atoms_of_settings sets)))
    by true e rest =
        let there : is_set set.0 sets ≡ true = begins-set set.0 sets e in
        let same : (λ a. rules_of_value heads a (value_of a sets)) ≡ (λ a. rules_of_value heads a (value_of a (set ∷ sets))) =
        fun_ext (λ a. ap (rules_of_value heads a) (sym (value-repeated a set sets there))) in
        let kept : into_rising set.0 (rising (atoms_of_settings sets)) ≡ rising (atoms_of_settings sets) =
        into-member set.0 (rising (atoms_of_settings sets)) (Ascends-rising (atoms_of_settings sets))
        (members-rising (atoms_of_settings sets) set.0 ∙ set-members set.0 sets ∙ there) in
        rest ∙ ap₂ flat_map same (sym kept)
    by false e rest =
        let above : AllByRecursion (λ x. set.0 < x) (atoms_of_settings sets) = above-others set.0 sets r.1 e in
        let rises : RisesFrom set.0 (rising (atoms_of_settings sets)) = RisesFrom-rising set.0 (atoms_of_settings sets) above in
        let first : into_rising set.0 (rising (atoms_of_settings sets)) ≡ set.0 ∷ rising (atoms_of_settings sets) = into-lower set.0 _ rises in
        ap₂ ◌++◌ (ap (rules_of_value heads set.0) (sym (value-last set sets (none-set set.0 sets above))))
        (rest ∙ flat_map-above set.0 (λ a. rules_of_value heads a (value_of a sets)) (λ a. rules_of_value heads a (value_of a (set ∷ sets))) (rising (atoms_of_settings sets)) rises
        (λ a k. ap (rules_of_value heads a) (sym (value-other a set sets (ne_eqb set.0 a (λ d. omega arith))))))
        ∙ ap (flat_map (λ a. rules_of_value heads a (value_of a (set ∷ sets)))) (sym first)

-- ---- a stable sort by atom

abbrev pub SortedSettings : List Setting → Type 0
SortedSettings sets = IsSortedByKey {X = Setting} (λ set. set.0) nat_cmp sets

abbrev pub StableSettings : List Setting → List Setting → Type 0
StableSettings sets sorted = IsStableByKey {X = Setting} (λ set. set.0) nat_cmp sets sorted

tie-is : (a b : ℕ) → (not (is_lt (nat_cmp b a)) && not (is_lt (nat_cmp a b))) ≡ (a == b)
tie-is a b = grind (arith, nat_tests)

set-filter : (a : ℕ) (q : Setting → Bool) (sets : List Setting) → ((set : Setting) → q set ≡ (set.0 == a)) → is_set a (filter q sets) ≡ is_set a sets
set-filter a q [] h = refl
set-filter a q (set ∷ sets) h = elim (q set) as (λ v. q set ≡ v → is_set a (cond v (set ∷ filter q sets) (filter q sets)) ≡ is_set a (set ∷ sets)) [
  | true ↦ (λ e. ap (λ m. (set.0 == a) || m) (set-filter a q sets h))
  | false ↦ (λ e. set-filter a q sets h ∙ ap (λ u. u || is_set a sets) (sym e ∙ h set))
] refl

value-filter : (a : ℕ) (q : Setting → Bool) (sets : List Setting) → ((set : Setting) → q set ≡ (set.0 == a)) → value_of a (filter q sets) ≡ value_of a sets
value-filter a q [] h = refl
value-filter a q (set ∷ sets) h = elim (q set) as (λ v. q set ≡ v → value_of a (cond v (set ∷ filter q sets) (filter q sets)) ≡ value_of a (set ∷ sets)) [
  | true ↦ (λ e. ap₂ (λ m rest. cond ((set.0 == a) && not m) set.1 rest) (set-filter a q sets h) (value-filter a q sets h))
  | false ↦ (λ e. value-filter a q sets h ∙ sym (value-other a set sets (sym (h set) ∙ e)))
] refl

value-sorted : (sets sorted : List Setting) → StableSettings sets sorted → (a : ℕ) → value_of a sorted ≡ value_of a sets
value-sorted sets sorted stable a = sym (value-filter a tied sorted tied-is) ∙ ap (value_of a) (stable (a, Release)) ∙ value-filter a tied sets tied-is
  where
    tied : Setting → Bool
    tied set = ties (λ x y. is_lt (nat_cmp x.0 y.0)) (a, Release) set

    tied-is : (set : Setting) → tied set ≡ (set.0 == a)
    tied-is set = tie-is set.0 a

rising-sorted : (sets sorted : List Setting) → IsPermutation sets sorted → rising (atoms_of_settings sorted) ≡ rising (atoms_of_settings sets)
rising-sorted sets sorted p =
    let same : (a : ℕ) → members (rising (atoms_of_settings sorted)) a ≡ members (rising (atoms_of_settings sets)) a = λ a.
    members-rising (atoms_of_settings sorted) a ∙ sym (list_any-IsPermutation (λ x. x == a) (atoms_of_settings sets) (atoms_of_settings sorted) (IsPermutation-map (λ (set : Setting). set.0) sets sorted p)) ∙ sym (members-rising (atoms_of_settings sets) a) in
    same_rising (rising (atoms_of_settings sorted)) (rising (atoms_of_settings sets)) (Ascends-rising (atoms_of_settings sorted)) (Ascends-rising (atoms_of_settings sets))
    (λ a m. sym (same a) ∙ m) (λ a m. same a ∙ m)

step : (set : Setting) (sets : List Setting) → SortedSettings (set ∷ sets) → SortedSettings sets
step set sets up k d z below = rw add-one (rw add-one at (up (suc k) d (omega arith) (omega arith)))

NoneFalls-from_sorted : (low : ℕ) (sets : List Setting) → SortedSettings sets → ((d : Setting) → 0 < length sets → low ≤ (get_or sets 0 d).0) → NoneFalls low sets
NoneFalls-from_sorted low [] up h = tt
NoneFalls-from_sorted low (set ∷ sets) up h = (
  h set (omega arith),
  NoneFalls-from_sorted set.0 sets (step set sets up)
      (λ d some. not-less set.0 (get_or sets 0 d).0 (up 0 d (omega arith) (omega arith))),
)
  where
    not-less : (a b : ℕ) → is_lt (nat_cmp b a) ≡ false → a ≤ b
    not-less a b e = grind (arith, nat_tests)

-- the heads of the rules
pub heads-are : (rules : List Rule) (a : ℕ) → members (rising (flat_map (λ rule. atoms_of_head rule.head) rules)) a ≡ heads_rule rules a
heads-are rules a = members-rising _ a ∙ all rules
  where
    all : (rs : List Rule) → members (flat_map (λ rule. atoms_of_head rule.head) rs) a ≡ heads_rule rs a
    all [] = refl
    all (rule ∷ rs) = list_any-append (λ x. x == a) (atoms_of_head rule.head) (flat_map (λ r. atoms_of_head r.head) rs) ∙ ap (λ m. members (atoms_of_head rule.head) a || m) (all rs)

-- the last settings of sorted neighbours make the rules of the external atoms
pub external-rules-are : (rules : List Rule) (heads : List ℕ) (sets sorted : List Setting) → ((a : ℕ) → members heads a ≡ heads_rule rules a)
    → IsPermutation sets sorted → SortedSettings sorted → StableSettings sets sorted → rules_of_last heads sorted ≡ external_rules rules sets
external-rules-are rules heads sets sorted are p up stable =
    last-rules heads 0 sorted (NoneFalls-from_sorted 0 sorted up (λ d some. omega arith))
    ∙ ap₂ flat_map (fun_ext (λ a. ap₂ (λ m value. cond m [] (external_rule a value)) (are a) (value-sorted sets sorted stable a))) (rising-sorted sets sorted p)
