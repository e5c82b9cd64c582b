-- Taking off weights: which rules come to lack nothing, and how much work is left.
use Rattle.std.proofs.Common.{◌≡◌, ◌≢◌, refl, sym, ◌∙◌, ap, subst, ℕ, zero, suc, ◌+◌, ◌-◌, ◌<◌, ◌==◌, nat_lt, Bool, true, false, cond, List, [], ◌∷◌, ◌++◌, length, set, get_or, ⊎_elim, inl, inr, ◌⊎◌, arith}
use Rattle.std.specs.List.{AllByRecursion}
use Rattle.std.proofs.lemmas.Bool.{cond_both, cases_eq, cases_lt, or_left, or_right, or_cases, true≢false, eq-eqb, and_parts, eqb-true, ltb-true, and_right, ne_eqb, lt-ltb, cond-true, and_from}
use Rattle.std.proofs.lemmas.List.{set_past, get_or_past, get_or-set_same, get_or-set_other, get_or_default, length_push}
use Rattle.asp_base.specs.Sets.{members}
use Rattle.stable_check.specs.private.Links.{Entry}
use Rattle.stable_check.specs.private.Growth.{Counts, comes_to_zero, take_off, take_off_all}
use Rattle.asp_base.proofs.Each.{each-weaker, each-push}

members-push : (xs : List ℕ) (x : ℕ) → members (xs ++ (x ∷ [])) x ≡ true
members-push [] x = or_left _ _ (eq-eqb x x refl)
members-push (y ∷ xs) x = or_right _ _ (members-push xs x)

members-before : (xs : List ℕ) (x y : ℕ) → members xs y ≡ true → members (xs ++ (x ∷ [])) y ≡ true
members-before [] x y m = absurd (true≢false (sym m))
members-before (z ∷ xs) x y m = ⊎_elim (λ e. or_left _ _ e) (λ e. or_right _ _ (members-before xs x y e)) (or_cases _ _ m)

-- the rule lacks nothing
abbrev pub Lacks : Counts → ℕ → Type 0
Lacks c r = get_or c.lacks r 1 ≡ 0

-- what a rule lacks after a weight was taken off
abbrev Taken : Counts → Entry → ℕ → Type 0
Taken c entry r = (r ≡ entry.0) × (entry.0 < length c.lacks) × (get_or c.lacks entry.0 0 - entry.1 ≡ 0)

lacks-cases : (c : Counts) (entry : Entry) (r : ℕ) → Lacks (take_off entry c) r → Taken c entry r ⊎ ((r ≢ entry.0) × Lacks c r)
lacks-cases c entry r lacking = ⊎_elim
    (λ e. ⊎_elim
    (λ l. inl (e, l, sym (get_or-set_same c.lacks entry.0 _ 1 l) ∙ subst (λ k. get_or (set c.lacks entry.0 (get_or c.lacks entry.0 0 - entry.1)) k 1 ≡ 0) e lacking))
    (λ l. let none : get_or c.lacks r 1 ≡ 1 = get_or_past c.lacks r 1 (omega arith) in
    let same : get_or (set c.lacks entry.0 (get_or c.lacks entry.0 0 - entry.1)) r 1 ≡ get_or c.lacks r 1 = ap (λ ns. get_or ns r 1) (set_past c.lacks entry.0 _ l) in
    absurd (omega arith))
    (cases_lt entry.0 (length c.lacks)))
    (λ ne. inr (ne, sym (get_or-set_other c.lacks entry.0 r _ 1 ne) ∙ lacking))
    (cases_eq r entry.0)

-- each rule that lacks nothing is ready, or is one of these
abbrev pub Covers : (ℕ → Type 0) → Counts → Type 0
Covers Q c = (r : ℕ) → Lacks c r → (members c.ready r ≡ true) ⊎ Q r

kept : (c : Counts) (entry : Entry) (r : ℕ) → members c.ready r ≡ true → members (take_off entry c).ready r ≡ true
kept c entry r m = cond_both (comes_to_zero (get_or c.lacks entry.0 0) (get_or c.lacks entry.0 0 - entry.1)) _ _ (λ ready. members ready r ≡ true) (λ e. members-before c.ready entry.0 r m) (λ e. m)

covers-take_off : (Q : ℕ → Type 0) (c : Counts) (entry : Entry) → Covers Q c → Covers Q (take_off entry c)
covers-take_off Q c entry h r lacking = ⊎_elim
    (λ t. let before : ℕ = get_or c.lacks entry.0 0 in
    let zeroed : before - entry.1 ≡ 0 = t.2 in
    ⊎_elim
    (λ some. inl (subst (λ k. members (take_off entry c).ready k ≡ true) (sym t.0)
    (subst (λ ready. members ready entry.0 ≡ true)
    (sym (cond-true (comes_to_zero before (before - entry.1)) (c.ready ++ (entry.0 ∷ [])) c.ready (and_from _ _ (lt-ltb 0 before some) (eq-eqb (before - entry.1) 0 zeroed))))
    (members-push c.ready entry.0))))
    (λ none. let was : get_or c.lacks r 1 ≡ 0 =
    ap (λ k. get_or c.lacks k 1) t.0 ∙ get_or_default c.lacks entry.0 1 0 t.1 ∙ (let e : before ≡ 0 = omega arith in e) in
    ⊎_elim (λ m. inl (kept c entry r m)) (λ q. inr q) (h r was))
    (cases_lt 0 before))
    (λ t. ⊎_elim (λ m. inl (kept c entry r m)) (λ q. inr q) (h r t.1))
    (lacks-cases c entry r lacking)

pub covers-take_off_all : (Q : ℕ → Type 0) (entries : List Entry) (c : Counts) → Covers Q c → Covers Q (take_off_all entries c)
covers-take_off_all Q [] c h = h
covers-take_off_all Q (entry ∷ entries) c h = covers-take_off_all Q entries (take_off entry c) (covers-take_off Q c entry h)

-- what lacks nothing stays so
still-lacks : (c : Counts) (entry : Entry) (r : ℕ) → Lacks c r → Lacks (take_off entry c) r
still-lacks c entry r lacking = ⊎_elim
    (λ e. ⊎_elim
    (λ l. let was : get_or c.lacks entry.0 0 ≡ 0 = get_or_default c.lacks entry.0 0 1 l ∙ ap (λ k. get_or c.lacks k 1) (sym e) ∙ lacking in
    ap (λ k. get_or (set c.lacks entry.0 (get_or c.lacks entry.0 0 - entry.1)) k 1) e ∙ get_or-set_same c.lacks entry.0 _ 1 l ∙ (let z : get_or c.lacks entry.0 0 - entry.1 ≡ 0 = omega arith in z))
    (λ l. ap (λ ns. get_or ns r 1) (set_past c.lacks entry.0 _ l) ∙ lacking)
    (cases_lt entry.0 (length c.lacks)))
    (λ ne. get_or-set_other c.lacks entry.0 r _ 1 ne ∙ lacking)
    (cases_eq r entry.0)

ready-take_off : (c : Counts) (entry : Entry) → AllByRecursion (Lacks c) c.ready → AllByRecursion (Lacks (take_off entry c)) (take_off entry c).ready
ready-take_off c entry h =
    let before : ℕ = get_or c.lacks entry.0 0 in
    let all : AllByRecursion (Lacks (take_off entry c)) c.ready = each-weaker (Lacks c) (Lacks (take_off entry c)) (still-lacks c entry) c.ready h in
    cond_both (comes_to_zero before (before - entry.1)) _ _ (λ ready. AllByRecursion (Lacks (take_off entry c)) ready)
    (λ e. let k : (nat_lt 0 before ≡ true) × ((before - entry.1 == 0) ≡ true) = and_parts _ _ e in
    let some : 0 < before = ltb-true 0 before k.0 in
    ⊎_elim
    (λ l. each-push _ c.ready entry.0 all (get_or-set_same c.lacks entry.0 _ 1 l ∙ eqb-true (before - entry.1) 0 k.1))
    (λ l. let none : before ≡ 0 = get_or_past c.lacks entry.0 0 l in absurd (omega arith))
    (cases_lt entry.0 (length c.lacks)))
    (λ e. all)

pub ready-take_off_all : (entries : List Entry) (c : Counts) → AllByRecursion (Lacks c) c.ready → AllByRecursion (Lacks (take_off_all entries c)) (take_off_all entries c).ready
ready-take_off_all [] c h = h
ready-take_off_all (entry ∷ entries) c h = ready-take_off_all entries (take_off entry c) (ready-take_off c entry h)

-- ---- how much work is left

-- a number that is more than nothing counts
abbrev pub sign : ℕ → ℕ
sign zero = 0
sign (suc n) = 1

-- the rules that still lack something
abbrev pub lacking : List ℕ → ℕ
lacking [] = 0
lacking (n ∷ ns) = sign n + lacking ns

abbrev pub left : Counts → ℕ
left c = lacking c.lacks + length c.ready

lacking-set : (ns : List ℕ) (i v : ℕ) → i < length ns → lacking (set ns i v) + sign (get_or ns i 0) ≡ lacking ns + sign v
lacking-set [] i v h = absurd (omega arith)
lacking-set (n ∷ ns) zero v h = omega arith
lacking-set (n ∷ ns) (suc i) v h = let e : lacking (set ns i v) + sign (get_or ns i 0) ≡ lacking ns + sign v = lacking-set ns i v (omega arith) in omega arith

push-if : (b : Bool) (xs : List ℕ) (x : ℕ) → length (cond b (xs ++ (x ∷ [])) xs) ≡ length xs + cond b 1 0
push-if true xs x = length_push xs x
push-if false xs x = omega arith

signs : (before weight : ℕ) → sign (before - weight) + cond (comes_to_zero before (before - weight)) 1 0 ≡ sign before
signs zero weight = let none : zero - weight ≡ 0 = omega arith in ap (λ n. sign n + 0) none
signs (suc n) weight = go (suc n - weight)
  where
    go : (after : ℕ) → sign after + cond (comes_to_zero (suc n) after) 1 0 ≡ 1
    go zero = ap (λ b. 0 + cond b 1 0) (and_from (nat_lt 0 (suc n)) true (lt-ltb 0 (suc n) (omega arith)) refl)
    go (suc k) = ap (λ b. 1 + cond b 1 0) (and_right (nat_lt 0 (suc n)) (suc k == 0) (ne_eqb (suc k) 0 (λ e. omega arith)))

left-take_off : (c : Counts) (entry : Entry) → left (take_off entry c) ≡ left c
left-take_off c entry =
    let before : ℕ = get_or c.lacks entry.0 0 in
    let after : ℕ = before - entry.1 in
    let pushed : length (take_off entry c).ready ≡ length c.ready + cond (comes_to_zero before after) 1 0 = push-if (comes_to_zero before after) c.ready entry.0 in
    let sum : sign after + cond (comes_to_zero before after) 1 0 ≡ sign before = signs before entry.1 in
    ⊎_elim
    (λ l. let e : lacking (set c.lacks entry.0 after) + sign before ≡ lacking c.lacks + sign after = lacking-set c.lacks entry.0 after l in omega arith)
    (λ l. let none : before ≡ 0 = get_or_past c.lacks entry.0 0 l in
    let zero-sign : sign before ≡ 0 = ap sign none in
    let same : lacking (set c.lacks entry.0 after) ≡ lacking c.lacks = ap lacking (set_past c.lacks entry.0 after l) in omega arith)
    (cases_lt entry.0 (length c.lacks))

pub left-take_off_all : (entries : List Entry) (c : Counts) → left (take_off_all entries c) ≡ left c
left-take_off_all [] c = refl
left-take_off_all (entry ∷ entries) c = left-take_off_all entries (take_off entry c) ∙ left-take_off c entry
