-- Level by level the same is reached as by the sum: what counts, and carries, come to.
use Rattle.std.proofs.Common.{◌≡◌, refl, sym, ◌∙◌, ap, ℕ, zero, suc, ◌+◌, ◌*◌, ◌/◌, ◌%◌, ◌-◌, ◌≤◌, ◌<◌, Bool, true, false, cond, leb, List, [], ◌∷◌, ◌++◌, map, replicate, ⊎_elim, arith}
use Rattle.std.proofs.lemmas.Bool.{leb-true, le-leb, lt-leb, leb-false, cases_Bool, cases_lt}
use Rattle.std.proofs.lemmas.List.Sums.{sum_by-cons}
use Rattle.std.proofs.lemmas.Nat.{le-div, div-mul-add, div-add-mod', mod_below, mul-le}
use Rattle.std.proofs.Math.Nat.{add-mul, mul-add, mul_comm, div-eq_of_lt, div-mul-le_self}
use Rattle.asp_base.specs.Literal.{Literal}
use Rattle.ground_program.specs.Radix.{total, rest_sum, divided}
use Rattle.ground_program.proofs.RadixLaws.{total-cons}
use Rattle.rule_network.specs.Truths.{count, ones}
use Rattle.rule_network.proofs.TruthLaws.{count-append}
use Rattle.weight_rules.specs.private.Levels.{held, rests, picked}

pub leb-same : (a b c d : ℕ) → (a ≤ b → c ≤ d) → (c ≤ d → a ≤ b) → leb a b ≡ leb c d
leb-same a b c d f g =
    ⊎_elim (λ e. e ∙ sym (le-leb c d (f (leb-true a b e))))
    (λ e. e ∙ sym (lt-leb c d (⊎_elim (λ l. l)
    (λ l. let x : a ≤ b = g l in let y : b < a = leb-false a b e in absurd (omega arith))
    (cases_lt d c))))
    (cases_Bool (leb a b))

-- the quotient by parts
div-parts : (b h r : ℕ) → 0 < b → (b * h + r) / b ≡ h + r / b
div-parts b h r o =
    let d : r / b * b + r % b ≡ r = div-add-mod' r b in
    let m : (h + r / b) * b ≡ h * b + r / b * b = add-mul h (r / b) b in
    let c : b * h ≡ h * b = mul_comm b h in
    let e : b * h + r ≡ (h + r / b) * b + r % b = omega arith in
    ap (λ n. n / b) e ∙ div-mul-add (h + r / b) b (r % b) (mod_below r b o)

-- ---- carries

none-left : (b n m : ℕ) → n < b → m < b → n / b ≡ m / b
none-left b n m i j = div-eq_of_lt i ∙ sym (div-eq_of_lt j)

-- of true entries, and then false ones
count-picked : (b skip c n : ℕ) → skip < b → c ≤ n
    → count (picked b skip (ones c n)) ≡ (c + (b - 1 - skip)) / b
count-picked b skip c zero l i =
    let h : c + (b - 1 - skip) < b = omega arith in sym (div-eq_of_lt h)
count-picked b zero zero (suc n) l i =
    count-picked b (b - 1) 0 n (omega arith) (omega arith)
    ∙ none-left b (0 + (b - 1 - (b - 1))) (0 + (b - 1 - 0)) (omega arith) (omega arith)
count-picked b (suc skip) zero (suc n) l i =
    count-picked b skip 0 n (omega arith) (omega arith)
    ∙ none-left b (0 + (b - 1 - skip)) (0 + (b - 1 - suc skip)) (omega arith) (omega arith)
count-picked b zero (suc c) (suc n) l i =
    let h : count (picked b (b - 1) (ones c n)) ≡ c / b =
    count-picked b (b - 1) c n (omega arith) (omega arith) ∙ ap (λ x. x / b) (omega arith) in
    let p : (suc c + (b - 1 - 0)) / b ≡ 1 + c / b =
    ap (λ x. x / b) (omega arith) ∙ div-parts b 1 c l in
    omega arith
count-picked b (suc skip) (suc c) (suc n) l i =
    count-picked b skip c n (omega arith) (omega arith) ∙ ap (λ x. x / b) (omega arith)

pub count-carries : (b t c n : ℕ) → t < b → c ≤ n
    → count (picked b (b - t - 1) (ones c n)) ≡ (c + t) / b
count-carries b t c n l i =
    count-picked b (b - t - 1) c n (omega arith) i ∙ ap (λ x. x / b) (omega arith)

-- ---- one level

pub count-replicate : (t : Bool) (n : ℕ) → count (replicate n t) ≡ cond t n 0
count-replicate true zero = refl
count-replicate false zero = refl
count-replicate true (suc n) = ap suc (count-replicate true n)
count-replicate false (suc n) = count-replicate false n

-- the items of the next level
abbrev pub quotients : ℕ → List (Bool × ℕ) → List (Bool × ℕ)
quotients b items = map (λ item. (item.0, item.1 / b)) items

item-parts : (b : ℕ) (t : Bool) (w : ℕ) → cond t w 0 ≡ b * cond t (w / b) 0 + cond t (w % b) 0
item-parts b true w =
    let d : w / b * b + w % b ≡ w = div-add-mod' w b in
    let c : b * (w / b) ≡ w / b * b = mul_comm b (w / b) in
    omega arith
item-parts b false w = omega arith

-- a sum is the radix times the sum of the quotients, and the rests
held-parts : (b : ℕ) (items : List (Bool × ℕ))
    → held items ≡ b * held (quotients b items) + count (rests b items)
held-parts b [] = omega arith
held-parts b (item ∷ items) =
    let h : held items ≡ b * held (quotients b items) + count (rests b items) =
    held-parts b items in
    let p : cond item.0 item.1 0 ≡ b * cond item.0 (item.1 / b) 0 + cond item.0 (item.1 % b) 0 =
    item-parts b item.0 item.1 in
    let q : count (replicate (item.1 % b) item.0 ++ rests b items)
    ≡ cond item.0 (item.1 % b) 0 + count (rests b items) =
    count-append (replicate (item.1 % b) item.0) (rests b items)
    ∙ ap (λ n. n + count (rests b items)) (count-replicate item.0 (item.1 % b)) in
    let m : b * (cond item.0 (item.1 / b) 0 + held (quotients b items))
    ≡ b * cond item.0 (item.1 / b) 0 + b * held (quotients b items) =
    mul-add b (cond item.0 (item.1 / b) 0) (held (quotients b items)) in
    omega arith

total-parts : (b : ℕ) (items : List (Literal × ℕ))
    → total items ≡ b * total (divided b items) + rest_sum b items
total-parts b [] = omega arith
total-parts b (item ∷ items) =
    let h : total items ≡ b * total (divided b items) + rest_sum b items = total-parts b items in
    let p : item.1 ≡ b * (item.1 / b) + item.1 % b = item-parts b true item.1 in
    let n : total (item ∷ items) ≡ item.1 + total items = total-cons item items in
    let q : total (divided b (item ∷ items)) ≡ item.1 / b + total (divided b items) =
    total-cons (item.0, item.1 / b) (divided b items) in
    let r : rest_sum b (item ∷ items) ≡ item.1 % b + rest_sum b items =
    sum_by-cons (λ item. item.1 % b) item items in
    let m : b * (item.1 / b + total (divided b items))
    ≡ b * (item.1 / b) + b * total (divided b items) =
    mul-add b (item.1 / b) (total (divided b items)) in
    let s : b * total (divided b (item ∷ items)) ≡ b * (item.1 / b + total (divided b items)) =
    ap (λ x. b * x) q in
    omega arith

-- what is held at the next level
pub next-held : (b t carries : ℕ) (items : List (Bool × ℕ)) → 0 < b
    → held (quotients b items) + (count (rests b items) + carries + t) / b
    ≡ (held items + carries + t) / b
next-held b t carries items o =
    let h : held items ≡ b * held (quotients b items) + count (rests b items) =
    held-parts b items in
    sym
    (ap (λ n. n / b) (omega arith)
    ∙ div-parts b (held (quotients b items)) (count (rests b items) + carries + t) o)

pub next-total : (b t carries : ℕ) (items : List (Literal × ℕ)) → 0 < b
    → total (divided b items) + (rest_sum b items + carries + t) / b
    ≡ (total items + carries + t) / b
next-total b t carries items o =
    let h : total items ≡ b * total (divided b items) + rest_sum b items = total-parts b items in
    sym
    (ap (λ n. n / b) (omega arith)
    ∙ div-parts b (total (divided b items)) (rest_sum b items + carries + t) o)

-- Where the radix divides the bound with the tare, it goes into the value with the tare as often as
-- into that, just where the bound is reached.
pub same-reached : (b t bound v : ℕ) → 0 < b → b * ((bound + t) / b) ≡ bound + t
    → leb ((bound + t) / b) ((v + t) / b) ≡ leb bound v
same-reached b t bound v o e =
    let k : ℕ = (bound + t) / b in
    let q : ℕ = (v + t) / b in
    let c : b * k ≡ k * b = mul_comm b k in
    let low : q * b ≤ v + t = div-mul-le_self (v + t) b in
    leb-same k q bound v
    (λ l. let m : k * b ≤ q * b = mul-le k b q b l (omega arith) in omega arith)
    (λ l. le-div k (v + t) b o (omega arith))

pub bound-positive : (b t bound : ℕ) → b * ((bound + t) / b) ≡ bound + t → 0 < bound
    → 0 < (bound + t) / b
bound-positive b t bound e o = go ((bound + t) / b) e
  where
    go : (k : ℕ) → b * k ≡ bound + t → 0 < k
    go zero f = absurd (omega arith)
    go (suc k) f = omega arith

pub bound-enough : (b t bound v : ℕ) → 0 < b → b * ((bound + t) / b) ≡ bound + t → bound ≤ v
    → (bound + t) / b ≤ (v + t) / b
bound-enough b t bound v o e l =
    leb-true ((bound + t) / b) ((v + t) / b) (same-reached b t bound v o e ∙ le-leb bound v l)
