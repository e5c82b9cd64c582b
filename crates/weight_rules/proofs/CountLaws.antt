-- At least k of n literals.
use Rattle.std.proofs.Common.{◌≡◌, refl, sym, ◌∙◌, ap, ℕ, zero, suc, ◌+◌, ◌*◌, ◌/◌, ◌-◌, ◌≤◌, ◌<◌, Bool, true, false, leb, ◌&&◌, ◌||◌, List, [], ◌∷◌, map, length, arith}
use Rattle.std.specs.List.{list_any, list_all}
use Rattle.std.proofs.lemmas.Bool.{le-leb, lt-leb}
use Rattle.std.proofs.lemmas.List.{length-map}
use Rattle.std.proofs.Math.Nat.{add-mul, le-mul_of_pos_right}
use lib.Dec.{leb-suc-suc}
use Rattle.asp_base.specs.Literal.{Literal}
use Rattle.ground_program.specs.Digits.{digits}
use Rattle.ground_program.specs.Room.{equal_measure}
use Rattle.ground_program.proofs.DigitLaws.{digits-step}
use Rattle.rule_network.specs.Block.{Block, Defines, Adds, value, values}
use Rattle.rule_network.specs.Truths.{count}
use Rattle.rule_network.proofs.TruthLaws.{count_le-length}
use Rattle.rule_network.proofs.CellLaws.{adds-same}
use Rattle.weight_rules.proofs.ReachLaws.{same-test}

-- ---- one of them, all of them

any-counts : (bs : List Bool) → list_any (λ b. b) bs ≡ leb 1 (count bs)
any-counts [] = sym (lt-leb 1 0 (omega arith))
any-counts (true ∷ bs) = sym (le-leb 1 (suc (count bs)) (omega arith))
any-counts (false ∷ bs) = any-counts bs

all-few : (bs : List Bool) (n : ℕ) → length bs < n → leb n (count bs) ≡ false
all-few bs n l =
    let h : count bs ≤ length bs = count_le-length bs in lt-leb n (count bs) (omega arith)

all-counts : (bs : List Bool) → list_all (λ b. b) bs ≡ leb (length bs) (count bs)
all-counts [] = refl
all-counts (true ∷ bs) = all-counts bs ∙ sym (leb-suc-suc (length bs) (count bs))
all-counts (false ∷ bs) = sym (all-few bs (suc (length bs)) (omega arith))

any-map : {A : Type 0} (f : A → Bool) (xs : List A) → list_any f xs ≡ list_any (λ b. b) (map f xs)
any-map f [] = refl
any-map f (x ∷ xs) = ap (λ b. f x || b) (any-map f xs)

all-map : {A : Type 0} (f : A → Bool) (xs : List A) → list_all f xs ≡ list_all (λ b. b) (map f xs)
all-map f [] = refl
all-map f (x ∷ xs) = ap (λ b. f x && b) (all-map f xs)

pub any-reaches : (old new : Block) (lits : List Literal) (lit : Literal) (k : ℕ) → k ≡ 1
    → Defines old new lit (λ X M. list_any (value old X M) lits)
    → Defines old new lit (λ X M. leb k (count (values old X M lits)))
any-reaches old new lits lit k e d =
    same-test old new lit (λ X M. list_any (value old X M) lits)
    (λ X M. leb k (count (values old X M lits)))
    (λ X M. any-map (value old X M) lits ∙ any-counts (values old X M lits)
    ∙ ap (λ j. leb j (count (values old X M lits))) (sym e)) d

pub all-reach : (old new : Block) (lits : List Literal) (lit : Literal) (k : ℕ) → k ≡ length lits
    → Defines old new lit (λ X M. list_all (value old X M) lits)
    → Defines old new lit (λ X M. leb k (count (values old X M lits)))
all-reach old new lits lit k e d =
    same-test old new lit (λ X M. list_all (value old X M) lits)
    (λ X M. leb k (count (values old X M lits)))
    (λ X M. all-map (value old X M) lits ∙ all-counts (values old X M lits)
    ∙ ap (λ j. leb j (count (values old X M lits))) (length-map lits (value old X M) ∙ sym e)) d

-- ---- measures

product_least : (a b : ℕ) → 0 < a → 0 < b → a + b ≤ a * b + 1
product_least zero b o p = absurd (omega arith)
product_least (suc a) b o p =
    let m : (a + 1) * b ≡ a * b + 1 * b = add-mul a 1 b in
    let e : suc a * b ≡ (a + 1) * b = ap (λ x. x * b) (omega arith) in
    let l : a ≤ a * b = le-mul_of_pos_right a p in
    omega arith

cells_least : (k n : ℕ) → 0 < k → k ≤ n → n ≤ k * (n - k + 1)
cells_least k n o l =
    let p : k + (n - k + 1) ≤ k * (n - k + 1) + 1 =
    product_least k (n - k + 1) o (omega arith) in omega arith

network_least : (n : ℕ) → 0 < n → n ≤ n * (digits n * digits n)
network_least n o =
    let s : digits n ≡ suc (digits (n / 2)) = digits-step n o in
    let d : 0 < digits n = omega arith in
    let m : digits n ≤ digits n * digits n = le-mul_of_pos_right (digits n) d in
    le-mul_of_pos_right n (omega arith)

pub equal_least : (k n : ℕ) → 0 < k → k ≤ n → 6 * n ≤ equal_measure k n
equal_least k n o l =
    let c : n ≤ k * (n - k + 1) = cells_least k n o l in
    let m : n ≤ n * (digits n * digits n) = network_least n (omega arith) in
    omega arith

pub few-adds : (k n m : ℕ) (old new : Block) → 0 < k → k ≤ n → m ≤ 6 * n → Adds 1 m old new
    → Adds (equal_measure k n) (equal_measure k n) old new
few-adds k n m old new o l s a =
    let p : 6 * n ≤ equal_measure k n = equal_least k n o l in
    adds-same 1 (equal_measure k n) m (equal_measure k n) old new (omega arith) (omega arith) a
