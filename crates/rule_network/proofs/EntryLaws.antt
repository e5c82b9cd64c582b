-- Parts and entries of lists, and what the test for an empty list says.
use Rattle.std.proofs.Common.{◌≡◌, sym, ◌∙◌, subst, ℕ, zero, suc, ◌<◌, ◌==◌, Bool, false, List, [], ◌∷◌, drop, length, get_or, arith}
use Rattle.std.specs.List.{AllByRecursion}
use Rattle.std.proofs.lemmas.Bool.{eqb-false}
use Rattle.asp_base.proofs.Each.{each-get}

pub each-drop : {A : Type 0} (P : A → Type 0) (n : ℕ) (xs : List A) → AllByRecursion P xs
    → AllByRecursion P (drop n xs)
each-drop P zero xs h = h
each-drop P (suc n) [] h = tt
each-drop P (suc n) (x ∷ xs) h = each-drop P n xs h.1

-- what holds of each entry holds of the one at an index
pub each-entry : {A : Type 0} (P : A → Type 0) (xs : List A) (i : ℕ) (x : A) → x ≡ get_or xs i x
    → i < length xs → AllByRecursion P xs → P x
each-entry P xs i x e below h = subst P (sym e) (each-get P xs i x below h)

-- a list that is not empty by its test has an entry
pub some_entries : (n : ℕ) (b : Bool) → b ≡ (n == 0) → b ≡ false → 0 < n
some_entries n b e f = let h : n ≡ 0 → ⊥ = eqb-false n 0 (sym e ∙ f) in omega arith
