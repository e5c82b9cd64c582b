-- Bodies with their negative literals first are those that smodels text can say.
use Rattle.std.proofs.Common.{◌≡◌, refl, sym, ◌∙◌, ap₂, subst, ℕ, ◌^◌, ◌≤◌, ℤ, pos, int_lt, Bool, true, false, cond, not, List, [], ◌∷◌, ◌++◌, map, filter, arith}
use Rattle.std.specs.List.{AllByRecursion}
use Rattle.std.proofs.lemmas.Int.{ints}
use Rattle.std.proofs.lemmas.List.{length-map, map-append}
use Rattle.asp_base.specs.Literal.{Literal, Pos, atom_of, is_positive}
use Rattle.ground_program.specs.Facts.{IsAtom, IsShort, FitsWeight, FitsBodyWeight, LiteralsFit}
use Rattle.smodels_format.specs.Lowering.{negatives_first, items_negatives_first, at_least_zero}
use Rattle.smodels_format.specs.Written.{literals_of}
use Rattle.asp_base.proofs.Each.{each-append, each-filter, each-map}
use Rattle.smodels_format.proofs.Parted.{length-parted, map-filter, negatives-are, positives-are}
use Rattle.smodels_format.proofs.TextParts.{LiteralsInOrder, ItemsInOrder}

-- ---- literals

abbrev is_negative : Literal → Bool
is_negative l = not (is_positive l)

pub atoms-fit : (test : Literal → Bool) (lits : List Literal) → LiteralsFit IsAtom lits → AllByRecursion IsAtom (map atom_of (filter test lits))
atoms-fit test lits h = each-map IsAtom atom_of (filter test lits) (each-filter (λ l. IsAtom (atom_of l)) test lits h)

pub literals-in_order : (lits : List Literal) → IsShort lits → LiteralsFit IsAtom lits → LiteralsInOrder (negatives_first lits)
literals-in_order lits short h = record {
  negs = map atom_of (filter is_negative lits);
  poss = map atom_of (filter is_positive lits);
  is = sym (ap₂ ◌++◌ (negatives-are lits) (positives-are lits));
  negs_fit = atoms-fit is_negative lits h;
  poss_fit = atoms-fit is_positive lits h;
  short = subst (λ n. n ≤ 2 ^ 24) (sym (length-parted is_positive lits)) short;
}

-- one positive literal
pub single-in_order : (a : ℕ) → IsAtom a → LiteralsInOrder (Pos a ∷ [])
single-in_order a h = record { negs = []; poss = a ∷ []; is = refl; negs_fit = tt; poss_fit = (h, tt); short = omega arith }

-- ---- items

abbrev literal_of_item : Literal × ℤ → Literal
literal_of_item item = item.0

literals-of : (xs : List (Literal × ℤ)) → literals_of (items_negatives_first xs) ≡ negatives_first (literals_of xs)
literals-of xs =
    map-append literal_of_item (filter (λ item. is_negative item.0) xs) (filter (λ item. is_positive item.0) xs)
    ∙ ap₂ ◌++◌ (map-filter literal_of_item is_negative xs) (map-filter literal_of_item is_positive xs)

pub items-in_order : (xs : List (Literal × ℤ)) → IsShort xs → AllByRecursion (λ item. IsAtom (atom_of item.0)) xs → AllByRecursion (λ item. FitsBodyWeight item.1) xs → ItemsInOrder (items_negatives_first xs)
items-in_order xs short atoms weights = record {
  literals = subst LiteralsInOrder (sym (literals-of xs))
      (literals-in_order (literals_of xs) (subst (λ n. n ≤ 2 ^ 24) (sym (length-map xs literal_of_item)) short) (each-map (λ l. IsAtom (atom_of l)) literal_of_item xs atoms));
  weights = each-append (λ item. FitsBodyWeight item.1) (filter (λ item. is_negative item.0) xs) (filter (λ item. is_positive item.0) xs)
      (each-filter (λ item. FitsBodyWeight item.1) (λ item. is_negative item.0) xs weights) (each-filter (λ item. FitsBodyWeight item.1) (λ item. is_positive item.0) xs weights);
}

pub bound-fits : (bound : ℤ) → FitsWeight bound → FitsWeight (at_least_zero bound)
bound-fits bound h = by (int_lt bound (pos 0))
  where
    by : (b : Bool) → FitsWeight (cond b (pos 0) bound)
    by true = (omega (arith, ints), omega (arith, ints))
    by false = h
