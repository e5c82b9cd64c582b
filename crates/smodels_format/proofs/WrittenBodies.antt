-- Bodies as they are written: the atoms of a sign are put down by one pass over the literals.
use Rattle.smodels_format.proofs.Parted.{length-parted, length-failing, map-filter, pieces_of_both}
use Rattle.std.proofs.Common.{◌≡◌, sym, ◌∙◌, ap, ap₂, ℕ, ℤ, Bool, not, List, [], ◌∷◌, ◌++◌, map, length, append_assoc, decimal}
use Rattle.std.specs.List.{flat_map, filter, count_by}
use Rattle.std.specs.Fmt.{signed_decimal}
use Rattle.std.proofs.lemmas.List.{length-map}
use Rattle.std.proofs.lemmas.List.Folds.{flat_map-map}
use Rattle.asp_base.specs.Literal.{Literal, is_positive, atom_of}
use Rattle.statement_fields.specs.FieldWords.{spaced_before}
use Rattle.statement_fields.proofs.Spacing.{spaced_before-append, spaced_before-map}
use Rattle.smodels_format.specs.Lowering.{negatives_first, items_negatives_first}
use Rattle.smodels_format.specs.Written.{plain_words, literals_of, body_words, item_words}
use Rattle.smodels_format.specs.private.Writing.{has_sign, atom_piece, weight_piece}
use Rattle.smodels_format.specs.declared.sign.Sign.TheVariants.{Negative, Positive}

-- ---- literals

abbrev positive_item : Literal × ℤ → Bool
positive_item item = is_positive item.0

pub literals-written : (lits : List Literal)
    → spaced_before (body_words (negatives_first lits))
    ≡ (32 ∷ decimal (length lits)) ++ ((32 ∷ decimal (count_by (λ l. has_sign Negative l) lits)) ++ (flat_map (λ l. atom_piece Negative l) lits ++ flat_map (λ l. atom_piece Positive l) lits))
literals-written lits =
    ap₂ (λ m n. (32 ∷ decimal m) ++ ((32 ∷ decimal n) ++ spaced_before (plain_words (negatives_first lits)))) (length-parted is_positive lits) (length-failing is_positive lits)
    ∙ ap (λ bytes. (32 ∷ decimal (length lits)) ++ ((32 ∷ decimal (count_by (λ l. not (is_positive l)) lits)) ++ bytes))
    (spaced_before-map (λ l. decimal (atom_of l)) (negatives_first lits) ∙ pieces_of_both is_positive (λ l. 32 ∷ decimal (atom_of l)) lits)

-- ---- items

item-atoms : (items : List (Literal × ℤ))
    → spaced_before (plain_words (literals_of (items_negatives_first items))) ≡ flat_map (λ item. atom_piece Negative item.0) items ++ flat_map (λ item. atom_piece Positive item.0) items
item-atoms items =
    spaced_before-map (λ l. decimal (atom_of l)) (literals_of (items_negatives_first items))
    ∙ (flat_map-map (λ l. 32 ∷ decimal (atom_of l)) (λ item. item.0) (items_negatives_first items)
    ∙ pieces_of_both positive_item (λ item. 32 ∷ decimal (atom_of item.0)) items)

item-weights : (items : List (Literal × ℤ))
    → spaced_before (map (λ item. signed_decimal item.1) (items_negatives_first items)) ≡ flat_map (λ item. weight_piece Negative item) items ++ flat_map (λ item. weight_piece Positive item) items
item-weights items =
    spaced_before-map (λ item. signed_decimal item.1) (items_negatives_first items) ∙ pieces_of_both positive_item (λ item. 32 ∷ signed_decimal item.1) items

pub items-written : (items : List (Literal × ℤ))
    → spaced_before (item_words (items_negatives_first items))
    ≡ ((32 ∷ decimal (length items)) ++ ((32 ∷ decimal (count_by (λ item. has_sign Negative item.0) items)) ++ []))
    ++ (flat_map (λ item. atom_piece Negative item.0) items
    ++ (flat_map (λ item. atom_piece Positive item.0) items
    ++ (flat_map (λ item. weight_piece Negative item) items ++ flat_map (λ item. weight_piece Positive item) items)))
items-written items =
    let ordered : List (Literal × ℤ) = items_negatives_first items in
    let many : length (literals_of ordered) ≡ length items = length-map ordered (λ item. item.0) ∙ length-parted positive_item items in
    let negative : length (filter (λ l. not (is_positive l)) (literals_of ordered)) ≡ count_by (λ item. not (is_positive item.0)) items =
    ap length (sym (map-filter (λ item. item.0) (λ l. not (is_positive l)) ordered)) ∙ length-map (filter (λ item. not (positive_item item)) ordered) (λ item. item.0) ∙ length-failing positive_item items in
    ap₂ (λ m n. (32 ∷ decimal m) ++ ((32 ∷ decimal n) ++ spaced_before (plain_words (literals_of ordered) ++ map (λ item. signed_decimal item.1) ordered))) many negative
    ∙ (ap (λ bytes. (32 ∷ decimal (length items)) ++ ((32 ∷ decimal (count_by (λ item. not (is_positive item.0)) items)) ++ bytes))
    (spaced_before-append (plain_words (literals_of ordered)) (map (λ item. signed_decimal item.1) ordered) ∙ ap₂ (λ ys zs. ys ++ zs) (item-atoms items) (item-weights items))
    ∙ shape (32 ∷ decimal (length items)) (32 ∷ decimal (count_by (λ item. not (is_positive item.0)) items))
    (flat_map (λ item. atom_piece Negative item.0) items) (flat_map (λ item. atom_piece Positive item.0) items)
    (flat_map (λ item. weight_piece Negative item) items) (flat_map (λ item. weight_piece Positive item) items))
  where
    shape : (m n a b c d : List ℕ) → m ++ (n ++ ((a ++ b) ++ (c ++ d))) ≡ (m ++ (n ++ [])) ++ (a ++ (b ++ (c ++ d)))
    shape m n a b c d = simp append_assoc
