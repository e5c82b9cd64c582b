-- Bodies that are written are read back.
use Rattle.std.proofs.Common.{◌≡◌, refl, sym, ◌∙◌, ap, ℕ, suc, ◌+◌, ◌-◌, ◌^◌, ◌≤◌, nat_lt, ℤ, not, List, [], ◌∷◌, ◌++◌, map, filter, length, length-append, append_assoc, append-nil, Ok, decimal, arith}
use Rattle.std.specs.Fmt.{signed_decimal}
use Rattle.std.specs.List.{AllByRecursion}
use Rattle.std.proofs.lemmas.Bool.{le-ltb}
use Rattle.std.proofs.lemmas.List.{length-map}
use Rattle.asp_base.specs.Literal.{Literal, Pos, Neg, is_positive}
use Rattle.ground_program.specs.Facts.{IsAtom, FitsWeight, FitsBodyWeight}
use Rattle.ground_program.specs.declared.program.Body.{Body}
use Rattle.ground_program.specs.declared.program.Body.TheVariants.{All, Sum}
use Rattle.ground_program.specs.declared.reading.ReadKind.TheVariants as kinds
use Rattle.asp_base.specs.Faults.{◌>>=◌}
use Rattle.statement_fields.specs.Fields.{Reading, unless, count, atom, body_weight, many}
use Rattle.statement_fields.specs.FieldWords.{spaced_before}
use Rattle.statement_fields.proofs.Spacing.{map-words}
use Rattle.statement_fields.proofs.FieldText.{passes, count-read, atom-read, weight-read, body_weight-read, many-read}
use Rattle.smodels_format.specs.Read.{counts, literals, plain_body, weighted, items, weight_body}
use Rattle.smodels_format.specs.Written.{count_words, plain_words, literals_of, item_words, body_words}
use Rattle.smodels_format.proofs.TextParts.{ordered, LiteralsInOrder, ItemsInOrder}

-- ---- lists of one word each

pub atoms-read : (xs : List ℕ) (more : List (List ℕ)) → AllByRecursion IsAtom xs → many atom (length xs) (spaced_before (map decimal xs ++ more)) ≡ Ok (xs, spaced_before more)
atoms-read xs more h =
    ap (λ words. many atom (length xs) (spaced_before (words ++ more))) (map-words decimal xs) ∙ many-read atom (λ a. decimal a ∷ []) IsAtom atom-read xs more h

abbrev weight_word : Literal × ℤ → List ℕ
weight_word item = signed_decimal item.1

abbrev weights_of : List (Literal × ℤ) → List ℤ
weights_of xs = map (λ item. item.1) xs

weights-read : (xs : List (Literal × ℤ)) (more : List (List ℕ)) → AllByRecursion (λ item. FitsBodyWeight item.1) xs
    → many body_weight (length xs) (spaced_before (map weight_word xs ++ more)) ≡ Ok (weights_of xs, spaced_before more)
weights-read [] more h = refl
weights-read (x ∷ xs) more h =
    let k1 : ℤ × List ℕ → Reading (List ℤ) = λ first. many body_weight (length xs) first.1 >>= λ rest. Ok (first.0 ∷ rest.0, rest.1) in
    let k2 : List ℤ × List ℕ → Reading (List ℤ) = λ rest. Ok (x.1 ∷ rest.0, rest.1) in
    ap (λ r. r >>= k1) (body_weight-read x.1 (map weight_word xs ++ more) h.0) ∙ ap (λ r. r >>= k2) (weights-read xs more h.1)

-- ---- literals with the negative ones first

length-ordered : (negs poss : List ℕ) → length (ordered negs poss) ≡ length negs + length poss
length-ordered negs poss =
    omega (arith, length-append (map (λ a. Neg a) negs) (map (λ a. Pos a) poss), length-map {B = Literal} negs (λ a. Neg a), length-map {B = Literal} poss (λ a. Pos a))

length-negatives : (negs poss : List ℕ) → length (filter (λ l. not (is_positive l)) (ordered negs poss)) ≡ length negs
length-negatives [] [] = refl
length-negatives [] (a ∷ poss) = length-negatives [] poss
length-negatives (a ∷ negs) poss = ap suc (length-negatives negs poss)

plain-words : (negs poss : List ℕ) → plain_words (ordered negs poss) ≡ map decimal negs ++ map decimal poss
plain-words [] [] = refl
plain-words [] (a ∷ poss) = ap (λ words. decimal a ∷ words) (plain-words [] poss)
plain-words (a ∷ negs) poss = ap (λ words. decimal a ∷ words) (plain-words negs poss)

numbers-read : (n m : ℕ) (more : List (List ℕ)) → n + m ≤ 2 ^ 24 → counts (spaced_before (decimal (n + m) ∷ decimal n ∷ more)) ≡ Ok ((n, m), spaced_before more)
numbers-read n m more h =
    let k1 : ℕ × List ℕ → Reading (ℕ × ℕ) = λ lits. count lits.1 >>= λ negs. unless (nat_lt lits.0 negs.0) kinds.BadNumber (Ok ((negs.0, lits.0 - negs.0), negs.1)) in
    let k2 : ℕ × List ℕ → Reading (ℕ × ℕ) = λ negs. unless (nat_lt (n + m) negs.0) kinds.BadNumber (Ok ((negs.0, (n + m) - negs.0), negs.1)) in
    let difference : (n + m) - n ≡ m = omega arith in
    ap (λ r. r >>= k1) (count-read (n + m) (decimal n ∷ more) h)
    ∙ (ap (λ r. r >>= k2) (count-read n more (omega arith))
    ∙ (passes (nat_lt (n + m) n) kinds.BadNumber (Ok ((n, (n + m) - n), spaced_before more)) (le-ltb (n + m) n (omega arith))
    ∙ ap (λ (k : ℕ). Ok ((n, k), spaced_before more)) difference))

counts-read : (lits : List Literal) (h : LiteralsInOrder lits) (more : List (List ℕ)) → counts (spaced_before (count_words lits ++ more)) ≡ Ok ((length h.negs, length h.poss), spaced_before more)
counts-read lits h more =
    let size : length lits ≡ length h.negs + length h.poss = ap length h.is ∙ length-ordered h.negs h.poss in
    let negatives : length (filter (λ l. not (is_positive l)) lits) ≡ length h.negs = ap (λ ls. length (filter (λ l. not (is_positive l)) ls)) h.is ∙ length-negatives h.negs h.poss in
    let short : length lits ≤ 2 ^ 24 = h.short in
    ap (λ n. counts (spaced_before (decimal n ∷ decimal (length (filter (λ l. not (is_positive l)) lits)) ∷ more))) size
    ∙ (ap (λ n. counts (spaced_before (decimal (length h.negs + length h.poss) ∷ decimal n ∷ more))) negatives
    ∙ numbers-read (length h.negs) (length h.poss) more (omega arith))

literals-read : (lits : List Literal) (h : LiteralsInOrder lits) (more : List (List ℕ)) → literals (length h.negs, length h.poss) (spaced_before (plain_words lits ++ more)) ≡ Ok (lits, spaced_before more)
literals-read lits h more =
    let n : ℕ × ℕ = (length h.negs, length h.poss) in
    let k1 : List ℕ × List ℕ → Reading (List Literal) = λ negs. many atom (length h.poss) negs.1 >>= λ poss. Ok (map (λ a. Neg a) negs.0 ++ map (λ a. Pos a) poss.0, poss.1) in
    let k2 : List ℕ × List ℕ → Reading (List Literal) = λ poss. Ok (map (λ a. Neg a) h.negs ++ map (λ a. Pos a) poss.0, poss.1) in
    ap (λ ls. literals n (spaced_before (plain_words ls ++ more))) h.is
    ∙ (ap (λ words. literals n (spaced_before (words ++ more))) (plain-words h.negs h.poss)
    ∙ (ap (λ words. literals n (spaced_before words)) (append_assoc (map decimal h.negs) (map decimal h.poss) more)
    ∙ (ap (λ r. r >>= k1) (atoms-read h.negs (map decimal h.poss ++ more) h.negs_fit)
    ∙ (ap (λ r. r >>= k2) (atoms-read h.poss more h.poss_fit)
    ∙ ap (λ ls. Ok (ls, spaced_before more)) (sym h.is)))))

-- ---- bodies, which end their lines

pub plain_body-read : (lits : List Literal) → LiteralsInOrder lits → plain_body (spaced_before (body_words lits)) ≡ Ok (All lits, [])
plain_body-read lits h =
    let n : ℕ × ℕ = (length h.negs, length h.poss) in
    let k1 : (ℕ × ℕ) × List ℕ → Reading Body = λ n. literals n.0 n.1 >>= λ read. Ok (All read.0, read.1) in
    let k2 : List Literal × List ℕ → Reading Body = λ read. Ok (All read.0, read.1) in
    ap (λ r. r >>= k1) (counts-read lits h (plain_words lits))
    ∙ (ap (λ words. literals n (spaced_before words) >>= k2) (sym (append-nil (plain_words lits)))
    ∙ ap (λ r. r >>= k2) (literals-read lits h []))

weighted-same : (xs : List (Literal × ℤ)) → weighted (literals_of xs) (weights_of xs) ≡ xs
weighted-same [] = refl
weighted-same (x ∷ xs) = ap (λ rest. x ∷ rest) (weighted-same xs)

pub items-read : (xs : List (Literal × ℤ)) → ItemsInOrder xs → items (spaced_before (item_words xs)) ≡ Ok (xs, [])
items-read xs h =
    let lits : List Literal = literals_of xs in
    let n : ℕ × ℕ = (length h.literals.negs, length h.literals.poss) in
    let words : List (List ℕ) = map weight_word xs in
    let k1 : (ℕ × ℕ) × List ℕ → Reading (List (Literal × ℤ)) =
    λ n. literals n.0 n.1 >>= λ read. many body_weight (n.0.0 + n.0.1) read.1 >>= λ weights. Ok (weighted read.0 weights.0, weights.1) in
    let k2 : List Literal × List ℕ → Reading (List (Literal × ℤ)) = λ read. many body_weight (n.0 + n.1) read.1 >>= λ weights. Ok (weighted read.0 weights.0, weights.1) in
    let k3 : List ℤ × List ℕ → Reading (List (Literal × ℤ)) = λ weights. Ok (weighted lits weights.0, weights.1) in
    let size : n.0 + n.1 ≡ length xs = sym (ap length h.literals.is ∙ length-ordered h.literals.negs h.literals.poss) ∙ length-map xs (λ item. item.0) in
    ap (λ r. r >>= k1) (counts-read lits h.literals (plain_words lits ++ words))
    ∙ (ap (λ r. r >>= k2) (literals-read lits h.literals words)
    ∙ (ap (λ m. many body_weight m (spaced_before words) >>= k3) size
    ∙ (ap (λ ws. many body_weight (length xs) (spaced_before ws) >>= k3) (sym (append-nil words))
    ∙ (ap (λ r. r >>= k3) (weights-read xs [] h.weights)
    ∙ ap (λ (ys : List (Literal × ℤ)). Ok (ys, [])) (weighted-same xs)))))

pub weight_body-read : (bound : ℤ) (xs : List (Literal × ℤ)) → FitsWeight bound → ItemsInOrder xs → weight_body (spaced_before (signed_decimal bound ∷ item_words xs)) ≡ Ok (Sum bound xs, [])
weight_body-read bound xs fits h =
    let k1 : ℤ × List ℕ → Reading Body = λ bound. items bound.1 >>= λ found. Ok (Sum bound.0 found.0, found.1) in
    let k2 : List (Literal × ℤ) × List ℕ → Reading Body = λ found. Ok (Sum bound found.0, found.1) in
    ap (λ r. r >>= k1) (weight-read bound (item_words xs) fits) ∙ ap (λ r. r >>= k2) (items-read xs h)
