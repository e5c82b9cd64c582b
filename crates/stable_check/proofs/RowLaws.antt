-- What stands in the rows of atoms, and what it takes off.
use Rattle.std.proofs.Common.{◌≡◌, refl, sym, ◌∙◌, ap, ℕ, ℤ, suc, ◌+◌, ◌-◌, ◌<◌, ◌==◌, Bool, true, false, cond, List, [], ◌∷◌, ◌++◌, length, map, set, get_or, replicate, append_assoc, arith}
use Rattle.std.specs.List.{AllByRecursion}
use Rattle.std.proofs.lemmas.Bool.{cond_both, eqb-true, cond-true, cond-false, true≢false}
use Rattle.std.proofs.lemmas.List.{set-get_or, set-set, get_or-set_same, get_or_at, set_at, length-append}
use Rattle.asp_base.specs.Literal.{Literal, Pos, Neg, atom_of, literal_holds}
use Rattle.asp_base.specs.Sets.{Set}
use Rattle.ground_program.specs.Facts.{Among, RuleFits, BodyFits, FitsBodyWeight}
use Rattle.rising_numbers.specs.Rising.{RisesFrom}
use Rattle.rising_numbers.specs.Rising.{place}
use Rattle.ground_program.specs.declared.program.Body.{Body}
use Rattle.ground_program.specs.declared.program.Body.TheVariants.{All, Sum}
use Rattle.ground_program.specs.declared.program.Rule.{Rule}
use Rattle.stable_check.specs.private.Lack.{one_each, naturals, weighed, total, lack}
use Rattle.stable_check.specs.private.Links.{Entry, with_literal, with_items, with_rules}
use Rattle.stable_check.specs.private.Growth.{Counts, take_off, take_off_all}
use Rattle.asp_base.proofs.Each.{each, map-same}
use Rattle.stable_check.proofs.GrowthLaws.{length-with_items}
use Rattle.stable_check.proofs.PlaceLaws.{get-at_place, set-at_place}

-- the atom stands there as a positive literal
abbrev pub stands : ℕ → Literal → Bool
stands x (Pos a) = x == a
stands x (Neg a) = false

-- the row of an atom with a body more
abbrev pub onto_row : ℕ → ℕ → List (Literal × ℕ) → List Entry → List Entry
onto_row x r [] row = row
onto_row x r (item ∷ items) row = onto_row x r items (cond (stands x item.0) ((r, item.1) ∷ row) row)

abbrev pub row_of : ℕ → ℕ → List Rule → List Entry → List Entry
row_of x n [] row = row
row_of x n (rule ∷ rules) row = row_of x (suc n) rules (onto_row x n (weighed rule.body) row)

abbrev pub ItemsFit : List ℕ → List (Literal × ℕ) → Type 0
ItemsFit atoms items = AllByRecursion (λ item. Among atoms (atom_of item.0)) items

one_each-fit : (atoms : List ℕ) (lits : List Literal) → AllByRecursion (λ l. Among atoms (atom_of l)) lits → ItemsFit atoms (one_each lits)
one_each-fit atoms [] h = tt
one_each-fit atoms (l ∷ lits) h = (h.0, one_each-fit atoms lits h.1)

naturals-fit : (atoms : List ℕ) (items : List (Literal × ℤ)) → AllByRecursion (λ item. Among atoms (atom_of item.0) × FitsBodyWeight item.1) items → ItemsFit atoms (naturals items)
naturals-fit atoms [] h = tt
naturals-fit atoms (item ∷ items) h = (h.0.0, naturals-fit atoms items h.1)

pub weighed-fit : (atoms : List ℕ) (body : Body) → BodyFits (Among atoms) body → ItemsFit atoms (weighed body)
weighed-fit atoms (All lits) h = one_each-fit atoms lits h.1
weighed-fit atoms (Sum bound items) h = naturals-fit atoms items h.2

pub with_literal-map : (low : ℕ) (atoms : List ℕ) (r w : ℕ) (l : Literal) (f : ℕ → List Entry) → RisesFrom low atoms → Among atoms (atom_of l) →
    with_literal atoms r w l (map f atoms) ≡ map (λ x. cond (stands x l) ((r, w) ∷ f x) (f x)) atoms
with_literal-map low atoms r w (Neg a) f rise among = refl
with_literal-map low atoms r w (Pos a) f rise among =
    ap (λ row. set (map f atoms) (place atoms a - 1) ((r, w) ∷ row)) (get-at_place low atoms f a [] rise among)
    ∙ set-at_place low atoms f a ((r, w) ∷ f a) rise among
    ∙ map-same (λ x. cond (x == a) ((r, w) ∷ f a) (f x)) (λ x. cond (x == a) ((r, w) ∷ f x) (f x)) atoms
    (each _ (λ x. cond_both (x == a) ((r, w) ∷ f a) (f x) (λ row. row ≡ cond (x == a) ((r, w) ∷ f x) (f x))
    (λ e. ap (λ y. (r, w) ∷ f y) (sym (eqb-true x a e)) ∙ sym (cond-true (x == a) ((r, w) ∷ f x) (f x) e))
    (λ e. sym (cond-false (x == a) ((r, w) ∷ f x) (f x) e))) atoms)

pub with_items-map : (low : ℕ) (atoms : List ℕ) (r : ℕ) (items : List (Literal × ℕ)) (f : ℕ → List Entry) → RisesFrom low atoms → ItemsFit atoms items →
    with_items atoms r items (map f atoms) ≡ map (λ x. onto_row x r items (f x)) atoms
with_items-map low atoms r [] f rise fit = refl
with_items-map low atoms r (item ∷ items) f rise fit =
    ap (with_items atoms r items) (with_literal-map low atoms r item.1 item.0 f rise fit.0)
    ∙ with_items-map low atoms r items (λ x. cond (stands x item.0) ((r, item.1) ∷ f x) (f x)) rise fit.1

pub with_rules-map : (low : ℕ) (atoms : List ℕ) (n : ℕ) (rules : List Rule) (f : ℕ → List Entry) → RisesFrom low atoms → AllByRecursion (RuleFits (Among atoms)) rules →
    with_rules atoms n rules (map f atoms) ≡ map (λ x. row_of x n rules (f x)) atoms
with_rules-map low atoms n [] f rise fit = refl
with_rules-map low atoms n (rule ∷ rules) f rise fit =
    ap (with_rules atoms (suc n) rules) (with_items-map low atoms n (weighed rule.body) f rise (weighed-fit atoms rule.body fit.0.1))
    ∙ with_rules-map low atoms (suc n) rules (λ x. onto_row x n (weighed rule.body) (f x)) rise fit.1

pub replicate-map : {B : Type 0} (atoms : List ℕ) (v : B) → replicate (length atoms) v ≡ map (λ x. v) atoms
replicate-map [] v = refl
replicate-map (x ∷ atoms) v = ap (λ vs. v ∷ vs) (replicate-map atoms v)

-- ---- what a row takes off

abbrev pub lower : List Entry → List ℕ → List ℕ
lower [] ns = ns
lower (entry ∷ entries) ns = lower entries (set ns entry.0 (get_or ns entry.0 0 - entry.1))

pub lacks-lower : (entries : List Entry) (c : Counts) → (take_off_all entries c).lacks ≡ lower entries c.lacks
lacks-lower [] c = refl
lacks-lower (entry ∷ entries) c = lacks-lower entries (take_off entry c)

-- the weights with which the atom stands there
abbrev pub off : ℕ → List (Literal × ℕ) → ℕ
off x [] = 0
off x (item ∷ items) = cond (stands x item.0) item.1 0 + off x items

lower-items : (x r : ℕ) (items : List (Literal × ℕ)) (row : List Entry) (ns : List ℕ) → r < length ns →
    lower (onto_row x r items row) ns ≡ lower row (set ns r (get_or ns r 0 - off x items))
lower-items x r [] row ns h = ap (lower row) (sym (ap (set ns r) (let e : get_or ns r 0 - 0 ≡ get_or ns r 0 = omega arith in e) ∙ set-get_or ns r 0))
lower-items x r (item ∷ items) row ns h =
    lower-items x r items (cond (stands x item.0) ((r, item.1) ∷ row) row) ns h ∙ go (stands x item.0)
  where
    v : ℕ
    v = get_or ns r 0 - off x items

    go : (b : Bool) → lower (cond b ((r, item.1) ∷ row) row) (set ns r (get_or ns r 0 - off x items)) ≡ lower row (set ns r (get_or ns r 0 - (cond b item.1 0 + off x items)))
    go true =
        let same : get_or (set ns r (get_or ns r 0 - off x items)) r 0 ≡ get_or ns r 0 - off x items = get_or-set_same ns r (get_or ns r 0 - off x items) 0 h in
        let sum : get_or ns r 0 - off x items - item.1 ≡ get_or ns r 0 - (item.1 + off x items) = omega arith in
        ap (lower row) (ap (λ n. set (set ns r (get_or ns r 0 - off x items)) r (n - item.1)) same ∙ set-set ns r _ _ ∙ ap (set ns r) sum)
    go false = let e : get_or ns r 0 - off x items ≡ get_or ns r 0 - (0 + off x items) = omega arith in ap (λ n. lower row (set ns r n)) e

pub lower-rules : (x n : ℕ) (rules : List Rule) (row : List Entry) (front : List ℕ) (f : Rule → ℕ) → length front ≡ n →
    lower (row_of x n rules row) (front ++ map f rules) ≡ lower row (front ++ map (λ rule. f rule - off x (weighed rule.body)) rules)
lower-rules x n [] row front f same = refl
lower-rules x n (rule ∷ rules) row front f same =
    let more : length (front ++ (f rule ∷ [])) ≡ suc n = omega (arith, length-append front (f rule ∷ [])) in
    let rest : List ℕ = map (λ rule. f rule - off x (weighed rule.body)) rules in
    let items : List (Literal × ℕ) = weighed rule.body in
    let whole : (front ++ (f rule ∷ [])) ++ rest ≡ front ++ (f rule ∷ rest) = append_assoc front (f rule ∷ []) rest in
    ap (lower (row_of x (suc n) rules (onto_row x n items row))) (sym (append_assoc front (f rule ∷ []) (map f rules)))
    ∙ lower-rules x (suc n) rules (onto_row x n items row) (front ++ (f rule ∷ [])) f more
    ∙ ap (lower (onto_row x n items row)) whole
    ∙ lower-items x n items row (front ++ (f rule ∷ rest)) (omega (arith, length-append front (f rule ∷ rest)))
    ∙ ap (λ v. lower row (set (front ++ (f rule ∷ rest)) n (v - off x items))) (get_or_at front (f rule) rest 0 n same)
    ∙ ap (lower row) (set_at front (f rule) rest (f rule - off x items) n same)

-- ---- a set with an atom more

abbrev pub insert : ℕ → Set → Set
insert x X a = cond (x == a) true (X a)

more-holds : (x : ℕ) (l : Literal) (w : ℕ) (X M : Set) → X x ≡ false → cond (literal_holds l (insert x X) M) w 0 ≡ cond (literal_holds l X M) w 0 + cond (stands x l) w 0
more-holds x (Neg a) w X M out = omega arith
more-holds x (Pos a) w X M out = go (x == a) (X a) (λ e. ap X (sym (eqb-true x a e)) ∙ out)
  where
    go : (b c : Bool) → (b ≡ true → c ≡ false) → cond (cond b true c) w 0 ≡ cond c w 0 + cond b w 0
    go true true h = absurd (true≢false (h refl))
    go true false h = omega arith
    go false c h = omega arith

pub total-insert : (x : ℕ) (items : List (Literal × ℕ)) (X M : Set) → X x ≡ false → total items (insert x X) M ≡ total items X M + off x items
total-insert x [] X M out = refl
total-insert x (item ∷ items) X M out =
    let one : cond (literal_holds item.0 (insert x X) M) item.1 0 ≡ cond (literal_holds item.0 X M) item.1 0 + cond (stands x item.0) item.1 0 = more-holds x item.0 item.1 X M out in
    let rest : total items (insert x X) M ≡ total items X M + off x items = total-insert x items X M out in
    omega arith

pub lack-insert : (x : ℕ) (rule : Rule) (X M : Set) → X x ≡ false → lack X M rule - off x (weighed rule.body) ≡ lack (insert x X) M rule
lack-insert x rule X M out =
    let sum : total (weighed rule.body) (insert x X) M ≡ total (weighed rule.body) X M + off x (weighed rule.body) = total-insert x (weighed rule.body) X M out in
    omega arith

pub lower-insert : (x : ℕ) (rules : List Rule) (X M : Set) → X x ≡ false → lower (row_of x 0 rules []) (map (lack X M) rules) ≡ map (lack (insert x X) M) rules
lower-insert x rules X M out =
    lower-rules x 0 rules [] [] (lack X M) refl
    ∙ map-same (λ rule. lack X M rule - off x (weighed rule.body)) (lack (insert x X) M) rules (each _ (λ rule. lack-insert x rule X M out) rules)

pub length-with_rules : (atoms : List ℕ) (n : ℕ) (rules : List Rule) (rows : List (List Entry)) → length (with_rules atoms n rules rows) ≡ length rows
length-with_rules atoms n [] rows = refl
length-with_rules atoms n (rule ∷ rules) rows = length-with_rules atoms (suc n) rules (with_items atoms n (weighed rule.body) rows) ∙ length-with_items atoms n (weighed rule.body) rows
