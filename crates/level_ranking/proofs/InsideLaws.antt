-- Rules by their heads, and their atoms in a component.
use Rattle.std.proofs.Common.{◌≡◌, refl, sym, ◌∙◌, ap, ap₂, subst, ℕ, zero, suc, ◌+◌, ◌-◌, ◌<◌, ◌==◌, Bool, true, false, cond, not, ◌||◌, List, [], ◌∷◌, ◌++◌, map, length, take, drop, get_or, filter, Option, Some, None, ⊎_elim, ◌⊎◌, ◌↔◌, arith, append_assoc, append-nil, eqb-true}
use Rattle.std.specs.Option.{IsNone, IfSome}
use Rattle.std.proofs.Math.Seq.{drop-cons}
use Rattle.std.proofs.lemmas.List.{take_more, map-append}
use Rattle.std.specs.List.{AllByRecursion, slice_get}
use Rattle.std.proofs.lemmas.Bool.{cond-true, cond-false}
use Rattle.asp_base.specs.Literal.{Literal, Pos, Neg}
use Rattle.asp_base.specs.Sets.{Set, members, once}
use Rattle.graph_parts.specs.Groups.{values_of}
use Rattle.rising_numbers.specs.Rising.{RisesFrom, place}
use Rattle.ground_program.specs.Facts.{Among, RuleFits}
use Rattle.ground_program.specs.declared.program.Head.{Head}
use Rattle.ground_program.specs.declared.program.Head.TheVariants.{Nothing, One, Choice}
use Rattle.ground_program.specs.declared.program.Body.{Body}
use Rattle.ground_program.specs.declared.program.Body.TheVariants.{All, Sum}
use Rattle.ground_program.specs.declared.program.Rule.{Rule}
use Rattle.ground_program.specs.Normal.{literals_of}
use Rattle.level_ranking.specs.Encoding.{inside, Row, is_head, rows_of, positive_in, body_in}
use Rattle.completion.proofs.HeadLaws.{heads_it, places_from, heads-values}
use Rattle.completion.specs.Heads.{heads_from}
use Rattle.level_ranking.specs.private.Sources.{first_row, rows_listed, placed, with_once}

-- ---- each atom once

abbrev without : ℕ → List ℕ → List ℕ
without l xs = filter (λ k. not (l == k)) xs

members-without : (l x : ℕ) (xs : List ℕ) → (l == x) ≡ false → members (without l xs) x ≡ members xs x
members-without l x [] other = refl
members-without l x (k ∷ xs) other = go (l == k) refl (members-without l x xs other)
  where
    go : (b : Bool) → (l == k) ≡ b → members (without l xs) x ≡ members xs x →
        members (cond (not b) (k ∷ without l xs) (without l xs)) x ≡ ((k == x) || members xs x)
    go false differ rest = ap (λ b. (k == x) || b) rest
    go true same rest = rest ∙ ap (λ b. b || members xs x) (sym (subst (λ z. (z == x) ≡ false) (eqb-true l k same) other))

without-append : (l x : ℕ) (xs : List ℕ) → without l (xs ++ (x ∷ [])) ≡ without l xs ++ without l (x ∷ [])
without-append l x [] = refl
without-append l x (k ∷ xs) = go (l == k) (without-append l x xs)
  where
    go : (b : Bool) → without l (xs ++ (x ∷ [])) ≡ without l xs ++ without l (x ∷ []) →
        cond (not b) (k ∷ without l (xs ++ (x ∷ []))) (without l (xs ++ (x ∷ []))) ≡ cond (not b) (k ∷ without l xs) (without l xs) ++ without l (x ∷ [])
    go false rest = ap (λ ks. k ∷ ks) rest
    go true rest = rest

-- one number more
pub once-push : (xs : List ℕ) (x : ℕ) → once (xs ++ (x ∷ [])) ≡ with_once x (once xs)
once-push [] x = refl
once-push (l ∷ xs) x = ap (λ ks. l ∷ without l ks) (once-push xs x) ∙ go (l == x) refl (members (once xs) x) refl
  where
    go : (b : Bool) → (l == x) ≡ b → (h : Bool) → members (once xs) x ≡ h →
        l ∷ without l (cond h (once xs) (once xs ++ (x ∷ [])))
        ≡ cond (b || members (without l (once xs)) x) (l ∷ without l (once xs)) (l ∷ (without l (once xs) ++ (x ∷ [])))
    go true same true there = refl
    go true same false absent =
        ap (λ ks. l ∷ ks) (
        without-append l x (once xs)
        ∙ ap (λ b. without l (once xs) ++ cond (not b) (x ∷ []) []) same
        ∙ append-nil (without l (once xs)))
    go false differ true there =
        sym (cond-true (members (without l (once xs)) x) _ _ (members-without l x (once xs) differ ∙ there))
    go false differ false absent =
        ap (λ ks. l ∷ ks) (
        without-append l x (once xs)
        ∙ ap (λ b. without l (once xs) ++ cond (not b) (x ∷ []) []) differ)
        ∙ sym (cond-false (members (without l (once xs)) x) _ _ (members-without l x (once xs) differ ∙ absent))

-- ---- the positive atoms of a body

positive-append : (S : Set) (xs ys : List Literal) → positive_in S (xs ++ ys) ≡ positive_in S xs ++ positive_in S ys
positive-append S [] ys = refl
positive-append S (Neg b ∷ xs) ys = positive-append S xs ys
positive-append S (Pos b ∷ xs) ys = go (S b) (positive-append S xs ys)
  where
    go : (t : Bool) → positive_in S (xs ++ ys) ≡ positive_in S xs ++ positive_in S ys
        → cond t (b ∷ positive_in S (xs ++ ys)) (positive_in S (xs ++ ys)) ≡ cond t (b ∷ positive_in S xs) (positive_in S xs) ++ positive_in S ys
    go true e = ap (λ l. b ∷ l) e
    go false e = e

positive-more : (S : Set) (lits : List Literal) (i : ℕ) (l : Literal) → i < length lits → l ≡ get_or lits i l → positive_in S (take (i + 1) lits) ≡ positive_in S (take i lits) ++ positive_in S (l ∷ [])
positive-more S lits i l h e = ap (positive_in S) (take_more lits i l h ∙ ap (λ y. take i lits ++ (y ∷ [])) (sym e)) ∙ positive-append S (take i lits) (l ∷ [])

-- a literal that has no atom in the component
pub once-same : (S : Set) (lits : List Literal) (i : ℕ) (l : Literal) → i < length lits → l ≡ get_or lits i l → positive_in S (l ∷ []) ≡ [] → once (positive_in S (take (i + 1) lits)) ≡ once (positive_in S (take i lits))
once-same S lits i l h e n = ap once (positive-more S lits i l h e ∙ (ap (λ ys. positive_in S (take i lits) ++ ys) n ∙ append-nil (positive_in S (take i lits))))

-- one that has
pub once-next : (S : Set) (lits : List Literal) (i : ℕ) (l : Literal) (a : ℕ) → i < length lits → l ≡ get_or lits i l → positive_in S (l ∷ []) ≡ a ∷ [] → once (positive_in S (take (i + 1) lits)) ≡ with_once a (once (positive_in S (take i lits)))
once-next S lits i l a h e n = ap once (positive-more S lits i l h e ∙ ap (λ ys. positive_in S (take i lits) ++ ys) n) ∙ once-push (positive_in S (take i lits)) a

pub body-is : (S : Set) (body : Body) → positive_in S (literals_of body) ≡ body_in S body
body-is S (All lits) = refl
body-is S (Sum bound items) = refl

-- ---- the rules at places

pub body-at : (bodies : List (Option Literal)) (i n : ℕ) (r : Option Literal) → n ≡ i + 1 → i < length bodies
    → (IsNone r ↔ ((n ≡ 0) ⊎ ((length bodies < n) ⊎ (slice_get bodies (n - 1) ≡ Some None)))) → IfSome r (λ l. slice_get bodies (n - 1) ≡ Some (Some l)) → slice_get bodies i ≡ Some r
body-at bodies i n (Some l) e h none some = let q : n - 1 ≡ i = omega arith in subst (λ k. slice_get bodies k ≡ Some (Some l)) q some
body-at bodies i n None e h none some =
    let q : n - 1 ≡ i = omega arith in
    subst (λ k. slice_get bodies k ≡ Some None) q
    (⊎_elim (λ z. absurd (omega arith)) (λ more. ⊎_elim (λ past. absurd (omega arith)) (λ at. at) more) (none.0 refl))

pub drop-get : {X : Type 0} (xs : List X) (i : ℕ) (x : X) → slice_get xs i ≡ Some x → drop i xs ≡ x ∷ drop (suc i) xs
drop-get [] i x e = absurd (cc)
drop-get (y ∷ xs) zero x e = let same : y ≡ x = cc in ap (λ z. z ∷ xs) same
drop-get (y ∷ xs) (suc i) x e = drop-get xs i x e

pub row-at : (S : Set) (rules : List Rule) (bodies : List (Option Literal)) (i : ℕ) (rule : Rule) (body : Option Literal) → i < length rules → rule ≡ get_or rules i rule → slice_get bodies i ≡ Some body
    → rows_listed S rules bodies (i ∷ []) ≡ record { body = body; inside = inside S rule } ∷ []
row-at S rules bodies i rule body h e b =
    ap₂ (λ rs bs. first_row S rs bs ++ []) (drop-cons rules i rule h ∙ ap (λ y. y ∷ drop (suc i) rules) (sym e)) (drop-get bodies i body b)

module _ (atoms : List ℕ) (S : Set) (rules : List Rule) (bodies : List (Option Literal)) (places : List ℕ) where
  pub listed-next : (rows : List Row) (row : Row) (j i : ℕ) → j < length places → i ≡ get_or places j i
      → row ∷ [] ≡ map (placed atoms) (rows_listed S rules bodies (i ∷ []))
      → rows ++ map (placed atoms) (rows_listed S rules bodies (drop j places)) ≡ map (placed atoms) (rows_listed S rules bodies places)
      → (rows ++ (row ∷ [])) ++ map (placed atoms) (rows_listed S rules bodies (drop (suc j) places)) ≡ map (placed atoms) (rows_listed S rules bodies places)
  listed-next rows row j i h e r k =
      let d : drop j places ≡ i ∷ drop (suc j) places = drop-cons places j i h ∙ ap (λ y. y ∷ drop (suc j) places) (sym e) in
      let one : List Row = first_row S (drop i rules) (drop i bodies) in
      append_assoc rows (row ∷ []) (map (placed atoms) (rows_listed S rules bodies (drop (suc j) places)))
      ∙ (ap (λ xs. rows ++ (xs ++ map (placed atoms) (rows_listed S rules bodies (drop (suc j) places)))) (r ∙ ap (map (placed atoms)) (append-nil one))
      ∙ (ap (λ xs. rows ++ xs) (sym (map-append (placed atoms) one (rows_listed S rules bodies (drop (suc j) places))))
      ∙ (sym (ap (λ ps. rows ++ map (placed atoms) (rows_listed S rules bodies ps)) d) ∙ k)))

-- ---- the rules of an atom

drop-next : {X : Type 0} (k : ℕ) (xs : List X) (x : X) (ys : List X) → drop k xs ≡ x ∷ ys → drop (suc k) xs ≡ ys
drop-next zero [] x ys e = absurd (cc)
drop-next zero (y ∷ xs) x ys e = cc
drop-next (suc k) [] x ys e = absurd (cc)
drop-next (suc k) (y ∷ xs) x ys e = drop-next k xs x ys e

heads-is : (a : ℕ) (head : Head) → heads_it a head ≡ is_head a head
heads-is a Nothing = refl
heads-is a (One b) = refl
heads-is a (Choice bs) = refl

module _ (S : Set) (a : ℕ) (rules : List Rule) (bodies : List (Option Literal)) where
  listed-from : (rest : List Rule) (literals : List (Option Literal)) (k : ℕ) → drop k rules ≡ rest → drop k bodies ≡ literals → length literals ≡ length rest
      → rows_listed S rules bodies (places_from a k rest) ≡ rows_of S a rest literals
  listed-from [] literals k d e n = refl
  listed-from (rule ∷ rest) [] k d e n = absurd (omega arith)
  listed-from (rule ∷ rest) (body ∷ literals) k d e n =
      ap (λ t. rows_listed S rules bodies (cond t (k ∷ places_from a (suc k) rest) (places_from a (suc k) rest))) (heads-is a rule.head)
      ∙ go (is_head a rule.head) (listed-from rest literals (suc k) (drop-next k rules rule rest d) (drop-next k bodies body literals e) (omega arith))
    where
      go : (b : Bool) → rows_listed S rules bodies (places_from a (suc k) rest) ≡ rows_of S a rest literals
          → rows_listed S rules bodies (cond b (k ∷ places_from a (suc k) rest) (places_from a (suc k) rest)) ≡ cond b (record { body = body; inside = inside S rule } ∷ rows_of S a rest literals) (rows_of S a rest literals)
      go true i = ap₂ (λ one others. one ++ others) (ap₂ (first_row S) d e) i
      go false i = i

pub listed-are : (atoms : List ℕ) → RisesFrom 0 atoms → (S : Set) (a : ℕ) → members atoms a ≡ true → (rules : List Rule) (bodies : List (Option Literal)) → length bodies ≡ length rules → AllByRecursion (RuleFits (Among atoms)) rules
    → rows_listed S rules bodies (values_of (place atoms a - 1) (heads_from atoms 0 rules)) ≡ rows_of S a rules bodies
listed-are atoms rise S a among rules bodies n f = ap (rows_listed S rules bodies) (heads-values atoms rise a among rules 0 f) ∙ listed-from S a rules bodies rules bodies 0 refl refl n
