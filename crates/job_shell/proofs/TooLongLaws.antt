-- Texts that are too long.
use Rattle.std.proofs.Common.{◌≡◌, ◌≢◌, refl, sym, ◌∙◌, ap, subst, ℕ, suc, ◌+◌, ◌<◌, ◌≤◌, ◌↔◌, nat_lt, Bool, true, false, List, [], ◌∷◌, ◌++◌, length, Option, None, Some, IfSome, unwrap_or, arith}
use Rattle.std.proofs.lemmas.Bool.{cond-true, cond-false, lt-ltb, le-ltb, true≢false}
use Rattle.std.proofs.lemmas.Option.{IfSome_then}
use Rattle.std.specs.List.{AllByRecursion}
use Rattle.asp_base.specs.Desk.{DeskState}
use Rattle.job_shell.specs.Ran.{TooLongExactly}
use Rattle.job_shell.specs.Reads.{text_limit, AllDiffer, IfHeld, IsTooLong, first_too_long}
use Rattle.job_shell.specs.declared.ended.Ended.{Ended}
use Rattle.job_shell.specs.declared.ended.Ended.TheVariants.{TooLong}
use Rattle.job_shell.proofs.HeldLaws.{held-then, held-always, held-append}
use Rattle.job_shell.proofs.PlaceLaws.{differ-before, differ-behind}

-- ---- the first text that is too long

pub none-too_long : (place : ℕ) (texts : List (List ℕ)) → AllByRecursion (λ text. length text ≤ text_limit) texts → first_too_long place texts ≡ None
none-too_long place [] h = refl
none-too_long place (text ∷ texts) h = cond-false (nat_lt text_limit (length text)) (Some place) (first_too_long (suc place) texts) (le-ltb text_limit (length text) h.0) ∙ none-too_long (suc place) texts h.1

this-too_long : (place : ℕ) (before : List (List ℕ)) (text : List ℕ) (more : List (List ℕ)) → AllByRecursion (λ text. length text ≤ text_limit) before → text_limit < length text
    → first_too_long place (before ++ (text ∷ more)) ≡ Some (length before + place)
this-too_long place [] text more h long =
    let here : place ≡ length {A = List ℕ} [] + place = omega arith in
    cond-true (nat_lt text_limit (length text)) (Some place) (first_too_long (suc place) more) (lt-ltb text_limit (length text) long) ∙ ap (λ n. Some n) here
this-too_long place (first ∷ before) text more h long =
    let moved : length before + suc place ≡ suc (length before) + place = omega arith in
    cond-false (nat_lt text_limit (length first)) (Some place) (first_too_long (suc place) (before ++ (text ∷ more))) (le-ltb text_limit (length first) h.0) ∙ (this-too_long (suc place) before text more h.1 long ∙ ap (λ n. Some n) moved)

-- the texts before it are these, which are within the limit
pub told-too_long : (old : DeskState) (before : List (List ℕ)) (name : List ℕ) (more texts : List (List ℕ)) → IfHeld old before (λ contents. contents ≡ texts) → length texts ≡ length before
    → AllByRecursion (λ text. length text ≤ text_limit) texts → IfSome (old.held name) (λ text. text_limit < length text)
    → IfHeld old (before ++ (name ∷ more)) (λ contents. first_too_long 1 contents ≡ Some (length before + 1))
told-too_long old before name more texts told count within long =
    held-append old before (name ∷ more) (λ contents. first_too_long 1 contents ≡ Some (length before + 1))
    (held-then old before (λ contents. contents ≡ texts) (λ contents. IfHeld old (name ∷ more) (λ others. first_too_long 1 (contents ++ others) ≡ Some (length before + 1))) told
    (λ contents e. IfSome_then (old.held name) long (λ text l. held-always old more (λ others. first_too_long 1 (contents ++ (text ∷ others)) ≡ Some (length before + 1))
    (λ others. subst (λ front. first_too_long 1 (front ++ (text ∷ others)) ≡ Some (length before + 1)) (sym e) (this-too_long 1 texts text others within l ∙ ap (λ n. Some (n + 1)) count)))))

-- ---- the end of a job, and what is too long

abbrev pub is_too_long : {A : Type 0} → Ended A → Bool
is_too_long (TooLong file) = true
is_too_long ended = false

-- an end of which nothing is too long
pub exactly-none : {A : Type 0} (new : DeskState) (ended : Ended A) → is_too_long ended ≡ false → (place : ℕ) (names : List (List ℕ)) → AllByRecursion (λ name. ¬ IsTooLong new name) names → TooLongExactly place names new ended
exactly-none new ended other place [] h = tt
exactly-none new ended other place (name ∷ names) h = (
  ((λ long. absurd (h.0 long)), λ e. absurd (true≢false (sym (ap is_too_long e) ∙ other))),
  exactly-none new ended other (suc place) names h.1,
)

some-same : (a b : List ℕ) → Some a ≡ Some b → a ≡ b
some-same a b e = ap (λ (o : Option (List ℕ)). unwrap_or o []) e

-- an end at one file, for the names of others
exactly-others : {A : Type 0} (new : DeskState) (name : List ℕ) (ended : Ended A) (file : ℕ) → (text_limit < new.given → new.reading ≡ Some name) → ((other : ℕ) → ended ≡ TooLong other → other ≡ file)
    → (place : ℕ) (names : List (List ℕ)) → AllByRecursion (λ other. other ≢ name) names → ((i : ℕ) → i < length names → ((i + place) ≡ file) → ⊥) → TooLongExactly place names new ended
exactly-others new name ended file given only place [] differ apart = tt
exactly-others new name ended file given only place (first ∷ names) differ apart = (
  (
    (λ long. absurd (differ.0 (some-same first name (sym long.reading ∙ given long.given)))),
    (λ e. absurd (apart 0 (omega arith) (omega (arith, only place e)))),
  ),
  exactly-others new name ended file given only (suc place) names differ.1 (λ i below e. apart (suc i) (omega (arith, below)) (omega (arith, e))),
)

exactly-append : {A : Type 0} (new : DeskState) (ended : Ended A) (place : ℕ) (names more : List (List ℕ)) → TooLongExactly place names new ended → TooLongExactly (length names + place) more new ended → TooLongExactly place (names ++ more) new ended
exactly-append new ended place [] more h k = let here : length {A = List ℕ} [] + place ≡ place = omega arith in subst (λ n. TooLongExactly n more new ended) here k
exactly-append new ended place (name ∷ names) more h k =
    let moved : suc (length names) + place ≡ length names + suc place = omega arith in
    (h.0, exactly-append new ended (suc place) names more h.1 (subst (λ n. TooLongExactly n more new ended) moved k))

-- an end at the file that was read
pub exactly-at : {A : Type 0} (new : DeskState) (before : List (List ℕ)) (name : List ℕ) (more : List (List ℕ)) (ended : Ended A) (file : ℕ) → AllDiffer (before ++ (name ∷ more)) → length before + 1 ≡ file
    → (text_limit < new.given → new.reading ≡ Some name) → (IsTooLong new name ↔ (ended ≡ TooLong file)) → ((other : ℕ) → ended ≡ TooLong other → other ≡ file) → TooLongExactly 1 (before ++ (name ∷ more)) new ended
exactly-at new before name more ended file differ here given long only = exactly-append new ended 1 before (name ∷ more)
    (exactly-others new name ended file given only 1 before (differ-before before name more differ) (λ i below e. omega (arith, below, e, here))) (
      subst (λ n. IsTooLong new name ↔ (ended ≡ TooLong n)) (sym here) long,
      exactly-others new name ended file given only (suc (length before + 1)) more (differ-behind before name more differ) (λ i below e. omega (arith, below, e, here)),
    )
