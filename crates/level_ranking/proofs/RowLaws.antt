-- The rows of an atom say what its rules do.
use Rattle.std.proofs.Common.{◌≡◌, refl, sym, ◌∙◌, ap, ap₂, ℕ, ◌≤◌, Bool, true, false, cond, not, ◌&&◌, ◌||◌, List, [], ◌∷◌, map, Option}
use Rattle.std.specs.List.{list_any, list_all, AllByRecursion}
use Rattle.std.proofs.lemmas.Bool.{true≢false, and_parts}
use Rattle.asp_base.specs.Literal.{Literal}
use Rattle.asp_base.specs.Sets.{Set}
use Rattle.ground_program.specs.Facts.{RuleFits, Among}
use Rattle.ground_program.specs.Stable.{holds, head_has}
use Rattle.ground_program.specs.declared.program.Head.{Head}
use Rattle.ground_program.specs.declared.program.Head.TheVariants.{Nothing, One, Choice}
use Rattle.ground_program.specs.declared.program.Body.{Body}
use Rattle.ground_program.specs.declared.program.Body.TheVariants.{All, Sum}
use Rattle.ground_program.specs.declared.program.Rule.{Rule}
use Rattle.clause_store.specs.Models.{clauses_true}
use Rattle.clause_store.specs.Stored.{Stored}
use Rattle.ground_program.specs.Occurrences.{over_variables}
use Rattle.completion.specs.Completion.{atoms_at, inputs_of, body_literal, after_body, after_head, head_literal, after_rules, literals_of_rules, is_empty}
use Rattle.ground_program.specs.Normal.{literals_of, IsNormalHead, IsNormalBody, AreNormal}
use Rattle.completion.proofs.CompletionLaws.{holds-inputs, Done, body_true, BodySays, after_body-says, inputs-up, Ready, Ready-next, after_rules-done}
use Rattle.completion.proofs.BodyLaws.{IsOverIfAny, IsOverIfAny-up}
use Rattle.level_ranking.proofs.Conditions.{is_empty_body}
use Rattle.level_ranking.specs.Encoding.{inside, Row, is_head, rows_of}
use Rattle.level_ranking.proofs.ComponentRanks.{inside-in_component}
use Rattle.level_ranking.proofs.AtomLaws.{HasDigits, IsRow}

-- the literal of a rule with a head is true just where its body holds, and there is none just where it is empty
pub record SaysBody (A M : Set) (rule : Rule) (body : Option Literal) : Type 0 where
  pub holds : body_true body A ≡ holds rule.body M M
  pub empty : is_empty body ≡ is_empty_body rule.body

abbrev pub BodiesSay : Set → Set → List Rule → List (Option Literal) → Type 0
BodiesSay A M [] bodies = Unit {0}
BodiesSay A M (rule ∷ rules) [] = ⊥
BodiesSay A M (rule ∷ rules) (body ∷ bodies) = ((a : ℕ) → is_head a rule.head ≡ true → SaysBody A M rule body) × BodiesSay A M rules bodies

empty-says : (atoms : List ℕ) (body : Body) (s : Stored) → IsNormalBody body → is_empty (body_literal (map (over_variables atoms) (literals_of body)) s) ≡ is_empty_body body
empty-says atoms (All []) s n = refl
empty-says atoms (All (l ∷ lits)) s n = refl
empty-says atoms (Sum bound items) s n = absurd n

pub bodies-say : (atoms : List ℕ) (rules : List Rule) (s : Stored) (A : Set) → AreNormal rules → AllByRecursion (RuleFits (Among atoms)) rules → Ready atoms s
    → clauses_true (after_rules atoms rules s).hard A ≡ true → BodiesSay A (atoms_at atoms A) rules (literals_of_rules atoms rules s)
bodies-say atoms [] s A n f r t = tt
bodies-say atoms (rule ∷ rules) s A n f r t =
    let next : Stored = after_head rule.head (inputs_of atoms rule) s in
    let one : Done s next × Ready atoms next = Ready-next atoms rule s f.0 r in
    let rest : Done next (after_rules atoms rules next) = after_rules-done atoms rules next f.1 one.1 in
    ((λ a h. here a rule.head h (rest.extends.keeps A t)), bodies-say atoms rules next A n.1 f.1 one.1 t)
  where
    here : (a : ℕ) (head : Head) → is_head a head ≡ true → clauses_true (after_head head (inputs_of atoms rule) s).hard A ≡ true
        → SaysBody A (atoms_at atoms A) rule (head_literal head (inputs_of atoms rule) s)
    here a Nothing h u = absurd (true≢false (sym h))
    here a (One b) h u =
        let says : BodySays (inputs_of atoms rule) s (after_body (inputs_of atoms rule) s) (body_literal (inputs_of atoms rule) s) = after_body-says (inputs_of atoms rule) s (inputs-up atoms s r.up rule f.0) r.sound in
        record { holds = says.says A u ∙ holds-inputs atoms rule.body A n.0.1; empty = empty-says atoms rule.body s n.0.1 }
    here a (Choice bs) h u = absurd (true≢false (sym h))

pub head-is : (M : Set) (a : ℕ) (head : Head) → IsNormalHead head → head_has head M a ≡ is_head a head
head-is M a Nothing n = refl
head-is M a (One b) n = refl
head-is M a (Choice bs) n = absurd n

-- a test of the rows as a test of the rules
module _ (S : Set) (a : ℕ) (A M : Set) (p : Row → Bool) (q : Rule → Bool)
    (same : (rule : Rule) (body : Option Literal) → SaysBody A M rule body → p (record { body = body; inside = inside S rule }) ≡ q rule) where
  pub rows-any : (rules : List Rule) (bodies : List (Option Literal)) → AreNormal rules → BodiesSay A M rules bodies → list_any p (rows_of S a rules bodies) ≡ list_any (λ rule. head_has rule.head M a && q rule) rules
  rows-any [] bodies n b = refl
  rows-any (rule ∷ rules) [] n b = absurd b
  rows-any (rule ∷ rules) (body ∷ bodies) n b = go (is_head a rule.head) refl (rows-any rules bodies n.1 b.1)
    where
      go : (h : Bool) → is_head a rule.head ≡ h → list_any p (rows_of S a rules bodies) ≡ list_any (λ r. head_has r.head M a && q r) rules
          → list_any p (cond h (record { body = body; inside = inside S rule } ∷ rows_of S a rules bodies) (rows_of S a rules bodies)) ≡ ((head_has rule.head M a && q rule) || list_any (λ r. head_has r.head M a && q r) rules)
      go true e i = ap₂ ◌||◌ (same rule body (b.0 a e) ∙ sym (ap (λ h. h && q rule) (head-is M a rule.head n.0.0 ∙ e))) i
      go false e i = i ∙ sym (ap (λ h. (h && q rule) || list_any (λ r. head_has r.head M a && q r) rules) (head-is M a rule.head n.0.0 ∙ e))

  pub rows-all : (rules : List Rule) (bodies : List (Option Literal)) → AreNormal rules → BodiesSay A M rules bodies → list_all p (rows_of S a rules bodies) ≡ list_all (λ rule. not (head_has rule.head M a) || q rule) rules
  rows-all [] bodies n b = refl
  rows-all (rule ∷ rules) [] n b = absurd b
  rows-all (rule ∷ rules) (body ∷ bodies) n b = go (is_head a rule.head) refl (rows-all rules bodies n.1 b.1)
    where
      go : (h : Bool) → is_head a rule.head ≡ h → list_all p (rows_of S a rules bodies) ≡ list_all (λ r. not (head_has r.head M a) || q r) rules
          → list_all p (cond h (record { body = body; inside = inside S rule } ∷ rows_of S a rules bodies) (rows_of S a rules bodies)) ≡ ((not (head_has rule.head M a) || q rule) && list_all (λ r. not (head_has r.head M a) || q r) rules)
      go true e i = ap₂ ◌&&◌ (same rule body (b.0 a e) ∙ sym (ap (λ h. not h || q rule) (head-is M a rule.head n.0.0 ∙ e))) i
      go false e i = i ∙ sym (ap (λ h. (not h || q rule) && list_all (λ r. not (head_has r.head M a) || q r) rules) (head-is M a rule.head n.0.0 ∙ e))

-- ---- the rows are over the first variables

pub all-inside : (S : Set) (P : ℕ → Type 0) → ((b : ℕ) → S b ≡ true → P b) → (bs : List ℕ) → list_all S bs ≡ true → AllByRecursion P bs
all-inside S P f [] h = tt
all-inside S P f (b ∷ bs) h = let k : (S b ≡ true) × (list_all S bs ≡ true) = and_parts _ _ h in (f b k.0, all-inside S P f bs k.1)

pub rows-over : (m n w : ℕ) (digits : ℕ → List Literal) (S : Set) (a : ℕ) → m ≤ n → ((b : ℕ) → S b ≡ true → HasDigits n w (digits b)) → (rules : List Rule) (bodies : List (Option Literal)) → AllByRecursion (IsOverIfAny m) bodies
    → AllByRecursion (IsRow n w digits) (rows_of S a rules bodies)
rows-over m n w digits S a h f [] bodies o = tt
rows-over m n w digits S a h f (rule ∷ rules) [] o = tt
rows-over m n w digits S a h f (rule ∷ rules) (body ∷ bodies) o = go (is_head a rule.head) (rows-over m n w digits S a h f rules bodies o.1)
  where
    go : (t : Bool) → AllByRecursion (IsRow n w digits) (rows_of S a rules bodies)
        → AllByRecursion (IsRow n w digits) (cond t (record { body = body; inside = inside S rule } ∷ rows_of S a rules bodies) (rows_of S a rules bodies))
    go true i = (record { body = IsOverIfAny-up m n h body o.0; inside = all-inside S (λ b. HasDigits n w (digits b)) f (inside S rule) (inside-in_component S rule) }, i)
    go false i = i
