-- What a rule counts for a component, and that a normal rule counts for one of them at most.
use Rattle.std.proofs.Common.{◌≡◌, ◌⊎◌, refl, sym, ◌∙◌, ap, ⊎_elim, inl, inr, ℕ, suc, ◌+◌, ◌≤◌, Bool, true, false, cond, ◌||◌, List, [], ◌∷◌, length, arith, ℤ}
use Rattle.std.specs.List.{list_any, filter}
use Rattle.std.proofs.lemmas.Bool.{cond-false, true≢false}
use Rattle.std.proofs.lemmas.List.Sums.{length-filter, count_by-le-length}
use Rattle.asp_base.specs.Sets.{members}
use Rattle.asp_base.specs.Literal.{Literal, Pos, Neg}
use Rattle.ground_program.specs.Dependencies.{positives_of_body, positives_of_literals, positives_of_items, with_positive}
use Rattle.ground_program.specs.Normal.{IsNormalHead}
use Rattle.ground_program.specs.Occurrences.{atoms_of_head}
use Rattle.ground_program.specs.Size.{entries, rule_size}
use Rattle.ground_program.specs.Tangle.{enters, occurrences, links}
use Rattle.ground_program.specs.declared.program.Head.{Head}
use Rattle.ground_program.specs.declared.program.Head.TheVariants.{Nothing, One, Choice}
use Rattle.ground_program.specs.declared.program.Body.{Body}
use Rattle.ground_program.specs.declared.program.Body.TheVariants.{All, Sum}
use Rattle.ground_program.specs.declared.program.Rule.{Rule}
use Rattle.tangle_laws.proofs.PartSums.{total, total-none, sum_by-total, cond-le}
use Rattle.tangle_laws.proofs.PartDistinct.{Distinct, joined, total-one}

abbrev pub link : List ℕ → Rule → ℕ
link atoms rule = cond (enters atoms rule) (1 + occurrences atoms rule) 0

pub links-total : (rules : List Rule) (atoms : List ℕ) → links rules atoms
    ≡ total (λ rule. link atoms rule) rules
links-total rules atoms = sum_by-total (λ rule. link atoms rule) rules

pub link-none : (atoms : List ℕ) (rule : Rule) → enters atoms rule ≡ false → link atoms rule ≡ 0
link-none atoms rule out = cond-false (enters atoms rule) (1 + occurrences atoms rule) 0 out

-- ---- the positive literals of a rule are within its size

pub kept-more : (one other : ℕ → Bool) → ((x : ℕ) → one x ≡ true → other x ≡ true) → (xs : List ℕ)
    → length (filter one xs) ≤ length (filter other xs)
kept-more one other h [] = omega arith
kept-more one other h (x ∷ xs) = by (one x) (other x) (h x) (kept-more one other h xs)
  where
    by : (b c : Bool) → (b ≡ true → c ≡ true) → length (filter one xs) ≤ length (filter other xs)
        → length (cond b (x ∷ filter one xs) (filter one xs))
        ≤ length (cond c (x ∷ filter other xs) (filter other xs))
    by true true k le = omega arith
    by true false k le = absurd (true≢false (sym (k refl)))
    by false true k le = omega arith
    by false false k le = omega arith

positive-le : (lit : Literal) (positives : List ℕ) (n : ℕ) → length positives ≤ n
    → length (with_positive lit positives) ≤ suc n
positive-le (Pos a) positives n h = omega arith
positive-le (Neg a) positives n h = omega arith

positives-le-literals : (lits : List Literal) → length (positives_of_literals lits) ≤ length lits
positives-le-literals [] = omega arith
positives-le-literals (lit ∷ lits) = positive-le lit (positives_of_literals lits) (length lits)
    (positives-le-literals lits)

positives-le-items : (items : List (Literal × ℤ)) → length (positives_of_items items) ≤ length items
positives-le-items [] = omega arith
positives-le-items (item ∷ items) = positive-le item.0 (positives_of_items items) (length items)
    (positives-le-items items)

positives-le-entries : (body : Body) → length (positives_of_body body) ≤ entries body
positives-le-entries (All lits) = positives-le-literals lits
positives-le-entries (Sum bound items) = positives-le-items items

link-le : (atoms : List ℕ) (rule : Rule) → link atoms rule ≤ rule_size rule
link-le atoms rule =
    let kept : occurrences atoms rule ≤ length (positives_of_body rule.body) =
    omega (
      arith,
      length-filter (λ a. members atoms a)
          (positives_of_body rule.body),
      count_by-le-length (λ a. members atoms a)
          (positives_of_body rule.body),
    ) in
    let all : length (positives_of_body rule.body) ≤ entries rule.body =
    positives-le-entries rule.body in
    cond-le (enters atoms rule) (1 + occurrences atoms rule) (rule_size rule) (λ e. omega arith)

-- ---- the head of a normal rule

normal-heads : (head : Head) → IsNormalHead head → (atoms_of_head head ≡ [])
    ⊎ ((x : ℕ) × (atoms_of_head head ≡ x ∷ []))
normal-heads Nothing n = inl refl
normal-heads (One a) n = inr (a, refl)
normal-heads (Choice as_) n = absurd n

or-none : (b : Bool) → b ≡ false → (b || false) ≡ false
or-none b e = ap (λ c. c || false) e

pub link-once : (rule : Rule) (comps : List (List ℕ)) → IsNormalHead rule.head
    → Distinct (joined comps) → total (λ atoms. link atoms rule) comps ≤ rule_size rule
link-once rule comps normal d = ⊎_elim
    (λ e. let none : total (λ atoms. link atoms rule) comps ≡ 0 =
    total-none (λ atoms. link atoms rule) comps
    (λ atoms a. link-none atoms rule (ap (λ heads. list_any (λ x. members atoms x) heads) e)) in
    omega arith)
    (λ e. total-one (λ atoms. link atoms rule) e.0 (rule_size rule) comps d
    (λ atoms a. link-le atoms rule)
    (λ atoms a out. link-none atoms rule (ap (λ heads. list_any (λ x. members atoms x) heads) e.1
    ∙ or-none (members atoms e.0) out)))
    (normal-heads rule.head normal)
