-- What the rules of a block read, and which literals a network for a body may read.
use Rattle.std.proofs.Common.{◌≡◌, refl, ℕ, ℤ, ◌==◌, true, inl, inr, List, [], ◌∷◌, Some, ⊎_elim}
use Rattle.std.specs.List.{AllByRecursion}
use Rattle.std.proofs.lemmas.Bool.{or_cases, or_left, or_right, eq-eqb}
use Rattle.asp_base.specs.Literal.{Literal, Pos, Neg, atom_of}
use Rattle.asp_base.specs.Sets.{members}
use Rattle.asp_base.proofs.Each.{each-weaker}
use Rattle.ground_program.specs.Dependencies.{with_positive, positives_of_literals, positives_of_items, positives_of_body}
use Rattle.ground_program.specs.Fresh.{Supply, taken}
use Rattle.ground_program.specs.declared.program.Head.{Head}
use Rattle.ground_program.specs.declared.program.Head.TheVariants.{Nothing, One, Choice}
use Rattle.ground_program.specs.declared.program.Body.{Body}
use Rattle.ground_program.specs.declared.program.Body.TheVariants.{All, Sum}
use Rattle.rule_network.specs.Block.{Block, empty_block, is_input, Known, AllBefore, RuleFitsBlock, IsBlock, IsRead, ReadsInputs}

literals-read : (net : Block) (head : ℕ) (lits : List Literal) → AllBefore net head lits
    → AllByRecursion (IsRead net head) (positives_of_literals lits)
literals-read net head [] k = tt
literals-read net head (Pos a ∷ lits) k = (
  ⊎_elim (λ m. inl (m, k.0.1 m)) (λ i. inr i)
      (or_cases (members net.made a) (is_input net a) k.0.0.1),
  literals-read net head lits k.1,
)
literals-read net head (Neg a ∷ lits) k = literals-read net head lits k.1

rule-reads : (net : Block) (head : Head) (body : Body) → RuleFitsBlock net head body
    → ReadsInputs net (record { head = head; body = body })
rule-reads net Nothing body k = absurd k
rule-reads net (One a) (All lits) k = ((k.0, literals-read net a lits k.1), tt)
rule-reads net (One a) (Sum bound items) k = absurd k.1
rule-reads net (Choice as_) body k = absurd k

-- A block's atoms depend positively on atoms of the block below them and on inputs alone.
pub block-reads : (net : Block) → IsBlock net → AllByRecursion (ReadsInputs net) net.rules
block-reads net is =
    each-weaker _ _ (λ rule k. rule-reads net rule.head rule.body k) net.rules is.rules

-- ---- a network for a body

-- each number of a list is one of its members
each-self : (xs : List ℕ) → AllByRecursion (λ a. members xs a ≡ true) xs
each-self [] = tt
each-self (x ∷ xs) = (
  or_left _ _ (eq-eqb x x refl),
  each-weaker _ _ (λ a m. or_right (x == a) _ m) xs (each-self xs),
)

module _ (supply : Supply) (inputs : List ℕ) where
  literal-known : (l : Literal) → members (taken supply) (atom_of l) ≡ true
      → AllByRecursion (λ a. members inputs a ≡ true) (with_positive l [])
      → Known (empty_block supply (Some inputs)) l
  literal-known (Pos a) t i = (t, i.0)
  literal-known (Neg a) t i = (t, refl)

  first-read : (l : Literal) (rest : List ℕ)
      → AllByRecursion (λ a. members inputs a ≡ true) (with_positive l rest)
      → AllByRecursion (λ a. members inputs a ≡ true) (with_positive l [])
      × AllByRecursion (λ a. members inputs a ≡ true) rest
  first-read (Pos a) rest h = ((h.0, tt), h.1)
  first-read (Neg a) rest h = (tt, h)

  items-within : (items : List (Literal × ℤ))
      → AllByRecursion (λ a. members inputs a ≡ true) (positives_of_items items)
      → AllByRecursion (λ item. members (taken supply) (atom_of item.0) ≡ true) items
      → AllByRecursion (λ item. Known (empty_block supply (Some inputs)) item.0) items
  items-within [] i t = tt
  items-within (item ∷ items) i t =
      let k : AllByRecursion (λ a. members inputs a ≡ true) (with_positive item.0 [])
      × AllByRecursion (λ a. members inputs a ≡ true) (positives_of_items items) =
      first-read item.0 (positives_of_items items) i in
      (literal-known item.0 t.0 k.0, items-within items k.1 t.1)

-- The literals of a body of weights, over atoms that are taken, may stand in the rules of a
-- network for it.
pub items-known : (supply : Supply) (bound : ℤ) (items : List (Literal × ℤ))
    → AllByRecursion (λ item. members (taken supply) (atom_of item.0) ≡ true) items
    → AllByRecursion
    (λ item. Known (empty_block supply (Some (positives_of_body (Sum bound items)))) item.0) items
items-known supply bound items t =
    items-within supply (positives_of_items items) items (each-self (positives_of_items items)) t
