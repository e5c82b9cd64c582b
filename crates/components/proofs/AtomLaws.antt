-- The atoms of a program's rules are among its atoms, and have nodes of their own.
use Rattle.std.proofs.Common.{◌≡◌, ℕ, suc, ◌^◌, ◌<◌, ◌≤◌, true, ℤ, List, [], ◌∷◌, length, get_or, Some, arith, sym, ◌∙◌, ap, subst}
use Rattle.std.specs.List.{AllByRecursion, slice_get}
use Rattle.std.proofs.lemmas.Option.{get_or_from_slice_get, slice_get_within}
use Rattle.asp_base.specs.Literal.{Literal, Pos, Neg, atom_of}
use Rattle.asp_base.specs.Sets.{members}
use Rattle.asp_base.proofs.Each.{each-both, each-get, each-member, each-weaker}
use Rattle.rising_numbers.specs.Rising.{RisesFrom, place}
use Rattle.rising_numbers.proofs.PlaceLaws.{place-at, place-within}
use Rattle.rising_numbers.proofs.RisingLaws.{index_of_member}
use Rattle.ground_program.specs.Dependencies.{positives_of_body, positives_of_items, positives_of_literals, with_positive}
use Rattle.ground_program.specs.Facts.{Among, BodyFits, FitsBodyWeight, HeadFits, IsAtom, LiteralsFit, RuleFits}
use Rattle.ground_program.specs.Occurrences.{atoms_of_head}
use Rattle.ground_program.specs.declared.program.Body.{Body}
use Rattle.ground_program.specs.declared.program.Body.TheVariants.{All, Sum}
use Rattle.ground_program.specs.declared.program.Head.{Head}
use Rattle.ground_program.specs.declared.program.Head.TheVariants.{Nothing, One, Choice}
use Rattle.ground_program.specs.declared.program.Rule.{Rule}
use Rattle.components.specs.Components.{node_of}

-- ---- rising atoms

pub rises-above : (low : ℕ) (xs : List ℕ) → RisesFrom low xs → AllByRecursion (λ y. low < y) xs
rises-above low [] rise = tt
rises-above low (x ∷ xs) rise =
    let above : low < x = rise.0 in
    (above, each-weaker (λ y. x < y) (λ y. low < y) (λ y (more : x < y). omega arith) xs (rises-above x xs rise.1))

pub atoms-fit : (atoms : List ℕ) → RisesFrom 0 atoms → AllByRecursion (λ a. a ≤ 2 ^ 30) atoms → AllByRecursion IsAtom atoms
atoms-fit atoms rise most = each-both (λ a. 0 < a) (λ a. a ≤ 2 ^ 30) IsAtom (λ a above low. (above, low)) atoms (rises-above 0 atoms rise) most

-- ---- the node of an atom

pub node-below : (atoms : List ℕ) (a : ℕ) → members atoms a ≡ true → node_of atoms a < length atoms
node-below atoms a member = let p = place-within atoms a member in omega arith

pub node-differ : (atoms : List ℕ) → RisesFrom 0 atoms → (a b : ℕ) → members atoms a ≡ true → members atoms b ≡ true → node_of atoms a ≡ node_of atoms b → a ≡ b
node-differ atoms rise a b member_a member_b same =
    let one = index_of_member atoms a member_a in
    let other = index_of_member atoms b member_b in
    let place_a : place atoms a ≡ suc one.0 = ap (place atoms) (sym one.2) ∙ place-at 0 atoms one.0 rise one.1 in
    let place_b : place atoms b ≡ suc other.0 = ap (place atoms) (sym other.2) ∙ place-at 0 atoms other.0 rise other.1 in
    let index : one.0 ≡ other.0 = omega arith in
    sym one.2 ∙ ap (λ i. get_or atoms i 0) index ∙ other.2

pub node-at : (atoms : List ℕ) → RisesFrom 0 atoms → (u : ℕ) → u < length atoms → node_of atoms (get_or atoms u 0) ≡ u
node-at atoms rise u inside = let p = place-at 0 atoms u rise inside in omega arith

-- ---- the atoms of rules

module _ (Fits : ℕ → Type 0) where
  pub heads-fit : (head : Head) → HeadFits Fits head → AllByRecursion Fits (atoms_of_head head)
  heads-fit Nothing fits = tt
  heads-fit (One a) fits = (fits, tt)
  heads-fit (Choice list) fits = fits.1

  positive-fits : (lit : Literal) (rest : List ℕ) → Fits (atom_of lit) → AllByRecursion Fits rest → AllByRecursion Fits (with_positive lit rest)
  positive-fits (Pos a) rest fits all = (fits, all)
  positive-fits (Neg a) rest fits all = all

  literals-fit : (lits : List Literal) → LiteralsFit Fits lits → AllByRecursion Fits (positives_of_literals lits)
  literals-fit [] fits = tt
  literals-fit (lit ∷ lits) fits = positive-fits lit (positives_of_literals lits) fits.0 (literals-fit lits fits.1)

  items-fit : (items : List (Literal × ℤ)) → AllByRecursion (λ item. Fits (atom_of item.0) × FitsBodyWeight item.1) items → AllByRecursion Fits (positives_of_items items)
  items-fit [] fits = tt
  items-fit (item ∷ items) fits = positive-fits item.0 (positives_of_items items) fits.0.0 (items-fit items fits.1)

  pub positives-fit : (body : Body) → BodyFits Fits body → AllByRecursion Fits (positives_of_body body)
  positives-fit (All lits) fits = literals-fit lits fits.1
  positives-fit (Sum bound items) fits = items-fit items fits.2

rule-at : (Fits : ℕ → Type 0) (rules : List Rule) (k : ℕ) (rule : Rule) → AllByRecursion (RuleFits Fits) rules → slice_get rules k ≡ Some rule → RuleFits Fits rule
rule-at Fits rules k rule fits at =
    let is : get_or rules k rule ≡ rule = get_or_from_slice_get rules k rule rule at in
    subst (RuleFits Fits) is (each-get (RuleFits Fits) rules k rule (slice_get_within rules k rule at) fits)

pub heads-among : (atoms : List ℕ) (rules : List Rule) → AllByRecursion (RuleFits (Among atoms)) rules → (k : ℕ) (rule : Rule) (a : ℕ) → slice_get rules k ≡ Some rule → members (atoms_of_head rule.head) a ≡ true → members atoms a ≡ true
heads-among atoms rules fits k rule a at member = each-member (Among atoms) (atoms_of_head rule.head) a (heads-fit (Among atoms) rule.head (rule-at (Among atoms) rules k rule fits at).0) member

pub positives-among : (atoms : List ℕ) (rules : List Rule) → AllByRecursion (RuleFits (Among atoms)) rules → (k : ℕ) (rule : Rule) (b : ℕ) → slice_get rules k ≡ Some rule → members (positives_of_body rule.body) b ≡ true → members atoms b ≡ true
positives-among atoms rules fits k rule b at member = each-member (Among atoms) (positives_of_body rule.body) b (positives-fit (Among atoms) rule.body (rule-at (Among atoms) rules k rule fits at).1) member
