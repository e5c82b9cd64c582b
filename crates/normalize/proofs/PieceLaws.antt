-- What was added for a rule is a piece.
use Rattle.std.proofs.Common.{◌≡◌, inl, inr, sym, ◌∙◌, ap, ℕ, ◌+◌, ℤ, ◌<◌, ◌≤◌, ◌||◌, Bool, ◌&&◌, true, false, List, [], ◌∷◌, length, append-nil, ⊎_elim, arith}
use Rattle.std.specs.List.{AllByRecursion, sum_by}
use Rattle.std.proofs.lemmas.Bool.{or_left, or_right, or_cases, true≢false}
use Rattle.std.proofs.lemmas.List.{append_cancel_left, length-append}
use Rattle.std.proofs.lemmas.List.Sums.{sum_by-append}
use Rattle.asp_base.specs.Literal.{Literal, Pos, Neg, atom_of}
use Rattle.asp_base.specs.Sets.{members}
use Rattle.asp_base.proofs.Each.{each-map, each-member, each-weaker}
use Rattle.rising_numbers.specs.Rising.{rising}
use Rattle.rising_numbers.proofs.RisingLaws.{RisesFrom-rising, members-append, members-rising}
use Rattle.ground_program.specs.Dependencies.{with_positive, positives_of_body, positives_of_literals, positives_of_items}
use Rattle.ground_program.specs.Facts.{HeadFits, BodyFits, RuleFits}
use Rattle.ground_program.specs.Occurrences.{atoms_of_literals, atoms_of_items, atoms_of_head, atoms_of_body, atoms_of_rule}
use Rattle.ground_program.specs.Room.{term}
use Rattle.ground_program.specs.Size.{rule_size}
use Rattle.ground_program.specs.Tangle.{is_basic, is_one, is_all}
use Rattle.ground_program.specs.Normal.{IsNormalHead, IsNormalBody}
use Rattle.ground_program.specs.declared.program.Head.{Head}
use Rattle.ground_program.specs.declared.program.Head.TheVariants.{Nothing, One, Choice}
use Rattle.ground_program.specs.declared.program.Body.{Body}
use Rattle.ground_program.specs.declared.program.Body.TheVariants.{All, Sum}
use Rattle.ground_program.specs.declared.program.Rule.{Rule}
use Rattle.tangle_laws.specs.Pieces.{Piece, IsPiece}
use Rattle.normalize.specs.private.Added.{IsLower, IsMadeHead, Adds}
use Rattle.normalize.specs.private.Stage.{Stage, atoms_of, known, IsNormal, Spends, with_rule}
use Rattle.tangle_laws.proofs.PartDistinct.{length-within}
use Rattle.normalize.proofs.DistinctLaws.{rises-distinct}
use Rattle.normalize.proofs.StageLaws.{atoms-known}

-- ---- heads and positive atoms of a rule that fits

module _ (there : ℕ → Bool) where
  head-there : (head : Head) → HeadFits (λ a. there a ≡ true) head
      → (a : ℕ) → members (atoms_of_head head) a ≡ true → there a ≡ true
  head-there Nothing h a m = absurd (true≢false (sym m))
  head-there (One b) h a m = each-member (λ c. there c ≡ true) (b ∷ []) a (h, tt) m
  head-there (Choice as_) h a m = each-member (λ c. there c ≡ true) as_ a h.1 m

  positive-there : (l : Literal) (rest : List ℕ) → there (atom_of l) ≡ true
      → AllByRecursion (λ a. there a ≡ true) rest
      → AllByRecursion (λ a. there a ≡ true) (with_positive l rest)
  positive-there (Pos a) rest h k = (h, k)
  positive-there (Neg a) rest h k = k

  literals-there : (lits : List Literal) → AllByRecursion (λ l. there (atom_of l) ≡ true) lits
      → AllByRecursion (λ a. there a ≡ true) (positives_of_literals lits)
  literals-there [] h = tt
  literals-there (l ∷ lits) h =
      positive-there l (positives_of_literals lits) h.0 (literals-there lits h.1)

  items-there : (items : List (Literal × ℤ))
      → AllByRecursion (λ item. there (atom_of item.0) ≡ true) items
      → AllByRecursion (λ a. there a ≡ true) (positives_of_items items)
  items-there [] h = tt
  items-there (item ∷ items) h =
      positive-there item.0 (positives_of_items items) h.0 (items-there items h.1)

  atoms-there : (body : Body) → BodyFits (λ a. there a ≡ true) body
      → (a : ℕ) → members (atoms_of_body body) a ≡ true → there a ≡ true
  atoms-there (All lits) h a m =
      each-member (λ c. there c ≡ true) (atoms_of_literals lits) a
      (each-map (λ c. there c ≡ true) atom_of lits h.1) m
  atoms-there (Sum bound items) h a m =
      each-member (λ c. there c ≡ true) (atoms_of_items items) a
      (each-map (λ c. there c ≡ true) (λ item. atom_of item.0) items
      (each-weaker _ _ (λ item k. k.0) items h.2)) m

  body-there : (body : Body) → BodyFits (λ a. there a ≡ true) body
      → (a : ℕ) → members (positives_of_body body) a ≡ true → there a ≡ true
  body-there (All lits) h a m =
      each-member (λ c. there c ≡ true) (positives_of_literals lits) a (literals-there lits h.1) m
  body-there (Sum bound items) h a m =
      each-member (λ c. there c ≡ true) (positives_of_items items) a
      (items-there items (each-weaker _ _ (λ item k. k.0) items h.2)) m

pub rule-atoms-there : (there : ℕ → Bool) (rule : Rule) → RuleFits (λ a. there a ≡ true) rule
    → (a : ℕ) → members (atoms_of_rule rule) a ≡ true → there a ≡ true
rule-atoms-there there rule f a m = ⊎_elim
    (λ k. head-there there rule.head f.0 a k)
    (λ k. atoms-there there rule.body f.1 a k)
    (or_cases _ _ (sym (members-append (atoms_of_head rule.head) (atoms_of_body rule.body) a) ∙ m))

abbrev piece_of : List ℕ → List Rule → Piece
piece_of fresh rules = record { fresh = fresh; rules = rules }

pieces-same : (f g : List ℕ) (r q : List Rule) → f ≡ g → r ≡ q → piece_of f r ≡ piece_of g q
pieces-same f g r q e h = ap (λ x. piece_of x r) e ∙ ap (λ x. piece_of g x) h

basic-normal : (head : Head) (body : Body) → (is_one head && is_all body) ≡ true
    → IsNormalHead head × IsNormalBody body
basic-normal (One a) (All lits) e = (tt, tt)
basic-normal (One a) (Sum bound items) e = absurd (true≢false (sym e))
basic-normal Nothing body e = absurd (true≢false (sym e))
basic-normal (Choice as_) body e = absurd (true≢false (sym e))

-- ---- a piece

module _ (s t : Stage) (rule : Rule) (fits : RuleFits (λ a. atoms_of s a ≡ true) rule)
    (p : Adds (atoms_of_head rule.head) (positives_of_body rule.body) s t)
    (spent : Spends (term rule) s t) (same : IsNormal rule → t ≡ with_rule rule s) where
  abbrev piece : Piece
  piece = record { fresh = rising p.drawn; rules = p.new }

  new-apart : (a : ℕ) → members (rising p.drawn) a ≡ true → known s a ≡ false
  new-apart a m = (each-member _ p.drawn a p.apart (sym (members-rising p.drawn a) ∙ m)).1

  old-known : (a : ℕ) → members (atoms_of_head rule.head) a ≡ true → known s a ≡ true
  old-known a m = atoms-known s a (head-there (atoms_of s) rule.head fits.0 a m)

  read-known : (a : ℕ) → members (positives_of_body rule.body) a ≡ true → known s a ≡ true
  read-known a m = atoms-known s a (body-there (atoms_of s) rule.body fits.1 a m)

  made-head : (positives : List ℕ) (a : ℕ)
      → IsMadeHead p.drawn (atoms_of_head rule.head) (positives_of_body rule.body) positives a
      → (members (rising p.drawn) a || members (atoms_of_head rule.head) a) ≡ true
  made-head positives a (inl k) = or_right (members (rising p.drawn) a) _ k
  made-head positives a (inr k) = or_left _ _ (members-rising p.drawn a ∙ k.0)

  made-read : (b : ℕ) → (members p.drawn b || members (positives_of_body rule.body) b) ≡ true
      → (members (rising p.drawn) b || members (positives_of_body rule.body) b) ≡ true
  made-read b h =
      ap (λ x. x || members (positives_of_body rule.body) b) (members-rising p.drawn b) ∙ h

  lower-read : (a b : ℕ) → members (rising p.drawn) b ≡ true
      → IsLower p.drawn (positives_of_body rule.body) a b → b < a
  lower-read a b n (inl k) = k.1
  lower-read a b n (inr k) = absurd (true≢false (sym (read-known b k) ∙ new-apart b n))

  lower-head : (positives : List ℕ) (a b : ℕ)
      → members (rising p.drawn) a ≡ true → members (rising p.drawn) b ≡ true
      → members positives b ≡ true
      → IsMadeHead p.drawn (atoms_of_head rule.head) (positives_of_body rule.body) positives a
      → b < a
  lower-head positives a b m n r (inl k) =
      absurd (true≢false (sym (old-known a k) ∙ new-apart a m))
  lower-head positives a b m n r (inr k) =
      lower-read a b n (each-member _ positives b k.1 r)

  few : length (rising p.drawn) ≤ length p.drawn
  few = length-within (rising p.drawn) p.drawn
      (rises-distinct 0 (rising p.drawn)
      (RisesFrom-rising 0 p.drawn (each-weaker _ _ (λ a k. k.0) p.drawn p.apart)))
      (λ a m. sym (members-rising p.drawn a) ∙ m)

  small : length (rising p.drawn) + sum_by rule_size p.new ≤ term rule
  small =
      let g : length t.supply.given ≡ length s.supply.given + length p.drawn =
      ap length p.given ∙ length-append s.supply.given p.drawn in
      let r : sum_by rule_size t.rules ≡ sum_by rule_size s.rules + sum_by rule_size p.new =
      ap (sum_by rule_size) p.rules ∙ sum_by-append rule_size s.rules p.new in
      count (length s.supply.given) (length t.supply.given) (length p.drawn)
      (length (rising p.drawn))
      (sum_by rule_size s.rules) (sum_by rule_size t.rules) (sum_by rule_size p.new) (term rule)
      g r few spent
    where
      count : (g h d f m n k c : ℕ) → h ≡ g + d → n ≡ m + k → f ≤ d → h + n ≤ g + m + c → f + k ≤ c
      count g h d f m n k c e q l o = omega arith

  own : is_basic rule ≡ true → piece ≡ record { fresh = []; rules = rule ∷ [] }
  own e =
      let t-is : t ≡ with_rule rule s = same (basic-normal rule.head rule.body e) in
      let none : p.drawn ≡ [] = append_cancel_left s.supply.given p.drawn []
      (sym p.given ∙ (ap (λ w. w.supply.given) t-is ∙ sym (append-nil s.supply.given))) in
      let one : p.new ≡ rule ∷ [] = append_cancel_left s.rules p.new (rule ∷ [])
      (sym p.rules ∙ ap (λ w. w.rules) t-is) in
      pieces-same (rising p.drawn) [] p.new (rule ∷ []) (ap rising none) one

  pub made-piece : IsPiece rule (record { fresh = rising p.drawn; rules = p.new })
  made-piece = record {
    normal = each-weaker _ _ (λ made k. k.normal) p.new p.made;
    heads = each-weaker _ _
        (λ made k a m. made-head (positives_of_body made.body) a
        (each-member _ (atoms_of_head made.head) a k.head m))
        p.new p.made;
    bodies = each-weaker _ _
        (λ made k b m. made-read b (each-member _ (positives_of_body made.body) b k.body m))
        p.new p.made;
    lower = each-weaker _ _
        (λ made k a b h r m n. lower-head (positives_of_body made.body) a b m n r
        (each-member _ (atoms_of_head made.head) a k.head h))
        p.new p.made;
    size = small;
    basic = own;
  }
