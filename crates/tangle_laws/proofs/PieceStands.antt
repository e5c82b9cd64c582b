-- Rules with their pieces: new atoms and old ones, and what an edge of the made rules is.
use Rattle.std.proofs.Common.{◌≡◌, ◌⊎◌, refl, sym, ◌∙◌, subst, subst₂, ⊎_elim, inl, inr, ℕ, ◌<◌, true, false, ◌||◌, ◌&&◌, ◌==◌, List, [], ◌∷◌, ℤ}
use Rattle.std.specs.List.{IsDistinct}
use Rattle.std.proofs.lemmas.Bool.{or_cases, or_left, or_right, and_parts, and_from, both_ways, cases_Bool}
use Rattle.asp_base.specs.Literal.{Literal, Pos, Neg, atom_of}
use Rattle.asp_base.specs.Sets.{In, members}
use Rattle.ground_program.specs.Dependencies.{depends, positives_of_body, positives_of_literals, positives_of_items, with_positive}
use Rattle.ground_program.specs.Occurrences.{atoms_of_head, atoms_of_body, atoms_of_rule, atoms_of_literals, atoms_of_items}
use Rattle.ground_program.specs.declared.program.Body.{Body}
use Rattle.ground_program.specs.declared.program.Body.TheVariants.{All, Sum}
use Rattle.ground_program.specs.declared.program.Rule.{Rule}
use Rattle.tangle_laws.specs.Pieces.{Piece, IsPiece, ArePieces, AreApart, new_atoms, made_rules}
use Rattle.tangle_laws.proofs.PartElements.{any-among, among-any, each-among, member-among, among-member, member-flat, member-left, member-right, among-flat}
use Rattle.tangle_laws.proofs.PartDistinct.{AreApartLists, distinct-parts}

-- a piece stands at the place of a rule
abbrev pub Stands : List Rule → List Piece → Rule → Piece → Type 0
Stands [] pieces rule piece = ⊥
Stands (r ∷ rules) [] rule piece = ⊥
Stands (r ∷ rules) (p ∷ pieces) rule piece = ((r ≡ rule) × (p ≡ piece))
    ⊎ Stands rules pieces rule piece

pub stands-piece : (rules : List Rule) (pieces : List Piece) (rule : Rule) (piece : Piece)
    → ArePieces rules pieces → Stands rules pieces rule piece → IsPiece rule piece
stands-piece [] pieces rule piece are s = absurd s
stands-piece (r ∷ rules) [] rule piece are s = absurd s
stands-piece (r ∷ rules) (p ∷ pieces) rule piece are s =
    ⊎_elim (λ e. subst₂ (λ x y. IsPiece x y) e.0 e.1 are.0)
    (λ t. stands-piece rules pieces rule piece are.1 t) s

pub stands-rule : (rules : List Rule) (pieces : List Piece) (rule : Rule) (piece : Piece)
    → Stands rules pieces rule piece → In rule rules
stands-rule [] pieces rule piece s = absurd s
stands-rule (r ∷ rules) [] rule piece s = absurd s
stands-rule (r ∷ rules) (p ∷ pieces) rule piece s = ⊎_elim (λ e. inl e.0)
    (λ t. inr (stands-rule rules pieces rule piece t)) s

pub stands-among : (rules : List Rule) (pieces : List Piece) (rule : Rule) (piece : Piece)
    → Stands rules pieces rule piece → In piece pieces
stands-among [] pieces rule piece s = absurd s
stands-among (r ∷ rules) [] rule piece s = absurd s
stands-among (r ∷ rules) (p ∷ pieces) rule piece s = ⊎_elim (λ e. inl e.1)
    (λ t. inr (stands-among rules pieces rule piece t)) s

pub rule-stands : (rules : List Rule) (pieces : List Piece) (rule : Rule) → ArePieces rules pieces
    → In rule rules → (piece : Piece) × Stands rules pieces rule piece
rule-stands [] pieces rule are a = absurd a
rule-stands (r ∷ rules) [] rule are a = absurd are
rule-stands (r ∷ rules) (p ∷ pieces) rule are a = ⊎_elim (λ e. (p, inl (e, refl)))
    (λ b. let t : (piece : Piece) × Stands rules pieces rule piece =
    rule-stands rules pieces rule are.1 b in (t.0, inr t.1)) a

piece-stands : (rules : List Rule) (pieces : List Piece) (piece : Piece) → ArePieces rules pieces
    → In piece pieces → (rule : Rule) × Stands rules pieces rule piece
piece-stands rules [] piece are a = absurd a
piece-stands [] (p ∷ pieces) piece are a = absurd are
piece-stands (r ∷ rules) (p ∷ pieces) piece are a = ⊎_elim (λ e. (r, inl (refl, e)))
    (λ b. let t : (rule : Rule) × Stands rules pieces rule piece =
    piece-stands rules pieces piece are.1 b in (t.0, inr t.1)) a

-- ---- new atoms

pub fresh-new : (rules : List Rule) (pieces : List Piece) (rule : Rule) (piece : Piece) (a : ℕ)
    → Stands rules pieces rule piece → members piece.fresh a ≡ true
    → members (new_atoms pieces) a ≡ true
fresh-new rules pieces rule piece a s m = member-flat (λ p. p.fresh) pieces piece a
    (stands-among rules pieces rule piece s) m

-- where a new atom stands
pub record IsNew (rules : List Rule) (pieces : List Piece) (a : ℕ) : Type 0 where
  pub rule : Rule
  pub piece : Piece
  pub stands : Stands rules pieces rule piece
  pub inside : members piece.fresh a ≡ true

pub new-stands : (rules : List Rule) (pieces : List Piece) (a : ℕ) → ArePieces rules pieces
    → members (new_atoms pieces) a ≡ true → IsNew rules pieces a
new-stands rules pieces a are m =
    let r : (p : Piece) × In p pieces × In a p.fresh =
    among-flat (λ p. p.fresh) pieces a (member-among (new_atoms pieces) a m) in
    let s : (rule : Rule) × Stands rules pieces rule r.0 = piece-stands rules pieces r.0 are r.1 in
    record { rule = s.0; piece = r.0; stands = s.1; inside = among-member r.0.fresh a r.2 }

-- a new atom stands in one piece
pub one-piece : (rules : List Rule) (pieces : List Piece) (rule other : Rule) (piece next : Piece)
    (a : ℕ) → IsDistinct (λ x y. x == y) (new_atoms pieces)
    → Stands rules pieces rule piece → Stands rules pieces other next → members piece.fresh a ≡ true
    → members next.fresh a ≡ true → (rule ≡ other) × (piece ≡ next)
one-piece [] pieces rule other piece next a d s t m n = absurd s
one-piece (r ∷ rules) [] rule other piece next a d s t m n = absurd s
one-piece (r ∷ rules) (p ∷ pieces) rule other piece next a d s t m n =
    let parts : AreApartLists p.fresh (new_atoms pieces) =
    distinct-parts p.fresh (new_atoms pieces) d in
    ⊎_elim
    (λ e. ⊎_elim (λ f. (sym e.0 ∙ f.0, sym e.1 ∙ f.1))
    (λ u. absurd (parts.apart a (subst (λ q. members q.fresh a ≡ true) (sym e.1) m)
    (fresh-new rules pieces other next a u n))) t)
    (λ u. ⊎_elim (λ f. absurd (parts.apart a (subst (λ q. members q.fresh a ≡ true) (sym f.1) n)
    (fresh-new rules pieces rule piece a u m)))
    (λ v. one-piece rules pieces rule other piece next a parts.right u v m n) t)
    s

-- ---- old atoms

positives-literals : (lits : List Literal) (a : ℕ) → members (positives_of_literals lits) a ≡ true
    → members (atoms_of_literals lits) a ≡ true
positives-literals [] a m = m
positives-literals (Pos b ∷ lits) a m = ⊎_elim (λ e. or_left _ _ e)
    (λ e. or_right _ _ (positives-literals lits a e)) (or_cases _ _ m)
positives-literals (Neg b ∷ lits) a m = or_right _ _ (positives-literals lits a m)

positive-more : (lit : Literal) (positives atoms : List ℕ) (a : ℕ)
    → (members positives a ≡ true → members atoms a ≡ true)
    → members (with_positive lit positives) a ≡ true → members (atom_of lit ∷ atoms) a ≡ true
positive-more (Pos b) positives atoms a h m = ⊎_elim (λ e. or_left _ _ e) (λ e. or_right _ _ (h e))
    (or_cases _ _ m)
positive-more (Neg b) positives atoms a h m = or_right _ _ (h m)

positives-items : (items : List (Literal × ℤ)) (a : ℕ) → members (positives_of_items items) a ≡ true
    → members (atoms_of_items items) a ≡ true
positives-items [] a m = m
positives-items (item ∷ items) a m = positive-more item.0 (positives_of_items items)
    (atoms_of_items items) a (λ e. positives-items items a e) m

positives-body : (body : Body) (a : ℕ) → members (positives_of_body body) a ≡ true
    → members (atoms_of_body body) a ≡ true
positives-body (All lits) a m = positives-literals lits a m
positives-body (Sum bound items) a m = positives-items items a m

module _ (rules : List Rule) (pieces : List Piece) (apart : AreApart rules pieces) where
  old-in_rule : (rule : Rule) (a : ℕ) → In rule rules → members (atoms_of_rule rule) a ≡ true
      → members (new_atoms pieces) a ≡ false
  old-in_rule rule a among m =
      ⊎_elim (λ t. absurd (both_ways _ (apart.new a t)
      (member-flat atoms_of_rule rules rule a among m))) (λ t. t)
      (cases_Bool (members (new_atoms pieces) a))

  pub old-head : (rule : Rule) (a : ℕ) → In rule rules
      → members (atoms_of_head rule.head) a ≡ true → members (new_atoms pieces) a ≡ false
  old-head rule a among m =
      old-in_rule rule a among (member-left (atoms_of_head rule.head) (atoms_of_body rule.body) a m)

  pub old-positive : (rule : Rule) (a : ℕ) → In rule rules
      → members (positives_of_body rule.body) a ≡ true → members (new_atoms pieces) a ≡ false
  old-positive rule a among m = old-in_rule rule a among
      (member-right (atoms_of_head rule.head) (atoms_of_body rule.body) a
      (positives-body rule.body a m))

-- ---- edges

pub depends-by : (rules : List Rule) (rule : Rule) (a b : ℕ) → In rule rules
    → members (atoms_of_head rule.head) a ≡ true → members (positives_of_body rule.body) b ≡ true
    → depends rules a b ≡ true
depends-by rules rule a b among h p =
    among-any (λ r. members (atoms_of_head r.head) a && members (positives_of_body r.body) b) rules
    rule among (and_from _ _ h p)

-- the rule of an edge
pub record IsEdge (rules : List Rule) (a b : ℕ) : Type 0 where
  pub rule : Rule
  pub among : In rule rules
  pub head : members (atoms_of_head rule.head) a ≡ true
  pub body : members (positives_of_body rule.body) b ≡ true

pub depends-edge : (rules : List Rule) (a b : ℕ) → depends rules a b ≡ true → IsEdge rules a b
depends-edge rules a b m =
    let r : (rule : Rule) × In rule rules
    × ((members (atoms_of_head rule.head) a && members (positives_of_body rule.body) b) ≡ true)
    = any-among (λ rule. members (atoms_of_head rule.head) a &&
    members (positives_of_body rule.body) b) rules m in
    let both = and_parts _ _ r.2 in
    record { rule = r.0; among = r.1; head = both.0; body = both.1 }

-- an edge of the made rules is of one piece
pub record IsMadeEdge (rules : List Rule) (pieces : List Piece) (a b : ℕ) : Type 0 where
  pub rule : Rule
  pub piece : Piece
  pub stands : Stands rules pieces rule piece
  pub head : (members piece.fresh a || members (atoms_of_head rule.head) a) ≡ true
  pub body : (members piece.fresh b || members (positives_of_body rule.body) b) ≡ true
  pub lower : members piece.fresh a ≡ true → members piece.fresh b ≡ true → b < a

pub made-edge : (rules : List Rule) (pieces : List Piece) (a b : ℕ) → ArePieces rules pieces
    → depends (made_rules pieces) a b ≡ true → IsMadeEdge rules pieces a b
made-edge rules pieces a b are m =
    let edge : IsEdge (made_rules pieces) a b = depends-edge (made_rules pieces) a b m in
    let r : (p : Piece) × In p pieces × In edge.rule p.rules =
    among-flat (λ p. p.rules) pieces edge.rule edge.among in
    let s : (rule : Rule) × Stands rules pieces rule r.0 = piece-stands rules pieces r.0 are r.1 in
    let is : IsPiece s.0 r.0 = stands-piece rules pieces s.0 r.0 are s.1 in
    record {
      rule = s.0;
      piece = r.0;
      stands = s.1;
      head = each-among _ r.0.rules edge.rule is.heads r.2 a edge.head;
      body = each-among _ r.0.rules edge.rule is.bodies r.2 b edge.body;
      lower = each-among _ r.0.rules edge.rule is.lower r.2 a b edge.head edge.body;
    }
