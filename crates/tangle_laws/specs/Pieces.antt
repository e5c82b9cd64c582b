-- The rules that stand for the rules of a program, one piece for each of them: which atoms a piece
-- may have, and how many.
use Rattle.std.specs.Prelude.{◌≡◌, ℕ, ◌+◌, ◌<◌, ◌≤◌, ◌==◌, ◌||◌, true, false, List, [], ◌∷◌, length}
use Rattle.std.specs.List.{AllByRecursion, IsDistinct, flat_map, sum_by}
use Rattle.asp_base.specs.Sets.{members}
use Rattle.ground_program.specs.Dependencies.{positives_of_body}
use Rattle.ground_program.specs.Occurrences.{atoms_of_head, atoms_of_rule}
use Rattle.ground_program.specs.Room.{term}
use Rattle.ground_program.specs.Size.{rule_size}
use Rattle.ground_program.specs.Tangle.{is_basic}
use Rattle.ground_program.specs.Normal.{AreNormal}
use Rattle.ground_program.specs.declared.program.Rule.{Rule}

-- new atoms, and the rules in the place of one
pub record Piece : Type 0 where
  pub fresh : List ℕ
  pub rules : List Rule

-- The heads are new or heads of the rule; positive literals are over new atoms, then below a new
-- head, or over positive atoms of the rule's body. Atoms and rules are within the rule's term. A
-- rule of one head over literals is its own piece.
pub record IsPiece (rule : Rule) (piece : Piece) : Type 0 where
  pub normal : AreNormal piece.rules
  pub heads : AllByRecursion (λ made. (a : ℕ) → members (atoms_of_head made.head) a ≡ true
      → (members piece.fresh a || members (atoms_of_head rule.head) a) ≡ true) piece.rules
  pub bodies : AllByRecursion (λ made. (b : ℕ) → members (positives_of_body made.body) b ≡ true
      → (members piece.fresh b || members (positives_of_body rule.body) b) ≡ true) piece.rules
  pub lower : AllByRecursion (λ made. (a b : ℕ) → members (atoms_of_head made.head) a ≡ true
      → members (positives_of_body made.body) b ≡ true → members piece.fresh a ≡ true
      → members piece.fresh b ≡ true → b < a) piece.rules
  pub size : length piece.fresh + sum_by rule_size piece.rules ≤ term rule
  pub basic : is_basic rule ≡ true → piece ≡ record { fresh = []; rules = rule ∷ [] }

abbrev pub ArePieces : List Rule → List Piece → Type 0
ArePieces [] [] = Unit {0}
ArePieces [] (piece ∷ pieces) = ⊥
ArePieces (rule ∷ rules) [] = ⊥
ArePieces (rule ∷ rules) (piece ∷ pieces) = IsPiece rule piece × ArePieces rules pieces

abbrev pub new_atoms : List Piece → List ℕ
new_atoms pieces = flat_map (λ piece. piece.fresh) pieces

abbrev pub made_rules : List Piece → List Rule
made_rules pieces = flat_map (λ piece. piece.rules) pieces

-- Each new atom stands in one piece, and in none of the given rules.
pub record AreApart (rules : List Rule) (pieces : List Piece) : Type 0 where
  pub once : IsDistinct (λ a b. a == b) (new_atoms pieces)
  pub new : (a : ℕ) → members (new_atoms pieces) a ≡ true
      → members (flat_map atoms_of_rule rules) a ≡ false
