-- Sums over the made rules, piece by piece, and the new atoms of the pieces of some rules.
use Rattle.std.proofs.Common.{◌≡◌, refl, sym, subst, ⊎_elim, inl, inr, ℕ, ◌+◌, ◌≤◌, Bool, true, cond, List, [], ◌∷◌, ◌++◌, length, arith, length-append}
use Rattle.std.proofs.lemmas.Bool.{cond-true}
use Rattle.asp_base.specs.Sets.{members}
use Rattle.ground_program.specs.declared.program.Rule.{Rule}
use Rattle.tangle_laws.specs.Pieces.{Piece, ArePieces, made_rules}
use Rattle.tangle_laws.proofs.PartElements.{member-left, member-right}
use Rattle.tangle_laws.proofs.PartSums.{total, total-append}
use Rattle.tangle_laws.proofs.PieceStands.{Stands}

-- the new atoms of the pieces of the rules that pass a test
abbrev pub fresh_where : (Rule → Bool) → List Rule → List Piece → List ℕ
fresh_where test [] pieces = []
fresh_where test (rule ∷ rules) [] = []
fresh_where test (rule ∷ rules) (piece ∷ pieces) = cond (test rule) piece.fresh [] ++ fresh_where
    test rules pieces

pub fresh_where-member : (test : Rule → Bool) (rules : List Rule) (pieces : List Piece)
    (rule : Rule) (piece : Piece) (a : ℕ) → Stands rules pieces rule piece → test rule ≡ true
    → members piece.fresh a ≡ true → members (fresh_where test rules pieces) a ≡ true
fresh_where-member test [] pieces rule piece a s t m = absurd s
fresh_where-member test (r ∷ rules) [] rule piece a s t m = absurd s
fresh_where-member test (r ∷ rules) (p ∷ pieces) rule piece a s t m = ⊎_elim
    (λ e. let passes : test r ≡ true = subst (λ x. test x ≡ true) (sym e.0) t in
    let here : members p.fresh a ≡ true = subst (λ q. members q.fresh a ≡ true) (sym e.1) m in
    member-left (cond (test r) p.fresh []) (fresh_where test rules pieces) a
    (subst (λ xs. members xs a ≡ true) (sym (cond-true (test r) p.fresh [] passes)) here))
    (λ u. member-right (cond (test r) p.fresh []) (fresh_where test rules pieces) a
    (fresh_where-member test rules pieces rule piece a u t m))
    s

-- what holds of each piece holds of all
pub made-within : (test : Rule → Bool) (g h : Rule → ℕ) (rules : List Rule) (pieces : List Piece)
    → ArePieces rules pieces
    → ((rule : Rule) (piece : Piece) → Stands rules pieces rule piece
    → length (cond (test rule) piece.fresh []) + total g piece.rules ≤ h rule)
    → length (fresh_where test rules pieces) + total g (made_rules pieces) ≤ total h rules
made-within test g h [] [] are each = omega arith
made-within test g h [] (p ∷ pieces) are each = absurd are
made-within test g h (r ∷ rules) [] are each = absurd are
made-within test g h (r ∷ rules) (p ∷ pieces) are each =
    let here : length (cond (test r) p.fresh []) + total g p.rules ≤ h r =
    each r p (inl (refl, refl)) in
    let rest : length (fresh_where test rules pieces) + total g (made_rules pieces)
    ≤ total h rules = made-within test g h rules pieces are.1
    (λ rule piece s. each rule piece (inr s)) in
    let long = length-append (cond (test r) p.fresh []) (fresh_where test rules pieces) in
    let sum = total-append g p.rules (made_rules pieces) in
    omega arith
