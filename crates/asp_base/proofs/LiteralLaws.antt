-- Laws of literals.
use Rattle.std.proofs.Common.{◌≡◌, ◌≢◌, subst, int_eq, zero, suc, pos, ◌<◌, ◌^◌, true, false, not, Decides, refl, ap, sym, ◌∙◌, arith}
use Rattle.std.proofs.lemmas.Bool.{false≢true}
use Rattle.asp_base.specs.contracts.lit.LitPartialEq.TheImpl as lit
use Rattle.asp_base.proofs.Bools.{same_test, not-not}
use Rattle.std.proofs.lemmas.Bool.Decides.{Decides-eqb, Decides-int_eq}
use Rattle.asp_base.specs.Sets.{Set}
use Rattle.asp_base.specs.Literal.{Literal, Pos, Neg, atom_of, is_positive, negation, literal_of, integer_of, IsLiteral, same_literal, literal_holds}

pub negation-negation : (l : Literal) → negation (negation l) ≡ l
negation-negation (Pos a) = refl
negation-negation (Neg a) = refl

pub atom_of-negation : (l : Literal) → atom_of (negation l) ≡ atom_of l
atom_of-negation (Pos a) = refl
atom_of-negation (Neg a) = refl

pub is_positive-negation : (l : Literal) → is_positive (negation l) ≡ not (is_positive l)
is_positive-negation (Pos a) = refl
is_positive-negation (Neg a) = refl

-- where a literal and its negation are seen in one set, just one of them holds
pub literal_holds-negation : (l : Literal) (M : Set) → literal_holds (negation l) M M ≡ not (literal_holds l M M)
literal_holds-negation (Pos a) M = refl
literal_holds-negation (Neg a) M = sym (not-not (M a))

pub same_literal-Decides : (a b : Literal) → Decides (same_literal a b) (a ≡ b)
same_literal-Decides (Pos a) (Pos b) = (λ t. ap Pos ((Decides-eqb a b).0 t), λ e. (Decides-eqb a b).1 (ap atom_of e))
same_literal-Decides (Neg a) (Neg b) = (λ t. ap Neg ((Decides-eqb a b).0 t), λ e. (Decides-eqb a b).1 (ap atom_of e))
same_literal-Decides (Pos a) (Neg b) = (λ t. absurd (false≢true t), λ e. absurd (false≢true (sym (ap is_positive e))))
same_literal-Decides (Neg a) (Pos b) = (λ t. absurd (false≢true t), λ e. absurd (false≢true (ap is_positive e)))

pub same_literal-same : (l : Literal) → same_literal l l ≡ true
same_literal-same l = (same_literal-Decides l l).1 refl

-- a test that is true is true of equal literals only
pub equal_from_same : (a b : Literal) → same_literal a b ≡ true → a ≡ b
equal_from_same a b = (same_literal-Decides a b).0

pub same_literal-negation : (l : Literal) → same_literal l (negation l) ≡ false
same_literal-negation (Pos a) = refl
same_literal-negation (Neg a) = refl

-- a literal with an atom above 0 is read back from its number
pub literal_of-integer_of : (l : Literal) → 0 < atom_of l → literal_of (integer_of l) ≡ l
literal_of-integer_of (Pos a) above = refl
literal_of-integer_of (Neg zero) above = absurd (omega (arith, above))
literal_of-integer_of (Neg (suc a)) above = refl

-- no literal with an atom above 0 has the number 0
pub integer_of-nonzero : (l : Literal) → 0 < atom_of l → integer_of l ≢ pos 0
integer_of-nonzero (Pos a) above e = absurd (omega (arith, above, ap (λ l. atom_of (literal_of l)) e))
integer_of-nonzero (Neg zero) above e = absurd (omega (arith, above))
integer_of-nonzero (Neg (suc a)) above e = absurd (false≢true (ap (λ z. is_positive (literal_of z)) e))

-- the number of a literal within range is one that a literal may have
pub IsLiteral-integer_of : (l : Literal) → 0 < atom_of l → atom_of l < 2 ^ 31 → IsLiteral (integer_of l)
IsLiteral-integer_of (Pos a) above below = above
IsLiteral-integer_of (Neg zero) above below = absurd (omega (arith, above))
IsLiteral-integer_of (Neg (suc a)) above below = omega (arith, below)

-- a literal with an atom above 0 is the one that has its number
pub same_from_integer : (a b : Literal) → 0 < atom_of a → integer_of a ≡ integer_of b → a ≡ b
same_from_integer a (Pos n) above e = sym (literal_of-integer_of a above) ∙ ap literal_of e
same_from_integer a (Neg (suc n)) above e = sym (literal_of-integer_of a above) ∙ ap literal_of e
same_from_integer a (Neg zero) above e =
    let zero_atom : a ≡ Pos 0 = sym (literal_of-integer_of a above) ∙ ap literal_of e in
    absurd (omega (arith, subst (λ l. 0 < atom_of l) zero_atom above))

-- the `==` of literals
pub eq-same_literal : (a b : Literal) → 0 < atom_of a → (lit.ghosts).eq a b ≡ same_literal b a
eq-same_literal a b above = same_test (int_eq (integer_of a) (integer_of b)) (same_literal b a)
    (λ e. subst (λ l. same_literal l a ≡ true) (same_from_integer a b above ((Decides-int_eq (integer_of a) (integer_of b)).0 e)) (same_literal-same a))
    (λ e. (Decides-int_eq (integer_of a) (integer_of b)).1 (ap integer_of (sym (equal_from_same b a e))))
