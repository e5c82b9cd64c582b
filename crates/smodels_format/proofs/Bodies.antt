-- Literals that are read one by one are the atoms' literals.
use Rattle.std.proofs.Common.{◌≡◌, ◌∙◌, ℕ, zero, suc, List, [], ◌∷◌, ◌++◌, map, Ok, Err, refl, sym, ap}
use Rattle.asp_base.specs.Literal.{Literal}
use Rattle.asp_base.specs.Faults.{◌>>=◌}
use Rattle.statement_fields.specs.Fields.{Reading, atom, many, Faults}
use Rattle.asp_base.specs.declared.faults.LineFault.{LineFault}
use Rattle.asp_base.specs.declared.faults.LineFault.TheVariants as faults
use Rattle.statement_fields.specs.private.Onto.{onto}
use Rattle.statement_fields.proofs.SoFar.{onto-none}
use Rattle.ground_program.specs.declared.reading.ReadKind.{ReadKind}
use Rattle.smodels_format.specs.Read.{literals}
use Rattle.smodels_format.specs.private.Steps.{signed, signed_atom}
use Rattle.smodels_format.specs.declared.sign.Sign.{Sign}
use Rattle.smodels_format.specs.declared.sign.Sign.TheVariants.{Negative, Positive}

-- the literals of atoms that were read
abbrev all_signed : Sign → Reading (List ℕ) → Reading (List Literal)
all_signed sign (Ok read) = Ok (map (signed sign) read.0, read.1)
all_signed sign (Err kind) = Err kind

more-signed : (sign : Sign) (a : ℕ) (read : Reading (List ℕ))
    → (all_signed sign read >>= (λ rest. Ok (signed sign a ∷ rest.0, rest.1))) ≡ all_signed sign (read >>= (λ rest. Ok (a ∷ rest.0, rest.1)))
more-signed sign a (Ok read) = refl
more-signed sign a (Err kind) = refl

abbrev one_signed : Sign → ℕ × List ℕ → Reading Literal
one_signed sign a = Ok (signed sign a.0, a.1)

many-signed : (sign : Sign) (n : ℕ) (line : List ℕ) → many (signed_atom sign) n line ≡ all_signed sign (many atom n line)
many-signed sign zero line = refl
many-signed sign (suc n) line = go (atom line) (λ left. many-signed sign n left)
  where
    go : (first : Reading ℕ) → ((left : List ℕ) → many (signed_atom sign) n left ≡ all_signed sign (many atom n left))
        → ((first >>= one_signed sign) >>= (λ l. many (signed_atom sign) n l.1 >>= (λ rest. Ok (l.0 ∷ rest.0, rest.1))))
        ≡ all_signed sign (first >>= (λ a. many atom n a.1 >>= (λ rest. Ok (a.0 ∷ rest.0, rest.1))))
    go (Ok a) more = ap (λ r. r >>= (λ rest. Ok (signed sign a.0 ∷ rest.0, rest.1))) (more a.1) ∙ more-signed sign a.0 (many atom n a.1)
    go (Err kind) more = refl

-- the literals of a body by the two readings
abbrev both : Reading (List ℕ) → (List ℕ → Reading (List ℕ)) → Reading (List Literal)
both negs poss = negs >>= (λ n. poss n.1 >>= (λ p. Ok (map (signed Negative) n.0 ++ map (signed Positive) p.0, p.1)))

abbrev then_positive : ℕ → List Literal × List ℕ → Reading (List Literal)
then_positive n read = onto read.0 (many (signed_atom Positive) n read.1)

module _ (n p : ℕ) (line : List ℕ) where
  literals-by : literals (n, p) line ≡ (many (signed_atom Negative) n line >>= then_positive p)
  literals-by = go (many atom n line) ∙ ap (λ r. r >>= then_positive p) (sym (many-signed Negative n line))
    where
      ends : (n : List ℕ) (read : Reading (List ℕ)) → (read >>= (λ p. Ok (map (signed Negative) n ++ map (signed Positive) p.0, p.1))) ≡ onto (map (signed Negative) n) (all_signed Positive read)
      ends n (Ok read) = refl
      ends n (Err kind) = refl

      go : (negs : Reading (List ℕ)) → both negs (λ left. many atom p left) ≡ (all_signed Negative negs >>= then_positive p)
      go (Ok negs) = ends negs.0 (many atom p negs.1) ∙ ap (onto (map (signed Negative) negs.0)) (sym (many-signed Positive p negs.1))
      go (Err kind) = refl

  pub literals-fails : (fault : LineFault ReadKind) → Faults (many (signed_atom Negative) n line) fault → Faults (literals (n, p) line) fault
  literals-fails (faults.Kind kind) h = literals-by ∙ ap (λ r. r >>= then_positive p) h
  literals-fails faults.Memory h = tt

  module _ (none negs : List Literal) (left : List ℕ) (empty : none ≡ []) (read : onto none (many (signed_atom Negative) n line) ≡ Ok (negs, left)) where
    behind-negative : literals (n, p) line ≡ onto negs (many (signed_atom Positive) p left)
    behind-negative = literals-by ∙ ap (λ r. r >>= then_positive p) (sym (onto-none (many (signed_atom Negative) n line)) ∙ ap (λ ls. onto ls (many (signed_atom Negative) n line)) (sym empty) ∙ read)

    pub literals-are : (lits : List Literal) (rest : List ℕ) → onto negs (many (signed_atom Positive) p left) ≡ Ok (lits, rest) → literals (n, p) line ≡ Ok (lits, rest)
    literals-are lits rest e = behind-negative ∙ e

    pub positive-fails : (fault : LineFault ReadKind) → Faults (many (signed_atom Positive) p left) fault → Faults (literals (n, p) line) fault
    positive-fails (faults.Kind kind) h = behind-negative ∙ ap (onto negs) h
    positive-fails faults.Memory h = tt
