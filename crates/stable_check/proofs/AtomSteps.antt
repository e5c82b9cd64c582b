-- The atoms of a line, token by token.
use Rattle.std.proofs.Common.{◌≡◌, refl, sym, ◌∙◌, ap, subst, ℕ, ◌<◌, ℤ, pos, ◌^◌, int_lt, Bool, true, false, List, [], ◌∷◌, ◌++◌, append_assoc, length, Option, Some, None, IsSome, Result, Ok, Err}
use Rattle.std.specs.Ordering.{int_eq}
use Rattle.asp_scan.specs.Tokens.{token_at, tokens, integer_of, checked, with_rest}
use Rattle.asp_scan.specs.declared.scan.ScanFault.{ScanFault}
use Rattle.asp_scan.specs.declared.scan.ScanFault.TheVariants as scan
use Rattle.asp_scan.proofs.LineTokens.{token_at-shorter, tokens-some, token_at-token}
use Rattle.asp_base.specs.Faults.{fault}
use Rattle.ground_program.specs.declared.reading.ReadKind.{ReadKind}
use Rattle.ground_program.specs.declared.reading.ReadKind.TheVariants as kinds
use Rattle.statement_fields.specs.Fields.{Reading, unless, lifted, above, natural, atom}
use Rattle.stable_check.specs.AtomsText.{atoms_of_tokens}
use Rattle.stable_check.specs.private.Gathering.{onto}
use Rattle.asp_base.specs.Faults.{at_line, ◌>>=◌}

-- ---- one token

abbrev checked_atom : ℤ × List ℕ → Reading ℕ
checked_atom n = unless (int_eq n.0 (pos 0)) kinds.ZeroAtom (unless (int_lt n.0 (pos 0)) kinds.BadNumber (unless (above (2 ^ 30) n.0) kinds.AtomTooLarge (Ok (natural n.0, n.1))))

abbrev atom_from : Result ℤ ScanFault → List ℕ → Reading ℕ
atom_from r rest = lifted (with_rest r rest) >>= (λ n. checked_atom n)

-- with this behind it
abbrev before : List ℕ → Reading ℕ → Reading ℕ
before rest (Ok read) = Ok (read.0, rest)
before rest (Err kind) = Err kind

from-before : (r : Result ℤ ScanFault) (left rest : List ℕ) → atom_from r rest ≡ before rest (atom_from r left)
from-before (Err f) left rest = refl
from-before (Ok n) left rest = by (int_eq n (pos 0)) (int_lt n (pos 0)) (above (2 ^ 30) n)
  where
    by : (zero below large : Bool) → unless zero kinds.ZeroAtom (unless below kinds.BadNumber (unless large kinds.AtomTooLarge (Ok (natural n, rest))))
        ≡ before rest (unless zero kinds.ZeroAtom (unless below kinds.BadNumber (unless large kinds.AtomTooLarge (Ok (natural n, left)))))
    by true below large = refl
    by false true large = refl
    by false false true = refl
    by false false false = refl

abbrev of_token : Option (List ℕ × List ℕ) → Reading ℕ
of_token o = lifted (elim o as (λ x. Result (ℤ × List ℕ) ScanFault) [ None ↦ Err scan.Missing | Some token ↦ with_rest (checked (integer_of token.0)) token.1 ]) >>= (λ n. checked_atom n)

atom-at : (line : List ℕ) (token : List ℕ × List ℕ) → token_at line ≡ Some token → atom line ≡ atom_from (checked (integer_of token.0)) token.1
atom-at line token e = ap of_token e

-- an atom of a line is the atom of its first token
atom-token : (line : List ℕ) (token : List ℕ × List ℕ) → token_at line ≡ Some token → atom token.0 ≡ before [] (atom line)
atom-token line token e =
    atom-at token.0 (token.0, []) (token_at-token line token e)
    ∙ from-before (checked (integer_of token.0)) token.1 []
    ∙ ap (before []) (sym (atom-at line token e))

atom-rest : (line : List ℕ) (token : List ℕ × List ℕ) (a : ℕ) (rest : List ℕ) → token_at line ≡ Some token → atom line ≡ Ok (a, rest) → token.1 ≡ rest
atom-rest line token a rest t e =
    let read : Reading ℕ = atom_from (checked (integer_of token.0)) token.1 in
    let is : read ≡ Ok (a, rest) = sym (atom-at line token t) ∙ e in
    let here : Ok (a, token.1) ≡ Ok (a, rest) = ap (before token.1) (sym is) ∙ sym (from-before (checked (integer_of token.0)) token.1 token.1) ∙ is in
    ap (λ r. elim r as (λ x. List ℕ) [ Ok read ↦ read.1 | Err kind ↦ [] ]) here

abbrev put : ℕ → Result (List ℕ) ReadKind → Result (List ℕ) ReadKind
put a r = r >>= (λ more. Ok (a ∷ more))

abbrev and_more : List (List ℕ) → Reading ℕ → Result (List ℕ) ReadKind
and_more rest r = r >>= (λ a. atoms_of_tokens rest >>= (λ more. Ok (a.0 ∷ more)))

line-next : (line rest : List ℕ) (a : ℕ) → atom line ≡ Ok (a, rest) → atoms_of_tokens (tokens line) ≡ put a (atoms_of_tokens (tokens rest))
line-next line rest a e = by (token_at line) refl
  where
    by : (o : Option (List ℕ × List ℕ)) → token_at line ≡ o → atoms_of_tokens (tokens line) ≡ put a (atoms_of_tokens (tokens rest))
    by None t = let missing : of_token None ≡ Ok (a, rest) = ap of_token (sym t) ∙ e in absurd (cc)
    by (Some token) t =
        ap atoms_of_tokens (tokens-some line token t)
        ∙ ap (and_more (tokens token.1)) (atom-token line token t ∙ ap (before []) e)
        ∙ ap (λ l. put a (atoms_of_tokens (tokens l))) (atom-rest line token a rest t e)

line-fault : (line : List ℕ) (kind : ReadKind) → IsSome (token_at line) → atom line ≡ Err kind → atoms_of_tokens (tokens line) ≡ Err kind
line-fault line kind some e = by (token_at line) refl some
  where
    by : (o : Option (List ℕ × List ℕ)) → token_at line ≡ o → IsSome o → atoms_of_tokens (tokens line) ≡ Err kind
    by None t s = absurd (cc)
    by (Some token) t s = ap atoms_of_tokens (tokens-some line token t) ∙ ap (and_more (tokens token.1)) (atom-token line token t ∙ ap (before []) e)

-- what follows an atom is shorter than the line
pub atom-shorter : (line rest : List ℕ) (a : ℕ) → atom line ≡ Ok (a, rest) → length rest < length line
atom-shorter line rest a e = by (token_at line) refl
  where
    by : (o : Option (List ℕ × List ℕ)) → token_at line ≡ o → length rest < length line
    by None t = let missing : of_token None ≡ Ok (a, rest) = ap of_token (sym t) ∙ e in absurd (cc)
    by (Some token) t = subst (λ (left : List ℕ). length left < length line) (atom-rest line token a rest t e) (token_at-shorter line token t)

-- ---- a line

onto-put : (front : List ℕ) (a : ℕ) (r : Result (List ℕ) ReadKind) → onto front (put a r) ≡ onto (front ++ (a ∷ [])) r
onto-put front a (Ok more) = ap (λ xs. Ok xs) (sym (append_assoc front (a ∷ []) more))
onto-put front a (Err kind) = refl

-- an atom that was read goes behind the others
pub atoms-next : (front longer line rest : List ℕ) (a : ℕ) → atom line ≡ Ok (a, rest) → longer ≡ front ++ (a ∷ [])
    → onto longer (atoms_of_tokens (tokens rest)) ≡ onto front (atoms_of_tokens (tokens line))
atoms-next front longer line rest a e grown =
    ap (λ xs. onto xs (atoms_of_tokens (tokens rest))) grown
    ∙ sym (onto-put front a (atoms_of_tokens (tokens rest)))
    ∙ ap (onto front) (sym (line-next line rest a e))

onto-fault : {E : Type 0} (front : List ℕ) (r : Result (List ℕ) E) (e : E) → onto front r ≡ Err e → r ≡ Err e
onto-fault front (Ok atoms) e h = absurd (cc)
onto-fault front (Err f) e h = h

-- the fault of an atom is that of the line
pub atoms-fault : (front start line : List ℕ) (now : List ℕ) (n m : ℕ) (kind : ReadKind) → onto now (atoms_of_tokens (tokens line)) ≡ onto front (atoms_of_tokens (tokens start))
    → IsSome (token_at line) → atom line ≡ Err kind → n ≡ m → at_line m (atoms_of_tokens (tokens start)) ≡ fault n kind
atoms-fault front start line now n m kind same some e at =
    ap (at_line m) (onto-fault front (atoms_of_tokens (tokens start)) kind (sym same ∙ ap (onto now) (line-fault line kind some e)))
    ∙ ap (λ k. fault k kind) (sym at)
