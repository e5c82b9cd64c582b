-- A text has few lines that are not blank: each has a byte, and each but the last an end.
use Rattle.std.proofs.Common.{ℕ, suc, ◌+◌, ◌*◌, ◌≤◌, ◌==◌, Bool, true, false, cond, List, [], ◌∷◌, length, arith}
use Rattle.asp_scan.specs.Lines.{Line, is_blank_line, onto_first, pieces_of, without_return, unless_blank, numbered, lines_of}

-- what follows the first piece has at most half as many lines as there are bytes behind that piece
abbrev Few : List (List ℕ) → ℕ → Type 0
Few [] m = Unit {0}
Few (piece ∷ pieces) m = (n : ℕ) → 2 * length (numbered n pieces) + length piece ≤ m

unless_blank-long : (line : Line) (lines : List Line) → length (unless_blank line lines) ≤ length lines + 1
unless_blank-long line lines = go (is_blank_line line.bytes)
  where
    go : (b : Bool) → length (cond b lines (line ∷ lines)) ≤ length lines + 1
    go true = omega arith
    go false = omega arith

Few-all : (pieces : List (List ℕ)) (m : ℕ) → Few pieces m → (n : ℕ) → 2 * length (numbered n pieces) ≤ m + 1
Few-all [] m few n = omega arith
Few-all ([] ∷ pieces) m few n = omega (arith, few (suc n))
Few-all ((byte ∷ bytes) ∷ pieces) m few n =
    omega (arith, few (suc n), unless_blank-long (record { number = n; bytes = without_return (byte ∷ bytes) }) (numbered (suc n) pieces))

onto_first-few : (byte : ℕ) (pieces : List (List ℕ)) (m : ℕ) → Few pieces m → Few (onto_first byte pieces) (suc m)
onto_first-few byte [] m few = λ n. omega arith
onto_first-few byte (piece ∷ pieces) m few = λ n. omega (arith, few n)

pieces_of-few : (text : List ℕ) → Few (pieces_of text) (length text)
pieces_of-few [] = tt
pieces_of-few (byte ∷ bytes) = go (byte == 10) (pieces_of-few bytes)
  where
    go : (b : Bool) → Few (pieces_of bytes) (length bytes) → Few (cond b ([] ∷ pieces_of bytes) (onto_first byte (pieces_of bytes))) (suc (length bytes))
    go true few = λ n. omega (arith, Few-all (pieces_of bytes) (length bytes) few n)
    go false few = onto_first-few byte (pieces_of bytes) (length bytes) few

pub lines_of-few : (text : List ℕ) → 2 * length (lines_of text) ≤ length text + 1
lines_of-few text = Few-all (pieces_of text) (length text) (pieces_of-few text) 1
