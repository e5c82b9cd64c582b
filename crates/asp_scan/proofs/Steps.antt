-- A walk goes to the next line.
use Rattle.std.proofs.Common.{◌≡◌, refl, sym, ◌∙◌, ap, ap₂, ℕ, suc, ◌+◌, ◌==◌, max, Bool, true, false, List, [], ◌∷◌, length, arith}
use Rattle.std.proofs.lemmas.Bool.{cond-true, cond-false, ne_eqb}
use Rattle.asp_scan.specs.Lines.{Line, is_blank, is_blank_line, without_return, numbered}
use Rattle.asp_scan.specs.Tokens.{skip_blanks}
use Rattle.asp_scan.specs.Scanning.{Scanning, at_lines, next}

-- a line is blank where nothing is left behind its blanks
pub is_blank_line-skipped : (line : List ℕ) → is_blank_line line ≡ (length (skip_blanks line) == 0)
is_blank_line-skipped [] = refl
is_blank_line-skipped (byte ∷ bytes) = by (is_blank byte) refl (is_blank_line-skipped bytes)
  where
    by : (b : Bool) → is_blank byte ≡ b → is_blank_line bytes ≡ (length (skip_blanks bytes) == 0) → is_blank_line (byte ∷ bytes) ≡ (length (skip_blanks (byte ∷ bytes)) == 0)
    by true e rest = simp e rest
    by false e rest = simp e (sym (ne_eqb (suc (length bytes)) 0 (λ h. omega arith)))

module _ (n : ℕ) (piece line behind : List ℕ) (pieces : List (List ℕ)) (is_line : line ≡ without_return piece) (is_behind : behind ≡ skip_blanks line) where
  blank : is_blank_line (without_return piece) ≡ (length behind == 0)
  blank = ap is_blank_line (sym is_line) ∙ (is_blank_line-skipped line ∙ ap (λ l. length l == 0) (sym is_behind))

  pub numbered-blank : (length behind == 0) ≡ true → numbered (suc n) (piece ∷ pieces) ≡ numbered (suc (n + 1)) pieces
  numbered-blank e = cond-true (is_blank_line (without_return piece)) _ _ (blank ∙ e) ∙ ap (λ k. numbered k pieces) (let k : suc (suc n) ≡ suc (n + 1) = omega arith in k)

  pub numbered-line : (length behind == 0) ≡ false → numbered (suc n) (piece ∷ pieces) ≡ record { number = n + 1; bytes = line } ∷ numbered (suc (n + 1)) pieces
  numbered-line e =
      cond-false (is_blank_line (without_return piece)) _ _ (blank ∙ e)
      ∙ ap₂ (λ k (bytes : List ℕ). record { number = k; bytes = bytes } ∷ numbered (suc k) pieces) (let k : suc n ≡ n + 1 = omega arith in k) (sym is_line)

pub last-same : (n last : ℕ) (pieces rest : List (List ℕ)) (piece : List ℕ) → pieces ≡ piece ∷ rest → max 1 (n + length pieces) ≡ last → max 1 (n + 1 + length rest) ≡ last
last-same n last pieces rest piece e l = let k : length pieces ≡ suc (length rest) = ap length e in omega arith

pub next-is : (s : Scanning) (line : Line) (lines : List Line) (last : ℕ) → s.ahead ≡ line ∷ lines → last ≡ s.last → at_lines (line ∷ lines) last ≡ next s
next-is s line lines last e l = sym (ap₂ at_lines e (sym l))
