-- The byte behind a name: where no bytes are taken behind one blank.
use Rattle.std.proofs.Common.{◌≡◌, ℕ, Bool, true, false, cond, ◌&&◌, List, [], ◌∷◌, drop, length, Some, None, IsSome, refl, sym, ap, arith}
use Rattle.std.specs.Prelude.{Option}
use Rattle.std.proofs.lemmas.Bool.{le-leb}
use Rattle.asp_scan.specs.Lines.{is_blank}
use Rattle.asp_scan.specs.Tokens.{token_at, bytes_from, skip_blanks}
use Rattle.asp_scan.specs.Words.{ends_token}
use Rattle.asp_scan.proofs.LineTokens.{first_token, left_of}

-- a blank
pub ends-blank : (line found left : List ℕ) → bytes_from 0 line ≡ Some (found, left) → (ends_token line ≡ true) × (left ≡ drop 1 line)
ends-blank [] found left e = cc
ends-blank (byte ∷ bytes) found left e = go (is_blank byte) _ e
  where
    go : (a b : Bool) → cond {A = Option (List ℕ × List ℕ)} (a && b) (Some ([], bytes)) None ≡ Some (found, left) → (a ≡ true) × (left ≡ bytes)
    go true true e = (refl, ap left_of (sym e))
    go true false e = cc
    go false b e = cc

-- the end of the line
pub ends-line : (line : List ℕ) → bytes_from 0 line ≡ None → token_at line ≡ None → (ends_token line ≡ true) × (line ≡ drop 1 line)
ends-line [] e t = (refl, refl)
ends-line (byte ∷ bytes) e t = absurd (go (is_blank byte) _ (le-leb 0 (length bytes) (omega arith)) e t)
  where
    go : (a b : Bool) → b ≡ true → cond {A = Option (List ℕ × List ℕ)} (a && b) (Some ([], bytes)) None ≡ None → first_token (cond a (skip_blanks bytes) (byte ∷ bytes)) ≡ None → ⊥
    go true true h e t = cc
    go true false h e t = cc
    go false b h e t = cc

-- neither
pub ends-other : (line : List ℕ) → bytes_from 0 line ≡ None → IsSome (token_at line) → ends_token line ≡ false
ends-other [] e t = cc
ends-other (byte ∷ bytes) e t = go (is_blank byte) _ (le-leb 0 (length bytes) (omega arith)) e
  where
    go : (a b : Bool) → b ≡ true → cond {A = Option (List ℕ × List ℕ)} (a && b) (Some ([], bytes)) None ≡ None → a ≡ false
    go true true h e = cc
    go true false h e = cc
    go false b h e = refl

pub ruleset name_ends = (ends-blank, ends-line, ends-other)
