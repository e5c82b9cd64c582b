-- Lines have no line feed, nor do the parts of a line.
use Rattle.std.proofs.Common.{◌≡◌, ◌≢◌, ◌∙◌, ℕ, zero, suc, ◌==◌, Bool, true, false, cond, not, refl, List, [], ◌∷◌, take, drop, Some, None, Ok, sym, ap, subst}
use Rattle.std.specs.Prelude.{ℤ, Option}
use Rattle.std.specs.List.{AllByRecursion, list_all}
use Rattle.std.proofs.lemmas.Bool.{and_from, eq-eqb, ne_eqb, true≢false}
use Rattle.asp_scan.specs.Feeds.{HasNoFeed, HaveNoFeed}
use Rattle.asp_scan.specs.Lines.{Line, is_blank, is_blank_line, onto_first, pieces_of, without_return, unless_blank, numbered, lines_of}
use Rattle.asp_scan.specs.Scanning.{Scanning, start, next, at_lines}
use Rattle.asp_scan.specs.Tokens.{token_at, skip_blanks, token_front, after_token, number_at, checked, integer_of, bytes_from}
use Rattle.asp_scan.specs.Words.{stays_in_line}
use Rattle.asp_scan.proofs.LineTokens.{first_token, number_in, found_of, left_of, with_rest-left}

by_cond : (b : Bool) (xs ys : List ℕ) → HasNoFeed xs → HasNoFeed ys → HasNoFeed (cond b xs ys)
by_cond true xs ys p q = p
by_cond false xs ys p q = q

-- ---- parts of a line

pub skip_blanks-no_feed : (line : List ℕ) → HasNoFeed line → HasNoFeed (skip_blanks line)
skip_blanks-no_feed [] h = tt
skip_blanks-no_feed (byte ∷ bytes) h = by_cond (is_blank byte) (skip_blanks bytes) (byte ∷ bytes) (skip_blanks-no_feed bytes h.1) h

after_token-no_feed : (line : List ℕ) → HasNoFeed line → HasNoFeed (after_token line)
after_token-no_feed [] h = tt
after_token-no_feed (byte ∷ bytes) h = by_cond (is_blank byte) (byte ∷ bytes) (after_token bytes) h (after_token-no_feed bytes h.1)

take-no_feed : (n : ℕ) (line : List ℕ) → HasNoFeed line → HasNoFeed (take n line)
take-no_feed zero line h = tt
take-no_feed (suc n) [] h = tt
take-no_feed (suc n) (byte ∷ bytes) h = (h.0, take-no_feed n bytes h.1)

drop-no_feed : (n : ℕ) (line : List ℕ) → HasNoFeed line → HasNoFeed (drop n line)
drop-no_feed zero line h = h
drop-no_feed (suc n) [] h = tt
drop-no_feed (suc n) (byte ∷ bytes) h = drop-no_feed n bytes h.1

number_in-no_feed : (skipped rest : List ℕ) (n : ℤ) → number_in (first_token skipped) ≡ Ok (n, rest) → HasNoFeed skipped → HasNoFeed rest
number_in-no_feed [] rest n e h = cc
number_in-no_feed (byte ∷ bytes) rest n e h =
    subst HasNoFeed (with_rest-left (checked (integer_of (token_front (byte ∷ bytes)))) (after_token (byte ∷ bytes)) rest n e) (after_token-no_feed (byte ∷ bytes) h)

pub number_at-no_feed : (line rest : List ℕ) (n : ℤ) → number_at line ≡ Ok (n, rest) → HasNoFeed line → HasNoFeed rest
number_at-no_feed line rest n e h = number_in-no_feed (skip_blanks line) rest n e (skip_blanks-no_feed line h)

first_token-no_feed : (skipped word rest : List ℕ) → first_token skipped ≡ Some (word, rest) → HasNoFeed skipped → HasNoFeed rest
first_token-no_feed [] word rest e h = cc
first_token-no_feed (byte ∷ bytes) word rest e h = subst HasNoFeed (ap left_of e) (after_token-no_feed (byte ∷ bytes) h)

pub token_at-no_feed : (line word rest : List ℕ) → token_at line ≡ Some (word, rest) → HasNoFeed line → HasNoFeed rest
token_at-no_feed line word rest e h = first_token-no_feed (skip_blanks line) word rest e (skip_blanks-no_feed line h)

module _ (n : ℕ) (line found left : List ℕ) (is : bytes_from n line ≡ Some (found, left)) (h : HasNoFeed line) where
  -- what is found behind one blank is taken, and what follows it is dropped
  parts : (found ≡ take n (drop 1 line)) × (left ≡ drop n (drop 1 line))
  parts = by line is
    where
      by : (line : List ℕ) → bytes_from n line ≡ Some (found, left) → (found ≡ take n (drop 1 line)) × (left ≡ drop n (drop 1 line))
      by [] e = cc
      by (byte ∷ bytes) e = go _ e
        where
          go : (b : Bool) → cond {A = Option (List ℕ × List ℕ)} b (Some (take n bytes, drop n bytes)) None ≡ Some (found, left) → (found ≡ take n bytes) × (left ≡ drop n bytes)
          go true k = (sym (ap found_of k), sym (ap left_of k))
          go false k = cc

  pub bytes_from-no_feed : HasNoFeed found
  bytes_from-no_feed = subst HasNoFeed (sym parts.0) (take-no_feed n (drop 1 line) (drop-no_feed 1 line h))

  pub bytes_from-left_no_feed : HasNoFeed left
  bytes_from-left_no_feed = subst HasNoFeed (sym parts.1) (drop-no_feed n (drop 1 line) (drop-no_feed 1 line h))

-- ---- lines

-- the bytes of a name stay in a line
pub stays-from_feeds : (bytes : List ℕ) → HasNoFeed bytes → list_all stays_in_line bytes ≡ true
stays-from_feeds [] h = refl
stays-from_feeds (byte ∷ bytes) h = and_from (stays_in_line byte) (list_all stays_in_line bytes) (ap not (ne_eqb byte 10 h.0)) (stays-from_feeds bytes h.1)

onto_first-no_feed : (byte : ℕ) (lines : List (List ℕ)) → byte ≢ 10 → AllByRecursion HasNoFeed lines → AllByRecursion HasNoFeed (onto_first byte lines)
onto_first-no_feed byte [] other h = ((other, tt), tt)
onto_first-no_feed byte (line ∷ lines) other h = ((other, h.0), h.1)

pieces_of-no_feed : (text : List ℕ) → AllByRecursion HasNoFeed (pieces_of text)
pieces_of-no_feed [] = tt
pieces_of-no_feed (byte ∷ bytes) = go (byte == 10) refl (pieces_of-no_feed bytes)
  where
    go : (b : Bool) → (byte == 10) ≡ b → AllByRecursion HasNoFeed (pieces_of bytes) → AllByRecursion HasNoFeed (cond b ([] ∷ pieces_of bytes) (onto_first byte (pieces_of bytes)))
    go true is h = (tt, h)
    go false is h = onto_first-no_feed byte (pieces_of bytes) (λ e. true≢false (sym (eq-eqb byte 10 e) ∙ is)) h

without_return-no_feed : (line : List ℕ) → HasNoFeed line → HasNoFeed (without_return line)
without_return-no_feed [] h = tt
without_return-no_feed (byte ∷ []) h = by_cond (byte == 13) [] (byte ∷ []) tt h
without_return-no_feed (byte ∷ next ∷ bytes) h = (h.0, without_return-no_feed (next ∷ bytes) h.1)

unless_blank-no_feed : (line : Line) (lines : List Line) → HasNoFeed line.bytes → HaveNoFeed lines → HaveNoFeed (unless_blank line lines)
unless_blank-no_feed line lines here h = go (is_blank_line line.bytes)
  where
    go : (b : Bool) → HaveNoFeed (cond b lines (line ∷ lines))
    go true = h
    go false = (here, h)

numbered-no_feed : (n : ℕ) (pieces : List (List ℕ)) → AllByRecursion HasNoFeed pieces → HaveNoFeed (numbered n pieces)
numbered-no_feed n [] h = tt
numbered-no_feed n (piece ∷ pieces) h =
    unless_blank-no_feed (record { number = n; bytes = without_return piece }) (numbered (suc n) pieces) (without_return-no_feed piece h.0) (numbered-no_feed (suc n) pieces h.1)

pub lines_of-no_feed : (text : List ℕ) → HaveNoFeed (lines_of text)
lines_of-no_feed text = numbered-no_feed 1 (pieces_of text) (pieces_of-no_feed text)

pub at_lines-no_feed : (lines : List Line) (last : ℕ) → HaveNoFeed lines → HaveNoFeed (at_lines lines last).ahead
at_lines-no_feed [] last h = tt
at_lines-no_feed (line ∷ lines) last h = h.1

-- behind the first line of a text
pub next-no_feed : (text : List ℕ) (scan : Scanning) (ahead : List Line) → scan ≡ start text → (next scan).ahead ≡ ahead → HaveNoFeed ahead
next-no_feed text scan ahead is e =
    subst HaveNoFeed e (at_lines-no_feed scan.ahead scan.last (subst (λ s. HaveNoFeed s.ahead) (sym is) (lines_of-no_feed text)))

pub ruleset no_feeds = (number_at-no_feed, bytes_from-no_feed)

pub ruleset token_feeds = (token_at-no_feed)
