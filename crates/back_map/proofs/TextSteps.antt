-- What the lines of a text add.
use Rattle.std.proofs.Common.{◌≡◌, sym, ◌∙◌, ap, ℕ, List, [], ◌∷◌, Ok}
use Rattle.asp_base.specs.Faults.{at_line, ◌>>=◌}
use Rattle.asp_scan.specs.Lines.{Line}
use Rattle.asp_scan.specs.Scanning.{Scanning, next, at_lines}
use Rattle.back_map.specs.Read.{Heard, with_line, heard_from}

-- the next line, and those behind it
pub heard-next : (n : ℕ) (lines after later : List Line) (line : Line) → lines ≡ line ∷ later → after ≡ later → (h : Heard)
    → heard_from n lines h ≡ (at_line line.number (with_line n line h) >>= heard_from n after)
heard-next n lines after later line is same h =
    ap (λ ls. heard_from n ls h) is ∙ ap (λ ls. at_line line.number (with_line n line h) >>= heard_from n ls) (sym same)

pub heard-none : (n : ℕ) (lines : List Line) → lines ≡ [] → (h : Heard) → heard_from n lines h ≡ Ok h
heard-none n lines none h = ap (λ ls. heard_from n ls h) none

pub end-at : (s new : Scanning) → s.ahead ≡ [] → new ≡ next s → new.line.number ≡ s.last
end-at s new none is = ap (λ (t : Scanning). t.line.number) is ∙ ap (λ ls. (at_lines ls s.last).line.number) none
