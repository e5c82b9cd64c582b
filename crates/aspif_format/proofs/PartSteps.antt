-- A long list is written part by part.
use Rattle.std.proofs.Common.{◌≡◌, refl, sym, ◌∙◌, ap, ℕ, ◌<◌, ◌^◌, min, ◌==◌, false, List, [], ◌∷◌, ◌++◌, length, take, drop, append_assoc, arith}
use Rattle.std.specs.List.{flat_map}
use Rattle.std.proofs.lemmas.List.{length-take, take-append-le}
use Rattle.asp_base.specs.Literal.{Literal}
use Rattle.aspif_format.specs.Written.{required_line, required_lines, parts}
use Rattle.aspif_format.proofs.PartLaws.{parts-long}

-- what is written, and what is left to write, is the whole
pub part-pushed : {A : Type 0} (line : List A → List ℕ) (now new : List ℕ) (rest part behind : List A) (whole : List ℕ) → 2 ^ 24 < length rest
    → part ≡ take (2 ^ 24) rest → behind ≡ drop (2 ^ 24) rest → new ≡ now ++ line part → now ++ flat_map line (parts rest) ≡ whole → new ++ flat_map line (parts behind) ≡ whole
part-pushed line now new rest part behind whole long front back pushed h =
    ap (λ bytes. bytes ++ flat_map line (parts behind)) pushed
    ∙ append_assoc now (line part) (flat_map line (parts behind))
    ∙ ap (λ xs. now ++ (line xs ++ flat_map line (parts behind))) front
    ∙ ap (λ xs. now ++ (line (take (2 ^ 24) rest) ++ flat_map line (parts xs))) back
    ∙ ap (λ lists. now ++ flat_map line lists) (sym (parts-long rest long))
    ∙ h

-- what stands in front stays there
pub front-grows : (old now new more : List ℕ) → take (length old) now ≡ old → new ≡ now ++ more → take (length old) new ≡ old
front-grows old now new more h pushed =
    let taken : length (take (length old) now) ≡ min (length old) (length now) = length-take (length old) now in
    let same : length (take (length old) now) ≡ length old = ap length h in
    ap (take (length old)) pushed ∙ (take-append-le (length old) now more (omega arith) ∙ h)

-- required literals are written in parts where there are any
pub required_lines-some : (lits : List Literal) → false ≡ (length lits == 0) → flat_map required_line (parts lits) ≡ required_lines lits
required_lines-some [] h = cc
required_lines-some (l ∷ lits) h = refl
