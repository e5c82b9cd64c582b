-- The names of a program whose text fits memory fit it too, so that such a text is read back.
use Rattle.std.proofs.Common.{◌≡◌, ap, ℕ, ◌<◌, ◌≤◌, ◌^◌, List, [], ◌∷◌, ◌++◌, length, codes, decimal, Result, Ok, Err, OnOk, arith, length-append}
use Rattle.std.specs.List.{AllByRecursion, flat_map}
use Rattle.asp_scan.specs.Words.{line_of}
use Rattle.asp_scan.proofs.Appends.{name-within, names-within}
use Rattle.statement_fields.specs.FieldWords.{literal_words}
use Rattle.ground_program.specs.Ground.{Ground}
use Rattle.ground_program.specs.Facts.{IsProgram}
use Rattle.aspif_format.specs.Read.{aspif_of}
use Rattle.aspif_format.specs.Written.{rule_line, level_lines, show_line, edge_line, required_lines, external_line, idle_atoms, aspif_text}
use Rattle.aspif_format.proofs.AspifRoundTrip.{aspif-read}

-- the fourth of five lists
fourth : (a b c d e : List ℕ) → length d ≤ length (a ++ (b ++ (c ++ (d ++ e))))
fourth a b c d e =
    omega (arith, length-append a (b ++ (c ++ (d ++ e))), length-append b (c ++ (d ++ e)), length-append c (d ++ e), length-append d e)

names-short : (P : Ground) → length (aspif_text P) < 2 ^ 63 → AllByRecursion (λ show. length show.name < 2 ^ 63) P.shows
names-short P h =
    let inside : length (flat_map show_line P.shows) ≤ length (aspif_text P) =
    fourth (line_of (codes "asp" ∷ codes "1" ∷ codes "0" ∷ codes "0" ∷ [])) (flat_map rule_line P.rules) (flat_map level_lines P.levels) (flat_map show_line P.shows)
    (flat_map edge_line P.edges ++ (required_lines P.required ++ (flat_map external_line (idle_atoms P) ++ line_of (codes "0" ∷ [])))) in
    names-within show_line (λ show. length show.name)
    (λ show. name-within (codes "4" ∷ decimal (length show.name) ∷ []) show.name (literal_words show.condition))
    P.shows (2 ^ 63) (omega arith)

-- what was appended in memory, the text of a program, is read as that program
pub appended-read : {T E : Type 0} (r : Result T E) (P : Ground) (old new : List ℕ) → length new < 2 ^ 63 → IsProgram P → OnOk r (new ≡ old ++ aspif_text P) → OnOk r (aspif_of (aspif_text P) ≡ Ok P)
appended-read (Err x) P old new short fits e = tt
appended-read (Ok x) P old new short fits e =
    aspif-read P fits (names-short P (omega (arith, ap length e, length-append old (aspif_text P))))
