-- The whole text, from what its pieces add.
use Rattle.std.proofs.Common.{◌≡◌, ◌∙◌, ap, ℕ, not, List, [], ◌∷◌, ◌++◌, append_assoc, codes}
use Rattle.std.specs.List.{flat_map, filter}
use Rattle.std.proofs.lemmas.List.Elements.{filter_agree}
use Rattle.asp_base.specs.Sets.{members}
use Rattle.asp_scan.specs.Words.{line_of}
use Rattle.ground_program.specs.Ground.{Ground}
use Rattle.ground_program.specs.Occurrences.{atoms_of_parts}
use Rattle.rising_numbers.specs.Rising.{rising}
use Rattle.rising_numbers.proofs.RisingLaws.{members-rising}
use Rattle.aspif_format.specs.Written.{rule_line, level_lines, show_line, edge_line, required_lines, external_line, idle_atoms, aspif_text}
use Rattle.aspif_format.specs.private.PartsText.{parts_text}
use Rattle.statement_fields.proofs.LinePieces.{three_appends}

shape : (h r l s e q i z : List ℕ) → (h ++ (r ++ (l ++ (s ++ (e ++ q))))) ++ (i ++ z) ≡ h ++ (r ++ (l ++ (s ++ (e ++ (q ++ (i ++ z))))))
shape h r l s e q i z = simp append_assoc

pub text-pushed : (P : Ground) (old o1 o2 o3 set atoms : List ℕ) → set ≡ rising (atoms_of_parts P) → atoms ≡ P.atoms → o1 ≡ old ++ parts_text P
    → o2 ≡ o1 ++ flat_map external_line (filter (λ a. not (members set a)) atoms) → o3 ≡ o2 ++ line_of (codes "0" ∷ []) → o3 ≡ old ++ aspif_text P
text-pushed P old o1 o2 o3 set atoms is named p q r =
    let idle : filter (λ a. not (members set a)) atoms ≡ idle_atoms P =
    ap (λ xs. filter (λ a. not (members set a)) xs) named
    ∙ filter_agree (λ a. not (members set a)) (λ a. not (members (atoms_of_parts P) a)) (λ a. ap (λ xs. not (members xs a)) is ∙ ap not (members-rising (atoms_of_parts P) a)) P.atoms in
    three_appends old o1 o2 o3 (parts_text P) (flat_map external_line (filter (λ a. not (members set a)) atoms)) (line_of (codes "0" ∷ [])) p q r
    ∙ ap (λ xs. old ++ (parts_text P ++ (flat_map external_line xs ++ line_of (codes "0" ∷ [])))) idle
    ∙ ap (λ bytes. old ++ bytes) (shape (line_of (codes "asp" ∷ codes "1" ∷ codes "0" ∷ codes "0" ∷ [])) (flat_map rule_line P.rules) (flat_map level_lines P.levels)
    (flat_map show_line P.shows) (flat_map edge_line P.edges) (required_lines P.required) (flat_map external_line (idle_atoms P)) (line_of (codes "0" ∷ [])))
