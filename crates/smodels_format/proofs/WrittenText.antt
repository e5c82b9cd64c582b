-- The text of a program, part by part as it is written.
use Rattle.std.proofs.Common.{◌≡◌, refl, sym, ◌∙◌, ap, ap₂, ℕ, Bool, true, false, not, cond, List, [], ◌∷◌, ◌++◌, map, reverse, append_assoc, append-nil, Option, None, Some, unwrap_or, codes}
use Rattle.std.specs.List.{flat_map, filter, list_any}
use Rattle.std.proofs.lemmas.Grind.{flat_map-append}
use Rattle.std.proofs.lemmas.List.Folds.{flat_map-map}
use Rattle.asp_base.specs.Literal.{Literal, is_positive, atom_of}
use Rattle.ground_program.specs.Fresh.{new_atom}
use Rattle.ground_program.specs.Ground.{Ground}
use Rattle.ground_program.specs.Stable.{is_headless}
use Rattle.ground_program.specs.declared.program.Level.{Level}
use Rattle.ground_program.specs.declared.program.Rule.{Rule}
use Rattle.ground_program.specs.declared.program.Show.{Show}
use Rattle.smodels_format.specs.Lowering.{items_negatives_first, has_headless, after_rules, rules_lowered, show_rules, symbols_from, atoms_required}
use Rattle.smodels_format.specs.Written.{rule_line, sum_line, symbol_line, atom_line, word_line, smodels_text}
use Rattle.smodels_format.specs.private.Writing.{Drawing, symbol_atoms, with_names, required_line, refuted_atom, after_refuted, refuted_line, rule_part, symbol_part, required_part}
use Rattle.smodels_format.specs.declared.sign.Sign.TheVariants.{Negative, Positive}
use Rattle.smodels_format.proofs.Parted.{pieces}
use Rattle.statement_fields.proofs.LinePieces.{five_appends}
use Rattle.smodels_format.proofs.WrittenSteps.{refuted-unread, symbols-are, show_rules-are}

-- ---- rules

refuted-rules : (new : ℕ → ℕ) (n : ℕ) (rules : List Rule) (b : Bool) → list_any (λ rule. is_headless rule.head) rules ≡ b
    → rules_lowered new (new 0) n rules ≡ rules_lowered new (unwrap_or (cond b (Some (new 0)) None) 0) n rules
refuted-rules new n rules true e = refl
refuted-rules new n rules false e = refuted-unread new (new 0) 0 n rules e

rules-written : (new : ℕ → ℕ) (n : ℕ) (P : Ground)
    → flat_map rule_line (rules_lowered new (new 0) n P.rules ++ show_rules new (after_rules n P.rules) P.shows) ≡ rule_part new (unwrap_or (refuted_atom new 0 P.rules) 0) n P
rules-written new n P =
    let behind : ℕ = after_rules n P.rules in
    flat_map-append rule_line (rules_lowered new (new 0) n P.rules) (show_rules new behind P.shows)
    ∙ ap₂ (λ xs ys. flat_map rule_line xs ++ flat_map rule_line ys) (refuted-rules new n P.rules (has_headless P) refl) (sym (show_rules-are new behind P.shows))

-- ---- required literals

plus-written : (lits : List Literal) → flat_map atom_line (atoms_required is_positive lits) ≡ flat_map (λ l. required_line Positive l) lits
plus-written lits = flat_map-map atom_line atom_of (filter is_positive lits) ∙ pieces is_positive (λ l. atom_line (atom_of l)) lits

refuted-written : (a : ℕ) (b : Bool) → flat_map atom_line (cond b (a ∷ []) []) ≡ refuted_line (cond b (Some a) None)
refuted-written a true = append-nil (atom_line a)
refuted-written a false = refl

minus-written : (lits : List Literal) (a : ℕ) (b : Bool)
    → flat_map atom_line (atoms_required (λ l. not (is_positive l)) lits ++ cond b (a ∷ []) []) ≡ flat_map (λ l. required_line Negative l) lits ++ refuted_line (cond b (Some a) None)
minus-written lits a b =
    flat_map-append atom_line (atoms_required (λ l. not (is_positive l)) lits) (cond b (a ∷ []) [])
    ∙ ap₂ (λ xs ys. xs ++ ys)
    (flat_map-map atom_line atom_of (filter (λ l. not (is_positive l)) lits) ∙ pieces (λ l. not (is_positive l)) (λ l. atom_line (atom_of l)) lits)
    (refuted-written a b)

-- ---- the whole

shape : (r s z y p u n m x o : List ℕ)
    → r ++ (s ++ (z ++ (y ++ (z ++ (p ++ (u ++ (z ++ (n ++ ((m ++ x) ++ (z ++ o)))))))))) ≡ r ++ (s ++ ((z ++ (y ++ z)) ++ ((p ++ (u ++ (z ++ (n ++ (m ++ (x ++ z)))))) ++ o)))
shape r s z y p u n m x o = simp append_assoc

pub text-written : (P : Ground)
    → smodels_text P
    ≡ rule_part (new_atom P.atoms) (unwrap_or (refuted_atom (new_atom P.atoms) 0 P.rules) 0) (after_refuted 0 P.rules) P
    ++ (flat_map sum_line (map (λ level. items_negatives_first level.items) (reverse P.levels))
    ++ (symbol_part (with_names (symbol_atoms (new_atom P.atoms) (after_rules (after_refuted 0 P.rules) P.rules) P.shows) P.shows)
    ++ (required_part P.required (refuted_atom (new_atom P.atoms) 0 P.rules) ++ word_line (codes "1"))))
text-written P =
    let new : ℕ → ℕ = new_atom P.atoms in
    let start : ℕ = after_refuted 0 P.rules in
    let behind : ℕ = after_rules start P.rules in
    let sums : List ℕ = flat_map sum_line (map (λ level. items_negatives_first level.items) (reverse P.levels)) in
    let end : List ℕ = word_line (codes "0") in
    let one : List ℕ = word_line (codes "1") in
    let plus : List ℕ = word_line (codes "B+") in
    let minus : List ℕ = word_line (codes "B-") in
    let rules : List ℕ = flat_map rule_line (rules_lowered new (new 0) start P.rules ++ show_rules new behind P.shows) in
    let positive : List ℕ = flat_map atom_line (atoms_required is_positive P.required) in
    let negative : List ℕ = flat_map atom_line (atoms_required (λ l. not (is_positive l)) P.required ++ cond (has_headless P) (new 0 ∷ []) []) in
    let text : List ℕ → List ℕ → List ℕ → List ℕ → List ℕ = λ (r : List ℕ) (y : List ℕ) (u : List ℕ) (m : List ℕ).
    r ++ (sums ++ (end ++ (y ++ (end ++ (plus ++ (u ++ (end ++ (minus ++ (m ++ (end ++ one)))))))))) in
    let rules' : List ℕ = rule_part new (unwrap_or (refuted_atom new 0 P.rules) 0) start P in
    let symbols : List ℕ = flat_map symbol_line (symbols_from new behind P.shows) in
    let symbols' : List ℕ = flat_map symbol_line (with_names (symbol_atoms new behind P.shows) P.shows) in
    let positive' : List ℕ = flat_map (λ l. required_line Positive l) P.required in
    let negative' : List ℕ = flat_map (λ l. required_line Negative l) P.required in
    let refuted : List ℕ = refuted_line (refuted_atom new 0 P.rules) in
    ap (λ r. text r symbols positive negative) (rules-written new start P)
    ∙ (ap (λ y. text rules' y positive negative) (ap (flat_map symbol_line) (sym (symbols-are new behind P.shows)))
    ∙ (ap (λ u. text rules' symbols' u negative) (plus-written P.required)
    ∙ (ap (λ m. text rules' symbols' positive' m) (minus-written P.required (new 0) (has_headless P))
    ∙ shape rules' sums end symbols' plus positive' minus negative' refuted one)))

-- from what each step of the code says
pub program-written : (P : Ground) (start after : Drawing) (rules : List Rule) (levels : List Level) (shows : List Show) (required : List Literal) (refuted : Option ℕ) (symbols : List ℕ) (old o1 o2 o3 o4 o5 : List ℕ)
    → start ≡ record { atoms = P.atoms; drawn = 0 }
    → rules ≡ P.rules → levels ≡ P.levels → shows ≡ P.shows → required ≡ P.required
    → refuted ≡ refuted_atom (new_atom start.atoms) start.drawn rules
    → after ≡ record start { drawn = after_refuted start.drawn rules }
    → symbols ≡ symbol_atoms (new_atom after.atoms) (after_rules after.drawn P.rules) P.shows
    → o1 ≡ old ++ rule_part (new_atom after.atoms) (unwrap_or refuted 0) after.drawn P
    → o2 ≡ o1 ++ flat_map sum_line (map (λ level. items_negatives_first level.items) (reverse levels))
    → o3 ≡ o2 ++ symbol_part (with_names symbols shows)
    → o4 ≡ o3 ++ required_part required refuted
    → o5 ≡ o4 ++ word_line (codes "1")
    → o5 ≡ old ++ smodels_text P
program-written P start after rules levels shows required refuted symbols old o1 o2 o3 o4 o5 at_start rules-are levels-are shows-are required-are refuted-is at_after symbols-is p q r s t =
    let first : Drawing = record { atoms = P.atoms; drawn = 0 } in
    let second : Drawing = record { atoms = P.atoms; drawn = after_refuted 0 P.rules } in
    let none : Option ℕ = refuted_atom (new_atom P.atoms) 0 P.rules in
    let e_refuted : refuted ≡ none = refuted-is ∙ ap₂ (λ (d : Drawing) (rs : List Rule). refuted_atom (new_atom d.atoms) d.drawn rs) at_start rules-are in
    let e_after : after ≡ second = at_after ∙ ap₂ (λ (d : Drawing) (rs : List Rule). let x : Drawing = record { atoms = d.atoms; drawn = after_refuted d.drawn rs } in x) at_start rules-are in
    let e_symbols : symbols ≡ symbol_atoms (new_atom P.atoms) (after_rules (after_refuted 0 P.rules) P.rules) P.shows =
    symbols-is ∙ ap (λ (d : Drawing). symbol_atoms (new_atom d.atoms) (after_rules d.drawn P.rules) P.shows) e_after in
    let p' : o1 ≡ old ++ rule_part (new_atom P.atoms) (unwrap_or none 0) (after_refuted 0 P.rules) P =
    p ∙ ap₂ (λ (d : Drawing) (x : Option ℕ). old ++ rule_part (new_atom d.atoms) (unwrap_or x 0) d.drawn P) e_after e_refuted in
    let q' : o2 ≡ o1 ++ flat_map sum_line (map (λ level. items_negatives_first level.items) (reverse P.levels)) =
    q ∙ ap (λ ls. o1 ++ flat_map sum_line (map (λ level. items_negatives_first level.items) (reverse ls))) levels-are in
    let r' : o3 ≡ o2 ++ symbol_part (with_names (symbol_atoms (new_atom P.atoms) (after_rules (after_refuted 0 P.rules) P.rules) P.shows) P.shows) =
    r ∙ ap₂ (λ xs ss. o2 ++ symbol_part (with_names xs ss)) e_symbols shows-are in
    let s' : o4 ≡ o3 ++ required_part P.required none = s ∙ ap₂ (λ ls x. o3 ++ required_part ls x) required-are e_refuted in
    five_appends old o1 o2 o3 o4 o5 _ _ _ _ _ p' q' r' s' t ∙ ap (λ bytes. old ++ bytes) (sym (text-written P))
