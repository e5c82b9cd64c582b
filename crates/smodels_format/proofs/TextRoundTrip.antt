-- The text of parts is read as the program that they are.
use Rattle.std.proofs.Common.{◌≡◌, refl, sym, ◌∙◌, ap, ℕ, suc, ℤ, pos, List, [], ◌∷◌, ◌++◌, map, length, length-append, append_assoc, append-nil, Result, Ok, codes, arith}
use Rattle.std.specs.List.{AllByRecursion, flat_map}
use Rattle.asp_base.specs.Literal.{Literal, Pos, Neg}
use Rattle.asp_scan.specs.Lines.{pieces_of, numbered, end_line}
use Rattle.ground_program.specs.Draft.{Draft, empty_draft, with_rule}
use Rattle.ground_program.specs.Facts.{IsAtom}
use Rattle.ground_program.specs.declared.program.Level.{Level}
use Rattle.ground_program.specs.declared.program.Show.{Show}
use Rattle.ground_program.specs.declared.reading.ReadKind.{ReadKind}
use Rattle.asp_base.proofs.Each.{each-weaker}
use Rattle.statement_fields.proofs.LineSteps.{Adding, steps, number_behind, read_from, lines-read, rules-steps}
use Rattle.smodels_format.specs.Parts.{Parts, levels_from, show_of, draft_of_parts, program_of_parts}
use Rattle.smodels_format.specs.Read.{Entry, rule_entry, symbol_entry, required_entry, Stage, part, models, negative_part, positive_part, symbol_part, built, smodels_of}
use Rattle.smodels_format.specs.Written.{rule_line, sum_line, symbol_line, atom_line, word_line, text_of_parts}
use Rattle.smodels_format.proofs.TextParts.{ItemsInOrder, HasLine, SymbolFits, PartsFit}
use Rattle.smodels_format.proofs.TextSteps.{EntryAdds, end-read}
use Rattle.smodels_format.proofs.TextLines.{with_sum, with_sign, with_symbol, rule-adds, sum-adds, required-adds, symbol-adds}

-- ---- what many lines add

symbols-steps : (symbols : List (ℕ × List ℕ)) (d : Draft) → steps with_symbol symbols d ≡ record d { shows = d.shows ++ map show_of symbols }
symbols-steps [] d = ap (λ (xs : List Show). record d { shows = xs }) (sym (append-nil d.shows))
symbols-steps (x ∷ xs) d = symbols-steps xs (with_symbol x d) ∙ ap (λ (ys : List Show). record d { shows = ys }) (append_assoc d.shows (show_of x ∷ []) (map show_of xs))

signs-steps : (sign : ℕ → Literal) (atoms : List ℕ) (d : Draft) → steps (with_sign sign) atoms d ≡ record d { required = d.required ++ map sign atoms }
signs-steps sign [] d = ap (λ (xs : List Literal). record d { required = xs }) (sym (append-nil d.required))
signs-steps sign (x ∷ xs) d = signs-steps sign xs (with_sign sign x d) ∙ ap (λ (ys : List Literal). record d { required = ys }) (append_assoc d.required (sign x ∷ []) (map sign xs))

one-longer : (levels : List Level) (level : Level) → length (levels ++ (level ∷ [])) ≡ suc (length levels)
one-longer levels level = omega (arith, length-append levels (level ∷ []))

-- each at the priority that follows
sums-steps : (sums : List (List (Literal × ℤ))) (d : Draft) → steps with_sum sums d ≡ record d { levels = d.levels ++ levels_from (length d.levels) sums }
sums-steps [] d = ap (λ (xs : List Level). record d { levels = xs }) (sym (append-nil d.levels))
sums-steps (x ∷ xs) d =
    let level : Level = record { priority = pos (length d.levels); items = x } in
    sums-steps xs (with_sum x d)
    ∙ (ap (λ n. record d { levels = (d.levels ++ (level ∷ [])) ++ levels_from n xs }) (one-longer d.levels level)
    ∙ ap (λ (ys : List Level). record d { levels = ys }) (append_assoc d.levels (level ∷ []) (levels_from (suc (length d.levels)) xs)))

-- ---- the parts of a text, the last one first

abbrev positive : ℕ → Literal
positive a = Pos a

abbrev negative : ℕ → Literal
negative a = Neg a

module _ (parts : Parts) (h : PartsFit parts) (last : ℕ) where
  abbrev end_text : List ℕ
  end_text = word_line (codes "0") ++ word_line (codes "1")

  abbrev minus_text : List ℕ
  minus_text = word_line (codes "B-") ++ (flat_map atom_line parts.minus ++ end_text)

  abbrev plus_text : List ℕ
  plus_text = word_line (codes "B+") ++ (flat_map atom_line parts.plus ++ (word_line (codes "0") ++ minus_text))

  abbrev symbols_text : List ℕ
  symbols_text = flat_map symbol_line parts.symbols ++ (word_line (codes "0") ++ plus_text)

  abbrev sums_text : List ℕ
  sums_text = flat_map sum_line parts.sums ++ (word_line (codes "0") ++ symbols_text)

  -- the drafts behind each part
  abbrev behind_minus : Draft → Draft
  behind_minus d = steps (with_sign negative) parts.minus d

  abbrev behind_plus : Draft → Draft
  behind_plus d = behind_minus (steps (with_sign positive) parts.plus d)

  abbrev behind_symbols : Draft → Draft
  behind_symbols d = behind_plus (steps with_symbol parts.symbols d)

  -- each line of a list adds
  each-adds : {A : Type 0} (entry : Draft → List ℕ → Result Entry ReadKind) (Fits : A → Type 0) (line : A → List ℕ) (step : A → Draft → Draft)
      → ((x : A) → Fits x → EntryAdds entry (line x) (step x)) → (next : Stage) (xs : List A) → AllByRecursion Fits xs
      → AllByRecursion (λ x. Adding (part entry next last) (line x) (step x)) xs
  each-adds entry Fits line step adds next xs fit = each-weaker Fits (λ x. Adding (part entry next last) (line x) (step x)) (λ x k. adds x k next last) xs fit

  models-read : (n : ℕ) (d : Draft) → models d (numbered n (pieces_of (word_line (codes "1")))) ≡ Ok d
  models-read n d = refl

  minus-read : (n : ℕ) (d : Draft) → negative_part last d (numbered n (pieces_of minus_text)) ≡ Ok (behind_minus d)
  minus-read n d =
      let m : ℕ = number_behind (suc n) parts.minus in
      lines-read (part (required_entry negative) models last) atom_line (with_sign negative) (suc n) d parts.minus end_text
      (each-adds (required_entry negative) IsAtom atom_line (with_sign negative) (required-adds negative) models parts.minus h.minus)
      ∙ (end-read (required_entry negative) models last m (behind_minus d) (word_line (codes "1")) refl
      ∙ models-read (suc m) (behind_minus d))

  plus-read : (n : ℕ) (d : Draft) → positive_part last d (numbered n (pieces_of plus_text)) ≡ Ok (behind_plus d)
  plus-read n d =
      let m : ℕ = number_behind (suc n) parts.plus in
      let e : Draft = steps (with_sign positive) parts.plus d in
      lines-read (part (required_entry positive) (negative_part last) last) atom_line (with_sign positive) (suc n) d parts.plus (word_line (codes "0") ++ minus_text)
      (each-adds (required_entry positive) IsAtom atom_line (with_sign positive) (required-adds positive) (negative_part last) parts.plus h.plus)
      ∙ (end-read (required_entry positive) (negative_part last) last m e minus_text refl
      ∙ minus-read (suc m) e)

  symbols-read : (n : ℕ) (d : Draft) → symbol_part last d (numbered n (pieces_of symbols_text)) ≡ Ok (behind_symbols d)
  symbols-read n d =
      let m : ℕ = number_behind n parts.symbols in
      let e : Draft = steps with_symbol parts.symbols d in
      lines-read (part symbol_entry (positive_part last) last) symbol_line with_symbol n d parts.symbols (word_line (codes "0") ++ plus_text)
      (each-adds symbol_entry SymbolFits symbol_line with_symbol symbol-adds (positive_part last) parts.symbols h.symbols)
      ∙ (end-read symbol_entry (positive_part last) last m e plus_text refl
      ∙ plus-read (suc m) e)

  abbrev read_draft : Draft
  read_draft = behind_symbols (steps with_sum parts.sums (steps with_rule parts.rules empty_draft))

  sums-read : (n : ℕ) (d : Draft) → read_from (part rule_entry (symbol_part last) last) n d sums_text ≡ Ok (behind_symbols (steps with_sum parts.sums d))
  sums-read n d =
      let m : ℕ = number_behind n parts.sums in
      let e : Draft = steps with_sum parts.sums d in
      lines-read (part rule_entry (symbol_part last) last) sum_line with_sum n d parts.sums (word_line (codes "0") ++ symbols_text)
      (each-adds rule_entry ItemsInOrder sum_line with_sum sum-adds (symbol_part last) parts.sums h.sums)
      ∙ (end-read rule_entry (symbol_part last) last m e symbols_text refl
      ∙ symbols-read (suc m) e)

  text-read : read_from (part rule_entry (symbol_part last) last) 1 empty_draft (text_of_parts parts) ≡ Ok read_draft
  text-read =
      lines-read (part rule_entry (symbol_part last) last) rule_line with_rule 1 empty_draft parts.rules sums_text
      (each-adds rule_entry (λ rule. HasLine rule.head rule.body) rule_line with_rule rule-adds (symbol_part last) parts.rules h.rules)
      ∙ sums-read (number_behind 1 parts.rules) (steps with_rule parts.rules empty_draft)

  -- ---- the draft is the one that was written

  draft-is : read_draft ≡ draft_of_parts parts
  draft-is =
      let rules : Draft = record empty_draft { rules = parts.rules } in
      let sums : Draft = record rules { levels = levels_from 0 parts.sums } in
      let symbols : Draft = record sums { shows = map show_of parts.symbols } in
      let plus : Draft = record symbols { required = map positive parts.plus } in
      ap (λ d. behind_symbols (steps with_sum parts.sums d)) (rules-steps parts.rules empty_draft)
      ∙ (ap behind_symbols (sums-steps parts.sums rules)
      ∙ (ap behind_plus (symbols-steps parts.symbols sums)
      ∙ (ap behind_minus (signs-steps positive parts.plus symbols)
      ∙ signs-steps negative parts.minus plus)))

pub parts-read : (parts : Parts) → PartsFit parts → smodels_of (text_of_parts parts) ≡ Ok (program_of_parts parts)
parts-read parts h =
    let last : ℕ = end_line (text_of_parts parts) in
    ap built (text-read parts h last) ∙ ap (λ d. built (Ok d)) (draft-is parts h last)
