-- The aspif text of a program is read as that program.
use Rattle.std.proofs.Common.{◌≡◌, refl, sym, ◌∙◌, ap, ℕ, ◌<◌, ◌^◌, List, [], ◌∷◌, ◌++◌, map, length, append_assoc, append-nil, Option, Some, None, Result, Ok, Err, cond, not, decimal, codes}
use Rattle.std.specs.Fmt.{signed_decimal}
use Rattle.std.specs.List.{AllByRecursion, flat_map}
use Rattle.std.proofs.lemmas.List.Concat.{flat_map-append}
use Rattle.std.proofs.lemmas.List.Folds.{flat_map-map}
use Rattle.asp_base.specs.Literal.{Literal, atom_of}
use Rattle.asp_base.specs.Sets.{members}
use Rattle.asp_base.proofs.Each.{each-both, each-filter, each-flat_map, each-map, each-weaker}
use Rattle.asp_scan.specs.Lines.{pieces_of, numbered, end_line}
use Rattle.asp_scan.specs.Words.{line_of, IsWord}
use Rattle.asp_scan.proofs.WordText.{token_at-word, spaced-line}
use Rattle.ground_program.specs.Ground.{Ground}
use Rattle.ground_program.specs.Draft.{Draft, empty_draft, with_rule, with_required, with_edge, with_level, with_show, with_external, program_of}
use Rattle.ground_program.specs.Facts.{IsAtom, Among, IsPriority, IsShort, FitsWeight, RuleFits, ConditionFits, LevelFits, ShowFits, IsProgram}
use Rattle.ground_program.specs.Occurrences.{atoms_of_parts}
use Rattle.asp_base.specs.Faults.{◌>>=◌, Fault, fault}
use Rattle.ground_program.specs.declared.program.Rule.{Rule}
use Rattle.ground_program.specs.declared.program.Edge.{Edge}
use Rattle.ground_program.specs.declared.program.Level.{Level}
use Rattle.ground_program.specs.declared.program.Show.{Show}
use Rattle.ground_program.specs.declared.builder.External.{External}
use Rattle.ground_program.specs.declared.builder.External.TheVariants as values
use Rattle.ground_program.specs.declared.reading.ReadKind.{ReadKind}
use Rattle.ground_program.specs.declared.reading.ReadKind.TheVariants as kinds
use Rattle.statement_fields.specs.Fields.{word}
use Rattle.statement_fields.specs.FieldWords.{literal_words, item_words, spaced_before}
use Rattle.statement_fields.proofs.FieldLines.{AreWords, atom-is_word, weight-is_word, priority-is_word, atom-most, literals-are_words, items-are_words, show-line}
use Rattle.statement_fields.proofs.FieldText.{word-read}
use Rattle.statement_fields.proofs.LineSteps.{Adding, named-line, line-front, read_from, steps, number_behind, lines-read, rules-steps}
use Rattle.aspif_format.specs.Read.{is_natural, tag, revision, header, statements, from_lines, built, aspif_of}
use Rattle.aspif_format.specs.Written.{head_words, body_words, rule_line, level_line, level_lines, show_line, edge_line, required_line, required_lines, external_line, idle_atoms, parts, aspif_text}
use Rattle.aspif_format.proofs.PartLaws.{joined, joined-parts, each-part}
use Rattle.aspif_format.proofs.LevelParts.{level_at, parts_of}
use Rattle.aspif_format.proofs.FitLaws.{atom-from_among, all-atoms, literals-weaker, rule-weaker, condition-weaker, level-weaker, show-weaker}
use Rattle.aspif_format.proofs.StatementLines.{Says, says-adding}
use Rattle.aspif_format.proofs.StatementText.{rule-says, level-says, show-says, external-says, required-says, edge-says}
use Rattle.aspif_format.proofs.WrittenLines.{rule-are_words}
use Rattle.aspif_format.proofs.DraftText.{false_setting, written_draft, program-of_written}

-- ---- what is known of the parts

-- what is known of a part of a level
abbrev PartFits : Level → Type 0
PartFits level = IsPriority level.priority × IsShort level.items × LevelFits IsAtom level

abbrev part_line : Level → List ℕ
part_line level = level_line level.priority level.items

abbrev ShowKnown : Show → Type 0
ShowKnown show = ShowFits IsAtom show × (length show.name < 2 ^ 63)

abbrev EdgeKnown : Edge → Type 0
EdgeKnown edge = (IsPriority edge.from × IsPriority edge.to) × ConditionFits IsAtom edge.condition

abbrev with_false : ℕ → Draft → Draft
with_false a d = with_external a values.False d

-- ---- lines that add what they are written for, in a text with this last line

module _ (last : ℕ) where
  abbrev LineAdds : List ℕ → (Draft → Draft) → Type 0
  LineAdds = Adding (statements last)

  words-adding : (first : List ℕ) (words : List (List ℕ)) (step : Draft → Draft) → IsWord first → AreWords words → Says first words step → LineAdds (line_of (first ∷ words)) step
  words-adding first words step word h says = says-adding last first words step word (spaced-line (first ∷ words) (word, h)) says

  rule-adding : (rule : Rule) → RuleFits IsAtom rule → LineAdds (rule_line rule) (with_rule rule)
  rule-adding rule h = words-adding (codes "1") (head_words rule.head ++ body_words rule.body) (with_rule rule) refl (rule-are_words rule h) (rule-says rule h)

  level-adding : (level : Level) → PartFits level → LineAdds (part_line level) (with_level level)
  level-adding level h =
      words-adding (codes "2") (signed_decimal level.priority ∷ item_words level.items) (with_level level) refl
      (priority-is_word level.priority h.0, items-are_words IsAtom atom-most FitsWeight weight-is_word level.items h.1 h.2)
      (level-says level.priority level.items h.0 h.1 h.2)

  show-adding : (show : Show) → ShowKnown show → LineAdds (show_line show) (with_show show)
  show-adding show h =
      says-adding last (codes "4") (decimal (length show.name) ∷ show.name ∷ literal_words show.condition) (with_show show) refl
      (named-line (codes "4") (decimal (length show.name)) (show.name ∷ literal_words show.condition) refl (show-line IsAtom atom-most show h.0 h.1))
      (show-says show h.0 h.1)

  edge-adding : (edge : Edge) → EdgeKnown edge → LineAdds (edge_line edge) (with_edge edge)
  edge-adding edge h =
      words-adding (codes "8") (signed_decimal edge.from ∷ signed_decimal edge.to ∷ literal_words edge.condition) (with_edge edge) refl
      (priority-is_word edge.from h.0.0, (priority-is_word edge.to h.0.1, literals-are_words IsAtom atom-most edge.condition h.1))
      (edge-says edge h.0.0 h.0.1 h.1)

  required-adding : (lits : List Literal) → ConditionFits IsAtom lits → LineAdds (required_line lits) (with_required lits)
  required-adding lits h = words-adding (codes "6") (literal_words lits) (with_required lits) refl (literals-are_words IsAtom atom-most lits h) (required-says lits h)

  external-adding : (a : ℕ) → IsAtom a → LineAdds (external_line a) (with_false a)
  external-adding a h = words-adding (codes "5") (decimal a ∷ codes "2" ∷ []) (with_false a) refl (atom-is_word a h, (refl, tt)) (external-says a h)

-- ---- what many lines add

levels-steps : (levels : List Level) (d : Draft) → steps with_level levels d ≡ record d { levels = d.levels ++ levels }
levels-steps [] d = ap (λ (xs : List Level). record d { levels = xs }) (sym (append-nil d.levels))
levels-steps (x ∷ xs) d = levels-steps xs (with_level x d) ∙ ap (λ (ys : List Level). record d { levels = ys }) (append_assoc d.levels (x ∷ []) xs)

shows-steps : (shows : List Show) (d : Draft) → steps with_show shows d ≡ record d { shows = d.shows ++ shows }
shows-steps [] d = ap (λ (xs : List Show). record d { shows = xs }) (sym (append-nil d.shows))
shows-steps (x ∷ xs) d = shows-steps xs (with_show x d) ∙ ap (λ (ys : List Show). record d { shows = ys }) (append_assoc d.shows (x ∷ []) xs)

edges-steps : (edges : List Edge) (d : Draft) → steps with_edge edges d ≡ record d { edges = d.edges ++ edges }
edges-steps [] d = ap (λ (xs : List Edge). record d { edges = xs }) (sym (append-nil d.edges))
edges-steps (x ∷ xs) d = edges-steps xs (with_edge x d) ∙ ap (λ (ys : List Edge). record d { edges = ys }) (append_assoc d.edges (x ∷ []) xs)

required-steps : (lists : List (List Literal)) (d : Draft) → steps with_required lists d ≡ record d { required = d.required ++ joined lists }
required-steps [] d = ap (λ (xs : List Literal). record d { required = xs }) (sym (append-nil d.required))
required-steps (x ∷ xs) d = required-steps xs (with_required x d) ∙ ap (λ (ys : List Literal). record d { required = ys }) (append_assoc d.required x (joined xs))

externals-steps : (atoms : List ℕ) (d : Draft) → steps with_false atoms d ≡ record d { externals = d.externals ++ map false_setting atoms }
externals-steps [] d = ap (λ (xs : List (ℕ × External)). record d { externals = xs }) (sym (append-nil d.externals))
externals-steps (x ∷ xs) d = externals-steps xs (with_false x d) ∙ ap (λ (ys : List (ℕ × External)). record d { externals = ys }) (append_assoc d.externals (false_setting x ∷ []) (map false_setting xs))

-- ---- the lines of levels and of required literals

level-lines : (level : Level) → level_lines level ≡ flat_map part_line (parts_of level)
level-lines level = sym (flat_map-map part_line (level_at level.priority) (parts level.items))

levels-lines : (levels : List Level) → flat_map level_lines levels ≡ flat_map part_line (flat_map parts_of levels)
levels-lines [] = refl
levels-lines (level ∷ levels) =
    ap (λ bytes. bytes ++ flat_map level_lines levels) (level-lines level)
    ∙ ap (λ bytes. flat_map part_line (parts_of level) ++ bytes) (levels-lines levels)
    ∙ sym (flat_map-append part_line (parts_of level) (flat_map parts_of levels))

-- the parts in which required literals are written: none where there are no literals
abbrev required_parts : List Literal → List (List Literal)
required_parts [] = []
required_parts (l ∷ lits) = parts (l ∷ lits)

required-lines : (lits : List Literal) → required_lines lits ≡ flat_map required_line (required_parts lits)
required-lines [] = refl
required-lines (l ∷ lits) = refl

joined-required : (lits : List Literal) → joined (required_parts lits) ≡ lits
joined-required [] = refl
joined-required (l ∷ lits) = joined-parts (l ∷ lits)

required-fit : (lits : List Literal) → AllByRecursion (λ l. IsAtom (atom_of l)) lits → AllByRecursion (ConditionFits IsAtom) (required_parts lits)
required-fit [] h = tt
required-fit (l ∷ lits) h = each-part (λ l. IsAtom (atom_of l)) (l ∷ lits) h

levels-fit : (levels : List Level) → AllByRecursion (λ level. IsPriority level.priority) levels → AllByRecursion (LevelFits IsAtom) levels → AllByRecursion PartFits (flat_map parts_of levels)
levels-fit levels p h = each-flat_map PartFits parts_of levels
    (each-both (λ level. IsPriority level.priority) (LevelFits IsAtom) (λ level. AllByRecursion PartFits (parts_of level))
    (λ level fits items. each-map PartFits (level_at level.priority) (parts level.items)
    (each-weaker (λ ys. IsShort ys × AllByRecursion (λ item. IsAtom (atom_of item.0) × FitsWeight item.1) ys) (λ ys. PartFits (level_at level.priority ys)) (λ ys k. (fits, k.0, k.1)) (parts level.items)
    (each-part (λ item. IsAtom (atom_of item.0) × FitsWeight item.1) level.items items)))
    levels p h)

-- ---- the header

abbrev header_words : List (List ℕ)
header_words = codes "1" ∷ codes "0" ∷ codes "0" ∷ []

abbrev tagged : Option (List ℕ × List ℕ) → Result Draft ReadKind
tagged token = elim token as (λ x. Result Draft ReadKind) [ None ↦ Err kinds.BadHeader | Some token ↦ cond (is_natural token.0) (tag token.1) (Err kinds.BadHeader) ]

header-read : header (codes "asp" ++ spaced_before header_words) ≡ Ok empty_draft
header-read =
    let k3 : List ℕ → Result Draft ReadKind = revision in
    let k2 : List ℕ → Result Draft ReadKind = λ major. word (codes "0") major >>= revision in
    let k1 : List ℕ → Result Draft ReadKind = λ asp. word (codes "1") asp >>= k2 in
    ap (λ r. r >>= k1) (word-read (codes "asp") header_words refl)
    ∙ (ap (λ r. r >>= k2) (word-read (codes "1") (codes "0" ∷ codes "0" ∷ []) refl)
    ∙ (ap (λ r. r >>= k3) (word-read (codes "0") (codes "0" ∷ []) refl)
    ∙ ap tagged (token_at-word (codes "0") [] refl refl)))

-- ---- the whole text

-- what every program's parts are known to be, where each atom is an atom's number
record Known (P : Ground) : Type 0 where
  rules : AllByRecursion (RuleFits IsAtom) P.rules
  levels : AllByRecursion PartFits (flat_map parts_of P.levels)
  shows : AllByRecursion ShowKnown P.shows
  edges : AllByRecursion EdgeKnown P.edges
  required : AllByRecursion (ConditionFits IsAtom) (required_parts P.required)
  idle : AllByRecursion IsAtom (idle_atoms P)

abbrev end_text : List ℕ
end_text = line_of (codes "0" ∷ [])

-- the draft behind the last statement
abbrev read_draft : Ground → Draft
read_draft P =
    steps with_false (idle_atoms P) (steps with_required (required_parts P.required) (steps with_edge P.edges
    (steps with_show P.shows (steps with_level (flat_map parts_of P.levels) (steps with_rule P.rules empty_draft)))))

module _ (P : Ground) (h : Known P) (last : ℕ) where
  -- what the statements of a text say, whose lines are numbered from here
  abbrev read : ℕ → Draft → List ℕ → Result Draft (Fault ReadKind)
  read = read_from (statements last)

  -- lines of entries of which this is known
  known-read : {A : Type 0} (Fact : A → Type 0) (line : A → List ℕ) (step : A → Draft → Draft) → ((x : A) → Fact x → Adding (statements last) (line x) (step x))
      → (xs : List A) → AllByRecursion Fact xs → (n : ℕ) (d : Draft) (rest : List ℕ)
      → read n d (flat_map line xs ++ rest) ≡ read (number_behind n xs) (steps step xs d) rest
  known-read Fact line step adding xs known n d rest =
      lines-read (statements last) line step n d xs rest (each-weaker Fact (λ x. Adding (statements last) (line x) (step x)) adding xs known)

  idle-read : (n : ℕ) (d : Draft) → read n d (flat_map external_line (idle_atoms P) ++ end_text) ≡ Ok (steps with_false (idle_atoms P) d)
  idle-read n d = known-read IsAtom external_line with_false (external-adding last) (idle_atoms P) h.idle n d end_text

  abbrev required_text : List ℕ
  required_text = required_lines P.required ++ (flat_map external_line (idle_atoms P) ++ end_text)

  required-read : (n : ℕ) (d : Draft) → read n d required_text ≡ Ok (steps with_false (idle_atoms P) (steps with_required (required_parts P.required) d))
  required-read n d =
      ap (λ bytes. read n d (bytes ++ (flat_map external_line (idle_atoms P) ++ end_text))) (required-lines P.required)
      ∙ known-read (ConditionFits IsAtom) required_line with_required (required-adding last) (required_parts P.required) h.required n d (flat_map external_line (idle_atoms P) ++ end_text)
      ∙ idle-read (number_behind n (required_parts P.required)) (steps with_required (required_parts P.required) d)

  edges-read : (n : ℕ) (d : Draft) → read n d (flat_map edge_line P.edges ++ required_text)
      ≡ Ok (steps with_false (idle_atoms P) (steps with_required (required_parts P.required) (steps with_edge P.edges d)))
  edges-read n d =
      known-read EdgeKnown edge_line with_edge (edge-adding last) P.edges h.edges n d required_text
      ∙ required-read (number_behind n P.edges) (steps with_edge P.edges d)

  abbrev shows_text : List ℕ
  shows_text = flat_map show_line P.shows ++ (flat_map edge_line P.edges ++ required_text)

  shows-read : (n : ℕ) (d : Draft) → read n d shows_text
      ≡ Ok (steps with_false (idle_atoms P) (steps with_required (required_parts P.required) (steps with_edge P.edges (steps with_show P.shows d))))
  shows-read n d =
      known-read ShowKnown show_line with_show (show-adding last) P.shows h.shows n d (flat_map edge_line P.edges ++ required_text)
      ∙ edges-read (number_behind n P.shows) (steps with_show P.shows d)

  levels-read : (n : ℕ) (d : Draft) → read n d (flat_map level_lines P.levels ++ shows_text)
      ≡ Ok (steps with_false (idle_atoms P) (steps with_required (required_parts P.required) (steps with_edge P.edges (steps with_show P.shows (steps with_level (flat_map parts_of P.levels) d)))))
  levels-read n d =
      ap (λ bytes. read n d (bytes ++ shows_text)) (levels-lines P.levels)
      ∙ known-read PartFits part_line with_level (level-adding last) (flat_map parts_of P.levels) h.levels n d shows_text
      ∙ shows-read (number_behind n (flat_map parts_of P.levels)) (steps with_level (flat_map parts_of P.levels) d)

  rules-read : read 2 empty_draft (flat_map rule_line P.rules ++ (flat_map level_lines P.levels ++ shows_text)) ≡ Ok (read_draft P)
  rules-read =
      known-read (RuleFits IsAtom) rule_line with_rule (rule-adding last) P.rules h.rules 2 empty_draft (flat_map level_lines P.levels ++ shows_text)
      ∙ levels-read (number_behind 2 P.rules) (steps with_rule P.rules empty_draft)

  text-read : from_lines last (numbered 1 (pieces_of (aspif_text P))) ≡ Ok (read_draft P)
  text-read =
      let rest : List ℕ = flat_map rule_line P.rules ++ (flat_map level_lines P.levels ++ shows_text) in
      ap (from_lines last) (line-front 1 (codes "asp") header_words rest refl (spaced-line (codes "asp" ∷ header_words) (refl, (refl, (refl, (refl, tt))))))
      ∙ ap (λ r. elim r as (λ x. Result Draft (Fault ReadKind)) [ Err kind ↦ fault 1 kind | Ok draft ↦ statements last draft (numbered 2 (pieces_of rest)) ]) header-read
      ∙ rules-read

-- the draft is the one that was written
draft-is : (P : Ground) → read_draft P ≡ written_draft P
draft-is P =
    let rules : Draft = record empty_draft { rules = P.rules } in
    let levels : Draft = record rules { levels = flat_map parts_of P.levels } in
    let shows : Draft = record levels { shows = P.shows } in
    let edges : Draft = record shows { edges = P.edges } in
    let required : Draft = record edges { required = joined (required_parts P.required) } in
    ap (λ d. steps with_false (idle_atoms P) (steps with_required (required_parts P.required) (steps with_edge P.edges (steps with_show P.shows (steps with_level (flat_map parts_of P.levels) d))))) (rules-steps P.rules empty_draft)
    ∙ ap (λ d. steps with_false (idle_atoms P) (steps with_required (required_parts P.required) (steps with_edge P.edges (steps with_show P.shows d)))) (levels-steps (flat_map parts_of P.levels) rules)
    ∙ ap (λ d. steps with_false (idle_atoms P) (steps with_required (required_parts P.required) (steps with_edge P.edges d))) (shows-steps P.shows levels)
    ∙ ap (λ d. steps with_false (idle_atoms P) (steps with_required (required_parts P.required) d)) (edges-steps P.edges shows)
    ∙ ap (λ d. steps with_false (idle_atoms P) d) (required-steps (required_parts P.required) edges)
    ∙ externals-steps (idle_atoms P) required
    ∙ ap (λ (lits : List Literal). record (written_draft P) { required = lits }) (joined-required P.required)

known-of : (P : Ground) → IsProgram P → AllByRecursion (λ show. length show.name < 2 ^ 63) P.shows → Known P
known-of P h names =
    let atom : (a : ℕ) → Among P.atoms a → IsAtom a = atom-from_among P.atoms h.atoms_rise h.atoms_fit in
    let F : ℕ → Type 0 = Among P.atoms in
    record {
      rules = each-weaker (RuleFits F) (RuleFits IsAtom) (rule-weaker F IsAtom atom) P.rules h.rules;
      levels = levels-fit P.levels h.priorities_fit (each-weaker (LevelFits F) (LevelFits IsAtom) (level-weaker F IsAtom atom) P.levels h.levels);
      shows = each-both (ShowFits F) (λ show. length show.name < 2 ^ 63) ShowKnown (λ show k short. (show-weaker F IsAtom atom show k, short)) P.shows h.shows names;
      edges = each-both (λ edge. IsPriority edge.from × IsPriority edge.to) (λ edge. ConditionFits F edge.condition) EdgeKnown (λ edge nodes k. (nodes, condition-weaker F IsAtom atom edge.condition k)) P.edges h.nodes h.edges;
      required = required-fit P.required (literals-weaker F IsAtom atom P.required h.required);
      idle = each-filter IsAtom (λ a. not (members (atoms_of_parts P) a)) P.atoms (all-atoms 0 P.atoms h.atoms_rise h.atoms_fit);
    }

pub aspif-read : (P : Ground) → IsProgram P → AllByRecursion (λ show. length show.name < 2 ^ 63) P.shows → aspif_of (aspif_text P) ≡ Ok P
aspif-read P h names =
    ap built (text-read P (known-of P h names) (end_line (aspif_text P)))
    ∙ ap (λ d. Ok (program_of d)) (draft-is P)
    ∙ ap Ok (program-of_written P h)
