-- A map's text is read as that map.
use Rattle.std.proofs.Common.{◌≡◌, refl, ◌∙◌, ap, ℕ, suc, ◌-◌, ◌^◌, ◌≤◌, ◌<◌, nat_lt, ℤ, pos, nat_abs, int_lt, true, cond, ◌||◌, List, [], ◌∷◌, ◌++◌, length, append_assoc, Option, Some, None, Result, Ok, Err, OnOk, decimal, codes, arith}
use Rattle.std.specs.Prelude.{⊤}
use Rattle.std.specs.Fmt.{signed_decimal}
use Rattle.std.specs.List.{AllByRecursion, flat_map}
use Rattle.std.specs.Ordering.{int_eq}
use Rattle.std.proofs.lemmas.Bool.{cond-true, or_from, le-ltb, lt-ltb}
use Rattle.asp_base.specs.Faults.{Fault, fault, ◌>>=◌}
use Rattle.asp_base.specs.Literal.{Literal, atom_of, integer_of, literal_of}
use Rattle.asp_base.proofs.Each.{each-both}
use Rattle.asp_base.proofs.IntegerTests.{test-from_lt}
use Rattle.asp_base.proofs.LiteralLaws.{literal_of-integer_of}
use Rattle.asp_scan.specs.Lines.{Line, pieces_of, numbered, end_line}
use Rattle.asp_scan.specs.Words.{spaced, line_of, IsLine, IsWord}
use Rattle.asp_scan.proofs.Appends.{behind-within, front-within, name-within, names-within}
use Rattle.asp_scan.proofs.NumberText.{fits_i64-small, natural-is_word}
use Rattle.asp_scan.proofs.WordText.{token_at-word, spaced-line}
use Rattle.ground_program.specs.Facts.{IsShort, IsPriority, FitsWeight, FallsFrom, LevelFits, ShowFits}
use Rattle.ground_program.specs.declared.program.Level.{Level}
use Rattle.ground_program.specs.declared.program.Show.{Show}
use Rattle.ground_program.specs.declared.reading.ReadKind.{ReadKind}
use Rattle.ground_program.specs.declared.reading.ReadKind.TheVariants as read
use Rattle.statement_fields.specs.FieldWords.{literal_word, literal_words, item_words, spaced_before}
use Rattle.statement_fields.specs.Fields.{Reading, past_blank, unless, weight, counted, ended, word}
use Rattle.statement_fields.proofs.FieldLines.{AreWords, atom-is_word, literal-is_word, weight-is_word, priority-is_word, items-are_words, show-line}
use Rattle.statement_fields.proofs.FieldText.{passes, not_zero, natural-not_negative, literal-size, number-read, word-read, atom-read, weight-read, small-read, name-read, counted-read_last}
use Rattle.statement_fields.proofs.LineSteps.{named-line, line-front}
use Rattle.statement_fields.proofs.Spacing.{spaced_before-ends, map-words}
use Rattle.symbol_map.specs.declared.map.Form.{Form}
use Rattle.symbol_map.specs.declared.map.Form.TheVariants.{Cnf, Ecnf, Wcnf}
use Rattle.symbol_map.specs.declared.map.Place.{Place}
use Rattle.symbol_map.specs.declared.kind.MapKind.{MapKind}
use Rattle.symbol_map.specs.declared.kind.MapKind.TheVariants as kinds
use Rattle.symbol_map.specs.declared.entry.Entry.{Entry}
use Rattle.symbol_map.specs.declared.entry.Entry.TheVariants.{Atom, Shown, Leveled}
use Rattle.symbol_map.specs.declared.entry.Stage.{Stage}
use Rattle.symbol_map.specs.declared.entry.Stage.TheVariants.{Atoms, Shows, Levels}
use Rattle.symbol_map.specs.IsMap.{IsMap, IsVariable, PlacesRise}
use Rattle.symbol_map.specs.Read.{form_of, form_next, form, variables, header, over, item_over, place, show, level, entry_of, entry, is_next, stage_of, before, ended_text, entries, empty_map, from_lines, map_of}
use Rattle.symbol_map.specs.Symbols.{Symbols}
use Rattle.symbol_map.specs.Written.{form_word, header_line, place_line, show_line, level_line, map_text}
use Rattle.symbol_map.specs.private.EntryFacts.{PlaceFits}

-- ---- the header

form-is_word : (f : Form) → IsWord (form_word f)
form-is_word Cnf = refl
form-is_word Ecnf = refl
form-is_word Wcnf = refl

form-chosen : (f : Form) (rest : List ℕ) → form_next rest (form_of (form_word f)) ≡ Ok (f, rest)
form-chosen Cnf rest = refl
form-chosen Ecnf rest = refl
form-chosen Wcnf rest = refl

form-read : (f : Form) (more : List (List ℕ)) → form (spaced_before (form_word f ∷ more)) ≡ Ok (f, spaced_before more)
form-read f more =
    ap (λ t. elim t as (λ x. Reading Form) [ None ↦ Err read.BadHeader | Some token ↦ form_next token.1 (form_of token.0) ])
    (token_at-word (form_word f) (spaced_before more) (form-is_word f) (spaced_before-ends more))
    ∙ form-chosen f (spaced_before more)

-- Maps over so many variables.
module _ (vars : ℕ) (v : vars ≤ 2 ^ 31 - 1) where
  variables-read : (more : List (List ℕ)) → variables (spaced_before (decimal vars ∷ more)) ≡ Ok (vars, spaced_before more)
  variables-read more =
      let k : ℤ × List ℕ → Reading ℕ = λ x. unless (int_lt x.0 (pos 0) || int_lt (pos (2 ^ 31 - 1)) x.0) read.BadHeader (Ok (nat_abs x.0, x.1)) in
      ap (λ r. r >>= k) (number-read (pos vars) more (fits_i64-small (pos vars) (omega (arith, v))))
      ∙ passes (int_lt (pos vars) (pos 0) || nat_lt (2 ^ 31 - 1) vars) read.BadHeader (Ok (vars, spaced_before more))
      (or_from (int_lt (pos vars) (pos 0)) (nat_lt (2 ^ 31 - 1) vars) (natural-not_negative vars) (le-ltb (2 ^ 31 - 1) vars v))

  abbrev header_words : Form → List (List ℕ)
  header_words f = codes "1" ∷ form_word f ∷ decimal vars ∷ []

  header-read : (f : Form) → header (codes "map" ++ spaced_before (header_words f)) ≡ Ok (f, vars)
  header-read f =
      let k4 : ℕ × List ℕ → Result (Form × ℕ) ReadKind = λ n. ended (f, n.0) n.1 in
      let k3 : Form × List ℕ → Result (Form × ℕ) ReadKind = λ x. variables x.1 >>= λ n. ended (x.0, n.0) n.1 in
      let k2 : List ℕ → Result (Form × ℕ) ReadKind = λ one. form one >>= k3 in
      let k1 : List ℕ → Result (Form × ℕ) ReadKind = λ m. word (codes "1") m >>= k2 in
      ap (λ r. r >>= k1) (word-read (codes "map") (header_words f) refl)
      ∙ (ap (λ r. r >>= k3) (form-read f (decimal vars ∷ [])) ∙ ap (λ r. r >>= k4) (variables-read []))

  header-line : (f : Form) → AreWords (codes "map" ∷ header_words f)
  header-line f = (refl, (refl, (form-is_word f, (natural-is_word vars (omega (arith, v)), tt))))

  -- ---- fields over the variables

  variable-most : (a : ℕ) → IsVariable vars a → a ≤ 2 ^ 31
  variable-most a h = let most : a ≤ vars = h.1 in omega (arith, v)

  over-read : (l : Literal) (more : List (List ℕ)) → IsVariable vars (atom_of l) → over vars (spaced_before (literal_word l ∷ more)) ≡ Ok (l, spaced_before more)
  over-read l more h =
      let k : ℤ × List ℕ → Reading Literal = λ x. unless (int_eq x.0 (pos 0) || nat_lt vars (nat_abs x.0)) read.AtomTooLarge (Ok (literal_of x.0, x.1)) in
      let z : ℤ = integer_of l in
      let size : nat_abs z ≡ atom_of l = literal-size l in
      let some : 0 < atom_of l = h.0 in
      let most : atom_of l ≤ vars = h.1 in
      ap (λ r. r >>= k) (number-read z more (fits_i64-small z (omega (arith, v))))
      ∙ (passes (int_eq z (pos 0) || nat_lt vars (nat_abs z)) read.AtomTooLarge (Ok (literal_of z, spaced_before more))
      (or_from (int_eq z (pos 0)) (nat_lt vars (nat_abs z)) (not_zero z (omega arith)) (le-ltb vars (nat_abs z) (omega arith)))
      ∙ ap (λ x. Ok (x, spaced_before more)) (literal_of-integer_of l h.0))

  -- the item's fields fit
  abbrev ItemOver : Literal × ℤ → Type 0
  ItemOver x = IsVariable vars (atom_of x.0) × FitsWeight x.1

  item_over-read : (x : Literal × ℤ) (more : List (List ℕ)) → ItemOver x → item_over vars (spaced_before (literal_word x.0 ∷ signed_decimal x.1 ∷ more)) ≡ Ok (x, spaced_before more)
  item_over-read x more h =
      let k1 : Literal × List ℕ → Reading (Literal × ℤ) = λ l. weight l.1 >>= λ w. Ok ((l.0, w.0), w.1) in
      let k2 : ℤ × List ℕ → Reading (Literal × ℤ) = λ w. Ok ((x.0, w.0), w.1) in
      ap (λ r. r >>= k1) (over-read x.0 (signed_decimal x.1 ∷ more) h.0) ∙ ap (λ r. r >>= k2) (weight-read x.1 more h.1)

  literals-read : (lits : List Literal) → IsShort lits → AllByRecursion (λ l. IsVariable vars (atom_of l)) lits → counted (over vars) (spaced_before (literal_words lits)) ≡ Ok (lits, [])
  literals-read lits short h =
      ap (λ words. counted (over vars) (spaced_before (decimal (length lits) ∷ words))) (map-words literal_word lits)
      ∙ counted-read_last (over vars) (λ l. literal_word l ∷ []) (λ l. IsVariable vars (atom_of l)) over-read lits short h

  items-read : (items : List (Literal × ℤ)) → IsShort items → AllByRecursion ItemOver items → counted (item_over vars) (spaced_before (item_words items)) ≡ Ok (items, [])
  items-read items short h = counted-read_last (item_over vars) (λ x. literal_word x.0 ∷ signed_decimal x.1 ∷ []) ItemOver item_over-read items short h

  -- ---- lines

  -- the entry of a line is chosen by its word
  entry-word : (first : List ℕ) (more : List (List ℕ)) → IsWord first → entry vars (first ++ spaced_before more) ≡ entry_of vars first (spaced_before more)
  entry-word first more h =
      ap (λ t. elim t as (λ x. Result (Option Entry) ReadKind) [ None ↦ Err read.Missing | Some token ↦ entry_of vars token.0 token.1 ]) (token_at-word first (spaced_before more) h (spaced_before-ends more))

  -- A written line is a line, and is read as its entry.
  record Says (first : List ℕ) (words : List (List ℕ)) (e : Entry) : Type 0 where
    word : IsWord first
    line : IsLine (spaced (first ∷ words))
    entry : entry vars (first ++ spaced_before words) ≡ Ok (Some e)

  abbrev place_words : Place → List (List ℕ)
  place_words x = decimal x.atom ∷ literal_word x.lit ∷ []

  place-says : (x : Place) → PlaceFits vars x → Says (codes "atom") (place_words x) (Atom x)
  place-says x h =
      let k3 : Literal × List ℕ → Result Place ReadKind = λ l. ended (record { atom = x.atom; lit = l.0 }) l.1 in
      let k2 : ℕ × List ℕ → Result Place ReadKind = λ a. over vars a.1 >>= λ l. ended (record { atom = a.0; lit = l.0 }) l.1 in
      let whole : place vars (spaced_before (place_words x)) ≡ Ok x =
      ap (λ r. r >>= k2) (atom-read x.atom (literal_word x.lit ∷ []) h.0) ∙ ap (λ r. r >>= k3) (over-read x.lit [] h.1) in
      record {
        word = refl;
        line = spaced-line (codes "atom" ∷ place_words x) (refl, (atom-is_word x.atom h.0, (literal-is_word x.lit (variable-most (atom_of x.lit) h.1), tt)));
        entry = entry-word (codes "atom") (place_words x) refl ∙ ap (λ (r : Result Place ReadKind). r >>= λ p. Ok (Some (Atom p))) whole;
      }

  -- what is known of a show
  abbrev ShowOver : Show → Type 0
  ShowOver x = ShowFits (IsVariable vars) x × (length x.name < 2 ^ 63)

  abbrev show_words : Show → List (List ℕ)
  show_words x = decimal (length x.name) ∷ x.name ∷ literal_words x.condition

  show-says : (x : Show) → ShowOver x → Says (codes "show") (show_words x) (Shown x)
  show-says x h =
      let k3 : List Literal × List ℕ → Result Show ReadKind = λ condition. ended (record { name = x.name; condition = condition.0 }) condition.1 in
      let k2 : List ℕ × List ℕ → Result Show ReadKind = λ text. counted (over vars) text.1 >>= λ condition. ended (record { name = text.0; condition = condition.0 }) condition.1 in
      let whole : show vars (spaced_before (show_words x)) ≡ Ok x =
      ap (λ r. past_blank r >>= k2) (name-read x.name (literal_words x.condition) h.1) ∙ ap (λ r. r >>= k3) (literals-read x.condition h.0.1.0 h.0.1.1) in
      record {
        word = refl;
        line = named-line (codes "show") (decimal (length x.name)) (x.name ∷ literal_words x.condition) refl (show-line (IsVariable vars) variable-most x h.0 h.1);
        entry = entry-word (codes "show") (show_words x) refl ∙ ap (λ (r : Result Show ReadKind). r >>= λ p. Ok (Some (Shown p))) whole;
      }

  -- what is known of a level
  abbrev LevelKnown : Level → Type 0
  LevelKnown x = (IsShort x.items × LevelFits (IsVariable vars) x) × IsPriority x.priority

  abbrev level_words : Level → List (List ℕ)
  level_words x = signed_decimal x.priority ∷ item_words x.items

  level-says : (x : Level) → LevelKnown x → Says (codes "level") (level_words x) (Leveled x)
  level-says x h =
      let k3 : List (Literal × ℤ) × List ℕ → Result Level ReadKind = λ items. ended (record { priority = x.priority; items = items.0 }) items.1 in
      let k2 : ℤ × List ℕ → Result Level ReadKind = λ priority. counted (item_over vars) priority.1 >>= λ items. ended (record { priority = priority.0; items = items.0 }) items.1 in
      let whole : level vars (spaced_before (level_words x)) ≡ Ok x =
      ap (λ r. r >>= k2) (small-read x.priority (item_words x.items) h.1.0 h.1.1) ∙ ap (λ r. r >>= k3) (items-read x.items h.0.0 h.0.1) in
      record {
        word = refl;
        line = spaced-line (codes "level" ∷ level_words x) (refl, (priority-is_word x.priority h.1, items-are_words (IsVariable vars) variable-most FitsWeight weight-is_word x.items h.0.0 h.0.1));
        entry = entry-word (codes "level") (level_words x) refl ∙ ap (λ (r : Result Level ReadKind). r >>= λ p. Ok (Some (Leveled p))) whole;
      }

  -- ---- the lines behind a header, the last ones first

  module _ (last : ℕ) (f : Form) where
    abbrev symbols : List Place → List Show → List Level → Symbols
    symbols atoms shows levels = record { form = f; vars = vars; atoms = atoms; shows = shows; levels = levels }

    -- what the lines of a text give, that begin with this number at this stage
    abbrev read_from : Stage → ℕ → List ℕ → Result Symbols (Fault MapKind)
    read_from stage n text = entries last (empty_map f vars) stage (numbered n (pieces_of text))

    -- what a line gives, by its entry
    abbrev given_of : Stage → Line → List Line → Result (Option Entry) ReadKind → Result Symbols (Fault MapKind)
    given_of stage line lines read = elim read as (λ x. Result Symbols (Fault MapKind)) [
      | Err kind ↦ fault line.number kinds.BadLine
      | Ok None ↦ ended_text (empty_map f vars) lines
      | Ok (Some e) ↦ cond (is_next stage e) (before e (entries last (empty_map f vars) (stage_of e) lines)) (fault line.number kinds.WrongOrder)
    ]

    -- a written line of a list, and the lines behind it
    line-step : {A : Type 0} (line : A → List ℕ) (x : A) (xs : List A) (rest : List ℕ) (stage : Stage) (n : ℕ) (first : List ℕ) (words : List (List ℕ)) (e : Entry)
        → line x ≡ line_of (first ∷ words) → Says first words e → is_next stage e ≡ true
        → read_from stage n (flat_map line (x ∷ xs) ++ rest) ≡ before e (read_from (stage_of e) (suc n) (flat_map line xs ++ rest))
    line-step line x xs rest stage n first words e is says next =
        let more : List ℕ = flat_map line xs ++ rest in
        let lines : List Line = numbered (suc n) (pieces_of more) in
        let empty : Symbols = empty_map f vars in
        ap (read_from stage n) (append_assoc (line x) (flat_map line xs) rest ∙ ap (λ bytes. bytes ++ more) is)
        ∙ ap (entries last empty stage) (line-front n first words more says.word says.line)
        ∙ ap (given_of stage (record { number = n; bytes = first ++ spaced_before words }) lines) says.entry
        ∙ cond-true (is_next stage e) (before e (entries last empty (stage_of e) lines)) (fault n kinds.WrongOrder) next

    -- levels may follow
    abbrev LevelsFollow : Stage → List Level → Type 0
    LevelsFollow (Atoms a) levels = FallsFrom (pos (2 ^ 31)) levels
    LevelsFollow Shows levels = FallsFrom (pos (2 ^ 31)) levels
    LevelsFollow (Levels p) levels = FallsFrom p levels

    level-next : (stage : Stage) (level : Level) (levels : List Level) → LevelsFollow stage (level ∷ levels) → (is_next stage (Leveled level) ≡ true) × FallsFrom level.priority levels
    level-next (Atoms a) level levels h = (refl, h.1)
    level-next Shows level levels h = (refl, h.1)
    level-next (Levels p) level levels h = (test-from_lt level.priority p h.0, h.1)

    -- no level was there
    abbrev BeforeLevels : Stage → Type 0
    BeforeLevels (Atoms a) = ⊤
    BeforeLevels Shows = ⊤
    BeforeLevels (Levels p) = ⊥

    show-next : (stage : Stage) (show : Show) → BeforeLevels stage → is_next stage (Shown show) ≡ true
    show-next (Atoms a) show h = refl
    show-next Shows show h = refl
    show-next (Levels p) show h = absurd h

    levels-follow : (stage : Stage) (levels : List Level) → BeforeLevels stage → FallsFrom (pos (2 ^ 31)) levels → LevelsFollow stage levels
    levels-follow (Atoms a) levels h falls = falls
    levels-follow Shows levels h falls = falls
    levels-follow (Levels p) levels h falls = absurd h

    abbrev end_text : List ℕ
    end_text = line_of (codes "end" ∷ [])

    levels-read : (levels : List Level) (stage : Stage) (n : ℕ) → LevelsFollow stage levels → AllByRecursion LevelKnown levels
        → read_from stage n (flat_map level_line levels ++ end_text) ≡ Ok (symbols [] [] levels)
    levels-read [] stage n falls h = refl
    levels-read (x ∷ xs) stage n falls h =
        let next : (is_next stage (Leveled x) ≡ true) × FallsFrom x.priority xs = level-next stage x xs falls in
        line-step level_line x xs end_text stage n (codes "level") (level_words x) (Leveled x) refl (level-says x h.0) next.0
        ∙ ap (before (Leveled x)) (levels-read xs (Levels x.priority) (suc n) next.1 h.1)

    module _ (levels : List Level) (falls : FallsFrom (pos (2 ^ 31)) levels) (over_levels : AllByRecursion LevelKnown levels) where
      abbrev levels_text : List ℕ
      levels_text = flat_map level_line levels ++ end_text

      shows-read : (shows : List Show) (stage : Stage) (n : ℕ) → BeforeLevels stage → AllByRecursion ShowOver shows
          → read_from stage n (flat_map show_line shows ++ levels_text) ≡ Ok (symbols [] shows levels)
      shows-read [] stage n b h = levels-read levels stage n (levels-follow stage levels b falls) over_levels
      shows-read (x ∷ xs) stage n b h =
          line-step show_line x xs levels_text stage n (codes "show") (show_words x) (Shown x) refl (show-says x h.0) (show-next stage x b)
          ∙ ap (before (Shown x)) (shows-read xs Shows (suc n) tt h.1)

      module _ (shows : List Show) (over_shows : AllByRecursion ShowOver shows) where
        abbrev shows_text : List ℕ
        shows_text = flat_map show_line shows ++ levels_text

        places-read : (places : List Place) (low n : ℕ) → PlacesRise low places → AllByRecursion (PlaceFits vars) places
            → read_from (Atoms low) n (flat_map place_line places ++ shows_text) ≡ Ok (symbols places shows levels)
        places-read [] low n rise h = shows-read shows (Atoms low) n tt over_shows
        places-read (x ∷ xs) low n rise h =
            line-step place_line x xs shows_text (Atoms low) n (codes "atom") (place_words x) (Atom x) refl (place-says x h.0) (lt-ltb low x.atom rise.0)
            ∙ ap (before (Atom x)) (places-read xs x.atom (suc n) rise.1 h.1)

-- ---- whole maps

pub map-read : (m : Symbols) → IsMap m → AllByRecursion (λ show. length show.name < 2 ^ 63) m.shows → map_of (map_text m) ≡ Ok m
map-read m h names =
    let last : ℕ = end_line (map_text m) in
    let words : List (List ℕ) = header_words m.vars h.vars m.form in
    let text : List ℕ = flat_map place_line m.atoms ++ (flat_map show_line m.shows ++ (flat_map level_line m.levels ++ line_of (codes "end" ∷ []))) in
    ap (from_lines last) (line-front 1 (codes "map") words text refl (spaced-line (codes "map" ∷ words) (header-line m.vars h.vars m.form)))
    ∙ (ap (λ r. elim r as (λ x. Result Symbols (Fault MapKind)) [
      | Err kind ↦ fault 1 kinds.BadHeader
      | Ok x ↦ entries last (empty_map x.0 x.1) (Atoms 0) (numbered 2 (pieces_of text))
    ]) (header-read m.vars h.vars m.form)
    ∙ places-read m.vars h.vars last m.form m.levels h.priorities
    (each-both _ _ _ (λ level fits priority. (fits, priority)) m.levels h.levels h.priorities_fit)
    m.shows (each-both _ _ _ (λ show fits short. (fits, short)) m.shows h.shows names)
    m.atoms 0 2 h.atoms_rise h.atoms)

-- where the text lies in memory: a name is no longer than the text that holds it
pub short-read : (m : Symbols) → IsMap m → length (map_text m) < 2 ^ 63 → map_of (map_text m) ≡ Ok m
short-read m h short =
    let levels : List ℕ = flat_map level_line m.levels ++ line_of (codes "end" ∷ []) in
    let shows : List ℕ = flat_map show_line m.shows ++ levels in
    let places : List ℕ = flat_map place_line m.atoms ++ shows in
    let bound : length (flat_map show_line m.shows) < 2 ^ 63 =
    omega (arith, short, front-within (flat_map show_line m.shows) levels, behind-within (flat_map place_line m.atoms) shows, behind-within (header_line m) places) in
    map-read m h
    (names-within show_line (λ show. length show.name) (λ show. name-within (codes "show" ∷ decimal (length show.name) ∷ []) show.name (literal_words show.condition)) m.shows (2 ^ 63) bound)

-- and where it was appended there
pub appended-read : {T E : Type 0} (r : Result T E) (m : Symbols) (old new : List ℕ) → length new < 2 ^ 63 → OnOk r (IsMap m) → OnOk r (new ≡ old ++ map_text m)
    → OnOk r (map_of (map_text m) ≡ Ok m)
appended-read (Err x) m old new short fits e = tt
appended-read (Ok x) m old new short fits e = short-read m fits (omega (arith, short, ap length e, behind-within old (map_text m)))
