-- The program of the draft that a program's lines make is that program.
use Rattle.std.proofs.Common.{◌≡◌, refl, sym, ◌∙◌, ap, ℕ, ◌^◌, ◌==◌, Bool, true, false, cond, not, ◌&&◌, ◌||◌, List, [], ◌∷◌, ◌++◌, map, inl, inr, append_assoc, append-nil}
use Rattle.std.specs.Prelude.{pos, ◌⊎◌}
use Rattle.std.specs.List.{AllByRecursion, list_any, flat_map, filter}
use Rattle.std.proofs.lemmas.Bool.{cond_both}
use Rattle.asp_base.specs.Literal.{Literal, atom_of}
use Rattle.std.proofs.lemmas.List.Concat.{flat_map-append}
use Rattle.std.proofs.lemmas.List.Folds.{flat_map-map}
use Rattle.asp_base.specs.Sets.{members}
use Rattle.asp_base.proofs.Each.{each-append, each-flat_map, each-map, each-member, each-weaker}
use Rattle.ground_program.specs.Ground.{Ground}
use Rattle.ground_program.specs.Draft.{Draft, atoms_of_draft, external_rule, external_rules, heads_rule, value_of, program_of}
use Rattle.ground_program.specs.Facts.{Among, IsProgram, RuleFits, ConditionFits, LevelFits, ShowFits, FitsWeight, FitsBodyWeight, HeadFits, BodyFits}
use Rattle.ground_program.specs.Occurrences.{atoms_of_literals, atoms_of_items, atoms_of_head, atoms_of_body, atoms_of_rule, atoms_of_parts}
use Rattle.rising_numbers.specs.Rising.{rising}
use Rattle.ground_program.specs.declared.program.Head.{Head}
use Rattle.ground_program.specs.declared.program.Head.TheVariants.{Nothing, One, Choice}
use Rattle.ground_program.specs.declared.program.Body.{Body}
use Rattle.ground_program.specs.declared.program.Body.TheVariants.{All, Sum}
use Rattle.ground_program.specs.declared.program.Rule.{Rule}
use Rattle.ground_program.specs.declared.program.Level.{Level}
use Rattle.ground_program.specs.declared.builder.External.{External}
use Rattle.ground_program.specs.declared.builder.External.TheVariants.{False, Release}
use Rattle.ground_program.proofs.Plain.{members-filtered}
use Rattle.rising_numbers.proofs.RisingLaws.{Ascends-from_rises, members-append, rising-is}
use Rattle.aspif_format.specs.Written.{idle_atoms, parts}
use Rattle.aspif_format.proofs.PartLaws.{map-joined, joined-parts}
use Rattle.aspif_format.proofs.LevelParts.{parts_of, level_at, levels-merged}

-- an external atom that is false
abbrev pub false_setting : ℕ → ℕ × External
false_setting a = (a, False)

-- what the lines of a program add
abbrev pub written_draft : Ground → Draft
written_draft P = record {
  rules = P.rules;
  required = P.required;
  edges = P.edges;
  levels = flat_map parts_of P.levels;
  shows = P.shows;
  externals = map false_setting (idle_atoms P);
}

-- ---- external atoms that are false have no rules

no_rules-of : (value : External) → (value ≡ False) ⊎ (value ≡ Release) → (a : ℕ) → external_rule a value ≡ []
no_rules-of value (inl e) a = ap (external_rule a) e
no_rules-of value (inr e) a = ap (external_rule a) e

false_value : (a : ℕ) (xs : List ℕ) → (value_of a (map false_setting xs) ≡ False) ⊎ (value_of a (map false_setting xs) ≡ Release)
false_value a [] = inr refl
false_value a (x ∷ xs) = cond_both ((x == a) && not (list_any (λ later. later.0 == a) (map false_setting xs))) False (value_of a (map false_setting xs)) (λ v. (v ≡ False) ⊎ (v ≡ Release))
    (λ e. inl refl)
    (λ e. false_value a xs)

none-of : {X : Type 0} (f : ℕ → List X) → ((a : ℕ) → f a ≡ []) → (xs : List ℕ) → flat_map f xs ≡ []
none-of f h [] = refl
none-of f h (x ∷ xs) = ap (λ ys. ys ++ flat_map f xs) (h x) ∙ none-of f h xs

no_external_rules : (rules : List Rule) (xs : List ℕ) → external_rules rules (map false_setting xs) ≡ []
no_external_rules rules xs =
    none-of (λ a. cond (heads_rule rules a) [] (external_rule a (value_of a (map false_setting xs))))
    (λ a. ap (λ made. cond (heads_rule rules a) [] made) (no_rules-of (value_of a (map false_setting xs)) (false_value a xs) a) ∙ cond_both (heads_rule rules a) [] [] (λ made. made ≡ []) (λ e. refl) (λ e. refl))
    (rising (map (λ set. set.0) (map false_setting xs)))

-- ---- the atoms of a draft are those that occur, and the idle ones

atoms_of-parts_of : (level : Level) → flat_map (λ l. atoms_of_items l.items) (parts_of level) ≡ atoms_of_items level.items
atoms_of-parts_of level =
    flat_map-map (λ (l : Level). atoms_of_items l.items) (level_at level.priority) (parts level.items)
    ∙ map-joined (λ item. atom_of item.0) (parts level.items)
    ∙ ap atoms_of_items (joined-parts level.items)

atoms_of-levels : (levels : List Level) → flat_map (λ l. atoms_of_items l.items) (flat_map parts_of levels) ≡ flat_map (λ l. atoms_of_items l.items) levels
atoms_of-levels [] = refl
atoms_of-levels (level ∷ levels) =
    flat_map-append (λ (l : Level). atoms_of_items l.items) (parts_of level) (flat_map parts_of levels)
    ∙ ap (λ xs. xs ++ flat_map (λ l. atoms_of_items l.items) (flat_map parts_of levels)) (atoms_of-parts_of level)
    ∙ ap (λ xs. atoms_of_items level.items ++ xs) (atoms_of-levels levels)

settings-atoms : (xs : List ℕ) → map (λ set. set.0) (map false_setting xs) ≡ xs
settings-atoms [] = refl
settings-atoms (x ∷ xs) = ap (λ ys. x ∷ ys) (settings-atoms xs)

-- six lists in a row
five-and-one : (a b c d e f : List ℕ) → a ++ (b ++ (c ++ (d ++ (e ++ f)))) ≡ (a ++ (b ++ (c ++ (d ++ e)))) ++ f
five-and-one a b c d e f = simp append_assoc

atoms_of-written : (P : Ground) → atoms_of_draft (written_draft P) ≡ atoms_of_parts P ++ idle_atoms P
atoms_of-written P =
    let rules : List ℕ = flat_map atoms_of_rule P.rules in
    let edges : List ℕ = flat_map (λ edge. atoms_of_literals edge.condition) P.edges in
    let shows : List ℕ = flat_map (λ show. atoms_of_literals show.condition) P.shows in
    let levels : List ℕ = flat_map (λ level. atoms_of_items level.items) P.levels in
    let externals : List ℕ = map (λ set. set.0) (map false_setting (idle_atoms P)) in
    ap (λ xs. rules ++ (atoms_of_literals P.required ++ (edges ++ (xs ++ (shows ++ externals))))) (atoms_of-levels P.levels)
    ∙ ap (λ xs. rules ++ (atoms_of_literals P.required ++ (edges ++ (levels ++ (shows ++ xs))))) (settings-atoms (idle_atoms P))
    ∙ five-and-one rules (atoms_of_literals P.required) edges levels shows (idle_atoms P)

-- ---- every atom that occurs is one of the program's

module _ (F : ℕ → Type 0) where
  literals-atoms : (lits : List Literal) → AllByRecursion (λ l. F (atom_of l)) lits → AllByRecursion F (atoms_of_literals lits)
  literals-atoms lits h = each-map F atom_of lits h

  head-atoms : (head : Head) → HeadFits F head → AllByRecursion F (atoms_of_head head)
  head-atoms Nothing h = tt
  head-atoms (One a) h = (h, tt)
  head-atoms (Choice as_) h = h.1

  body-atoms : (body : Body) → BodyFits F body → AllByRecursion F (atoms_of_body body)
  body-atoms (All lits) h = literals-atoms lits h.1
  body-atoms (Sum bound items) h = each-map F (λ item. atom_of item.0) items (each-weaker (λ item. F (atom_of item.0) × FitsBodyWeight item.1) (λ item. F (atom_of item.0)) (λ item k. k.0) items h.2)

  rule-atoms : (rule : Rule) → RuleFits F rule → AllByRecursion F (atoms_of_rule rule)
  rule-atoms rule h = each-append F (atoms_of_head rule.head) (atoms_of_body rule.body) (head-atoms rule.head h.0) (body-atoms rule.body h.1)

  level-atoms : (level : Level) → LevelFits F level → AllByRecursion F (atoms_of_items level.items)
  level-atoms level h = each-map F (λ item. atom_of item.0) level.items (each-weaker (λ item. F (atom_of item.0) × FitsWeight item.1) (λ item. F (atom_of item.0)) (λ item k. k.0) level.items h)

parts-among : (P : Ground) → IsProgram P → AllByRecursion (Among P.atoms) (atoms_of_parts P)
parts-among P h =
    let F : ℕ → Type 0 = Among P.atoms in
    each-append F _ _ (each-flat_map F atoms_of_rule P.rules (each-weaker (RuleFits F) _ (rule-atoms F) P.rules h.rules))
    (each-append F _ _ (literals-atoms F P.required h.required)
    (each-append F _ _ (each-flat_map F (λ edge. atoms_of_literals edge.condition) P.edges (each-weaker (λ edge. ConditionFits F edge.condition) _ (λ edge k. literals-atoms F edge.condition k.1) P.edges h.edges))
    (each-append F _ _ (each-flat_map F (λ level. atoms_of_items level.items) P.levels (each-weaker (LevelFits F) _ (level-atoms F) P.levels h.levels))
    (each-flat_map F (λ show. atoms_of_literals show.condition) P.shows (each-weaker (ShowFits F) _ (λ show k. literals-atoms F show.condition k.1.1) P.shows h.shows)))))

-- ---- and every one of the program's occurs or is idle

-- what is among all, and what of all is not there, make up all
all-of : (b c : Bool) → (b ≡ true → c ≡ true) → (b || (not b && c)) ≡ c
all-of true c h = sym (h refl)
all-of false c h = refl

atoms-are : (P : Ground) → IsProgram P → rising (atoms_of_draft (written_draft P)) ≡ P.atoms
atoms-are P h =
    let occur : List ℕ = atoms_of_parts P in
    let other : ℕ → Bool = λ a. not (members occur a) in
    ap rising (atoms_of-written P)
    ∙ sym (rising-is (occur ++ filter other P.atoms) P.atoms (Ascends-from_rises 0 P.atoms h.atoms_rise)
    (λ a. sym (members-append occur (filter other P.atoms) a
    ∙ ap (λ m. members occur a || m) (members-filtered other P.atoms a)
    ∙ all-of (members occur a) (members P.atoms a) (λ m. each-member (Among P.atoms) occur a (parts-among P h) m))))

pub program-of_written : (P : Ground) → IsProgram P → program_of (written_draft P) ≡ P
program-of_written P h =
    let rules : P.rules ++ external_rules P.rules (map false_setting (idle_atoms P)) ≡ P.rules = ap (λ more. P.rules ++ more) (no_external_rules P.rules (idle_atoms P)) ∙ append-nil P.rules in
    rw (atoms-are P h, rules, levels-merged (pos (2 ^ 31)) P.levels h.priorities) refl
