-- The program of a draft keeps what is true of every program.
use Rattle.std.proofs.Common.{◌≡◌, ◌∙◌, ℕ, ◌<◌, ◌≤◌, ◌^◌, true, cond, List, [], ◌∷◌, ◌++◌, map, arith}
use Rattle.std.specs.Prelude.{ℤ, pos, ◌<ℤ◌}
use Rattle.std.specs.List.{AllByRecursion, flat_map}
use Rattle.std.proofs.lemmas.Bool.{or_right, cond_both}
use Rattle.asp_base.specs.Literal.{atom_of}
use Rattle.asp_base.specs.Sets.{members}
use Rattle.ground_program.specs.Draft.{Draft, atoms_of_draft, external_rule, external_rules, heads_rule, into_levels, levels_onto, program_of, value_of}
use Rattle.ground_program.specs.Facts.{IsAtom, IsPriority, Among, FitsWeight, FitsBodyWeight, HeadFits, BodyFits, RuleFits, ConditionFits, LevelFits, ShowFits, IsProgram, IsDraft}
use Rattle.ground_program.specs.Occurrences.{atoms_of_literals, atoms_of_items, atoms_of_head, atoms_of_body, atoms_of_rule}
use Rattle.rising_numbers.specs.Rising.{rising}
use Rattle.ground_program.specs.declared.program.Head.{Head}
use Rattle.ground_program.specs.declared.program.Head.TheVariants.{Nothing, One, Choice}
use Rattle.ground_program.specs.declared.program.Body.{Body}
use Rattle.ground_program.specs.declared.program.Body.TheVariants.{All, Sum}
use Rattle.ground_program.specs.declared.program.Rule.{Rule}
use Rattle.ground_program.specs.declared.program.Edge.{Edge}
use Rattle.ground_program.specs.declared.program.Level.{Level}
use Rattle.ground_program.specs.declared.program.Show.{Show}
use Rattle.ground_program.specs.declared.builder.External.{External}
use Rattle.ground_program.specs.declared.builder.External.TheVariants.{Free, True, False, Release}
use Rattle.asp_base.proofs.Each.{each-append, each-front, each-back, each-flat_map, each-pieces, each-weaker, each-both, each-map, each-from_map}
use Rattle.rising_numbers.proofs.RisingLaws.{RisesFrom-rising, members-head, members-rising, each-rising}
use Rattle.ground_program.proofs.LevelLaws.{FallsFrom-onto, goes-into}

-- ---- parts and their atoms

module _ (F : ℕ → Type 0) where
  head-atoms : (head : Head) → HeadFits F head → AllByRecursion F (atoms_of_head head)
  head-atoms Nothing h = tt
  head-atoms (One a) h = (h, tt)
  head-atoms (Choice as_) h = h.1

  body-atoms : (body : Body) → BodyFits F body → AllByRecursion F (atoms_of_body body)
  body-atoms (All lits) h = each-map F atom_of lits h.1
  body-atoms (Sum bound items) h = each-map F (λ item. atom_of item.0) items (each-weaker (λ item. F (atom_of item.0) × FitsBodyWeight item.1) (λ item. F (atom_of item.0)) (λ item k. k.0) items h.2)

  rule-atoms : (rule : Rule) → RuleFits F rule → AllByRecursion F (atoms_of_rule rule)
  rule-atoms rule h = each-append F (atoms_of_head rule.head) (atoms_of_body rule.body) (head-atoms rule.head h.0) (body-atoms rule.body h.1)

  edge-atoms : (edge : Edge) → ConditionFits F edge.condition → AllByRecursion F (atoms_of_literals edge.condition)
  edge-atoms edge h = each-map F atom_of edge.condition h.1

  level-atoms : (level : Level) → LevelFits F level → AllByRecursion F (atoms_of_items level.items)
  level-atoms level h = each-map F (λ item. atom_of item.0) level.items (each-weaker (λ item. F (atom_of item.0) × FitsWeight item.1) (λ item. F (atom_of item.0)) (λ item k. k.0) level.items h)

  show-atoms : (show : Show) → ShowFits F show → AllByRecursion F (atoms_of_literals show.condition)
  show-atoms show h = each-map F atom_of show.condition h.1.1

-- the same part, where more is known of its atoms
module _ (F G : ℕ → Type 0) where
  head-over : (head : Head) → HeadFits F head → AllByRecursion G (atoms_of_head head) → HeadFits G head
  head-over Nothing h k = tt
  head-over (One a) h k = k.0
  head-over (Choice as_) h k = (h.0, k)

  body-over : (body : Body) → BodyFits F body → AllByRecursion G (atoms_of_body body) → BodyFits G body
  body-over (All lits) h k = (h.0, each-from_map G atom_of lits k)
  body-over (Sum bound items) h k = (h.0, h.1, each-both (λ item. F (atom_of item.0) × FitsBodyWeight item.1) (λ item. G (atom_of item.0)) (λ item. G (atom_of item.0) × FitsBodyWeight item.1) (λ item p q. (q, p.1)) items h.2 (each-from_map G (λ item. atom_of item.0) items k))

  rule-over : (rule : Rule) → RuleFits F rule → AllByRecursion G (atoms_of_rule rule) → RuleFits G rule
  rule-over rule h k = (head-over rule.head h.0 (each-front G (atoms_of_head rule.head) (atoms_of_body rule.body) k), body-over rule.body h.1 (each-back G (atoms_of_head rule.head) (atoms_of_body rule.body) k))

  edge-over : (edge : Edge) → ConditionFits F edge.condition → AllByRecursion G (atoms_of_literals edge.condition) → ConditionFits G edge.condition
  edge-over edge h k = (h.0, each-from_map G atom_of edge.condition k)

  level-over : (level : Level) → LevelFits F level → AllByRecursion G (atoms_of_items level.items) → LevelFits G level
  level-over level h k = each-both (λ item. F (atom_of item.0) × FitsWeight item.1) (λ item. G (atom_of item.0)) (λ item. G (atom_of item.0) × FitsWeight item.1) (λ item p q. (q, p.1)) level.items h (each-from_map G (λ item. atom_of item.0) level.items k)

  show-over : (show : Show) → ShowFits F show → AllByRecursion G (atoms_of_literals show.condition) → ShowFits G show
  show-over show h k = (h.0, (h.1.0, each-from_map G atom_of show.condition k))

-- ---- every atom that was named

pub draft-atoms : (d : Draft) → IsDraft d → AllByRecursion IsAtom (atoms_of_draft d)
draft-atoms d h =
    each-append IsAtom _ _ (each-flat_map IsAtom atoms_of_rule d.rules (each-weaker (RuleFits IsAtom) _ (rule-atoms IsAtom) d.rules h.rules))
    (each-append IsAtom _ _ (each-map IsAtom atom_of d.required h.required)
    (each-append IsAtom _ _ (each-flat_map IsAtom (λ edge. atoms_of_literals edge.condition) d.edges (each-weaker (λ edge. ConditionFits IsAtom edge.condition) _ (edge-atoms IsAtom) d.edges h.edges))
    (each-append IsAtom _ _ (each-flat_map IsAtom (λ level. atoms_of_items level.items) d.levels (each-weaker (LevelFits IsAtom) _ (level-atoms IsAtom) d.levels h.levels))
    (each-append IsAtom _ _ (each-flat_map IsAtom (λ show. atoms_of_literals show.condition) d.shows (each-weaker (ShowFits IsAtom) _ (show-atoms IsAtom) d.shows h.shows))
    (each-map IsAtom (λ set. set.0) d.externals h.externals)))))

all-among : (xs atoms : List ℕ) → ((a : ℕ) → members xs a ≡ true → members atoms a ≡ true) → AllByRecursion (Among atoms) xs
all-among [] atoms h = tt
all-among (x ∷ xs) atoms h = (h x (members-head x xs), all-among xs atoms (λ a m. h a (or_right _ _ m)))

-- ---- the rules of external atoms

module _ (F : ℕ → Type 0) where
  external-fits : (a : ℕ) (value : External) → F a → AllByRecursion (RuleFits F) (external_rule a value)
  external-fits a Free h = (((omega arith, (h, tt)), (omega arith, tt)), tt)
  external-fits a True h = ((h, (omega arith, tt)), tt)
  external-fits a False h = tt
  external-fits a Release h = tt

  externals-fit : (rules : List Rule) (sets : List (ℕ × External)) → AllByRecursion F (map (λ set. set.0) sets) → AllByRecursion (RuleFits F) (external_rules rules sets)
  externals-fit rules sets h = each-flat_map (RuleFits F) (λ a. cond (heads_rule rules a) [] (external_rule a (value_of a sets))) (rising (map (λ set. set.0) sets))
      (each-weaker F _ (λ a k. cond_both (heads_rule rules a) [] (external_rule a (value_of a sets)) (AllByRecursion (RuleFits F)) (λ e. tt) (λ e. external-fits a (value_of a sets) k))
      (rising (map (λ set. set.0) sets)) (each-rising F (map (λ set. set.0) sets) h))

  -- ---- merged levels

  level-into : (new : Level) (levels : List Level) → LevelFits F new → AllByRecursion (LevelFits F) levels → AllByRecursion (LevelFits F) (into_levels new levels)
  level-into new [] h k = (h, tt)
  level-into new (level ∷ levels) h k = goes-into new level levels (AllByRecursion (LevelFits F))
      (λ l. (h, k))
      (λ e. (each-append (λ item. F (atom_of item.0) × FitsWeight item.1) level.items new.items k.0 h, k.1))
      (λ l. (k.0, level-into new levels h k.1))

  levels-onto : (levels news : List Level) → AllByRecursion (LevelFits F) levels → AllByRecursion (LevelFits F) news → AllByRecursion (LevelFits F) (levels_onto levels news)
  levels-onto levels [] h k = h
  levels-onto levels (new ∷ news) h k = levels-onto (into_levels new levels) news (level-into new levels k.0 h) k.1

priorities-into : (P : ℤ → Type 0) (new : Level) (levels : List Level) → P new.priority → AllByRecursion (λ level. P level.priority) levels → AllByRecursion (λ level. P level.priority) (into_levels new levels)
priorities-into P new [] h k = (h, tt)
priorities-into P new (level ∷ levels) h k = goes-into new level levels (AllByRecursion (λ level. P level.priority))
    (λ l. (h, k))
    (λ e. k)
    (λ l. (k.0, priorities-into P new levels h k.1))

priorities-onto : (P : ℤ → Type 0) (levels news : List Level) → AllByRecursion (λ level. P level.priority) levels → AllByRecursion (λ level. P level.priority) news → AllByRecursion (λ level. P level.priority) (levels_onto levels news)
priorities-onto P levels [] h k = h
priorities-onto P levels (new ∷ news) h k = priorities-onto P (into_levels new levels) news (priorities-into P new levels k.0 h) k.1

pub priorities-below : (d : Draft) → IsDraft d → AllByRecursion (λ level. level.priority <ℤ pos (2 ^ 31)) d.levels
priorities-below d h = each-weaker (λ level. IsPriority level.priority) (λ level. level.priority <ℤ pos (2 ^ 31)) (λ level k. k.1) d.levels h.priorities

-- ---- the program

pub program-from_draft : (d : Draft) → IsDraft d → IsProgram (program_of d)
program-from_draft d h =
    let atoms : List ℕ = rising (atoms_of_draft d) in
    let named : AllByRecursion IsAtom (atoms_of_draft d) = draft-atoms d h in
    let in_rules : AllByRecursion (Among atoms) (atoms_of_draft d) = all-among (atoms_of_draft d) atoms (λ a m. members-rising (atoms_of_draft d) a ∙ m) in
    let after_rules = each-back (Among atoms) (flat_map atoms_of_rule d.rules) _ in_rules in
    let after_required = each-back (Among atoms) (atoms_of_literals d.required) _ after_rules in
    let after_edges = each-back (Among atoms) (flat_map (λ edge. atoms_of_literals edge.condition) d.edges) _ after_required in
    let after_levels = each-back (Among atoms) (flat_map (λ level. atoms_of_items level.items) d.levels) _ after_edges in
    record {
      atoms_rise = RisesFrom-rising 0 (atoms_of_draft d) (each-weaker IsAtom (λ a. 0 < a) (λ a k. k.0) (atoms_of_draft d) named);
      atoms_fit = each-rising (λ a. a ≤ 2 ^ 30) (atoms_of_draft d) (each-weaker IsAtom (λ a. a ≤ 2 ^ 30) (λ a k. k.1) (atoms_of_draft d) named);
      rules = each-append (RuleFits (Among atoms)) d.rules (external_rules d.rules d.externals)
          (each-both (RuleFits IsAtom) (λ rule. AllByRecursion (Among atoms) (atoms_of_rule rule)) (RuleFits (Among atoms)) (rule-over IsAtom (Among atoms)) d.rules h.rules
          (each-pieces (Among atoms) atoms_of_rule d.rules (each-front (Among atoms) (flat_map atoms_of_rule d.rules) _ in_rules)))
          (externals-fit (Among atoms) d.rules d.externals
          (each-back (Among atoms) (flat_map (λ show. atoms_of_literals show.condition) d.shows) (map (λ set. set.0) d.externals) after_levels));
      required = each-from_map (Among atoms) atom_of d.required (each-front (Among atoms) (atoms_of_literals d.required) _ after_rules);
      edges = each-both (λ edge. ConditionFits IsAtom edge.condition) (λ edge. AllByRecursion (Among atoms) (atoms_of_literals edge.condition)) (λ edge. ConditionFits (Among atoms) edge.condition) (edge-over IsAtom (Among atoms)) d.edges h.edges
          (each-pieces (Among atoms) (λ edge. atoms_of_literals edge.condition) d.edges (each-front (Among atoms) (flat_map (λ edge. atoms_of_literals edge.condition) d.edges) _ after_required));
      levels = levels-onto (Among atoms) [] d.levels tt
          (each-both (LevelFits IsAtom) (λ level. AllByRecursion (Among atoms) (atoms_of_items level.items)) (LevelFits (Among atoms)) (level-over IsAtom (Among atoms)) d.levels h.levels
          (each-pieces (Among atoms) (λ level. atoms_of_items level.items) d.levels (each-front (Among atoms) (flat_map (λ level. atoms_of_items level.items) d.levels) _ after_edges)));
      priorities = FallsFrom-onto (pos (2 ^ 31)) [] d.levels tt (priorities-below d h);
      priorities_fit = priorities-onto IsPriority [] d.levels tt h.priorities;
      nodes = h.nodes;
      shows = each-both (ShowFits IsAtom) (λ show. AllByRecursion (Among atoms) (atoms_of_literals show.condition)) (ShowFits (Among atoms)) (show-over IsAtom (Among atoms)) d.shows h.shows
          (each-pieces (Among atoms) (λ show. atoms_of_literals show.condition) d.shows (each-front (Among atoms) (flat_map (λ show. atoms_of_literals show.condition) d.shows) (map (λ set. set.0) d.externals) after_levels));
    }

pub program-made : (d : Draft) → IsDraft d → (atoms : List ℕ) (rules : List Rule) (levels : List Level)
    → atoms ≡ rising (atoms_of_draft d) → rules ≡ d.rules ++ external_rules d.rules d.externals → levels ≡ levels_onto [] d.levels
    → IsProgram (record { atoms = atoms; rules = rules; required = d.required; edges = d.edges; levels = levels; shows = d.shows })
program-made d h atoms rules levels p q r = rw (p, q, r) (program-from_draft d h)
