-- What was added to a program, in order, and the program that this makes.
use Rattle.std.specs.Prelude.{ℕ, not, ◌&&◌, ◌==◌, int_lt, Bool, cond, List, [], ◌∷◌, ◌++◌, map}
use Rattle.std.specs.List.{list_any, flat_map}
use Rattle.std.specs.Ordering.{int_eq}
use Rattle.asp_base.specs.Literal.{Literal}
use Rattle.asp_base.specs.Sets.{members}
use Rattle.ground_program.specs.Ground.{Ground}
use Rattle.ground_program.specs.Occurrences.{atoms_of_literals, atoms_of_items, atoms_of_head, atoms_of_rule}
use Rattle.rising_numbers.specs.Rising.{rising}
use Rattle.ground_program.specs.declared.program.Head.TheVariants.{One, Choice}
use Rattle.ground_program.specs.declared.program.Body.TheVariants.{All}
use Rattle.ground_program.specs.declared.program.Rule.{Rule}
use Rattle.ground_program.specs.declared.program.Edge.{Edge}
use Rattle.ground_program.specs.declared.program.Level.{Level}
use Rattle.ground_program.specs.declared.program.Show.{Show}
use Rattle.ground_program.specs.declared.builder.External.{External}
use Rattle.ground_program.specs.declared.builder.External.TheVariants.{Free, True, False, Release}

pub record Draft : Type 0 where
  pub rules : List Rule
  pub required : List Literal
  pub edges : List Edge
  pub levels : List Level
  pub shows : List Show
  pub externals : List (ℕ × External)

abbrev pub empty_draft : Draft
empty_draft =
    record { rules = []; required = []; edges = []; levels = []; shows = []; externals = [] }

abbrev pub with_rule : Rule → Draft → Draft
with_rule rule d = record d { rules = d.rules ++ (rule ∷ []) }

abbrev pub with_required : List Literal → Draft → Draft
with_required lits d = record d { required = d.required ++ lits }

abbrev pub with_edge : Edge → Draft → Draft
with_edge edge d = record d { edges = d.edges ++ (edge ∷ []) }

abbrev pub with_level : Level → Draft → Draft
with_level level d = record d { levels = d.levels ++ (level ∷ []) }

abbrev pub with_show : Show → Draft → Draft
with_show show d = record d { shows = d.shows ++ (show ∷ []) }

abbrev pub with_external : ℕ → External → Draft → Draft
with_external a value d = record d { externals = d.externals ++ ((a, value) ∷ []) }

-- every atom that was named
abbrev pub atoms_of_draft : Draft → List ℕ
atoms_of_draft d =
    flat_map atoms_of_rule d.rules
    ++ (atoms_of_literals d.required
    ++ (flat_map (λ edge. atoms_of_literals edge.condition) d.edges
    ++ (flat_map (λ level. atoms_of_items level.items) d.levels
    ++ (flat_map (λ show. atoms_of_literals show.condition) d.shows
    ++ map (λ set. set.0) d.externals))))

-- into its place by falling priority; the items of one priority stand in the order in which they
-- came
abbrev pub into_levels : Level → List Level → List Level
into_levels new [] = new ∷ []
into_levels new (level ∷ levels) =
    cond (int_lt level.priority new.priority) (new ∷ level ∷ levels)
    (cond (int_eq level.priority new.priority)
    (record { priority = level.priority; items = level.items ++ new.items } ∷ levels)
    (level ∷ into_levels new levels))

abbrev pub levels_onto : List Level → List Level → List Level
levels_onto levels [] = levels
levels_onto levels (new ∷ news) = levels_onto (into_levels new levels) news

-- the last value that an external atom was given
abbrev pub value_of : ℕ → List (ℕ × External) → External
value_of a [] = Release
value_of a (set ∷ sets) =
    cond ((set.0 == a) && not (list_any (λ later. later.0 == a) sets)) set.1 (value_of a sets)

-- A free atom may be chosen, a true one is a fact, any other heads no rule.
abbrev pub external_rule : ℕ → External → List Rule
external_rule a Free = record { head = Choice (a ∷ []); body = All [] } ∷ []
external_rule a True = record { head = One a; body = All [] } ∷ []
external_rule a False = []
external_rule a Release = []

-- a rule has the atom in its head
abbrev pub heads_rule : List Rule → ℕ → Bool
heads_rule rules a = list_any (λ rule. members (atoms_of_head rule.head) a) rules

-- the rules of the external atoms that head no rule, by rising atom
abbrev pub external_rules : List Rule → List (ℕ × External) → List Rule
external_rules rules sets =
    flat_map (λ a. cond (heads_rule rules a) [] (external_rule a (value_of a sets)))
    (rising (map (λ set. set.0) sets))

-- Its atoms are those that were named, rising; levels stand by falling priority, and the rules of
-- external atoms last.
abbrev pub program_of : Draft → Ground
program_of d = record {
  atoms = rising (atoms_of_draft d);
  rules = d.rules ++ external_rules d.rules d.externals;
  required = d.required;
  edges = d.edges;
  levels = levels_onto [] d.levels;
  shows = d.shows;
}
