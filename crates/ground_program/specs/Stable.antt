-- Stable and supported models of a ground program with choice rules, weight rules and an acyclicity
-- condition. The comments name these sources by author and year:
--   P. Simons, I. Niemelä, T. Soininen. Extending and implementing the stable model semantics.
--     Artificial Intelligence 138, 2002.
--   K. L. Clark. Negation as failure. In H. Gallaire and J. Minker (eds.), Logic and Data Bases,
--     1978.
--   M. Gebser, T. Janhunen, J. Rintanen. Answer set programming as SAT modulo acyclicity. ECAI
--     2014.
-- Where a definition has two sets, positive literals are read in X and negative ones in M, so that
-- it speaks of the reduct by M at X without writing the reduct down; with M for X it speaks of the
-- program itself at M.
use Rattle.std.specs.Prelude.{◌≡◌, ℕ, zero, suc, ℤ, pos, ◌+ℤ◌, int_le, Bool, true, false, cond, not, ◌&&◌, ◌==◌, List, [], ◌∷◌, length, map}
use Rattle.std.specs.List.{list_any, filter}
use Rattle.std.specs.Ordering.{int_eq}
use Rattle.std.specs.Str.{bytes_eq}
use Rattle.asp_base.specs.Literal.{Literal, literal_holds, all_hold}
use Rattle.ground_program.specs.Ground.{Ground}
use Rattle.asp_base.specs.Sets.{Set, none, union, members, Same}
use Rattle.asp_base.specs.Walks.{Acyclic}
use Rattle.ground_program.specs.declared.program.Head.{Head}
use Rattle.ground_program.specs.declared.program.Head.TheVariants.{Nothing, One, Choice}
use Rattle.ground_program.specs.declared.program.Body.{Body}
use Rattle.ground_program.specs.declared.program.Body.TheVariants.{All, Sum}
use Rattle.ground_program.specs.declared.program.Rule.{Rule}
use Rattle.ground_program.specs.declared.program.Edge.{Edge}
use Rattle.ground_program.specs.declared.program.Level.{Level}
use Rattle.ground_program.specs.declared.program.Show.{Show}

-- The sum of the weights of the items whose literal holds (Simons et al. 2002). An item that stands
-- there twice counts twice.
abbrev pub weight_of : List (Literal × ℤ) → Set → Set → ℤ
weight_of [] X M = pos 0
weight_of (item ∷ items) X M = cond (literal_holds item.0 X M) item.1 (pos 0) +ℤ weight_of items X M

-- A body of literals holds where all of them do, one of weights where their sum reaches the bound
-- (Simons et al. 2002).
abbrev pub holds : Body → Set → Set → Bool
holds (All lits) X M = all_hold lits X M
holds (Sum bound items) X M = int_le bound (weight_of items X M)

-- The atoms that a head may derive. The reduct keeps of a choice only what is in M (Simons et al.
-- 2002).
abbrev pub head_has : Head → Set → ℕ → Bool
head_has Nothing M a = false
head_has (One b) M a = b == a
head_has (Choice bs) M a = members bs a && M a

-- A rule whose body holds derives what its head may (Simons et al. 2002).
abbrev pub derives : Rule → Set → Set → ℕ → Bool
derives rule M X a = head_has rule.head M a && holds rule.body X M

-- what the rules of the reduct by M derive from X at once, the one-step operator (Simons et al.
-- 2002)
abbrev pub step : List Rule → Set → Set → Set
step rules M X a = list_any (λ rule. derives rule M X a) rules

-- X with what the rules derive in so many rounds of the one-step operator (Simons et al. 2002)
abbrev pub rounds : ℕ → List Rule → Set → Set → Set
rounds zero rules M X = X
rounds (suc n) rules M X = union (rounds n rules M X) (step rules M (rounds n rules M X))

-- The deductive closure of X (Simons et al. 2002). As many rounds as there are rules suffice where
-- no weight is negative, since a round that derives anything new has a rule whose body did not hold
-- in the round before.
abbrev pub grown : List Rule → Set → Set → Set
grown rules M X = rounds (length rules) rules M X

-- the least model of the reduct by M, headless rules left out (Simons et al. 2002)
abbrev pub least : Ground → Set → Set
least P M = grown P.rules M none

-- A rule without head is an integrity constraint (Simons et al. 2002).
abbrev pub is_headless : Head → Bool
is_headless Nothing = true
is_headless (One a) = false
is_headless (Choice as_) = false

-- M keeps the constraints: no headless rule's body holds, and every required literal does (Simons
-- et al. 2002).
pub record Keeps (P : Ground) (M : Set) : Type 0 where
  pub headless : list_any (λ rule. is_headless rule.head && holds rule.body M M) P.rules ≡ false
  pub required : all_hold P.required M M ≡ true

-- The edge leads from u to v, and its condition holds (Gebser et al. 2014).
abbrev pub edge_joins : Edge → Set → ℤ → ℤ → Bool
edge_joins edge M u v = int_eq edge.from u && (int_eq edge.to v && all_hold edge.condition M M)

-- An edge whose condition holds leads from u to v: the graph that M gives (Gebser et al. 2014).
abbrev pub joined : List Edge → Set → ℤ → ℤ → Bool
joined edges M u v = list_any (λ edge. edge_joins edge M u v) edges

-- A stable model of the rules alone: M is the least model of the reduct by M (Simons et al. 2002).
pub record Founded (P : Ground) (M : Set) : Type 0 where
  pub least_is : Same (least P M) M
  pub keeps : Keeps P M

-- A model of the completion (Clark 1978), taken to choice and weight rules: M has just the atoms
-- that the rules derive from M at once.
pub record Supported (P : Ground) (M : Set) : Type 0 where
  pub step_is : Same (step P.rules M M) M
  pub keeps : Keeps P M

-- A stable model: founded (Simons et al. 2002), and the graph that M gives has no cycle (Gebser et
-- al. 2014).
pub record Stable (P : Ground) (M : Set) : Type 0 where
  pub least_is : Same (least P M) M
  pub keeps : Keeps P M
  pub acyclic : Acyclic (joined P.edges M)

-- the weight of each level, by falling priority: optimize statements (Simons et al. 2002)
abbrev pub costs_of : List Level → Set → List ℤ
costs_of levels M = map (λ level. weight_of level.items M M) levels

-- the cost of a set, level by level; two costs compare by the first level at which they differ
abbrev pub cost : Ground → Set → List ℤ
cost P M = costs_of P.levels M

-- each name where it stands first
abbrev pub first_ones : List (List ℕ) → List (List ℕ)
first_ones [] = []
first_ones (name ∷ names) = name ∷ filter (λ other. not (bytes_eq name other)) (first_ones names)

-- the names of the shows whose condition holds, each once
abbrev pub names_of : List Show → Set → List (List ℕ)
names_of shows M =
    first_ones (map (λ show. show.name) (filter (λ show. all_hold show.condition M M) shows))

-- the names that a set shows
abbrev pub visible : Ground → Set → List (List ℕ)
visible P M = names_of P.shows M
