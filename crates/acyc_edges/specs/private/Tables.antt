-- What the code looks up: the rules of each atom, and the atoms of each rule's body in the
-- component of its head.
use Rattle.std.specs.Prelude.{◌≡◌, ℕ, ◌<◌, ◌^◌, true, ◌==◌, List, [], ◌∷◌, map, length, ⊤}
use Rattle.std.specs.List.{filter, flat_map}
use Rattle.graph_parts.specs.Groups.{AreGroups}
use Rattle.components.specs.Components as links
use Rattle.ground_program.specs.Ground.{Ground}
use Rattle.ground_program.specs.declared.program.Head.{Head}
use Rattle.ground_program.specs.declared.program.Head.TheVariants.{Nothing, One, Choice}
use Rattle.ground_program.specs.declared.program.Rule.{Rule}
use Rattle.ground_program.specs.Dependencies.{positives_of_body}
use Rattle.acyc_edges.specs.Encoding.{counted, rule_at, rules_of, head_at}
use Rattle.acyc_edges.specs.declared.name.Name.{Name}
use Rattle.acyc_edges.specs.declared.name.Name.TheVariants.{Atom, Complement, Fires, Chosen, Left, Backed, NoLater, Backs}
use Rattle.asp_base.specs.Sets.{members, once}
use Rattle.acyc_edges.specs.declared.tables.Tables.{Tables}

-- the place of the atom in a head, with the index of its rule
abbrev pub with_owner : List ℕ → ℕ → Head → List (ℕ × ℕ)
with_owner atoms i Nothing = []
with_owner atoms i (One a) = (links.node_of atoms a, i) ∷ []
with_owner atoms i (Choice as_) = []

abbrev pub owner_at : Ground → ℕ → List (ℕ × ℕ)
owner_at P i = with_owner P.atoms i (rule_at P.rules i).head

abbrev pub owners_of : Ground → List (ℕ × ℕ)
owners_of P = flat_map (owner_at P) (counted 0 P.rules)

-- those of these atoms that are in the component of the head, each once
abbrev pub inner_head : (ℕ → ℕ) → Head → List ℕ → List ℕ
inner_head part Nothing bs = []
inner_head part (One a) bs = once (filter (λ b. part b == part a) bs)
inner_head part (Choice as_) bs = []

abbrev pub inner_by : (ℕ → ℕ) → Rule → List ℕ
inner_by part rule = inner_head part rule.head (positives_of_body rule.body)

pub record AreTables (P : Ground) (part : ℕ → ℕ) (tables : Tables) : Type 0 where
  pub owners : AreGroups (owners_of P) (length P.atoms) tables.owners.starts tables.owners.values
  pub inner : tables.inner.items ≡ map (inner_by part) P.rules

-- an atom of the program
abbrev pub IsOne : Ground → ℕ → Type 0
IsOne P a = (members P.atoms a ≡ true) × (0 < a) × (a < 2 ^ 31)

-- a rule of an atom of the program
abbrev pub HasHead : Ground → (ℕ → ℕ) → ℕ → Type 0
HasHead P part i =
    (i < length P.rules) × IsOne P (head_at P part [] i)
    × (members (rules_of P part [] (head_at P part [] i)) i ≡ true)

-- a name that speaks of atoms and rules of the program
abbrev pub NameFits : Ground → (ℕ → ℕ) → Name → Type 0
NameFits P part (Atom a) = IsOne P a
NameFits P part (Complement a) = IsOne P a
NameFits P part (Fires i) = HasHead P part i
NameFits P part (Chosen a b) = IsOne P a × IsOne P b
NameFits P part (Left a b) = ⊤
NameFits P part (Backed a) = IsOne P a
NameFits P part (NoLater a c) = IsOne P a
NameFits P part (Backs i) = HasHead P part i
