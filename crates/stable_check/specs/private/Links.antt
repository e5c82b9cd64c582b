-- Where atoms stand in bodies as positive literals: for each atom the rules and the weights there,
-- kept as chains of links.
use Rattle.std.specs.Prelude.{ℕ, suc, ◌-◌, ◌≤◌, ◌<◌, ◌==◌, cond, ⊤, List, [], ◌∷◌, length, map, reverse, get_or, set}
use Rattle.std.specs.List.{AllByRecursion}
use Rattle.asp_base.specs.Literal.{Literal, Pos, Neg}
use Rattle.rising_numbers.specs.Rising.{place}
use Rattle.ground_program.specs.declared.program.Rule.{Rule}
use Rattle.stable_check.specs.private.Lack.{weighed}
use Rattle.stable_check.specs.declared.occurrences.Link.{Link}

-- a rule and a weight
abbrev pub Entry : Type 0
Entry = ℕ × ℕ

-- the entries from a link on, where the links stand newest first and are numbered from 1; 0 is no
-- link
abbrev pub chain : List Link → ℕ → List Entry
chain [] at = []
chain (link ∷ older) at =
    cond (at == suc (length older)) ((link.rule, link.weight) ∷ chain older link.next)
    (chain older at)

-- each link leads to an older one, or to none
abbrev pub LeadBack : List Link → Type 0
LeadBack [] = ⊤
LeadBack (link ∷ older) = (link.next ≤ length older) × LeadBack older

-- the entries of each atom, by its first link
abbrev pub rows_of : List ℕ → List Link → List (List Entry)
rows_of first links = map (λ at. chain (reverse links) at) first

-- how many rules there are, and the entries of each atom
pub record Table : Type 0 where
  pub rules : ℕ
  pub rows : List (List Entry)

-- the links are there, lead to older ones, and name rules
pub record AreLinked (rules : ℕ) (first : List ℕ) (links : List Link) : Type 0 where
  pub within : AllByRecursion (λ at. at ≤ length links) first
  pub back : LeadBack (reverse links)
  pub numbered : AllByRecursion (λ link. link.rule < rules) links

-- an entry more for an index
abbrev pub with_entry : ℕ → Entry → List (List Entry) → List (List Entry)
with_entry i entry rows = set rows i (entry ∷ get_or rows i [])

-- a literal with its weight in the body of a rule
abbrev pub with_literal : List ℕ → ℕ → ℕ → Literal → List (List Entry) → List (List Entry)
with_literal atoms rule weight (Pos a) rows = with_entry (place atoms a - 1) (rule, weight) rows
with_literal atoms rule weight (Neg a) rows = rows

abbrev pub with_items : List ℕ → ℕ → List (Literal × ℕ) → List (List Entry) → List (List Entry)
with_items atoms rule [] rows = rows
with_items atoms rule (item ∷ items) rows =
    with_items atoms rule items (with_literal atoms rule item.1 item.0 rows)

-- the bodies of rules that are numbered from this one on
abbrev pub with_rules : List ℕ → ℕ → List Rule → List (List Entry) → List (List Entry)
with_rules atoms n [] rows = rows
with_rules atoms n (rule ∷ rules) rows =
    with_rules atoms (suc n) rules (with_items atoms n (weighed rule.body) rows)
