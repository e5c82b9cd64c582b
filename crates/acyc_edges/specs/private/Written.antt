-- Rules of an atom as they are written: with the atoms of names, and the atoms of each rule's body
-- in its component.
use Rattle.std.specs.Prelude.{ℕ, List, [], ◌∷◌, map}
use Rattle.asp_base.specs.Literal.{Pos, Neg}
use Rattle.ground_program.specs.declared.program.Head.TheVariants.{One}
use Rattle.ground_program.specs.declared.program.Body.TheVariants.{All}
use Rattle.ground_program.specs.declared.program.Rule.{Rule}
use Rattle.acyc_edges.specs.declared.name.Name.{Name}
use Rattle.acyc_edges.specs.declared.name.Name.TheVariants.{Fires, Chosen, Backed, NoLater, Backs}
use Rattle.acyc_edges.specs.private.Numbers.{number_of}

-- the rule with this index backs its head, where the edges to its atoms are chosen
abbrev pub backing_rule : List (Name × ℕ) → (ℕ → List ℕ) → ℕ → ℕ → Rule
backing_rule pairs inner a i = record {
  head = One (number_of pairs (Backed a));
  body = All (
      Pos (number_of pairs (Fires i))
      ∷ map (λ b. Pos (number_of pairs (Chosen a b))) (inner i));
}

-- the rule with this index derives a no later than c, where each of its atoms comes before c
abbrev pub later_rule : List (Name × ℕ) → (ℕ → List ℕ) → ℕ → ℕ → ℕ → Rule
later_rule pairs inner a c i = record {
  head = One (number_of pairs (NoLater a c));
  body = All (
      Pos (number_of pairs (Fires i))
      ∷ map (λ b. Neg (number_of pairs (NoLater c b))) (inner i));
}

-- a rule that backs its head derives it no later than itself
abbrev pub self_rule : List (Name × ℕ) → ℕ → ℕ → Rule
self_rule pairs a i = record {
  head = One (number_of pairs (NoLater a a));
  body = All (Pos (number_of pairs (Backs i)) ∷ []);
}
