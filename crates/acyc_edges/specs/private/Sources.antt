-- Where the names of an encoding come from, and what else is named with them.
use Rattle.std.specs.Prelude.{◌≡◌, ℕ, true, List}
use Rattle.asp_base.specs.Sets.{members, In}
use Rattle.ground_program.specs.Ground.{Ground}
use Rattle.acyc_edges.specs.Encoding.{is_cyclic, rules_of, head_at, inner_at}
use Rattle.acyc_edges.specs.declared.name.Name.{Name}
use Rattle.acyc_edges.specs.declared.name.Name.TheVariants.{Atom, Complement, Fires, Chosen, Left, Backed, NoLater, Backs}

module _ (P : Ground) (part : ℕ → ℕ) (parts : List ℕ) where
  -- an atom of the program in a cyclic component
  abbrev pub Cyc : ℕ → Type 0
  Cyc a = (members P.atoms a ≡ true) × (is_cyclic P part parts a ≡ true)

  abbrev pub Source : List Name → Name → Type 0
  Source names (Atom a) = Cyc a
  Source names (Complement a) = Cyc a
  Source names (Fires i) =
      Cyc (head_at P part parts i) × In i (rules_of P part parts (head_at P part parts i))
  Source names (Chosen a b) = Cyc a × Cyc b × (part b ≡ part a) × In (Left a b) names
  Source names (Left a b) = In (Chosen a b) names
  Source names (Backed a) =
      Cyc a
      × ((i : ℕ) → In i (rules_of P part parts a)
      → In (Fires i) names
      × ((b : ℕ) → In b (inner_at P part parts i) → In (Chosen a b) names))
  Source names (NoLater a c) =
      Cyc a × Cyc c × (part c ≡ part a)
      × ((i : ℕ) → In i (rules_of P part parts a)
      → In (Backs i) names × In (Fires i) names
      × ((b : ℕ) → In b (inner_at P part parts i) → In (NoLater c b) names))
  Source names (Backs i) =
      Cyc (head_at P part parts i)
      × In i (rules_of P part parts (head_at P part parts i))
      × In (Fires i) names
      × ((b : ℕ) → In b (inner_at P part parts i)
      → In (NoLater (head_at P part parts i) b) names)

  -- the atoms of cyclic components and their rules are named, and names come from there
  pub record AreNames (names : List Name) : Type 0 where
    pub atom : (a : ℕ) → Cyc a → In (Atom a) names
    pub complement : (a : ℕ) → Cyc a → In (Complement a) names
    pub fires : (a i : ℕ) → Cyc a → In i (rules_of P part parts a) → In (Fires i) names
    pub source : (n : Name) → In n names → Source names n
