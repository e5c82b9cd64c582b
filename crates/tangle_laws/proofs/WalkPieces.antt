-- Walks along the made rules: between old atoms they are walks along the given rules, and new atoms
-- lie on a way through one rule.
use Rattle.std.proofs.Common.{◌≡◌, ◌⊎◌, refl, subst, ⊎_elim, inl, inr, ℕ, ◌<◌, true, false, List, [], ◌∷◌, arith}
use Rattle.std.proofs.lemmas.Bool.{or_cases, both_ways}
use Rattle.asp_base.specs.Sets.{members}
use Rattle.asp_base.specs.Walks.{IsWalk, Reaches}
use Rattle.graph_cycles.proofs.WalkLaws.{walk-stays}
use Rattle.ground_program.specs.Dependencies.{depends, positives_of_body}
use Rattle.ground_program.specs.Occurrences.{atoms_of_head}
use Rattle.ground_program.specs.declared.program.Rule.{Rule}
use Rattle.tangle_laws.specs.Pieces.{Piece, ArePieces, AreApart, new_atoms, made_rules}
use Rattle.tangle_laws.proofs.PieceStands.{Stands, IsMadeEdge, made-edge, depends-by, stands-rule, fresh-new, one-piece, old-head, old-positive}
use Rattle.tangle_laws.proofs.WalkReaches.{Gets, reaches-step, reaches-join, gets-then}

-- an atom reaches a new one: it is or reaches a head of the rule
pub record Enters (rules : List Rule) (pieces : List Piece) (a n : ℕ) : Type 0 where
  pub rule : Rule
  pub piece : Piece
  pub stands : Stands rules pieces rule piece
  pub inside : members piece.fresh n ≡ true
  pub by : ℕ
  pub head : members (atoms_of_head rule.head) by ≡ true
  pub gets : Gets (depends rules) a by

-- a new atom reaches another one: by a positive atom of the rule
pub record Leaves (rules : List Rule) (pieces : List Piece) (rule : Rule) (f n : ℕ) : Type 0 where
  pub by : ℕ
  pub body : members (positives_of_body rule.body) by ≡ true
  pub before : Reaches (depends (made_rules pieces)) f by
  pub after : Gets (depends (made_rules pieces)) by n

module _ (rules : List Rule) (pieces : List Piece) (are : ArePieces rules pieces)
    (apart : AreApart rules pieces) where
  -- what an old atom reaches
  abbrev Sees : ℕ → ℕ → Type 0
  Sees a n = ((members (new_atoms pieces) n ≡ false) × Reaches (depends rules) a n)
      ⊎ Enters rules pieces a n

  sees-onward : (a n m : ℕ) → Gets (depends rules) a n → members (new_atoms pieces) n ≡ false
      → depends (made_rules pieces) n m ≡ true → Sees a m
  sees-onward a n m gets old step =
      let edge : IsMadeEdge rules pieces n m = made-edge rules pieces n m are step in
      let among = stands-rule rules pieces edge.rule edge.piece edge.stands in
      ⊎_elim (λ e. absurd (both_ways _ old
      (fresh-new rules pieces edge.rule edge.piece n edge.stands e)))
      (λ head. ⊎_elim
      (λ e. inr (record {
        rule = edge.rule;
        piece = edge.piece;
        stands = edge.stands;
        inside = e;
        by = n;
        head = head;
        gets = gets;
      }))
      (λ e. inl (
        old-positive rules pieces apart edge.rule m among e,
        gets-then (depends rules) a n m gets (reaches-step (depends rules) n m
            (depends-by rules edge.rule n m among head e)),
      ))
      (or_cases _ _ edge.body))
      (or_cases _ _ edge.head)

  sees-within : (a n m : ℕ) → Enters rules pieces a n → depends (made_rules pieces) n m ≡ true
      → Sees a m
  sees-within a n m entry step =
      let edge : IsMadeEdge rules pieces n m = made-edge rules pieces n m are step in
      let among = stands-rule rules pieces edge.rule edge.piece edge.stands in
      ⊎_elim
      (λ e. let same = one-piece rules pieces entry.rule edge.rule entry.piece edge.piece n
      apart.once entry.stands edge.stands entry.inside e in
      let head : members (atoms_of_head edge.rule.head) entry.by ≡ true =
      subst (λ r. members (atoms_of_head r.head) entry.by ≡ true) same.0 entry.head in
      ⊎_elim
      (λ i. inr (record {
        rule = edge.rule;
        piece = edge.piece;
        stands = edge.stands;
        inside = i;
        by = entry.by;
        head = head;
        gets = entry.gets;
      }))
      (λ i. inl (
        old-positive rules pieces apart edge.rule m among i,
        gets-then (depends rules) a entry.by m entry.gets
            (reaches-step (depends rules) entry.by m
            (depends-by rules edge.rule entry.by m among head i)),
      ))
      (or_cases _ _ edge.body))
      (λ e. absurd (both_ways _ (old-head rules pieces apart edge.rule n among e)
      (fresh-new rules pieces entry.rule entry.piece n entry.stands entry.inside)))
      (or_cases _ _ edge.head)

  sees-step : (a n m : ℕ) → Sees a n → depends (made_rules pieces) n m ≡ true → Sees a m
  sees-step a n m sees step = ⊎_elim (λ s. sees-onward a n m (inr s.1) s.0 step)
      (λ s. sees-within a n m s step) sees

  sees-walk : (a : ℕ) (by : List ℕ) (n : ℕ) → members (new_atoms pieces) a ≡ false
      → IsWalk (depends (made_rules pieces)) a by n → Sees a n
  sees-walk a [] n old walk = sees-onward a a n (inl refl) old walk
  sees-walk a (next ∷ by) n old walk =
      walk-stays (depends (made_rules pieces)) (Sees a) (λ x y s e. sees-step a x y s e) next by n
      (sees-onward a a next (inl refl) old walk.0) walk.1

  pub old-reaches : (a n : ℕ) → members (new_atoms pieces) a ≡ false
      → members (new_atoms pieces) n ≡ false → Reaches (depends (made_rules pieces)) a n
      → Reaches (depends rules) a n
  old-reaches a n old other r = ⊎_elim (λ s. s.1)
      (λ s. absurd (both_ways _ other (fresh-new rules pieces s.rule s.piece n s.stands s.inside)))
      (sees-walk a r.0 n old r.1)

  pub reaches-new : (a n : ℕ) → members (new_atoms pieces) a ≡ false
      → members (new_atoms pieces) n ≡ true → Reaches (depends (made_rules pieces)) a n
      → Enters rules pieces a n
  reaches-new a n old new r = ⊎_elim (λ s. absurd (both_ways _ s.0 new)) (λ s. s)
      (sees-walk a r.0 n old r.1)

  -- from a new atom on a walk falls within its piece, or leaves it
  abbrev pub Falls : Rule → Piece → ℕ → ℕ → Type 0
  Falls rule piece f n = ((members piece.fresh n ≡ true) × (n < f)) ⊎ Leaves rules pieces rule f n

  -- an edge from a new atom
  edge-from : (rule : Rule) (piece : Piece) (f m : ℕ) → Stands rules pieces rule piece
      → members piece.fresh f ≡ true → depends (made_rules pieces) f m ≡ true
      → ((members piece.fresh m ≡ true) × (m < f)) ⊎ (members (positives_of_body rule.body) m
      ≡ true)
  edge-from rule piece f m stands inside step =
      let edge : IsMadeEdge rules pieces f m = made-edge rules pieces f m are step in
      ⊎_elim
      (λ e. let same = one-piece rules pieces edge.rule rule edge.piece piece f apart.once
      edge.stands stands e inside in
      ⊎_elim (λ i. inl (subst (λ p. members p.fresh m ≡ true) same.1 i, edge.lower e i))
      (λ i. inr (subst (λ r. members (positives_of_body r.body) m ≡ true) same.0 i))
      (or_cases _ _ edge.body))
      (λ e. absurd (both_ways _ (old-head rules pieces apart edge.rule f
      (stands-rule rules pieces edge.rule edge.piece edge.stands) e)
      (fresh-new rules pieces rule piece f stands inside)))
      (or_cases _ _ edge.head)

  falls-walk : (rule : Rule) (piece : Piece) (f : ℕ) (by : List ℕ) (n : ℕ)
      → Stands rules pieces rule piece → members piece.fresh f ≡ true
      → IsWalk (depends (made_rules pieces)) f by n → Falls rule piece f n
  falls-walk rule piece f [] n stands inside walk =
      ⊎_elim (λ e. inl e) (λ e. inr (record {
        by = n;
        body = e;
        before = ([], walk);
        after = inl refl;
      }))
      (edge-from rule piece f n stands inside walk)
  falls-walk rule piece f (next ∷ by) n stands inside walk =
      ⊎_elim
      (λ e. ⊎_elim (λ i. inl (i.0, let h : n < next = i.1 in let k : next < f = e.1 in omega arith))
      (λ l. inr (record {
        by = l.by;
        body = l.body;
        before = reaches-join (depends (made_rules pieces)) f next l.by ([], walk.0) l.before;
        after = l.after;
      }))
      (falls-walk rule piece next by n stands e.0 walk.1))
      (λ e. inr (record { by = next; body = e; before = ([], walk.0); after = inr (by, walk.1) }))
      (edge-from rule piece f next stands inside walk.0)

  pub new-reaches : (rule : Rule) (piece : Piece) (f n : ℕ) → Stands rules pieces rule piece
      → members piece.fresh f ≡ true → Reaches (depends (made_rules pieces)) f n
      → Falls rule piece f n
  new-reaches rule piece f n stands inside r = falls-walk rule piece f r.0 n stands inside r.1
