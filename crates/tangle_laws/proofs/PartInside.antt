-- A cyclic component of the made rules, and the one of the given rules that it meets: its old atoms
-- lie within that one, and its new atoms and its rules are of rules that enter it.
use Rattle.std.proofs.Common.{◌≡◌, subst, ⊎_elim, inl, inr, ℕ, ◌<◌, Bool, true, false, List, [], ◌∷◌, arith}
use Rattle.std.specs.List.{list_any}
use Rattle.std.proofs.lemmas.Bool.{or_cases, both_ways, cases_Bool, false_from_ne_true}
use Rattle.asp_base.specs.Sets.{In, members}
use Rattle.asp_base.specs.Walks.{IsWalk, Reaches}
use Rattle.ground_program.specs.Dependencies.{depends}
use Rattle.ground_program.specs.Occurrences.{atoms_of_head}
use Rattle.ground_program.specs.Tangle.{IsCyclicComponent, enters}
use Rattle.ground_program.specs.declared.program.Rule.{Rule}
use Rattle.tangle_laws.specs.Pieces.{Piece, IsPiece, ArePieces, AreApart, new_atoms, made_rules}
use Rattle.tangle_laws.proofs.PartElements.{each-among, Shared, shared-from_any, any-from_shared}
use Rattle.tangle_laws.proofs.PieceStands.{Stands, IsNew, new-stands, IsEdge, depends-edge, depends-by, stands-rule, stands-piece, fresh-new, one-piece, old-head, old-positive}
use Rattle.tangle_laws.proofs.WalkReaches.{Gets, reaches-step, gets-then, then-gets}
use Rattle.tangle_laws.proofs.WalkPieces.{Enters, Leaves, old-reaches, reaches-new, new-reaches}

-- a component of the given rules shares an atom with one of the made rules
abbrev pub meets : List ℕ → List ℕ → Bool
meets part atoms = list_any (λ a. members part a) atoms

module _ (rules : List Rule) (pieces : List Piece) (are : ArePieces rules pieces)
    (apart : AreApart rules pieces) where
  -- what reaches something stands in a head
  source-old : (a n : ℕ) → Reaches (depends rules) a n → members (new_atoms pieces) a ≡ false
  source-old a n r = by r.0 r.1
    where
      edge-old : (m : ℕ) → depends rules a m ≡ true → members (new_atoms pieces) a ≡ false
      edge-old m e = let edge : IsEdge rules a m = depends-edge rules a m e in
          old-head rules pieces apart edge.rule a edge.among edge.head

      by : (walk : List ℕ) → IsWalk (depends rules) a walk n → members (new_atoms pieces) a ≡ false
      by [] walk = edge-old n walk
      by (next ∷ rest) walk = edge-old next walk.0

  -- an old atom of a component
  pub record HasOld (atoms : List ℕ) : Type 0 where
    pub at : ℕ
    pub inside : members atoms at ≡ true
    pub old : members (new_atoms pieces) at ≡ false

  pub has-old : (atoms : List ℕ) → IsCyclicComponent (made_rules pieces) atoms → HasOld atoms
  has-old atoms comp =
      let c : ℕ = comp.some.0 in
      let mem : members atoms c ≡ true = comp.some.1 in
      let loop : Reaches (depends (made_rules pieces)) c c = comp.connected c c mem mem in
      ⊎_elim
      (λ new. let is : IsNew rules pieces c = new-stands rules pieces c are new in
      ⊎_elim (λ fall. absurd (let h : c < c = fall.1 in omega arith))
      (λ (leave : Leaves rules pieces is.rule c c). record {
        at = leave.by;
        inside = comp.whole c leave.by mem leave.before
            (then-gets-back leave.by c loop leave.after);
        old = old-positive rules pieces apart is.rule leave.by
            (stands-rule rules pieces is.rule is.piece is.stands) leave.body;
      })
      (new-reaches rules pieces are apart is.rule is.piece c c is.stands is.inside loop))
      (λ old. record { at = c; inside = mem; old = old })
      (cases_Bool (members (new_atoms pieces) c))
    where
      then-gets-back : (b c : ℕ) → Reaches (depends (made_rules pieces)) c c
          → Gets (depends (made_rules pieces)) b c → Reaches (depends (made_rules pieces)) b c
      then-gets-back b c loop gets = gets-then (depends (made_rules pieces)) b c c gets loop

  -- it reaches itself along the given rules
  pub old-loop : (atoms : List ℕ) → IsCyclicComponent (made_rules pieces) atoms
      → (has : HasOld atoms) → Reaches (depends rules) has.at has.at
  old-loop atoms comp has = old-reaches rules pieces are apart has.at has.at has.old has.old
      (comp.connected has.at has.at has.inside has.inside)

  module _ (part atoms : List ℕ) (given : IsCyclicComponent rules part)
      (comp : IsCyclicComponent (made_rules pieces) atoms) (meet : meets part atoms ≡ true) where
    shared : Shared atoms part
    shared = shared-from_any atoms part meet

    shared-loop : Reaches (depends rules) shared.at shared.at
    shared-loop = given.connected shared.at shared.at shared.other shared.other

    shared-old : members (new_atoms pieces) shared.at ≡ false
    shared-old = source-old shared.at shared.at shared-loop

    pub old-inside : (n : ℕ) → members atoms n ≡ true → members (new_atoms pieces) n ≡ false
        → members part n ≡ true
    old-inside n mem old = given.whole shared.at n shared.other
        (old-reaches rules pieces are apart shared.at n shared-old old
        (comp.connected shared.at n shared.one mem))
        (old-reaches rules pieces are apart n shared.at old shared-old
        (comp.connected n shared.at mem shared.one))

    -- on the way from the old atom to the new one and back stand a head and a positive atom of its
    -- rule
    around : (rule : Rule) (piece : Piece) (f : ℕ) → Stands rules pieces rule piece
        → members piece.fresh f ≡ true → (h : ℕ) → members (atoms_of_head rule.head) h ≡ true
        → Gets (depends rules) shared.at h → Leaves rules pieces rule f shared.at
        → enters part rule ≡ true
    around rule piece f stands inside h head gets leave =
        let among = stands-rule rules pieces rule piece stands in
        let old : members (new_atoms pieces) leave.by ≡ false =
        old-positive rules pieces apart rule leave.by among leave.body in
        let edge : Reaches (depends rules) h leave.by = reaches-step (depends rules) h leave.by
        (depends-by rules rule h leave.by among head leave.body) in
        let back : Gets (depends rules) leave.by shared.at =
        ⊎_elim (λ e. inl e) (λ r.
        inr (old-reaches rules pieces are apart leave.by shared.at old shared-old r)) leave.after in
        let there : Reaches (depends rules) shared.at h =
        then-gets (depends rules) shared.at shared.at h shared-loop gets in
        let home : Reaches (depends rules) h shared.at =
        then-gets (depends rules) h leave.by shared.at edge back in
        any-from_shared (atoms_of_head rule.head) part h head
        (given.whole shared.at h shared.other there home)

    pub new-inside : (rule : Rule) (piece : Piece) (f : ℕ) → Stands rules pieces rule piece
        → members piece.fresh f ≡ true → members atoms f ≡ true → enters part rule ≡ true
    new-inside rule piece f stands inside mem =
        let new : members (new_atoms pieces) f ≡ true = fresh-new rules pieces rule piece f stands
        inside in
        let entry : Enters rules pieces shared.at f = reaches-new rules pieces are apart shared.at f
        shared-old new (comp.connected shared.at f shared.one mem) in
        let same = one-piece rules pieces entry.rule rule entry.piece piece f apart.once
        entry.stands stands entry.inside inside in
        ⊎_elim
        (λ fall. absurd (both_ways _ shared-old
        (fresh-new rules pieces rule piece shared.at stands fall.0)))
        (λ leave. around rule piece f stands inside entry.by
        (subst (λ r. members (atoms_of_head r.head) entry.by ≡ true) same.0 entry.head)
        entry.gets leave)
        (new-reaches rules pieces are apart rule piece f shared.at stands inside
        (comp.connected f shared.at mem shared.one))

    -- a made rule that enters the one is of a rule that enters the other
    made-enters : (rule : Rule) (piece : Piece) (made : Rule) → Stands rules pieces rule piece
        → In made piece.rules → enters atoms made ≡ true → enters part rule ≡ true
    made-enters rule piece made stands among into =
        let is : IsPiece rule piece = stands-piece rules pieces rule piece are stands in
        let head : Shared (atoms_of_head made.head) atoms =
        shared-from_any (atoms_of_head made.head) atoms into in
        ⊎_elim (λ e. new-inside rule piece head.at stands e head.other)
        (λ e. any-from_shared (atoms_of_head rule.head) part head.at e
        (old-inside head.at head.other (old-head rules pieces apart rule head.at
        (stands-rule rules pieces rule piece stands) e)))
        (or_cases _ _ (each-among _ piece.rules made is.heads among head.at head.one))

    pub made-stays_out : (rule : Rule) (piece : Piece) (made : Rule)
        → Stands rules pieces rule piece → enters part rule ≡ false → In made piece.rules
        → enters atoms made ≡ false
    made-stays_out rule piece made stands out among = false_from_ne_true _
        (λ into. both_ways _ out (made-enters rule piece made stands among into))
