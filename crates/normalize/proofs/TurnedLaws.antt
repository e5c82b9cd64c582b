-- The rules of a program, one after another: what stands for them, and their pieces.
use Rattle.std.proofs.Common.{◌≡◌, refl, sym, ◌∙◌, ap, subst, ℕ, ◌+◌, ◌<◌, ◌≤◌, Bool, true, false, List, [], ◌∷◌, ◌++◌, length, take, get_or, append-nil, ⊎_elim, arith}
use Rattle.std.specs.List.{AllByRecursion, flat_map, sum_by}
use Rattle.std.proofs.lemmas.Bool.{false_from_ne_true, or_left, or_right, or_cases, true≢false}
use Rattle.std.proofs.lemmas.Grind.{flat_map-append}
use Rattle.std.proofs.lemmas.List.{take_more}
use Rattle.std.proofs.lemmas.List.Sums.{sum_by-append}
use Rattle.asp_base.specs.Sets.{members, Within}
use Rattle.asp_base.proofs.Each.{each-append, each-get, each-member, each-weaker}
use Rattle.rising_numbers.specs.Rising.{rising}
use Rattle.rising_numbers.proofs.RisingLaws.{RisesFrom-rising, members-append, members-rising}
use Rattle.ground_program.specs.Dependencies.{positives_of_body}
use Rattle.ground_program.specs.Facts.{Among, IsProgram, RuleFits}
use Rattle.ground_program.specs.Ground.{Ground}
use Rattle.ground_program.specs.Normal.{AreNormal}
use Rattle.ground_program.specs.Occurrences.{atoms_of_head, atoms_of_rule}
use Rattle.ground_program.specs.Room.{term}
use Rattle.ground_program.specs.declared.program.Rule.{Rule}
use Rattle.tangle_laws.proofs.PartDistinct.{Distinct}
use Rattle.tangle_laws.specs.Pieces.{Piece, IsPiece, ArePieces, AreApart, new_atoms, made_rules}
use Rattle.normalize.specs.private.Added.{Adds}
use Rattle.normalize.specs.private.Stage.{Stage, atoms_of, known, IsNormal, Turns, Spends, stage_size, start, with_rule}
use Rattle.normalize.proofs.DistinctLaws.{distinct-none, distinct-append, members-each, rises-distinct}
use Rattle.normalize.proofs.PieceLaws.{made-piece, rule-atoms-there}
use Rattle.normalize.proofs.Reading.{rules-of}
use Rattle.normalize.proofs.StageLaws.{atoms-known, Turns-then, Turns-nothing}

-- The rules so far are those of pieces, and the new atoms of these are distinct, given, and no
-- atoms of the program.
pub record Pieced (P : Ground) (rules : List Rule) (t : Stage) : Type 0 where
  pub pieces : List Piece
  pub stand : ArePieces rules pieces
  pub made : t.rules ≡ made_rules pieces
  pub once : Distinct (new_atoms pieces)
  pub given : Within (members (new_atoms pieces)) (members t.supply.given)
  pub new : AllByRecursion (λ a. members P.atoms a ≡ false) (new_atoms pieces)

-- what the loop keeps: so many rules were turned
pub record Turned (P : Ground) (i : ℕ) (t : Stage) : Type 0 where
  pub turns : Turns (take i P.rules) (start P.atoms) t
  pub spends : Spends (sum_by term (take i P.rules)) (start P.atoms) t
  pub pieced : Pieced P (take i P.rules) t
  pub same : AreNormal (take i P.rules)
      → t ≡ record
      { rules = take i P.rules; supply = record { atoms = P.atoms; given = [] }; pairs = [] }

pub turned-start : (P : Ground) (t : Stage) → t ≡ start P.atoms → Turned P 0 t
turned-start P t e = subst (Turned P 0) (sym e) (record {
  turns = Turns-nothing (start P.atoms) tt [] (λ X N a. refl) (λ X N. refl);
  spends = omega arith;
  pieced = record {
    pieces = [];
    stand = tt;
    made = refl;
    once = distinct-none;
    given = λ a m. absurd (true≢false (sym m));
    new = tt;
  };
  same = λ n. refl;
})

pub turned-fits : (P : Ground) (i : ℕ) (t : Stage) (rule : Rule) → IsProgram P → Turned P i t
    → i < length P.rules → rule ≡ get_or P.rules i rule → RuleFits (λ a. atoms_of t a ≡ true) rule
turned-fits P i t rule f h l e =
    subst (λ as_. RuleFits (Among as_) rule) (sym h.turns.atoms)
    (subst (RuleFits (Among P.atoms)) (sym e)
    (each-get (RuleFits (Among P.atoms)) P.rules i rule l f.rules))

-- ---- one more piece

are-more : (rules : List Rule) (pieces : List Piece) (rule : Rule) (piece : Piece)
    → ArePieces rules pieces → IsPiece rule piece
    → ArePieces (rules ++ (rule ∷ [])) (pieces ++ (piece ∷ []))
are-more [] [] rule piece h k = (k, tt)
are-more [] (p ∷ pieces) rule piece h k = absurd h
are-more (r ∷ rules) [] rule piece h k = absurd h
are-more (r ∷ rules) (p ∷ pieces) rule piece h k = (h.0, are-more rules pieces rule piece h.1 k)

module _ (P : Ground) (rules : List Rule) (t u : Stage) (rule : Rule)
    (atoms : t.supply.atoms ≡ P.atoms) (h : Pieced P rules t)
    (fits : RuleFits (λ a. atoms_of t a ≡ true) rule)
    (p : Adds (atoms_of_head rule.head) (positives_of_body rule.body) t u)
    (spent : Spends (term rule) t u) (same : IsNormal rule → u ≡ with_rule rule t) where
  abbrev piece : Piece
  piece = record { fresh = rising p.drawn; rules = p.new }

  all-new : new_atoms (h.pieces ++ (piece ∷ [])) ≡ new_atoms h.pieces ++ rising p.drawn
  all-new = flat_map-append (λ x. x.fresh) h.pieces (piece ∷ [])
      ∙ ap (λ xs. new_atoms h.pieces ++ xs) (append-nil (rising p.drawn))

  all-made : made_rules (h.pieces ++ (piece ∷ [])) ≡ made_rules h.pieces ++ p.new
  all-made = flat_map-append (λ x. x.rules) h.pieces (piece ∷ [])
      ∙ ap (λ xs. made_rules h.pieces ++ xs) (append-nil p.new)

  drawn-apart : (a : ℕ) → members (rising p.drawn) a ≡ true → known t a ≡ false
  drawn-apart a m = (each-member _ p.drawn a p.apart (sym (members-rising p.drawn a) ∙ m)).1

  given-known : (a : ℕ) → members t.supply.given a ≡ true → known t a ≡ true
  given-known a m = members-append t.supply.given t.supply.atoms a ∙ or_left _ _ m

  given-more : Within (members (new_atoms h.pieces ++ rising p.drawn)) (members u.supply.given)
  given-more a m =
      ap (λ xs. members xs a) p.given
      ∙ (members-append t.supply.given p.drawn a
      ∙ ⊎_elim (λ k. or_left _ _ (h.given a k))
      (λ k. or_right (members t.supply.given a) _ (sym (members-rising p.drawn a) ∙ k))
      (or_cases _ _ (sym (members-append (new_atoms h.pieces) (rising p.drawn) a) ∙ m)))

  no-atom : (a : ℕ) → known t a ≡ false → members P.atoms a ≡ false
  no-atom a f =
      false_from_ne_true (members P.atoms a)
      (λ e. true≢false (sym (atoms-known t a (ap (λ xs. members xs a) atoms ∙ e)) ∙ f))

  once-more : Distinct (new_atoms h.pieces ++ rising p.drawn)
  once-more = distinct-append (new_atoms h.pieces) (rising p.drawn) h.once
      (rises-distinct 0 (rising p.drawn)
      (RisesFrom-rising 0 p.drawn (each-weaker _ _ (λ a k. k.0) p.drawn p.apart)))
      (λ a m n. true≢false (sym (given-known a (h.given a m)) ∙ drawn-apart a n))

  pub pieced-more : Pieced P (rules ++ (rule ∷ [])) u
  pieced-more = record {
    pieces = h.pieces ++ (piece ∷ []);
    stand = are-more rules h.pieces rule piece h.stand (made-piece t u rule fits p spent same);
    made = p.rules ∙ (ap (λ xs. xs ++ p.new) h.made ∙ sym all-made);
    once = subst Distinct (sym all-new) once-more;
    given = subst (λ xs. Within (members xs) (members u.supply.given)) (sym all-new) given-more;
    new = subst (AllByRecursion (λ a. members P.atoms a ≡ false)) (sym all-new)
        (each-append _ (new_atoms h.pieces) (rising p.drawn) h.new
        (members-each (rising p.drawn) _ (λ a m. no-atom a (drawn-apart a m))));
  }

-- ---- one more rule

abbrev plain_stage : List ℕ → List Rule → Stage
plain_stage atoms rules =
    record { rules = rules; supply = record { atoms = atoms; given = [] }; pairs = [] }

split : (rules : List Rule) (rule : Rule) → AreNormal (rules ++ (rule ∷ []))
    → AreNormal rules × IsNormal rule
split [] rule n = (tt, n.0)
split (r ∷ rules) rule n =
    let k : AreNormal rules × IsNormal rule = split rules rule n.1 in ((n.0, k.0), k.1)

pub turned-more : (P : Ground) (i : ℕ) (t u : Stage) (rule : Rule) → IsProgram P
    → i < length P.rules → rule ≡ get_or P.rules i rule → Turned P i t
    → Turns (rule ∷ []) t u → Spends (term rule) t u
    → Adds (atoms_of_head rule.head) (positives_of_body rule.body) t u
    → (IsNormal rule → u ≡ with_rule rule t) → Turned P (i + 1) u
turned-more P i t u rule f l e h q m p n = record {
  turns = subst (λ rules. Turns rules (start P.atoms) u) (sym more)
      (Turns-then (start P.atoms) t u (take i P.rules) (rule ∷ [])
      (rules-of P.atoms (rule ∷ []) (fits, tt)) h.turns q);
  spends = subst (λ rules. Spends (sum_by term rules) (start P.atoms) u) (sym more)
      (count (stage_size (start P.atoms)) (stage_size t) (stage_size u)
      (sum_by term (take i P.rules)) (term rule) _
      (sum_by-append term (take i P.rules) (rule ∷ [])) h.spends m);
  pieced = subst (λ rules. Pieced P rules u) (sym more)
      (pieced-more P (take i P.rules) t u rule h.turns.atoms h.pieced
      (turned-fits P i t rule f h l e) p m n);
  same = λ k.
      let parts : AreNormal (take i P.rules) × IsNormal rule =
      split (take i P.rules) rule (subst AreNormal more k) in
      n parts.1 ∙ (ap (with_rule rule) (h.same parts.0) ∙ ap (plain_stage P.atoms) (sym more));
}
  where
    more : take (i + 1) P.rules ≡ take i P.rules ++ (rule ∷ [])
    more = take_more P.rules i rule l ∙ ap (λ r. take i P.rules ++ (r ∷ [])) (sym e)

    fits : RuleFits (Among P.atoms) rule
    fits = subst (RuleFits (Among P.atoms)) (sym e)
        (each-get (RuleFits (Among P.atoms)) P.rules i rule l f.rules)

    count : (a b c m k n : ℕ) → n ≡ m + (0 + k) → b ≤ a + m → c ≤ b + k → c ≤ a + n
    count a b c m k n e p q = omega arith

-- ---- all of them

rules-there : (atoms : List ℕ) (rules : List Rule) → AllByRecursion (RuleFits (Among atoms)) rules
    → (a : ℕ) → members (flat_map atoms_of_rule rules) a ≡ true → members atoms a ≡ true
rules-there atoms [] f a m = absurd (true≢false (sym m))
rules-there atoms (rule ∷ rules) f a m = ⊎_elim
    (λ k. rule-atoms-there (members atoms) rule f.0 a k)
    (λ k. rules-there atoms rules f.1 a k)
    (or_cases _ _
    (sym (members-append (atoms_of_rule rule) (flat_map atoms_of_rule rules) a) ∙ m))

pub turned-pieces : (P : Ground) (t : Stage) → IsProgram P → Pieced P P.rules t
    → (pieces : List Piece) × (ArePieces P.rules pieces) × (AreApart P.rules pieces)
    × (t.rules ≡ made_rules pieces)
turned-pieces P t f h = (
  h.pieces,
  h.stand,
  record {
    once = h.once;
    new = λ a m. none a m (members (flat_map atoms_of_rule P.rules) a) refl;
  },
  h.made,
)
  where
    none : (a : ℕ) → members (new_atoms h.pieces) a ≡ true → (b : Bool)
        → members (flat_map atoms_of_rule P.rules) a ≡ b → b ≡ false
    none a m true e = absurd (true≢false
        (sym (rules-there P.atoms P.rules f.rules a e)
        ∙ each-member _ (new_atoms h.pieces) a h.new m))
    none a m false e = refl
