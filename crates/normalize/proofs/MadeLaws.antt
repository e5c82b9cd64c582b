-- The program that normalization makes is a program, and is not larger than the room of the given
-- one.
use Rattle.std.proofs.Common.{◌≡◌, refl, sym, ◌∙◌, ap, subst, ℕ, ◌+◌, ◌≤◌, ◌^◌, ◌==◌, true, List, [], ◌∷◌, ◌++◌, length, ⊎_elim, arith}
use Rattle.std.specs.List.{sum_by, flat_map, AllByRecursion}
use Rattle.std.proofs.lemmas.Bool.{or_cases, or_left, or_right, true≢false, eq-eqb}
use Rattle.std.proofs.lemmas.List.Folds.{list_any-append}
use Rattle.std.proofs.lemmas.List.Sums.{sum_by-append}
use Rattle.std.proofs.lemmas.List.{length-append}
use Rattle.asp_base.specs.Literal.{Literal, atom_of}
use Rattle.asp_base.specs.Sets.{Set, members, union, Within}
use Rattle.ground_program.specs.Facts.{Among, IsAtom, IsProgram, HeadFits, BodyFits, RuleFits, LiteralsFit}
use Rattle.rising_numbers.specs.Rising.{rising}
use Rattle.ground_program.specs.Fresh.{taken}
use Rattle.ground_program.specs.Ground.{Ground}
use Rattle.ground_program.specs.Occurrences.{atoms_of_literals, atoms_of_head, atoms_of_body, atoms_of_rule}
use Rattle.ground_program.specs.Size.{entries, rule_size, size}
use Rattle.ground_program.specs.declared.program.Head.{Head}
use Rattle.ground_program.specs.declared.program.Head.TheVariants.{Nothing, One, Choice}
use Rattle.ground_program.specs.declared.program.Body.{Body}
use Rattle.ground_program.specs.declared.program.Body.TheVariants.{All, Sum}
use Rattle.ground_program.specs.declared.program.Rule.{Rule}
use Rattle.ground_program.specs.declared.program.Edge.{Edge}
use Rattle.ground_program.specs.declared.program.Level.{Level}
use Rattle.ground_program.specs.declared.program.Show.{Show}
use Rattle.asp_base.proofs.Each.{each-from_map, each-map, each-member, each-weaker}
use Rattle.tangle_laws.proofs.PartDistinct.{length-within}
use Rattle.normalize.proofs.DistinctLaws.{members-each, rises-distinct}
use Rattle.rising_numbers.proofs.RisingLaws.{RisesFrom-rising, each-rising, members-rising, same_rising, Ascends-rising, Ascends-from_rises}
use Rattle.normalize.specs.private.Made.{all_atoms, made_of}
use Rattle.normalize.specs.private.Replacement.{HeadIn, BodyIn, RulesIn}
use Rattle.ground_program.specs.Room.{term, room}
use Rattle.normalize.specs.private.Stage.{Stage, IsStage, known, start, Turns, Spends}
use Rattle.ground_program.specs.Normal.{IsNormalHead, IsNormalBody, AreNormal}
use Rattle.normalize.proofs.Reading.{rules-wider}

abbrev pub ground : List ℕ → List Rule → List Literal → List Edge → List Level → List Show → Ground
ground atoms rules required edges levels shows =
    record {
      atoms = atoms;
      rules = rules;
      required = required;
      edges = edges;
      levels =
          levels;
      shows = shows;
    }

-- ---- lists and members

members-two : (xs ys : List ℕ) (T : Set) → Within (members xs) T → Within (members ys) T
    → Within (members (xs ++ ys)) T
members-two xs ys T h k a m =
    ⊎_elim (λ e. h a e) (λ e. k a e)
    (or_cases (members xs a) (members ys a) (sym (list_any-append (λ x. x == a) xs ys) ∙ m))

members-first : (xs ys : List ℕ) → Within (members xs) (members (xs ++ ys))
members-first xs ys a m = list_any-append (λ x. x == a) xs ys ∙ or_left _ _ m

members-second : (xs ys : List ℕ) → Within (members ys) (members (xs ++ ys))
members-second xs ys a m = list_any-append (λ x. x == a) xs ys ∙ or_right (members xs a) _ m

-- ---- the atoms of rules

head-members : (T : Set) (head : Head) → HeadIn T head → Within (members (atoms_of_head head)) T
head-members T Nothing h a m = absurd (true≢false (sym m))
head-members T (One b) h a m = each-member (λ c. T c ≡ true) (b ∷ []) a (h, tt) m
head-members T (Choice as_) h a m = each-member (λ c. T c ≡ true) as_ a h m

body-members : (T : Set) (body : Body) → IsNormalBody body → BodyIn T body
    → Within (members (atoms_of_body body)) T
body-members T (All lits) n h a m =
    each-member (λ c. T c ≡ true) (atoms_of_literals lits) a
    (each-map (λ c. T c ≡ true) atom_of lits h) m
body-members T (Sum bound items) n h a m = absurd n

rules-members : (T : Set) (rules : List Rule) → AreNormal rules → RulesIn T T rules
    → Within (members (flat_map atoms_of_rule rules)) T
rules-members T [] n h a m = absurd (true≢false (sym m))
rules-members T (rule ∷ rules) n h a m =
    members-two (atoms_of_rule rule) (flat_map atoms_of_rule rules) T
    (members-two (atoms_of_head rule.head) (atoms_of_body rule.body) T
    (head-members T rule.head h.0.head) (body-members T rule.body n.0.1 h.0.body))
    (rules-members T rules n.1 h.1) a m

head-fits : (T : Set) (head : Head) → IsNormalHead head → Within (members (atoms_of_head head)) T
    → HeadFits (λ a. T a ≡ true) head
head-fits T Nothing n h = tt
head-fits T (One a) n h = h a (or_left _ _ (eq-eqb a a refl))
head-fits T (Choice as_) n h = absurd n

body-fits : (T : Set) (body : Body) → IsNormalBody body → entries body ≤ 2 ^ 24
    → Within (members (atoms_of_body body)) T → BodyFits (λ a. T a ≡ true) body
body-fits T (All lits) n l h = (
  l,
  each-from_map (λ c. T c ≡ true) atom_of lits
      (members-each (atoms_of_literals lits) (λ a. T a ≡ true) (λ a m. h a m)),
)
body-fits T (Sum bound items) n l h = absurd n

zero-plus : (n : ℕ) → 0 + n ≡ n
zero-plus n = omega arith

sum_by-first : (rule : Rule) (rules : List Rule)
    → sum_by rule_size (rule ∷ rules) ≡ rule_size rule + sum_by rule_size rules
sum_by-first rule rules =
    sum_by-append rule_size (rule ∷ []) rules
    ∙ ap (λ n. n + sum_by rule_size rules) (zero-plus (rule_size rule))

rules-fit : (T : Set) (rules : List Rule) → AreNormal rules → sum_by rule_size rules ≤ 2 ^ 24
    → Within (members (flat_map atoms_of_rule rules)) T
    → AllByRecursion (RuleFits (λ a. T a ≡ true)) rules
rules-fit T [] n l h = tt
rules-fit T (rule ∷ rules) n l h =
    let first : Within (members (atoms_of_rule rule)) T =
    λ a m. h a (members-first (atoms_of_rule rule) (flat_map atoms_of_rule rules) a m) in (
      (
        head-fits T rule.head n.0.0
            (λ a m. first a
            (members-first (atoms_of_head rule.head) (atoms_of_body rule.body) a m)),
        body-fits T rule.body n.0.1 (omega (arith, sum_by-first rule rules))
            (λ a m. first a
            (members-second (atoms_of_head rule.head) (atoms_of_body rule.body) a m)),
      ),
      rules-fit T rules n.1 (omega (arith, sum_by-first rule rules))
          (λ a m. h a (members-second (atoms_of_rule rule) (flat_map atoms_of_rule rules) a m)),
    )

-- ---- the program

module _ (P : Ground) (t : Stage) (f : IsProgram P) (small : room P ≤ 2 ^ 24) (is : IsStage t)
    (p : Turns P.rules (start P.atoms) t) (spent : Spends (sum_by term P.rules) (start P.atoms) t)
  where
    known-is : (a : ℕ) → union p.fresh (members P.atoms) a ≡ true → known t a ≡ true
    known-is a h = p.taken a ∙ h

    in-known : RulesIn (known t) (known t) t.rules
    in-known = subst (RulesIn (known t) (known t)) (sym p.rules)
        (rules-wider (union p.fresh (members P.atoms)) (known t) (union p.fresh (members P.atoms))
        (known t) known-is known-is p.new p.replaces.rules)

    pub normal-rules : AreNormal t.rules
    normal-rules = subst AreNormal (sym p.rules) p.normal

    all-known : Within (members (all_atoms P t)) (known t)
    all-known =
        members-two P.atoms (flat_map atoms_of_rule t.rules) (known t)
        (λ a m. known-is a (or_right (p.fresh a) _ m))
        (rules-members (known t) t.rules normal-rules in-known)

    pub atoms-within : Within (members P.atoms) (members (rising (all_atoms P t)))
    atoms-within a m =
        members-rising (all_atoms P t) a ∙ members-first P.atoms (flat_map atoms_of_rule t.rules)
        a m

    pub all-atoms : AllByRecursion IsAtom (all_atoms P t)
    all-atoms = members-each (all_atoms P t) _ (λ a m. is.atoms a (all-known a m))

    rules-within : Within (members (flat_map atoms_of_rule t.rules))
        (members (rising (all_atoms P t)))
    rules-within a m =
        members-rising (all_atoms P t) a ∙ members-second P.atoms (flat_map atoms_of_rule t.rules)
        a m

    rules-small : sum_by rule_size t.rules ≤ 2 ^ 24
    rules-small =
        go (length t.supply.given) (sum_by rule_size t.rules) (sum_by term P.rules) (room P) spent
        small (omega arith)
      where
        go : (g r s k : ℕ) → g + r ≤ 0 + 0 + s → k ≤ 2 ^ 24 → s ≤ k → r ≤ 2 ^ 24
        go g r s k h l m = omega arith

    up-literals : (lits : List Literal) → LiteralsFit (Among P.atoms) lits
        → LiteralsFit (Among (rising (all_atoms P t))) lits
    up-literals lits h = each-weaker _ _ (λ l k. atoms-within (atom_of l) k) lits h

    pub made-program : IsProgram (made_of P t)
    made-program = record {
      atoms_rise =
          RisesFrom-rising 0 (all_atoms P t)
          (each-weaker _ _ (λ a k. k.0) (all_atoms P t) all-atoms);
      atoms_fit =
          each-rising (λ a. a ≤ 2 ^ 30) (all_atoms P t)
          (each-weaker _ _ (λ a k. k.1) (all_atoms P t) all-atoms);
      rules =
          rules-fit (members (rising (all_atoms P t))) t.rules normal-rules rules-small
          rules-within;
      required = up-literals P.required f.required;
      edges = each-weaker _ _ (λ edge k. (k.0, up-literals edge.condition k.1)) P.edges f.edges;
      nodes = f.nodes;
      levels =
          each-weaker _ _
          (λ level k. each-weaker _ _ (λ item h. (atoms-within (atom_of item.0) h.0, h.1))
          level.items
          k) P.levels f.levels;
      priorities = f.priorities;
      priorities_fit = f.priorities_fit;
      shows =
          each-weaker _ _ (λ show k. (k.0, (k.1.0, up-literals show.condition k.1.1))) P.shows
          f.shows;
    }

    -- ---- its size

    made-atoms : length (rising (all_atoms P t)) ≤ length (taken t.supply)
    made-atoms =
        length-within (rising (all_atoms P t)) (taken t.supply)
        (rises-distinct 0 (rising (all_atoms P t)) made-program.atoms_rise)
        (λ a m. all-known a (sym (members-rising (all_atoms P t) a) ∙ m))

    pub made-size : size (made_of P t) ≤ room P
    made-size =
        go (length (rising (all_atoms P t))) (length P.atoms) (length t.supply.given)
        (length (taken t.supply)) (sum_by rule_size t.rules) (sum_by term P.rules)
        (length P.required) (sum_by (λ edge. 1 + length edge.condition) P.edges)
        (sum_by (λ level. 1 + length level.items) P.levels)
        (sum_by (λ show. 1 + length show.condition) P.shows)
        made-atoms (length-append t.supply.given t.supply.atoms
        ∙ ap (λ as_. length t.supply.given + length as_) p.atoms) spent
      where
        go : (x a g k r s q e l h : ℕ) → x ≤ k → k ≡ g + a → g + r ≤ 0 + 0 + s
            → x + r + q + e + l + h ≤ a + s + q + e + l + h
        go x a g k r s q e l h m n o = omega arith

    -- ---- normal programs

    pub made-same : t ≡ record
        { rules = P.rules; supply = record { atoms = P.atoms; given = [] }; pairs = [] }
        → made_of P t ≡ P
    made-same e =
        ap (λ atoms. record P { atoms = atoms; rules = t.rules }) atoms-same
        ∙ ap (λ rules. record P { rules = rules }) (ap (λ s. s.rules) e)
      where
        back : Within (members (rising (all_atoms P t))) (members P.atoms)
        back a m =
            ap (λ s. known s a) (sym e) ∙ all-known a (sym (members-rising (all_atoms P t) a) ∙ m)

        atoms-same : rising (all_atoms P t) ≡ P.atoms
        atoms-same =
            same_rising (rising (all_atoms P t)) P.atoms (Ascends-rising (all_atoms P t))
            (Ascends-from_rises 0 P.atoms f.atoms_rise) back atoms-within

-- ---- from its fields

grounds-same : (a1 a2 : List ℕ) (r1 r2 : List Rule) (q1 q2 : List Literal) (e1 e2 : List Edge)
    (l1 l2 : List Level) (s1 s2 : List Show) → a1 ≡ a2 → r1 ≡ r2 → q1 ≡ q2 → e1 ≡ e2 → l1 ≡ l2
    → s1 ≡ s2 →
    ground a1 r1 q1 e1 l1 s1 ≡ ground a2 r2 q2 e2 l2 s2
grounds-same a1 a2 r1 r2 q1 q2 e1 e2 l1 l2 s1 s2 a r q e l s =
    ap (λ x. ground x r1 q1 e1 l1 s1) a
    ∙ (ap (λ x. ground a2 x q1 e1 l1 s1) r
    ∙ (ap (λ x. ground a2 r2 x e1 l1 s1) q
    ∙ (ap (λ x. ground a2 r2 q2 x l1 s1) e
    ∙ (ap (λ x. ground a2 r2 q2 e2 x s1) l ∙ ap (λ x. ground a2 r2 q2 e2 l2 x) s))))

pub finish-program : (P v : Ground) → v ≡ P → (t w : Stage) → w ≡ t → IsProgram P
    → room P ≤ 2 ^ 24
    → IsStage w → Turns P.rules (start P.atoms) t → Spends (sum_by term P.rules) (start P.atoms) t
    →
    (atoms : List ℕ) (rules : List Rule) (required : List Literal) (edges : List Edge)
    (levels : List Level) (shows : List Show) →
    atoms ≡ rising (v.atoms ++ flat_map atoms_of_rule w.rules) → rules ≡ w.rules
    → required ≡ v.required → edges ≡ v.edges → levels ≡ v.levels → shows ≡ v.shows →
    IsProgram (ground atoms rules required edges levels shows)
finish-program P v e t w d f small is p spent atoms rules required edges levels shows a r q g l
    s =
    subst IsProgram
    (sym (grounds-same _ _ _ _ _ _ _ _ _ _ _ _ a r q g l s
    ∙ (ap (λ x. made_of x w) e ∙ ap (made_of P) d)))
    (made-program P t f small (subst IsStage d is) p spent)

pub finish-atoms : (P v : Ground) → v ≡ P → (t w : Stage) → w ≡ t → IsProgram P → room P ≤ 2 ^ 24
    → IsStage w → Turns P.rules (start P.atoms) t → Spends (sum_by term P.rules) (start P.atoms) t
    →
    (atoms : List ℕ) → atoms ≡ v.atoms ++ flat_map atoms_of_rule w.rules
    → AllByRecursion IsAtom atoms
finish-atoms P v e t w d f small is p spent atoms a =
    subst (AllByRecursion IsAtom) (sym (a ∙ (ap (λ x. all_atoms x w) e ∙ ap (all_atoms P) d)))
    (all-atoms P t f small (subst IsStage d is) p spent)
