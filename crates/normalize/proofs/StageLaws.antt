-- How normalization goes on, rule by rule.
use Rattle.std.proofs.Common.{◌≡◌, refl, sym, ◌∙◌, ap, ap₂, subst, ℕ, ◌==◌, Bool, true, false, not, ◌&&◌, ◌||◌, Option, List, [], ◌∷◌, ◌++◌, append-nil, ⊎_elim}
use Rattle.std.specs.List.{list_all, AllByRecursion}
use Rattle.std.proofs.lemmas.Bool.{false_from_ne_true, or_left, or_right, or_cases, true≢false, eq-eqb}
use Rattle.std.proofs.lemmas.List.{append_assoc}
use Rattle.std.proofs.lemmas.List.Folds.{list_any-append}
use Rattle.asp_base.specs.Literal.{Literal, Pos, Neg, atom_of, literal_holds, all_hold}
use Rattle.asp_base.specs.Sets.{Set, none, members, union, Within, Same}
use Rattle.ground_program.specs.Fresh.{Supply}
use Rattle.ground_program.specs.Stable.{holds, head_has, step, is_headless}
use Rattle.ground_program.specs.declared.program.Head.{Head}
use Rattle.ground_program.specs.declared.program.Head.TheVariants.{Nothing, One, Choice}
use Rattle.ground_program.specs.declared.program.Body.{Body}
use Rattle.ground_program.specs.declared.program.Body.TheVariants.{All, Sum}
use Rattle.ground_program.specs.declared.program.Rule.{Rule}
use Rattle.ground_program.proofs.Compose.{equal}
use Rattle.asp_base.proofs.Bools.{and_true, same_test}
use Rattle.asp_base.proofs.Each.{each-weaker, each-append}
use Rattle.rule_network.specs.Block.{Block, IsBlock, Known, is_taken, empty_block, closure, value, RuleFitsBlock, Grew}
use Rattle.rule_network.proofs.GrowthLaws.{grew-split}
use Rattle.normalize.specs.private.Replacement.{RuleIn, RulesIn, headless_holds, Respects, Replaces}
use Rattle.normalize.specs.private.Stage.{Stage, atoms_of, known, PairsIn, Listed, IsNormal, Turns, Answers, choice_of, choosing, complement_rule}
use Rattle.ground_program.specs.Normal.{IsNormalHead, IsNormalBody}
use Rattle.normalize.proofs.Joining.{Replaces-then}
use Rattle.normalize.proofs.SamePieces.{same_set, Replaces-same, Replaces-as, Replaces-sets, step-stays, headless-stays}
use Rattle.normalize.proofs.BlockPieces.{Replaces-block}
use Rattle.normalize.proofs.ChoicePieces.{with_complement, Replaces-chosen, Replaces-complement}

-- ---- stages

-- an atom of the program is known
pub atoms-known : (s : Stage) → Within (atoms_of s) (known s)
atoms-known s a h =
    list_any-append (λ x. x == a) s.supply.given s.supply.atoms
    ∙ or_right (members s.supply.given a) _ h

around : (f g k : Bool) → (g || (f || k)) ≡ ((f || g) || k)
around true true k = refl
around true false k = refl
around false true k = refl
around false false k = refl

-- as a later stage sees the rules that come behind
later : (s t : Stage) (F G : Set) (after : List (ℕ × ℕ)) (old new : List Rule) (E : Set → Set → Set)
    → t.supply.atoms ≡ s.supply.atoms → Same (known t) (union F (known s)) →
    Replaces (atoms_of t) (known t) G t.pairs after old new E
    → Replaces (atoms_of s) (union F (known s)) G t.pairs after old new E
later s t F G after old new E a k p =
    subst (λ as_. Replaces (members as_) (union F (known s)) G t.pairs after old new E) a
    (Replaces-sets (atoms_of t) (known t) (union F (known s)) G G t.pairs after old new E k
    (λ b. refl) p)

-- one list of rules after another
module _ (s t u : Stage) (old1 old2 between : List Rule) (p : Turns old1 s t)
    (q : Turns between t u)
    (through : (X N : Set) → (a : ℕ) → p.fresh a ≡ false
    → step between N (p.extend X N) a ≡ step old2 N X a)
    (says : (X N : Set) → headless_holds between (p.extend X N) N ≡ headless_holds old2 X N) where
  pub Turns-through : Turns (old1 ++ old2) s u
  Turns-through = record {
    new = p.new ++ q.new;
    fresh = union p.fresh q.fresh;
    extend = λ X N. q.extend (p.extend X N) N;
    rules = q.rules ∙ (ap (λ rules. rules ++ q.new) p.rules ∙ append_assoc s.rules p.new q.new);
    atoms = q.atoms ∙ p.atoms;
    normal = each-append _ p.new q.new p.normal q.normal;
    taken =
        λ a. q.taken a
        ∙ (ap (λ b. q.fresh a || b) (p.taken a) ∙ around (p.fresh a) (q.fresh a) (known s a));
    pairs = q.pairs;
    replaces =
        Replaces-then (atoms_of s) (known s) p.fresh q.fresh s.pairs t.pairs u.pairs old1 p.new old2
        between q.new p.extend q.extend p.replaces
        (later s t p.fresh q.fresh u.pairs between q.new q.extend p.atoms p.taken q.replaces)
        (λ X N r a e. through X N a e) (λ X N r. says X N);
  }

module _ (s t u : Stage) (old1 old2 : List Rule) (over : RulesIn (atoms_of s) (known s) old2)
    (p : Turns old1 s t) (q : Turns old2 t u) where
  pub Turns-then : Turns (old1 ++ old2) s u
  Turns-then =
      Turns-through s t u old1 old2 old2 p q
      (λ X N a e. step-stays (atoms_of s) (known s) p.fresh s.pairs t.pairs old1 p.new old2
      p.extend over p.replaces X N a)
      (λ X N. headless-stays (atoms_of s) (known s) p.fresh s.pairs t.pairs old1 p.new old2
      p.extend over p.replaces X N)

-- a rule over literals that answer its body
pub Turns-behind : (s t u : Stage) (head : Head) (body : Body) (lits : List Literal)
    → Answers body lits s t → Turns (record { head = head; body = All lits } ∷ []) t u
    → Turns (record { head = head; body = body } ∷ []) s u
Turns-behind s t u head body lits w q =
    Turns-through s t u [] (record { head = head; body = body } ∷ [])
    (record { head = head; body = All lits } ∷ []) w.turns q
    (λ X N a e. ap (λ b. (head_has head N a && b) || false) (w.says X N))
    (λ X N. ap (λ b. (is_headless head && b) || false) (w.says X N))

-- the same stands for rules that derive the same
pub Turns-as : (s t : Stage) (old old2 : List Rule)
    → ((X N : Set) → Same (step old N X) (step old2 N X))
    → ((X N : Set) → headless_holds old X N ≡ headless_holds old2 X N) → Turns old s t
    → Turns old2 s t
Turns-as s t old old2 steps heads p = record {
  new = p.new;
  fresh = p.fresh;
  extend = p.extend;
  rules = p.rules;
  atoms = p.atoms;
  normal = p.normal;
  taken = p.taken;
  pairs = p.pairs;
  replaces =
      Replaces-as (atoms_of s) (known s) p.fresh s.pairs t.pairs old old2 p.new p.new p.extend
      p.replaces.rules (λ X N a. refl) (λ X N. refl) steps heads p.replaces;
}

-- rules without new atoms
module _ (s : Stage) (in_ : PairsIn (known s) s.pairs) where
  pub Turns-nothing : (old : List Rule) → ((X N : Set) (a : ℕ) → step old N X a ≡ false)
      → ((X N : Set) → headless_holds old X N ≡ false) → Turns old s s
  Turns-nothing old steps heads = record {
    new = [];
    fresh = none;
    extend = same_set;
    rules = sym (append-nil s.rules);
    atoms = refl;
    normal = tt;
    taken = λ a. refl;
    pairs = in_;
    replaces =
        Replaces-same (atoms_of s) (known s) s.pairs old [] (atoms-known s) tt
        (λ X N r a. sym (steps X N a)) (λ X N r. sym (heads X N));
  }

  pub Turns-rule : (old new : Rule) → IsNormal new → RuleIn (atoms_of s) (known s) new
      → ((X N : Set) → Respects s.pairs N → Same (step (new ∷ []) N X) (step (old ∷ []) N X)) →
      ((X N : Set) → headless_holds (new ∷ []) X N ≡ headless_holds (old ∷ []) X N)
      → Turns (old ∷ []) s (record s { rules = s.rules ++ (new ∷ []) })
  Turns-rule old new is there steps heads = record {
    new = new ∷ [];
    fresh = none;
    extend = same_set;
    rules = refl;
    atoms = refl;
    normal = (is, tt);
    taken = λ a. refl;
    pairs = in_;
    replaces =
        Replaces-same (atoms_of s) (known s) s.pairs (old ∷ []) (new ∷ []) (atoms-known s)
        (there, tt) steps (λ X N r. heads X N);
  }

  -- a body that is there already
  pub Answers-same : (body : Body) (lits : List Literal)
      → AllByRecursion (λ l. known s (atom_of l) ≡ true) lits
      → ((X N : Set) → all_hold lits X N ≡ holds body X N) → Answers body lits s s
  unfolding Turns-nothing
  Answers-same body lits there says = record {
    turns = Turns-nothing [] (λ X N a. refl) (λ X N. refl);
    there = there;
    says = says;
  }

-- ---- a block

-- a block with no atoms yet derives nothing
pub begun-closure : (supply : Supply) (inputs : Option (List ℕ)) (X M : Set)
    → closure (empty_block supply inputs) X M ≡ X
unfolding closure
begun-closure supply inputs X M = equal _ _ (λ a. and_true (X a))

pub begun-value : (supply : Supply) (inputs : Option (List ℕ)) (X M : Set) (l : Literal)
    → value (empty_block supply inputs) X M l ≡ literal_holds l X M
unfolding value
begun-value supply inputs X M l =
    ap (λ Y. literal_holds l Y M) (begun-closure supply inputs X M)

pub begun-all : (supply : Supply) (inputs : Option (List ℕ)) (X M : Set) (lits : List Literal)
    → list_all (value (empty_block supply inputs) X M) lits ≡ all_hold lits X M
begun-all supply inputs X M [] = refl
begun-all supply inputs X M (l ∷ lits) =
    ap₂ ◌&&◌ (begun-value supply inputs X M l) (begun-all supply inputs X M lits)

pub known-wider : (there more : Set) → Within there more → (pairs : List (ℕ × ℕ))
    → PairsIn there pairs → PairsIn more pairs
known-wider there more h pairs k = each-weaker _ _ (λ pair e. (h pair.0 e.0, h pair.1 e.1)) pairs k

literal-there : (net : Block) (l : Literal) → Known net l → is_taken net (atom_of l) ≡ true
literal-there net (Pos a) k = k.0
literal-there net (Neg a) k = k.0

module _ (s : Stage) (in_ : PairsIn (known s) s.pairs) (inputs : Option (List ℕ)) (net : Block)
    (is : IsBlock net) (grew : Grew (empty_block s.supply inputs) net) where
  block-apart : (a : ℕ) → members net.made a ≡ true → known s a ≡ false
  block-apart a m =
      false_from_ne_true (known s a) (λ e. true≢false (sym (grew.apart a e m)))

  block-taken : Same (is_taken net) (union (members net.made) (known s))
  block-taken a = same_test _ _
      (λ t. ⊎_elim (λ k. or_right (members net.made a) _ k) (λ m. or_left _ _ m)
      (or_cases (known s a) (members net.made a)
      (grew-split (empty_block s.supply inputs) net grew a t)))
      (λ e. ⊎_elim (λ m. is.made a m) (λ k. grew.taken a k)
      (or_cases (members net.made a) (known s a) e))

  block-normal : (head : Head) (body : Body) → RuleFitsBlock net head body → IsNormalHead head
      × IsNormalBody body
  block-normal Nothing body k = absurd k
  block-normal (One a) (All lits) k = (tt, tt)
  block-normal (One a) (Sum bound items) k = absurd k.1
  block-normal (Choice as_) body k = absurd k

  block-turns : Turns [] s
      (record { rules = s.rules ++ net.rules; supply = net.supply; pairs = s.pairs })
  block-turns = record {
    new = net.rules;
    fresh = members net.made;
    extend = closure net;
    rules = refl;
    atoms = grew.program;
    normal = each-weaker _ _ (λ rule k. block-normal rule.head rule.body k) net.rules is.rules;
    taken = block-taken;
    pairs = known-wider (known s) (is_taken net) grew.taken s.pairs in_;
    replaces =
        Replaces-block net is (known s) (λ a t. sym (block-taken a) ∙ t) (atoms_of s) s.pairs
        (atoms-known s) block-apart in_;
  }

  -- a literal that holds where the body does
  pub Answers-block : (body : Body) (l : Literal) → Known net l
      → ((X M : Set) → value net X M l ≡ holds body X M)
      → Answers body (l ∷ []) s
      (record { rules = s.rules ++ net.rules; supply = net.supply; pairs = s.pairs })
  unfolding value block-turns
  Answers-block body l k says = record {
    turns = block-turns;
    there = (literal-there net l k, tt);
    says = λ X N. and_true (literal_holds l (closure net X N) N) ∙ says X N;
  }

-- one more number is taken
pub taken-more : (given atoms : List ℕ) (x b : ℕ)
    → members ((given ++ (x ∷ [])) ++ atoms) b ≡ (members (x ∷ []) b || members (given ++ atoms) b)
taken-more given atoms x b =
    list_any-append (λ y. y == b) (given ++ (x ∷ [])) atoms
    ∙ (ap (λ t. t || members atoms b) (list_any-append (λ y. y == b) given (x ∷ []))
    ∙ (turned (members given b) (members (x ∷ []) b) (members atoms b)
    ∙ ap (λ t. members (x ∷ []) b || t) (sym (list_any-append (λ y. y == b) given atoms))))
  where
    turned : (g n k : Bool) → ((g || n) || k) ≡ (n || (g || k))
    turned true true k = refl
    turned true false k = refl
    turned false true k = refl
    turned false false k = refl

-- ---- choices

listed-right : (pairs : List (ℕ × ℕ)) (a x : ℕ) → Listed pairs a x → (N : Set) → Respects pairs N
    → N x ≡ not (N a)
listed-right [] a x h N r = absurd h
listed-right (pair ∷ pairs) a x h N r =
    ⊎_elim (λ k. ap N (sym k.1) ∙ (r.0 ∙ ap (λ b. not (N b)) k.0))
    (λ k. listed-right pairs a x k N r.1) h

pub listed-in : (there : Set) (pairs : List (ℕ × ℕ)) (a x : ℕ) → PairsIn there pairs
    → Listed pairs a x → there x ≡ true
listed-in there [] a x p h = absurd h
listed-in there (pair ∷ pairs) a x p h =
    ⊎_elim (λ k. ap there (sym k.1) ∙ p.0.1) (λ k. listed-in there pairs a x p.1 k) h

module _ (s : Stage) (in_ : PairsIn (known s) s.pairs) (a x : ℕ) (lits : List Literal)
    (at : atoms_of s a ≡ true) (over : AllByRecursion (λ l. known s (atom_of l) ≡ true) lits) where
  -- the atom's complement is there
  pub Turns-chosen : Listed s.pairs a x → Turns (choice_of (a ∷ []) lits ∷ []) s
      (record s { rules = s.rules ++ (choosing a x lits ∷ []) })
  Turns-chosen h = record {
    new = choosing a x lits ∷ [];
    fresh = none;
    extend = same_set;
    rules = refl;
    atoms = refl;
    normal = ((tt, tt), tt);
    taken = λ b. refl;
    pairs = in_;
    replaces =
        Replaces-chosen (atoms_of s) (known s) s.pairs a x lits (atoms-known s) at
        (listed-in (known s) s.pairs a x in_ h) over (listed-right s.pairs a x h);
  }

  -- the atom's complement is new
  pub Turns-complement : known s x ≡ false → Turns (choice_of (a ∷ []) lits ∷ []) s
      (record {
        rules = s.rules ++ (choosing a x lits ∷ complement_rule a x ∷ []);
        supply = record { atoms = s.supply.atoms; given = s.supply.given ++ (x ∷ []) };
        pairs = s.pairs ++ ((a, x) ∷ []);
      })
  Turns-complement free = record {
    new = choosing a x lits ∷ complement_rule a x ∷ [];
    fresh = members (x ∷ []);
    extend =
        with_complement (atoms_of s) (known s) s.pairs a x lits (atoms-known s) at free over in_;
    rules = refl;
    atoms = refl;
    normal = ((tt, tt), ((tt, tt), tt));
    taken = taken-more s.supply.given s.supply.atoms x;
    pairs =
        each-append _ s.pairs ((a, x) ∷ [])
        (known-wider (known s) (members ((s.supply.given ++ (x ∷ [])) ++ s.supply.atoms))
        (λ b h. taken-more s.supply.given s.supply.atoms x b ∙ or_right (members (x ∷ []) b) _ h)
        s.pairs in_) (
          (
            taken-more s.supply.given s.supply.atoms x a
                ∙ or_right (members (x ∷ []) a) _ (atoms-known s a at),
            taken-more s.supply.given
                s.supply.atoms x x ∙ or_left _ _ (or_left (x == x) false (eq-eqb x x refl)),
          ),
          tt,
        );
    replaces =
        Replaces-complement (atoms_of s) (known s) s.pairs a x lits (atoms-known s) at free over
        in_;
  }
