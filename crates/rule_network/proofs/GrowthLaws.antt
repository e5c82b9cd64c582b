-- How a block grows: cell by cell, each new atom with the bodies of its rules.
use Rattle.std.proofs.Common.{◌≡◌, refl, sym, ◌∙◌, ap, ap₂, subst, ℕ, ◌==◌, Bool, true, false, not, ◌&&◌, ◌||◌, List, [], ◌∷◌, ◌++◌, length, ◌+◌, ⊎_elim, arith}
use Rattle.std.specs.List.{list_any, list_all, AllByRecursion}
use Rattle.std.proofs.lemmas.Bool.{or_cases, or_left, or_right, true≢false, eq-eqb}
use Rattle.std.proofs.lemmas.List.{append_assoc, append-nil, length-append}
use Rattle.asp_base.specs.Literal.{Literal, Pos, Neg}
use Rattle.asp_base.specs.Sets.{Set, members}
use Rattle.asp_base.proofs.Bools.{or_false, and_false}
use Rattle.asp_base.proofs.Each.{each-weaker}
use Rattle.std.proofs.lemmas.List.Folds.{list_any-append}
use Rattle.ground_program.specs.Fresh.{IsLeastFree, taken}
use Rattle.ground_program.specs.declared.program.Head.{Head}
use Rattle.ground_program.specs.declared.program.Head.TheVariants.{Nothing, One, Choice}
use Rattle.ground_program.specs.declared.program.Body.{Body}
use Rattle.ground_program.specs.declared.program.Body.TheVariants.{All, Sum}
use Rattle.ground_program.proofs.FreshLaws.{least_free-is}
use Rattle.rule_network.specs.Block.{Block, is_taken, Known, AllKnown, BodyFitsBlock, RuleFitsBlock, IsBefore, IsBlock, drawn, next_atom, with_atom, with_rule, with_rules, with_cell, outside, closure, value, values, Grew}
use Rattle.rule_network.proofs.BlockLaws.{taken-with, made-with, differs, known-more}
use Rattle.rule_network.proofs.ClosureLaws.{Avoids, BodyAvoids, HeadAvoids, RulesAvoid, SameBut, cell_rules, cell-keeps, cell-is}

pub next_atom-least : (net : Block) → IsLeastFree (taken net.supply) (next_atom net)
next_atom-least net = least_free-is (taken net.supply)

-- the fields of a block with more rules
pub with_rules-are : (a : ℕ) (bodies : List (List Literal)) (net : Block)
    → with_rules a bodies net ≡ record net { rules = net.rules ++ cell_rules a bodies }
with_rules-are a [] net = ap (λ rules. record net { rules = rules }) (sym (append-nil net.rules))
with_rules-are a (body ∷ bodies) net =
    with_rules-are a bodies (with_rule a body net)
    ∙ ap (λ rules. record net { rules = rules })
    (append_assoc net.rules (record { head = One a; body = All body } ∷ []) (cell_rules a bodies))

-- ---- what is there does not rest on a new atom

module _ (net : Block) (a : ℕ) (is : IsBlock net) (free : is_taken net a ≡ false) where
  literal-avoids : (l : Literal) → Known net l → Avoids a l
  literal-avoids (Pos b) k = differs net a b free k.0
  literal-avoids (Neg b) k = tt

  all-avoid : (lits : List Literal) → AllKnown net lits → AllByRecursion (Avoids a) lits
  all-avoid lits k = each-weaker _ _ literal-avoids lits k

  pub bodies-avoid : (bodies : List (List Literal)) → AllByRecursion (AllKnown net) bodies
      → AllByRecursion (AllByRecursion (Avoids a)) bodies
  bodies-avoid bodies k = each-weaker _ _ all-avoid bodies k

  before-avoids : (head : ℕ) (l : Literal) → IsBefore net head l → Avoids a l
  before-avoids head (Pos b) k = literal-avoids (Pos b) k.0
  before-avoids head (Neg b) k = tt

  body-avoids : (head : ℕ) (body : Body) → BodyFitsBlock net head body → BodyAvoids a body
  body-avoids head (All lits) k = each-weaker _ _ (before-avoids head) lits k
  body-avoids head (Sum bound items) k = absurd k

  rule-avoids : (head : Head) (body : Body) → RuleFitsBlock net head body
      → HeadAvoids a head × BodyAvoids a body
  rule-avoids Nothing body k = absurd k
  rule-avoids (One b) body k = (differs net a b free (is.made b k.0), body-avoids b body k.1)
  rule-avoids (Choice bs) body k = absurd k

  pub rules-avoid : RulesAvoid a net.rules
  rules-avoid = each-weaker _ _ (λ rule k. rule-avoids rule.head rule.body k) net.rules is.rules

-- ---- what grew

pub Grew-refl : (net : Block) → Grew net net
Grew-refl net = record {
  taken = λ a t. t;
  made = λ a t. t;
  apart = λ a t m. m;
  inputs = refl;
  program = refl;
  drew = ([], sym (append-nil net.made), sym (append-nil net.supply.given));
  keeps = λ X M a t. refl;
}

further : (xs ys zs more rest : List ℕ) → ys ≡ xs ++ more → zs ≡ ys ++ rest
    → zs ≡ xs ++ (more ++ rest)
further xs ys zs more rest e f = f ∙ ap (λ l. l ++ rest) e ∙ append_assoc xs more rest

pub Grew-trans : (one two three : Block) → Grew one two → Grew two three → Grew one three
Grew-trans one two three g h = record {
  taken = λ a t. h.taken a (g.taken a t);
  made = λ a t. h.made a (g.made a t);
  apart = λ a t m. g.apart a t (h.apart a (g.taken a t) m);
  inputs = h.inputs ∙ g.inputs;
  program = h.program ∙ g.program;
  drew = (
    g.drew.0 ++ h.drew.0,
    further one.made two.made three.made g.drew.0 h.drew.0 g.drew.1 h.drew.1,
    further one.supply.given two.supply.given three.supply.given g.drew.0 h.drew.0 g.drew.2
        h.drew.2,
  );
  keeps = λ X M a t. h.keeps X M a (g.taken a t) ∙ g.keeps X M a t;
}

-- a number that is taken was taken before or is an atom of the block
pub grew-split : (old new : Block) → Grew old new → (a : ℕ) → is_taken new a ≡ true
    → (is_taken old a || members new.made a) ≡ true
grew-split old new g a t =
    split (members old.supply.given a) (members g.drew.0 a) (members old.supply.atoms a)
    (members old.made a) (is_taken old a) (members new.made a)
    (list_any-append (λ x. x == a) old.supply.given old.supply.atoms)
    (ap (λ xs. members xs a) g.drew.1 ∙ list_any-append (λ x. x == a) old.made g.drew.0)
    (sym (ap₂ (λ given atoms. members (given ++ atoms) a) g.drew.2 g.program
    ∙ list_any-append (λ x. x == a) (old.supply.given ++ g.drew.0) old.supply.atoms
    ∙ ap (λ b. b || members old.supply.atoms a)
    (list_any-append (λ x. x == a) old.supply.given g.drew.0)) ∙ t)
  where
    split : (given more atoms made before after : Bool) → before ≡ (given || atoms)
        → after ≡ (made || more) → ((given || more) || atoms) ≡ true → (before || after) ≡ true
    split true more atoms made before after e f h = or_left before after e
    split false true atoms true before after e f h = or_right before after f
    split false true atoms false before after e f h = or_right before after f
    split false false true made before after e f h = or_left before after e
    split false false false made before after e f h = absurd (true≢false (sym h))

-- as many numbers were drawn as atoms were made
pub grew-counts : (old new : Block) → Grew old new
    → drawn new + length old.made ≡ drawn old + length new.made
grew-counts old new g =
    let m : length new.made ≡ length old.made + length g.drew.0 =
    ap length g.drew.1 ∙ length-append old.made g.drew.0 in
    let d : drawn new ≡ drawn old + length g.drew.0 =
    ap length g.drew.2 ∙ length-append old.supply.given g.drew.0 in
    omega arith

pub known-kept : (old new : Block) → Grew old new → (l : Literal) → Known old l → Known new l
known-kept old new g l k = known-more old new g.taken g.made g.apart g.inputs l k

pub all_known-kept : (old new : Block) → Grew old new → (lits : List Literal) → AllKnown old lits
    → AllKnown new lits
all_known-kept old new g lits k = each-weaker _ _ (known-kept old new g) lits k

-- a literal over what was there holds where it held
pub value-kept : (old new : Block) → Grew old new → (X M : Set) (l : Literal) → Known old l
    → value new X M l ≡ value old X M l
unfolding value
value-kept old new g X M (Pos a) k = g.keeps X M a k.0
value-kept old new g X M (Neg a) k = refl

pub values-kept : (old new : Block) → Grew old new → (X M : Set) (lits : List Literal)
    → AllKnown old lits → values new X M lits ≡ values old X M lits
values-kept old new g X M [] k = refl
values-kept old new g X M (l ∷ lits) k =
    ap₂ ◌∷◌ (value-kept old new g X M l k.0) (values-kept old new g X M lits k.1)

-- ---- one more cell

abbrev celled : Block → List (List Literal) → Block
celled net bodies =
    let a : ℕ = next_atom net in
    record (with_atom a net) { rules = net.rules ++ cell_rules a bodies }

module _ (net : Block) (bodies : List (List Literal)) (is : IsBlock net)
    (known : AllByRecursion (AllKnown net) bodies) where
  abbrev a : ℕ
  a = next_atom net

  free : is_taken net a ≡ false
  free = (next_atom-least net).free

  outside-same : (X : Set) → SameBut a (outside net X) (outside (celled net bodies) X)
  outside-same X b e =
      ap (λ t. X b && not t)
      (sym (made-with a net b
      ∙ (ap (λ t. members net.made b || t) e ∙ or_false (members net.made b))))

  outside-without : (X : Set) → outside (celled net bodies) X a ≡ false
  outside-without X =
      ap (λ t. X a && not t) (made-with a net a ∙ or_right _ _ (eq-eqb a a refl)) ∙ and_false (X a)

  celled-grew : Grew net (celled net bodies)
  unfolding closure
  celled-grew = record {
    taken = λ b t. taken-with a net b ∙ or_left _ _ t;
    made = λ b t. made-with a net b ∙ or_left _ _ t;
    apart = λ b t m.
        ⊎_elim (λ k. k) (λ k. absurd (true≢false (sym k ∙ differs net a b free t)))
        (or_cases _ _ (sym (made-with a net b) ∙ m));
    inputs = refl;
    program = refl;
    drew = (a ∷ [], refl, refl);
    keeps = λ X M b t.
        cell-keeps a net.rules bodies M (outside net X) (outside (celled net bodies) X)
        (rules-avoid net a is free) (bodies-avoid net a is free bodies known)
        (outside-same X) (outside-without X) b (differs net a b free t);
  }

  celled-value : (X M : Set) → value (celled net bodies) X M (Pos a)
      ≡ list_any (λ body. list_all (value net X M) body) bodies
  unfolding value closure
  celled-value X M =
      cell-is a net.rules bodies M (outside net X) (outside (celled net bodies) X)
      (rules-avoid net a is free) (bodies-avoid net a is free bodies known)
      (outside-same X) (outside-without X)

  pub cell-grew : Grew net (with_cell bodies net)
  cell-grew = subst (Grew net) (sym (with_rules-are a bodies (with_atom a net))) celled-grew

  -- the new atom holds where one of the bodies does
  pub cell-value : (X M : Set) → value (with_cell bodies net) X M (Pos a)
      ≡ list_any (λ body. list_all (value net X M) body) bodies
  cell-value X M =
      subst
      (λ new. value new X M (Pos a) ≡ list_any (λ body. list_all (value net X M) body) bodies)
      (sym (with_rules-are a bodies (with_atom a net))) (celled-value X M)

  pub cell-known : Known (with_cell bodies net) (Pos a)
  cell-known =
      let own : (a == a) ≡ true = eq-eqb a a refl in
      subst (λ new. Known new (Pos a)) (sym (with_rules-are a bodies (with_atom a net)))
      (taken-with a net a ∙ or_right _ _ own, or_left _ _ (made-with a net a ∙ or_right _ _ own))
