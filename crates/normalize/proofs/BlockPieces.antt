-- The rules of a block stand for nothing: they add its atoms.
use Rattle.std.proofs.Common.{◌≡◌, refl, sym, ◌∙◌, ap, ap₂, ℕ, zero, suc, ◌==◌, Bool, true, false, not, ◌&&◌, ◌||◌, List, [], ◌∷◌, length, ⊎_elim}
use Rattle.std.specs.List.{AllByRecursion}
use Rattle.std.proofs.lemmas.Bool.{false_from_ne_true, and_parts, or_cases, or_left, or_right, true≢false}
use Rattle.asp_base.specs.Literal.{Literal, Pos, Neg, atom_of, literal_holds, all_hold}
use Rattle.asp_base.specs.Sets.{Set, members, union, Within, Same}
use Rattle.ground_program.specs.Closed.{Closed, HasWeights}
use Rattle.ground_program.specs.Stable.{holds, step, rounds, head_has, is_headless}
use Rattle.ground_program.specs.declared.program.Head.{Head}
use Rattle.ground_program.specs.declared.program.Head.TheVariants.{Nothing, One, Choice}
use Rattle.ground_program.specs.declared.program.Body.{Body}
use Rattle.ground_program.specs.declared.program.Body.TheVariants.{All, Sum}
use Rattle.ground_program.specs.declared.program.Rule.{Rule}
use Rattle.ground_program.proofs.Least.{grown-smallest}
use Rattle.asp_base.proofs.Bools.{and_false}
use Rattle.asp_base.proofs.Each.{each-weaker}
use Rattle.rule_network.specs.Block.{Block, IsBlock, IsBefore, AllBefore, BodyFitsBlock, RuleFitsBlock, is_taken, outside, closure}
use Rattle.rule_network.proofs.OutsideLaws.{closure-outside, closure-made}
use Rattle.normalize.specs.private.Replacement.{Near, BodyIn, RuleIn, RulesIn, headless_holds, Respects, Replaces}
use Rattle.normalize.specs.private.Stage.{PairsIn}
use Rattle.normalize.proofs.Reading.{step-none, rules-wider, weighed-in}

pub respects-near : (known N M : Set) → Near known N M → (pairs : List (ℕ × ℕ))
    → PairsIn known pairs → Respects pairs M → Respects pairs N
respects-near known N M n [] h r = tt
respects-near known N M n (pair ∷ pairs) h r = (
  n pair.1 h.0.1 ∙ (r.0 ∙ ap not (sym (n pair.0 h.0.0))),
  respects-near known N M n pairs h.1
      r.1,
)

module _ (net : Block) (is : IsBlock net) (known : Set)
    (taken : Within (is_taken net) (union (members net.made) known)) where
  abbrev F : Set
  F = members net.made

  body-in : (head : ℕ) (body : Body) → BodyFitsBlock net head body
      → BodyIn (union (members net.made) known) body
  body-in head (All lits) k = each-weaker _ _ (λ l b. one l b) lits k
    where
      one : (l : Literal) → IsBefore net head l → union (members net.made) known (atom_of l) ≡ true
      one (Pos a) b = taken a b.0.0
      one (Neg a) b = taken a b.0
  body-in head (Sum bound items) k = absurd k

  rule-in : (head : Head) (body : Body) → RuleFitsBlock net head body
      → RuleIn (members net.made) (union (members net.made) known)
      (record { head = head; body = body })
  rule-in Nothing body k = absurd k
  rule-in (One a) body k =
      record { head = k.0; body = body-in a body k.1; weights = light body k.1 }
    where
      light : (body : Body) → BodyFitsBlock net a body → HasWeights body
      light (All lits) h = tt
      light (Sum bound items) h = absurd h
  rule-in (Choice as_) body k = absurd k

  pub block-in : RulesIn (members net.made) (union (members net.made) known) net.rules
  block-in = each-weaker _ _ (λ rule k. rule-in rule.head rule.body k) net.rules is.rules

  -- ---- negative literals are read outside the block

  module _ (X Y N M : Set) (x : Near (union (members net.made) known) X Y) (n : Near known N M)
    where
      known-of : (a : ℕ) → is_taken net a ≡ true → members net.made a ≡ false → known a ≡ true
      known-of a t m =
          ⊎_elim (λ k. absurd (true≢false (sym k ∙ m))) (λ k. k)
          (or_cases (members net.made a) (known a) (taken a t))

      literal-block : (head : ℕ) (l : Literal) → IsBefore net head l
          → literal_holds l X N ≡ literal_holds l Y M
      literal-block head (Pos a) b = x a (taken a b.0.0)
      literal-block head (Neg a) b = ap not (n a (known-of a b.0 b.1))

      lits-block : (head : ℕ) (lits : List Literal) → AllBefore net head lits
          → all_hold lits X N ≡ all_hold lits Y M
      lits-block head [] b = refl
      lits-block head (l ∷ lits) b = ap₂ ◌&&◌ (literal-block head l b.0) (lits-block head lits b.1)

      body-block : (head : ℕ) (body : Body) → BodyFitsBlock net head body
          → holds body X N ≡ holds body Y M
      body-block head (All lits) b = lits-block head lits b
      body-block head (Sum bound items) b = absurd b

      rule-block : (head : Head) (body : Body) (a : ℕ) → RuleFitsBlock net head body
          → (head_has head N a && holds body X N) ≡ (head_has head M a && holds body Y M)
      rule-block Nothing body a k = absurd k
      rule-block (One b) body a k = ap (λ h. (b == a) && h) (body-block b body k.1)
      rule-block (Choice as_) body a k = absurd k

      step-block : (rules : List Rule) → AllByRecursion
          (λ rule. RuleFitsBlock net rule.head rule.body) rules
          → Same (step rules N X) (step rules M Y)
      step-block [] k a = refl
      step-block (rule ∷ rules) k a =
          ap₂ ◌||◌ (rule-block rule.head rule.body a k.0) (step-block rules k.1 a)

  rounds-block : (n : ℕ) (X Y N M : Set) → Near (union (members net.made) known) X Y
      → Near known N M → Near (union (members net.made) known) (rounds n net.rules N X)
      (rounds n net.rules M Y)
  rounds-block zero X Y N M x m a h = x a h
  rounds-block (suc n) X Y N M x m a h =
      let ih : Near (union (members net.made) known) (rounds n net.rules N X)
      (rounds n net.rules M Y) = rounds-block n X Y N M x m in
      ap₂ ◌||◌ (ih a h)
      (step-block (rounds n net.rules N X) (rounds n net.rules M Y) N M ih m net.rules is.rules
      a)

  starts-near : (X Y : Set) → Near known X Y
      → Near (union (members net.made) known) (outside net X) (outside net Y)
  starts-near X Y x a h = go (members net.made a) (λ k. x a k) h
    where
      go : (m : Bool) → (known a ≡ true → X a ≡ Y a) → (m || known a) ≡ true
          → (X a && not m) ≡ (Y a && not m)
      go true k e = and_false (X a) ∙ sym (and_false (Y a))
      go false k e = ap (λ t. t && true) (k e)

  pub closure-near : (X Y N M : Set) → Near known X Y → Near known N M
      → Near (union (members net.made) known) (closure net X N) (closure net Y M)
  unfolding closure
  closure-near X Y N M x n =
      rounds-block (length net.rules) (outside net X) (outside net Y) N M (starts-near X Y x) n

  closure-least : (X N Z : Set) → Within X Z → Closed net.rules N Z → Within (closure net X N) Z
  unfolding closure
  closure-least X N Z h c =
      grown-smallest net.rules N (outside net X) Z (weighed-in _ _ net.rules block-in)
      (λ a e. h a ((and_parts (X a) _ e).0)) c

  headless-block : (X N : Set) (rules : List Rule)
      → AllByRecursion (λ rule. RuleFitsBlock net rule.head rule.body) rules
      → headless_holds rules X N ≡ false
  headless-block X N [] k = refl
  headless-block X N (rule ∷ rules) k =
      ap₂ ◌||◌ (one rule.head rule.body k.0) (headless-block X N rules k.1)
    where
      one : (head : Head) (body : Body) → RuleFitsBlock net head body
          → (is_headless head && holds body X N) ≡ false
      one Nothing body k = absurd k
      one (One b) body k = refl
      one (Choice as_) body k = absurd k

  -- the block stands for no rule
  pub Replaces-block : (atoms : Set) (pairs : List (ℕ × ℕ)) → Within atoms known
      → ((a : ℕ) → members net.made a ≡ true → known a ≡ false) → PairsIn known pairs →
      Replaces atoms known (members net.made) pairs pairs [] net.rules (closure net)
  Replaces-block atoms pairs w apart pairs_in = record {
    rules =
        rules-wider (members net.made) (union (members net.made) atoms)
        (union (members net.made) known) (union (members net.made) known) (λ a h. or_left _ _ h)
        (λ a h. h) net.rules block-in;
    within = w;
    apart = apart;
    outside = λ X N a e. closure-outside net X N a is e;
    inside = λ X N r a e. sym (closure-made net X N a is e);
    least = closure-least;
    derives = λ X N r a e. step-none _ _ net.rules N (closure net X N) block-in a e;
    headless = λ X N r. headless-block (closure net X N) N net.rules is.rules;
    near =
        λ X Y N M x n a e. closure-near X Y N M x (λ b h. n b (or_right (members net.made b) _ h)) a
        (or_left _ _ e);
    unique =
        λ X Y N M x n u v a e. u a e ∙ (closure-near X Y N M x n a (or_left _ _ e) ∙ sym (v a e));
    settles = λ M r. (
      closure net M M,
      λ a e. closure-outside net M M a is e,
      respects-near known (closure net M M) M (kept M) pairs pairs_in r,
      λ a e. closure-near M M M (closure net M M) (λ b h. refl) (λ b h. sym (kept M b h)) a
          (or_left _ _ e),
    );
    grows = λ N r. r;
    refutes = λ N r h. r;
  }
    where
      kept : (M : Set) → Near known (closure net M M) M
      kept M a h = closure-outside net M M a is
          (false_from_ne_true (members net.made a) (λ e. true≢false (sym h ∙ apart a e)))
