-- What is true of every block stays true as atoms and rules are added.
use Rattle.std.proofs.Common.{◌≡◌, refl, sym, ◌∙◌, ap, ap₂, ℕ, ◌<◌, ◌≤◌, ◌^◌, ◌==◌, Bool, true, false, ◌||◌, List, [], ◌∷◌, ◌++◌, ⊎_elim, subst, subst₂, arith}
use Rattle.std.specs.Result.{OnOk, OnErr}
use Rattle.std.specs.declared.result.Result.{Result}
use Rattle.std.specs.declared.result.Result.TheVariants.{Ok, Err}
use Rattle.std.proofs.lemmas.Bool.{or_cases, or_left, or_right, true≢false, eqb-true, cases_order}
use Rattle.asp_base.specs.Literal.{Literal, Pos, Neg}
use Rattle.asp_base.specs.Sets.{members, Within}
use Rattle.asp_base.proofs.Bools.{or_false}
use Rattle.asp_base.proofs.Each.{each-weaker, each-push}
use Rattle.std.proofs.lemmas.List.Folds.{list_any-append}
use Rattle.ground_program.specs.Facts.{IsAtom}
use Rattle.ground_program.specs.Fresh.{Supply, IsLeastFree, taken}
use Rattle.ground_program.specs.declared.program.Head.{Head}
use Rattle.ground_program.specs.declared.program.Head.TheVariants.{Nothing, One, Choice}
use Rattle.ground_program.specs.declared.program.Body.{Body}
use Rattle.ground_program.specs.declared.program.Body.TheVariants.{All, Sum}
use Rattle.ground_program.specs.declared.program.Rule.{Rule}
use Rattle.rule_network.specs.Block.{Block, is_taken, is_input, these_or_all, Known, AllKnown, IsBefore, AllBefore, BodyFitsBlock, RuleFitsBlock, IsBlock, with_atom, with_rule}

pub taken-with : (a : ℕ) (net : Block) (b : ℕ)
    → is_taken (with_atom a net) b ≡ (is_taken net b || (a == b))
taken-with a net b =
    list_any-append (λ x. x == b) (net.supply.given ++ (a ∷ [])) net.supply.atoms
    ∙ ap (λ t. t || members net.supply.atoms b)
    (list_any-append (λ x. x == b) net.supply.given (a ∷ []))
    ∙ turn (members net.supply.given b) (a == b) (members net.supply.atoms b)
    ∙ ap (λ t. t || (a == b))
    (sym (list_any-append (λ x. x == b) net.supply.given net.supply.atoms))
  where
    turn : (g e m : Bool) → ((g || (e || false)) || m) ≡ ((g || m) || e)
    turn true true m = refl
    turn true false m = refl
    turn false true true = refl
    turn false true false = refl
    turn false false true = refl
    turn false false false = refl

pub made-with : (a : ℕ) (net : Block) (b : ℕ)
    → members (with_atom a net).made b ≡ (members net.made b || (a == b))
made-with a net b =
    list_any-append (λ x. x == b) net.made (a ∷ [])
    ∙ ap (λ t. members net.made b || t) (or_false (a == b))

-- what is not taken is none that is
pub differs : (net : Block) (a b : ℕ) → is_taken net a ≡ false → is_taken net b ≡ true
    → (a == b) ≡ false
differs net a b f t = go (a == b) refl
  where
    go : (e : Bool) → (a == b) ≡ e → e ≡ false
    go true e = absurd (true≢false (sym t ∙ ap (is_taken net) (sym (eqb-true a b e)) ∙ f))
    go false e = refl

-- ---- a block with more in it

module _ (old new : Block) (up : Within (is_taken old) (is_taken new))
    (made : Within (members old.made) (members new.made))
    (apart : (a : ℕ) → is_taken old a ≡ true → members new.made a ≡ true
    → members old.made a ≡ true)
    (same : new.inputs ≡ old.inputs) where
  not-made : (a : ℕ) → is_taken old a ≡ true → members old.made a ≡ false
      → members new.made a ≡ false
  not-made a t f = go (members new.made a) refl
    where
      go : (b : Bool) → members new.made a ≡ b → b ≡ false
      go true e = absurd (true≢false (sym (apart a t e) ∙ f))
      go false e = refl

  made-or_input : (a : ℕ) → (members old.made a || is_input old a) ≡ true
      → (members new.made a || is_input new a) ≡ true
  made-or_input a e =
      ⊎_elim (λ m. or_left _ _ (made a m))
      (λ i. or_right (members new.made a) _ (ap (λ inputs. these_or_all inputs a) same ∙ i))
      (or_cases (members old.made a) (is_input old a) e)

  pub known-more : (l : Literal) → Known old l → Known new l
  known-more (Pos a) k = (up a k.0, made-or_input a k.1)
  known-more (Neg a) k = (up a k.0, not-made a k.0 k.1)

  before-more : (head : ℕ) (l : Literal) → IsBefore old head l → IsBefore new head l
  before-more head (Pos a) k = (known-more (Pos a) k.0, λ m. k.1 (apart a k.0.0 m))
  before-more head (Neg a) k = known-more (Neg a) k

  body-more : (head : ℕ) (body : Body) → BodyFitsBlock old head body → BodyFitsBlock new head body
  body-more head (All lits) k = each-weaker _ _ (λ l. before-more head l) lits k
  body-more head (Sum bound items) k = absurd k

  pub rule-more : (head : Head) (body : Body) → RuleFitsBlock old head body
      → RuleFitsBlock new head body
  rule-more Nothing body k = absurd k
  rule-more (One a) body k = (made a k.0, body-more a body k.1)
  rule-more (Choice as_) body k = absurd k

-- ---- one more atom

module _ (net : Block) (a : ℕ) (is : IsBlock net) (free : IsLeastFree (taken net.supply) a) where
  up : Within (is_taken net) (is_taken (with_atom a net))
  up b t = taken-with a net b ∙ or_left _ _ t

  made_up : Within (members net.made) (members (with_atom a net).made)
  made_up b t = made-with a net b ∙ or_left _ _ t

  apart : (b : ℕ) → is_taken net b ≡ true → members (with_atom a net).made b ≡ true
      → members net.made b ≡ true
  apart b t m =
      ⊎_elim (λ k. k) (λ k. absurd (true≢false (sym k ∙ differs net a b free.free t)))
      (or_cases _ _ (sym (made-with a net b) ∙ m))

  dense : (b c : ℕ) → members (with_atom a net).made b ≡ true → 0 < c → c < b
      → is_taken (with_atom a net) c ≡ true
  dense b c m p l =
      up c (⊎_elim (λ k. is.dense b c k p l)
      (λ k. let same : a ≡ b = eqb-true a b k in free.least c p (omega arith))
      (or_cases _ _ (sym (made-with a net b) ∙ m)))

  within : Within (members (with_atom a net).made) (is_taken (with_atom a net))
  within b m =
      taken-with a net b
      ∙ ⊎_elim (λ k. or_left _ _ (is.made b k)) (λ k. or_right _ _ k)
      (or_cases _ _ (sym (made-with a net b) ∙ m))

  pub IsBlock-with_atom : a ≤ 2 ^ 30 → IsBlock (with_atom a net)
  IsBlock-with_atom most = record {
    atoms = each-push IsAtom net.made a is.atoms (free.positive, most);
    made = within;
    dense = dense;
    rules = each-weaker _ _
        (λ rule k. rule-more net (with_atom a net) up made_up apart refl rule.head rule.body k)
        net.rules is.rules;
  }

  -- a new atom is above the atoms of the block
  above : (b : ℕ) → members net.made b ≡ true → b < a
  above b m =
      ⊎_elim
      (λ e. absurd (true≢false (sym (is.made b m) ∙ (ap (is_taken net) (sym e) ∙ free.free))))
      (λ d. ⊎_elim
      (λ l. absurd (true≢false (sym (is.dense b a m free.positive l) ∙ free.free))) (λ l. l) d)
      (cases_order a b)

  known-with : (l : Literal) → Known net l → Known (with_atom a net) l
  known-with l k = known-more net (with_atom a net) up made_up apart refl l k

  before-new : (l : Literal) → Known net l → IsBefore (with_atom a net) a l
  before-new (Pos b) k = (known-with (Pos b) k, λ m. above b (apart b k.0 m))
  before-new (Neg b) k = known-with (Neg b) k

  pub all_before-new : (lits : List Literal) → AllKnown net lits
      → AllBefore (with_atom a net) a lits
  all_before-new lits k = each-weaker _ _ before-new lits k

-- ---- one more rule

pub IsBlock-with_rule : (net : Block) (a : ℕ) (body : List Literal) → IsBlock net
    → members net.made a ≡ true → AllBefore net a body → IsBlock (with_rule a body net)
IsBlock-with_rule net a body is m b = record {
  atoms = is.atoms;
  made = is.made;
  dense = is.dense;
  rules = each-push _ net.rules _ is.rules (m, b);
}

-- ---- the same of what the fields of a network become

pub IsBlock-drawn : (net : Block) (a : ℕ) (supply : Supply) (made : List ℕ) → IsBlock net
    → IsLeastFree (taken net.supply) a → a ≤ 2 ^ 30
    → supply ≡ record net.supply { given = net.supply.given ++ (a ∷ []) }
    → made ≡ net.made ++ (a ∷ []) → IsBlock (record net { supply = supply; made = made })
IsBlock-drawn net a supply made is free most s m =
    subst₂ (λ s m. IsBlock (record net { supply = s; made = m })) (sym s) (sym m)
    (IsBlock-with_atom net a is free most)

pub IsBlock-pushed : {E : Type 0} (net : Block) (a b : ℕ) (body lits : List Literal)
    (rules : List Rule) (r : Result (Unit {0}) E)
    → IsBlock net → members net.made a ≡ true → AllBefore net a body → b ≡ a → lits ≡ body
    → OnOk r (rules ≡ net.rules ++ (record { head = One b; body = All lits } ∷ []))
    → OnErr r (rules ≡ net.rules) → IsBlock (record net { rules = rules })
IsBlock-pushed net a b body lits rules (Ok u) is m k e f ok err =
    let last : ℕ → List Literal → List Rule =
    λ b lits. record { head = One b; body = All lits } ∷ [] in
    subst (λ rules. IsBlock (record net { rules = rules }))
    (sym (ok ∙ ap₂ (λ b lits. net.rules ++ last b lits) e f)) (IsBlock-with_rule net a body is m k)
IsBlock-pushed net a b body lits rules (Err u) is m k e f ok err =
    subst (λ rules. IsBlock (record net { rules = rules })) (sym err) is
