-- What a block says of the atoms outside it, and what its rules say of its own.
use Rattle.std.proofs.Common.{◌≡◌, refl, sym, ◌∙◌, ap, subst, ℕ, zero, suc, Bool, true, false, not, ◌&&◌, ◌||◌, List, [], ◌∷◌, length, ⊎_elim}
use Rattle.std.specs.List.{AllByRecursion}
use Rattle.std.proofs.lemmas.Bool.{and_parts, or_cases, or_left, or_right, true≢false, eqb-true}
use Rattle.asp_base.specs.Sets.{Set, members, Within, Same}
use Rattle.asp_base.proofs.Bools.{and_false, and_true, same_test}
use Rattle.asp_base.proofs.Each.{each-weaker}
use Rattle.ground_program.specs.Closed.{Weighed, HasWeights}
use Rattle.ground_program.specs.Stable.{head_has, step, rounds, grown}
use Rattle.ground_program.specs.declared.program.Head.{Head}
use Rattle.ground_program.specs.declared.program.Head.TheVariants.{Nothing, One, Choice}
use Rattle.ground_program.specs.declared.program.Body.{Body}
use Rattle.ground_program.specs.declared.program.Body.TheVariants.{All, Sum}
use Rattle.ground_program.specs.declared.program.Rule.{Rule}
use Rattle.ground_program.proofs.Compose.{equal}
use Rattle.ground_program.proofs.Least.{grown-closed, grown-smallest, rounds-more, step-mono}
use Rattle.rule_network.specs.Block.{Block, BodyFitsBlock, RuleFitsBlock, IsBlock, outside, closure}
use Rattle.rule_network.proofs.ClosureLaws.{within-rounds}

block-weighed : (net : Block) → IsBlock net → Weighed net.rules
block-weighed net is = each-weaker _ _ (λ rule k. weights rule.head rule.body k) net.rules is.rules
  where
    body_weights : (a : ℕ) (body : Body) → BodyFitsBlock net a body → HasWeights body
    body_weights a (All lits) k = tt
    body_weights a (Sum bound items) k = absurd k

    weights : (head : Head) (body : Body) → RuleFitsBlock net head body → HasWeights body
    weights Nothing body k = absurd k
    weights (One a) body k = body_weights a body k.1
    weights (Choice as_) body k = absurd k

-- the rules derive atoms of the block alone
step-made : (net : Block) (M X : Set) (rules : List Rule)
    → AllByRecursion (λ rule. RuleFitsBlock net rule.head rule.body) rules
    → Within (step rules M X) (members net.made)
step-made net M X [] k a e = absurd (true≢false (sym e))
step-made net M X (rule ∷ rules) k a e =
    ⊎_elim (λ d. own rule.head rule.body k.0 ((and_parts _ _ d).0))
    (λ d. step-made net M X rules k.1 a d) (or_cases _ _ e)
  where
    own : (head : Head) (body : Body) → RuleFitsBlock net head body → head_has head M a ≡ true
        → members net.made a ≡ true
    own Nothing body k h = absurd k
    own (One b) body k h = subst (λ c. members net.made c ≡ true) (eqb-true b a h) k.0
    own (Choice as_) body k h = absurd k

-- each round adds what the rules derive
rounds-derived : (n : ℕ) (rules : List Rule) (M X : Set) → Weighed rules → (a : ℕ)
    → rounds n rules M X a ≡ true → X a ≡ false → step rules M (rounds n rules M X) a ≡ true
rounds-derived zero rules M X w a e f = absurd (true≢false (sym e ∙ f))
rounds-derived (suc n) rules M X w a e f =
    step-mono rules M (rounds n rules M X) (rounds (suc n) rules M X) w (rounds-more n rules M X) a
    (⊎_elim (λ p. rounds-derived n rules M X w a p f) (λ p. p) (or_cases _ _ e))

pub closure-begins : (net : Block) (X M : Set) → ((a : ℕ) → members net.made a ≡ true → X a ≡ false)
    → Same (closure net X M) (grown net.rules M X)
unfolding closure
closure-begins net X M h =
    subst (λ Y. Same (grown net.rules M Y) (grown net.rules M X))
    (sym (equal _ _ (λ a. stays (X a) (members net.made a) (h a)))) (λ a. refl)
  where
    stays : (x m : Bool) → (m ≡ true → x ≡ false) → (x && not m) ≡ x
    stays true true h = sym (h refl)
    stays true false h = refl
    stays false m h = refl

-- the set, with the block's atoms
abbrev with_made : Block → Set → Set
with_made net X b = outside net X b || members net.made b

pub closure-outside : (net : Block) (X M : Set) (a : ℕ) → IsBlock net → members net.made a ≡ false
    → closure net X M a ≡ X a
unfolding closure
closure-outside net X M a is f = same_test _ _ there back
  where
    within : Within (grown net.rules M (outside net X)) (with_made net X)
    within =
        grown-smallest net.rules M (outside net X) (with_made net X) (block-weighed net is)
        (λ b e. or_left _ _ e)
        (λ b e. or_right (outside net X b) _
        (step-made net M (with_made net X) net.rules is.rules b e))

    there : grown net.rules M (outside net X) a ≡ true → X a ≡ true
    there t =
        ⊎_elim (λ k. (and_parts (X a) (not (members net.made a)) k).0)
        (λ k. absurd (true≢false (sym k ∙ f)))
        (or_cases (outside net X a) (members net.made a) (within a t))

    back : X a ≡ true → grown net.rules M (outside net X) a ≡ true
    back e =
        within-rounds (length net.rules) net.rules M (outside net X) a
        (ap (λ m. X a && not m) f ∙ and_true (X a) ∙ e)

pub closure-made : (net : Block) (X M : Set) (a : ℕ) → IsBlock net → members net.made a ≡ true
    → closure net X M a ≡ step net.rules M (closure net X M) a
unfolding closure
closure-made net X M a is m =
    let without : outside net X a ≡ false = ap (λ b. X a && not b) m ∙ and_false (X a) in
    same_test _ _
    (λ t. rounds-derived (length net.rules) net.rules M (outside net X) (block-weighed net is) a t
    without)
    (grown-closed net.rules M (outside net X) (block-weighed net is) a)
