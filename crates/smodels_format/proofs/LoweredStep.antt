-- What the rules of a lowered program derive at once: of the program's atoms what its rules derive, and each new atom where its body
-- holds.
use Rattle.asp_base.proofs.Bools.{and_true, or_swap}
use Rattle.std.proofs.Common.{◌≡◌, refl, sym, ◌∙◌, ap, ap₂, ℕ, suc, ◌+◌, ◌==◌, Bool, true, false, cond, ◌&&◌, ◌||◌, List, [], ◌∷◌, ◌++◌}
use Rattle.std.specs.List.{AllByRecursion}
use Rattle.std.proofs.lemmas.Bool.{or_from, and_left, true≢false, ne_eqb}
use Rattle.asp_base.specs.Sets.{Set, members}
use Rattle.ground_program.specs.Closed.{HasWeights, Weighed}
use Rattle.ground_program.specs.Facts.{Among, HeadFits, BodyFits, RuleFits, ShowFits}
use Rattle.ground_program.specs.Stable.{holds, head_has, step, is_headless}
use Rattle.ground_program.specs.declared.program.Head.{Head}
use Rattle.ground_program.specs.declared.program.Head.TheVariants.{Nothing, One, Choice}
use Rattle.ground_program.specs.declared.program.Body.{Body}
use Rattle.ground_program.specs.declared.program.Body.TheVariants.{All, Sum}
use Rattle.ground_program.specs.declared.program.Rule.{Rule}
use Rattle.ground_program.specs.declared.program.Show.{Show}
use Rattle.smodels_format.specs.Lowering.{body_in_order, rule_draws, rule_lowered, rules_lowered, show_rules, is_single}
use Rattle.smodels_format.proofs.LoweredBodies.{holds-in_order}
use Rattle.smodels_format.proofs.LoweredNear.{Near, headless_holds, holds-near, head-outside}
use Rattle.smodels_format.proofs.LoweredFresh.{rule_value, rules_value, shows_value, RuleNamed, RulesNamed}

spread : (r b h v : Bool) → ((r && b) || ((r && h) || v)) ≡ ((r && (b || h)) || v)
spread true true h v = refl
spread true false h v = refl
spread false b h v = refl

-- an atom of a list is none that the list has not
pub apart : (atoms : List ℕ) (a b : ℕ) → members atoms a ≡ true → members atoms b ≡ false → (b == a) ≡ false
apart atoms a b h k = ne_eqb b a (λ e. true≢false (sym h ∙ (ap (members atoms) (sym e) ∙ k)))

module _ (new : ℕ → ℕ) (refuted : ℕ) (atoms : List ℕ) (fresh : (k : ℕ) → members atoms (new k) ≡ false)
    (Y X N M : Set) (x : Near atoms Y X) (m : Near atoms N M) where
  -- a lowered body says of the lowered program's sets what the body says
  reads : (body : Body) → BodyFits (Among atoms) body → HasWeights body → holds (body_in_order body) Y N ≡ holds body X M
  reads body f w = holds-in_order body Y N w ∙ holds-near atoms Y X N M x m body f

  -- ---- outside the atoms

  module _ (a : ℕ) (out : members atoms a ≡ false) where
    rule-outside : (n : ℕ) (head : Head) (body : Body) (rest : List Rule) (h v : Bool) → HeadFits (Among atoms) head → BodyFits (Among atoms) body → HasWeights body →
        step rest N Y a ≡ (((refuted == a) && h) || v) →
        step (rule_lowered new refuted n head body ++ rest) N Y a ≡ (((refuted == a) && ((is_headless head && holds body X M) || h)) || (rule_value new n head body X M a || v))
    rule-outside n Nothing body rest h v f g w e = ap₂ (λ b s. ((refuted == a) && b) || s) (reads body g w) e ∙ spread (refuted == a) (holds body X M) h v
    rule-outside n (One b) body rest h v f g w e = ap₂ (λ b s. (b && holds (body_in_order body) Y N) || s) (head-outside atoms (One b) N a f out) e
    rule-outside n (Choice as_) (All lits) rest h v f g w e = ap₂ (λ b s. (b && holds (body_in_order (All lits)) Y N) || s) (head-outside atoms (Choice as_) N a f out) e
    rule-outside n (Choice as_) (Sum bound items) rest h v f g w e =
        ap₂ (λ b s. ((new n == a) && b) || s) (reads (Sum bound items) g w) (ap₂ (λ b s. (b && (Y (new n) && true)) || s) (head-outside atoms (Choice as_) N a f out) e)
        ∙ or_swap ((new n == a) && holds (Sum bound items) X M) ((refuted == a) && h) v

    pub rules-outside : (n : ℕ) (rules : List Rule) → AllByRecursion (RuleFits (Among atoms)) rules → Weighed rules →
        step (rules_lowered new refuted n rules) N Y a ≡ (((refuted == a) && headless_holds rules X M) || rules_value new n rules X M a)
    rules-outside n [] f w = sym (none_of (refuted == a))
      where
        none_of : (b : Bool) → ((b && false) || false) ≡ false
        none_of true = refl
        none_of false = refl
    rules-outside n (rule ∷ rules) f w =
        let m : ℕ = n + rule_draws rule.head rule.body in
        rule-outside n rule.head rule.body (rules_lowered new refuted m rules) (headless_holds rules X M) (rules_value new m rules X M a) f.0.0 f.0.1 w.0 (rules-outside m rules f.1 w.1)

  -- ---- rules of shows, anywhere

  pub shows-derive : (n : ℕ) (shows : List Show) (a : ℕ) → AllByRecursion (ShowFits (Among atoms)) shows → step (show_rules new n shows) N Y a ≡ shows_value new n shows X M a
  shows-derive n [] a f = refl
  shows-derive n (show ∷ shows) a f = go (is_single show.condition) (show_rules new n shows) (show_rules new (suc n) shows) (shows-derive n shows a f.1) (shows-derive (suc n) shows a f.1)
    where
      named : Rule
      named = record { head = One (new n); body = body_in_order (All show.condition) }

      go : (b : Bool) (us vs : List Rule) → step us N Y a ≡ shows_value new n shows X M a → step vs N Y a ≡ shows_value new (suc n) shows X M a →
          step (cond b us (named ∷ vs)) N Y a ≡ cond b (shows_value new n shows X M a) (((new n == a) && holds (All show.condition) X M) || shows_value new (suc n) shows X M a)
      go true us vs p q = p
      go false us vs p q = ap₂ (λ b s. ((new n == a) && b) || s) (reads (All show.condition) f.0.1 tt) q

  -- ---- at the atoms

  module _ (a : ℕ) (within : members atoms a ≡ true) where
    pub shows-nothing : (n : ℕ) (shows : List Show) → shows_value new n shows X M a ≡ false
    shows-nothing n [] = refl
    shows-nothing n (show ∷ shows) = go (is_single show.condition) (shows-nothing n shows) (or_from _ _ (and_left _ _ (apart atoms a (new n) within (fresh n))) (shows-nothing (suc n) shows))
      where
        go : (b : Bool) {p q : Bool} → p ≡ false → q ≡ false → cond b p q ≡ false
        go true h k = h
        go false h k = k

    rule-inside : members atoms refuted ≡ false → (n : ℕ) (head : Head) (body : Body) (rest : List Rule) (s : Bool) → HeadFits (Among atoms) head → BodyFits (Among atoms) body → HasWeights body →
        RuleNamed new Y X M n head body → step rest N Y a ≡ s → step (rule_lowered new refuted n head body ++ rest) N Y a ≡ ((head_has head M a && holds body X M) || s)
    rule-inside r n Nothing body rest s f g w k e = ap₂ (λ b t. (b && holds (body_in_order body) Y N) || t) (apart atoms a refuted within r) e
    rule-inside r n (One b) body rest s f g w k e = ap₂ (λ p t. ((b == a) && p) || t) (reads body g w) e
    rule-inside r n (Choice as_) (All lits) rest s f g w k e =
        ap₂ ◌||◌ (ap₂ (λ p q. (members as_ a && p) && q) (m a within) (reads (All lits) g w)) e
    rule-inside r n (Choice as_) (Sum bound items) rest s f g w k e =
        ap₂ (λ b t. (b && holds (body_in_order (Sum bound items)) Y N) || t) (apart atoms a (new n) within (fresh n))
        (ap₂ ◌||◌ (ap₂ (λ p q. (members as_ a && p) && q) (m a within) (and_true (Y (new n)) ∙ k)) e)

    pub rules-inside : members atoms refuted ≡ false → (n : ℕ) (rules : List Rule) → AllByRecursion (RuleFits (Among atoms)) rules → Weighed rules → RulesNamed new Y X M n rules →
        step (rules_lowered new refuted n rules) N Y a ≡ step rules M X a
    rules-inside r n [] f w k = refl
    rules-inside r n (rule ∷ rules) f w k =
        let m : ℕ = n + rule_draws rule.head rule.body in
        rule-inside r n rule.head rule.body (rules_lowered new refuted m rules) (step rules M X a) f.0.0 f.0.1 w.0 k.0 (rules-inside r m rules f.1 w.1 k.1)
