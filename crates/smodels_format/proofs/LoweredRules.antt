-- All rules of a lowered program: they derive the program's atoms as its rules do, and each new atom where its body holds.
use Rattle.asp_base.proofs.Bools.{or_false}
use Rattle.asp_base.proofs.Each.{each-append}
use Rattle.std.proofs.Common.{◌≡◌, refl, ◌∙◌, ap, ap₂, ℕ, suc, ◌+◌, ◌≤◌, ◌==◌, Bool, true, false, cond, ◌&&◌, ◌||◌, List, [], ◌∷◌, ◌++◌, arith}
use Rattle.std.specs.List.{list_any}
use Rattle.std.proofs.lemmas.Bool.{and_left, and_right, or_parts, or_from}
use Rattle.asp_base.specs.Sets.{Set, members}
use Rattle.ground_program.specs.Closed.{HasWeights, Weighed}
use Rattle.ground_program.specs.Facts.{IsProgram}
use Rattle.ground_program.specs.Ground.{Ground}
use Rattle.ground_program.specs.Stable.{step, is_headless}
use Rattle.ground_program.specs.declared.program.Head.{Head}
use Rattle.ground_program.specs.declared.program.Head.TheVariants.{Nothing, One, Choice}
use Rattle.ground_program.specs.declared.program.Body.{Body}
use Rattle.ground_program.specs.declared.program.Body.TheVariants.{All, Sum}
use Rattle.ground_program.specs.declared.program.Rule.{Rule}
use Rattle.ground_program.specs.declared.program.Show.{Show}
use Rattle.ground_program.proofs.FactLaws.{program-weighed}
use Rattle.ground_program.proofs.Least.{step-append}
use Rattle.smodels_format.specs.Lowering.{body_in_order, rule_draws, after_rules, rule_lowered, rules_lowered, show_rules, is_single, has_headless, first_index}
use Rattle.smodels_format.proofs.LoweredBodies.{weights-in_order}
use Rattle.smodels_format.proofs.LoweredNear.{Near, headless_holds}
use Rattle.smodels_format.proofs.LoweredFresh.{Rises, after_rules-from, earlier, rules_value, shows_value, RulesNamed, ShowsNamed, rules-above, shows-below, rules-named, shows-named}
use Rattle.smodels_format.proofs.LoweredStep.{rules-outside, shows-derive, shows-nothing, rules-inside}

-- ---- weights

rule-weighed : (new : ℕ → ℕ) (refuted n : ℕ) (head : Head) (body : Body) (rest : List Rule) → HasWeights body → Weighed rest → Weighed (rule_lowered new refuted n head body ++ rest)
rule-weighed new refuted n Nothing body rest w r = (weights-in_order body w, r)
rule-weighed new refuted n (One b) body rest w r = (weights-in_order body w, r)
rule-weighed new refuted n (Choice as_) (All lits) rest w r = (tt, r)
rule-weighed new refuted n (Choice as_) (Sum bound items) rest w r = (weights-in_order (Sum bound items) w, (tt, r))

rules-weighed : (new : ℕ → ℕ) (refuted n : ℕ) (rules : List Rule) → Weighed rules → Weighed (rules_lowered new refuted n rules)
rules-weighed new refuted n [] w = tt
rules-weighed new refuted n (rule ∷ rules) w =
    rule-weighed new refuted n rule.head rule.body _ w.0 (rules-weighed new refuted (n + rule_draws rule.head rule.body) rules w.1)

shows-weighed : (new : ℕ → ℕ) (n : ℕ) (shows : List Show) → Weighed (show_rules new n shows)
shows-weighed new n [] = tt
shows-weighed new n (show ∷ shows) = go (is_single show.condition) _ _ (shows-weighed new n shows) (shows-weighed new (suc n) shows)
  where
    go : (b : Bool) (us vs : List Rule) → Weighed us → Weighed vs → Weighed (cond b us (record { head = One (new n); body = body_in_order (All show.condition) } ∷ vs))
    go true us vs p q = p
    go false us vs p q = (tt, q)

-- ---- without a rule without head no body of one holds

pub headless-none : (rules : List Rule) (X M : Set) → list_any (λ rule. is_headless rule.head) rules ≡ false → headless_holds rules X M ≡ false
headless-none [] X M e = refl
headless-none (rule ∷ rules) X M e =
    let k : (is_headless rule.head ≡ false) × (list_any (λ rule. is_headless rule.head) rules ≡ false) = or_parts _ _ e in
    or_from _ _ (and_left _ _ k.0) (headless-none rules X M k.1)

module _ (new : ℕ → ℕ) (P : Ground) where
  abbrev pub all_rules : List Rule
  all_rules = rules_lowered new (new 0) (first_index P) P.rules ++ show_rules new (after_rules (first_index P) P.rules) P.shows

  -- the new atoms whose bodies hold
  abbrev pub fresh_part : Set → Set → Set
  fresh_part X M a =
      (((new 0 == a) && headless_holds P.rules X M) || rules_value new (first_index P) P.rules X M a)
      || shows_value new (after_rules (first_index P) P.rules) P.shows X M a

  -- Z is X at the program's atoms, and has the new atoms whose bodies hold at X and M
  pub record Extends (Z X M : Set) : Type 0 where
    pub near : Near P.atoms Z X
    pub outside : (a : ℕ) → members P.atoms a ≡ false → Z a ≡ fresh_part X M a

module _ (new : ℕ → ℕ) (rises : Rises new) (P : Ground) (fresh : (k : ℕ) → members P.atoms (new k) ≡ false) (f : IsProgram P) where
  pub all_rules-weighed : Weighed (all_rules new P)
  all_rules-weighed = each-append _ _ (show_rules new (after_rules (first_index P) P.rules) P.shows) (rules-weighed new (new 0) (first_index P) P.rules (program-weighed P f)) (shows-weighed new _ P.shows)

  -- ---- each new atom stands for its body

  -- the atom of the rules without head stands for no other body
  refuted-apart : (k : ℕ) (X M : Set) → first_index P ≤ k → ((new 0 == new k) && headless_holds P.rules X M) ≡ false
  refuted-apart k X M h = go (has_headless P) refl h
    where
      go : (b : Bool) → has_headless P ≡ b → cond b 1 0 ≤ k → ((new 0 == new k) && headless_holds P.rules X M) ≡ false
      go true e l = and_left _ _ (earlier new rises X M k 0 (omega arith))
      go false e l = and_right _ _ (headless-none P.rules X M e)

  module _ (Z X M : Set) (outside : (a : ℕ) → members P.atoms a ≡ false → Z a ≡ fresh_part new P X M a) where
    new-is : (k : ℕ) → first_index P ≤ k → Z (new k) ≡ (rules_value new (first_index P) P.rules X M (new k) || shows_value new (after_rules (first_index P) P.rules) P.shows X M (new k))
    new-is k h = outside (new k) (fresh k) ∙ ap (λ b. (b || rules_value new (first_index P) P.rules X M (new k)) || shows_value new (after_rules (first_index P) P.rules) P.shows X M (new k)) (refuted-apart k X M h)

    pub all-rules-named : RulesNamed new Z X M (first_index P) P.rules
    all-rules-named = rules-named new rises X M Z (λ k. shows_value new (after_rules (first_index P) P.rules) P.shows X M (new k)) (first_index P) P.rules
        (λ k l. shows-below new rises X M k (after_rules (first_index P) P.rules) P.shows l) new-is

    pub all-shows-named : ShowsNamed new Z X M (after_rules (first_index P) P.rules) P.shows
    all-shows-named = shows-named new rises X M Z (after_rules (first_index P) P.rules) P.shows (λ k l.
        let start : ℕ = first_index P in
        let from : first_index P ≤ after_rules (first_index P) P.rules = after_rules-from (first_index P) P.rules in
        new-is k (omega arith) ∙ ap (λ b. b || shows_value new (after_rules (first_index P) P.rules) P.shows X M (new k)) (rules-above new rises X M k start P.rules l))

  -- ---- one step

  module _ (Z X N M : Set) (x : Near P.atoms Z X) (m : Near P.atoms N M) where
    pub step-outside : (a : ℕ) → members P.atoms a ≡ false → step (all_rules new P) N Z a ≡ fresh_part new P X M a
    step-outside a out =
        step-append (rules_lowered new (new 0) (first_index P) P.rules) (show_rules new (after_rules (first_index P) P.rules) P.shows) N Z a
        ∙ ap₂ ◌||◌ (rules-outside new (new 0) P.atoms fresh Z X N M x m a out (first_index P) P.rules f.rules (program-weighed P f))
        (shows-derive new (new 0) P.atoms fresh Z X N M x m (after_rules (first_index P) P.rules) P.shows a f.shows)

    pub step-inside : RulesNamed new Z X M (first_index P) P.rules → (a : ℕ) → members P.atoms a ≡ true → step (all_rules new P) N Z a ≡ step P.rules M X a
    step-inside named a within =
        step-append (rules_lowered new (new 0) (first_index P) P.rules) (show_rules new (after_rules (first_index P) P.rules) P.shows) N Z a
        ∙ (ap₂ ◌||◌ (rules-inside new (new 0) P.atoms fresh Z X N M x m a within (fresh 0) (first_index P) P.rules f.rules (program-weighed P f) named)
        (shows-derive new (new 0) P.atoms fresh Z X N M x m (after_rules (first_index P) P.rules) P.shows a f.shows
        ∙ shows-nothing new (new 0) P.atoms fresh Z X N M x m a within (after_rules (first_index P) P.rules) P.shows)
        ∙ or_false _)
