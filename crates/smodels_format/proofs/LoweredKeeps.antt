-- The constraints of a lowered program: no rule is without head, and the required literals are those of the program and, where it
-- has a rule without head, that the atom of these rules is false.
use Rattle.std.proofs.Common.{◌≡◌, refl, sym, ◌∙◌, ap, ap₂, ℕ, suc, ◌+◌, Bool, true, false, cond, not, ◌&&◌, List, [], ◌∷◌, ◌++◌, map, filter, reverse}
use Rattle.std.specs.List.{list_any, list_all}
use Rattle.std.proofs.lemmas.Bool.{or_from}
use Rattle.std.proofs.lemmas.List.Folds.{list_any-append, list_all-append}
use Rattle.asp_base.specs.Literal.{Literal, Pos, Neg, is_positive, all_hold, literal_holds}
use Rattle.asp_base.specs.Sets.{Set}
use Rattle.ground_program.specs.Draft.{levels_onto}
use Rattle.ground_program.specs.Ground.{Ground}
use Rattle.ground_program.specs.Stable.{is_headless}
use Rattle.ground_program.specs.declared.program.Head.{Head}
use Rattle.ground_program.specs.declared.program.Head.TheVariants.{Nothing, One, Choice}
use Rattle.ground_program.specs.declared.program.Body.{Body}
use Rattle.ground_program.specs.declared.program.Body.TheVariants.{All, Sum}
use Rattle.ground_program.specs.declared.program.Rule.{Rule}
use Rattle.ground_program.specs.declared.program.Show.{Show}
use Rattle.smodels_format.specs.Lowering.{body_in_order, items_negatives_first, rule_draws, after_rules, rule_lowered, rules_lowered, show_rules, symbols_from, is_single, has_headless, first_index, atoms_required}
use Rattle.smodels_format.specs.Parts.{levels_from, show_of}
use Rattle.std.proofs.lemmas.List.{map-append}
use Rattle.asp_base.proofs.Bools.{and_true, and_swap, and_assoc}
use Rattle.smodels_format.proofs.Parted.{list_all-parts, negatives-are, positives-are}
use Rattle.smodels_format.proofs.LoweredRules.{all_rules}

-- Q is the lowered program of P, with these new atoms
pub record IsLowered (new : ℕ → ℕ) (P Q : Ground) : Type 0 where
  pub rules : Q.rules ≡ all_rules new P
  pub required : Q.required ≡ map (λ a. Pos a) (atoms_required is_positive P.required) ++ map (λ a. Neg a) (atoms_required (λ l. not (is_positive l)) P.required ++ cond (has_headless P) (new 0 ∷ []) [])
  pub edges : Q.edges ≡ []
  pub shows : Q.shows ≡ map show_of (symbols_from new (after_rules (first_index P) P.rules) P.shows)
  pub levels : Q.levels ≡ levels_onto [] (levels_from 0 (map (λ level. items_negatives_first level.items) (reverse P.levels)))

-- ---- required literals

refuted-holds : (b : Bool) (a : ℕ) (X M : Set) → all_hold (map (λ c. Neg c) (cond b (a ∷ []) [])) X M ≡ cond b (not (M a)) true
refuted-holds true a X M = and_true (not (M a))
refuted-holds false a X M = refl

module _ (new : ℕ → ℕ) (P Q : Ground) (q : IsLowered new P Q) where
  pub required-says : (X M : Set) → all_hold Q.required X M ≡ (all_hold P.required X M && cond (has_headless P) (not (M (new 0))) true)
  required-says X M =
      let h : Literal → Bool = λ l. literal_holds l X M in
      let plus : List Literal = filter is_positive P.required in
      let minus : List Literal = filter (λ l. not (is_positive l)) P.required in
      let last : List Literal = map (λ c. Neg c) (cond (has_headless P) (new 0 ∷ []) []) in
      let list_is : Q.required ≡ plus ++ (minus ++ last) =
      q.required ∙ ap₂ ◌++◌ (positives-are P.required) (map-append (λ a. Neg a) (atoms_required (λ l. not (is_positive l)) P.required) (cond (has_headless P) (new 0 ∷ []) []) ∙ ap (λ ls. ls ++ last) (negatives-are P.required)) in
      ap (list_all h) list_is
      ∙ (list_all-append h plus (minus ++ last)
      ∙ (ap (λ b. list_all h plus && b) (list_all-append h minus last)
      ∙ (and_swap (list_all h plus) (list_all h minus) (list_all h last) ∙ sym (and_assoc (list_all h minus) (list_all h plus) (list_all h last))
      ∙ ap₂ ◌&&◌ (list_all-parts is_positive h P.required) (refuted-holds (has_headless P) (new 0) X M))))

-- ---- heads

abbrev headed : Rule → Bool
headed rule = is_headless rule.head

rule-headed : (new : ℕ → ℕ) (refuted n : ℕ) (head : Head) (body : Body) (rest : List Rule) → list_any headed rest ≡ false → list_any headed (rule_lowered new refuted n head body ++ rest) ≡ false
rule-headed new refuted n Nothing body rest h = h
rule-headed new refuted n (One b) body rest h = h
rule-headed new refuted n (Choice as_) (All lits) rest h = h
rule-headed new refuted n (Choice as_) (Sum bound items) rest h = h

rules-headed : (new : ℕ → ℕ) (refuted n : ℕ) (rules : List Rule) → list_any headed (rules_lowered new refuted n rules) ≡ false
rules-headed new refuted n [] = refl
rules-headed new refuted n (rule ∷ rules) =
    rule-headed new refuted n rule.head rule.body _ (rules-headed new refuted (n + rule_draws rule.head rule.body) rules)

shows-headed : (new : ℕ → ℕ) (n : ℕ) (shows : List Show) → list_any headed (show_rules new n shows) ≡ false
shows-headed new n [] = refl
shows-headed new n (show ∷ shows) = go (is_single show.condition) _ _ (shows-headed new n shows) (shows-headed new (suc n) shows)
  where
    go : (b : Bool) (us vs : List Rule) → list_any headed us ≡ false → list_any headed vs ≡ false → list_any headed (cond b us (record { head = One (new n); body = body_in_order (All show.condition) } ∷ vs)) ≡ false
    go true us vs p q = p
    go false us vs p q = q

-- each rule has a head
pub all-headed : (new : ℕ → ℕ) (P : Ground) → list_any (λ rule. is_headless rule.head) (all_rules new P) ≡ false
all-headed new P =
    list_any-append headed (rules_lowered new (new 0) (first_index P) P.rules) (show_rules new (after_rules (first_index P) P.rules) P.shows)
    ∙ or_from _ _ (rules-headed new (new 0) (first_index P) P.rules) (shows-headed new (after_rules (first_index P) P.rules) P.shows)
