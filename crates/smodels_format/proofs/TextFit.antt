-- The parts of a program that can be written are those that smodels text can say, so its text is read as the lowered program.
use Rattle.smodels_format.proofs.WrittenSteps.{after_rules-few, size-many}
use Rattle.std.proofs.Common.{◌≡◌, refl, sym, ℕ, suc, ◌+◌, ◌^◌, ◌<◌, ◌≤◌, ℤ, pos, negsuc, int_le, Bool, true, false, cond, not, List, [], ◌∷◌, map, filter, reverse, length, Ok, arith}
use mathlib.Core.List.{reverse_aux}
use Rattle.std.specs.List.{AllByRecursion, list_all}
use Rattle.std.proofs.lemmas.Bool.{and_parts, true≢false}
use Rattle.std.proofs.lemmas.Int.{ints}
use Rattle.asp_base.specs.Literal.{Literal, Pos, Neg, atom_of, is_positive}
use Rattle.ground_program.specs.Facts.{IsAtom, Among, IsShort, FitsWeight, FitsBodyWeight, LiteralsFit, HeadFits, BodyFits, RuleFits, LevelFits, ShowFits, IsProgram}
use Rattle.ground_program.specs.Fresh.{new_atom}
use Rattle.ground_program.specs.Ground.{Ground}
use Rattle.ground_program.specs.Size.{size}
use Rattle.ground_program.specs.declared.program.Head.{Head}
use Rattle.ground_program.specs.declared.program.Head.TheVariants.{Nothing, One, Choice}
use Rattle.ground_program.specs.declared.program.Body.{Body}
use Rattle.ground_program.specs.declared.program.Body.TheVariants.{All, Sum}
use Rattle.ground_program.specs.declared.program.Rule.{Rule}
use Rattle.ground_program.specs.declared.program.Level.{Level}
use Rattle.ground_program.specs.declared.program.Show.{Show}
use Rattle.ground_program.proofs.FreshLaws.{new_atom-least, new_atom-most}
use Rattle.asp_base.proofs.Each.{each-append, each-map, each-member, each-weaker}
use Rattle.rising_numbers.proofs.RisingLaws.{members-above}
use Rattle.smodels_format.specs.Lowering.{body_in_order, body_draws, rule_draws, after_rules, is_single, single_atom, choice_lowered, rule_lowered, rules_lowered, symbols_from, show_rules, items_negatives_first, has_headless, first_index, parts_of, lowered}
use Rattle.smodels_format.specs.Read.{smodels_of}
use Rattle.smodels_format.specs.Written.{smodels_text}
use Rattle.smodels_format.specs.Writable.{has_none, is_writable_name, is_writable}
use Rattle.smodels_format.proofs.LoweredFresh.{after_rules-from}
use Rattle.smodels_format.proofs.TextOrder.{atoms-fit, literals-in_order, single-in_order, items-in_order, bound-fits}
use Rattle.smodels_format.proofs.TextParts.{ItemsInOrder, HasLine, SymbolFits, PartsFit}
use Rattle.smodels_format.proofs.TextRoundTrip.{parts-read}

-- ---- a program's atoms are numbers of atoms

atom-from_among : (P : Ground) → IsProgram P → (a : ℕ) → Among P.atoms a → IsAtom a
atom-from_among P f a m = (members-above 0 P.atoms a f.atoms_rise m, each-member (λ x. x ≤ 2 ^ 30) P.atoms a f.atoms_fit m)

-- ---- how many there are

first-most : (b : Bool) → cond b 1 0 ≤ 1
first-most true = omega arith
first-most false = omega arith

-- ---- rules and shows, with new atoms below a bound

abbrev Line : Rule → Type 0
Line rule = HasLine rule.head rule.body

module _ (new : ℕ → ℕ) (most : ℕ) (new_fit : (k : ℕ) → k < most → IsAtom (new k)) (Fits : ℕ → Type 0) (atom : (a : ℕ) → Fits a → IsAtom a) where
  literals-are_atoms : (lits : List Literal) → LiteralsFit Fits lits → LiteralsFit IsAtom lits
  literals-are_atoms lits h = each-weaker (λ l. Fits (atom_of l)) (λ l. IsAtom (atom_of l)) (λ l k. atom (atom_of l) k) lits h

  one-line : (a : ℕ) (body : Body) → IsAtom a → BodyFits Fits body → HasLine (One a) (body_in_order body)
  one-line a (All lits) h k = (h, literals-in_order lits k.0 (literals-are_atoms lits k.1))
  one-line a (Sum bound items) h k = (
    h,
    bound-fits bound k.0,
    items-in_order items k.1
        (each-weaker (λ item. Fits (atom_of item.0) × FitsBodyWeight item.1) (λ item. IsAtom (atom_of item.0)) (λ item f. atom (atom_of item.0) f.0) items k.2)
        (each-weaker (λ item. Fits (atom_of item.0) × FitsBodyWeight item.1) (λ item. FitsBodyWeight item.1) (λ item f. f.1) items k.2),
  )

  choice-lines : (n : ℕ) (as_ : List ℕ) (body : Body) → n + body_draws body ≤ most → HeadFits Fits (Choice as_) → BodyFits Fits body → AllByRecursion Line (choice_lowered new (new 0) n as_ body)
  choice-lines n as_ (All lits) l h k = ((h.0, each-weaker Fits IsAtom atom as_ h.1, literals-in_order lits k.0 (literals-are_atoms lits k.1)), tt)
  choice-lines n as_ (Sum bound items) l h k =
      let here : IsAtom (new n) = new_fit n (omega arith) in
      (one-line (new n) (Sum bound items) here k, ((h.0, each-weaker Fits IsAtom atom as_ h.1, single-in_order (new n) here), tt))

  rule-lines : (n : ℕ) (head : Head) (body : Body) → IsAtom (new 0) → n + rule_draws head body ≤ most → HeadFits Fits head → BodyFits Fits body → AllByRecursion Line (rule_lowered new (new 0) n head body)
  rule-lines n Nothing body refuted l h k = (one-line (new 0) body refuted k, tt)
  rule-lines n (One a) body refuted l h k = (one-line a body (atom a h) k, tt)
  rule-lines n (Choice as_) body refuted l h k = choice-lines n as_ body l h k

  rules-lines : (n : ℕ) (rules : List Rule) → IsAtom (new 0) → after_rules n rules ≤ most → AllByRecursion (RuleFits Fits) rules → AllByRecursion Line (rules_lowered new (new 0) n rules)
  rules-lines n [] refuted l h = tt
  rules-lines n (rule ∷ rules) refuted l h =
      let m : ℕ = n + rule_draws rule.head rule.body in
      let from : n + rule_draws rule.head rule.body ≤ after_rules (n + rule_draws rule.head rule.body) rules = after_rules-from m rules in
      each-append Line (rule_lowered new (new 0) n rule.head rule.body) (rules_lowered new (new 0) m rules)
      (rule-lines n rule.head rule.body refuted (omega arith) h.0.0 h.0.1) (rules-lines m rules refuted l h.1)

  shows-lines : (n : ℕ) (shows : List Show) → n + length shows ≤ most → AllByRecursion (ShowFits Fits) shows → AllByRecursion Line (show_rules new n shows)
  shows-lines n [] l h = tt
  shows-lines n (show ∷ shows) l h = by (is_single show.condition) (shows-lines n shows (omega arith) h.1) (shows-lines (suc n) shows (omega arith) h.1)
    where
      by : (b : Bool) → AllByRecursion Line (show_rules new n shows) → AllByRecursion Line (show_rules new (suc n) shows)
          → AllByRecursion Line (cond b (show_rules new n shows) (record { head = One (new n); body = body_in_order (All show.condition) } ∷ show_rules new (suc n) shows))
      by true p q = p
      by false p q = (one-line (new n) (All show.condition) (new_fit n (omega arith)) h.0.1, q)

  single-fits : (lits : List Literal) → is_single lits ≡ true → LiteralsFit Fits lits → IsAtom (single_atom lits)
  single-fits [] e h = absurd (true≢false (sym e))
  single-fits (Neg a ∷ lits) e h = absurd (true≢false (sym e))
  single-fits (Pos a ∷ []) e h = atom a h.0
  single-fits (Pos a ∷ l ∷ lits) e h = absurd (true≢false (sym e))

  symbols-fit : (n : ℕ) (shows : List Show) → n + length shows ≤ most → list_all (λ show. is_writable_name show.name) shows ≡ true → AllByRecursion (ShowFits Fits) shows
      → AllByRecursion SymbolFits (symbols_from new n shows)
  symbols-fit n [] l w h = tt
  symbols-fit n (show ∷ shows) l w h = by (is_single show.condition) refl (symbols-fit n shows (omega arith) parts.1 h.1) (symbols-fit (suc n) shows (omega arith) parts.1 h.1)
    where
      parts : (is_writable_name show.name ≡ true) × (list_all (λ show. is_writable_name show.name) shows ≡ true)
      parts = and_parts _ _ w

      by : (b : Bool) → is_single show.condition ≡ b → AllByRecursion SymbolFits (symbols_from new n shows) → AllByRecursion SymbolFits (symbols_from new (suc n) shows)
          → AllByRecursion SymbolFits (cond b ((single_atom show.condition, show.name) ∷ symbols_from new n shows) ((new n, show.name) ∷ symbols_from new (suc n) shows))
      by true e p q = (record { atom = single-fits show.condition e h.0.1.1; feeds = h.0.0; name = parts.0 }, p)
      by false e p q = (record { atom = new_fit n (omega arith); feeds = h.0.0; name = parts.0 }, q)

-- ---- levels

weight-fits : (w : ℤ) → FitsWeight w → int_le (pos 0) w ≡ true → FitsBodyWeight w
weight-fits (pos n) h e = (omega (arith, ints), h.1)
weight-fits (negsuc n) h e = absurd (true≢false (sym e))

weights-fit : (items : List (Literal × ℤ)) → list_all (λ item. int_le (pos 0) item.1) items ≡ true → AllByRecursion (λ item. FitsWeight item.1) items → AllByRecursion (λ item. FitsBodyWeight item.1) items
weights-fit [] e h = tt
weights-fit (item ∷ items) e h =
    let parts : (int_le (pos 0) item.1 ≡ true) × (list_all (λ item. int_le (pos 0) item.1) items ≡ true) = and_parts _ _ e in
    (weight-fits item.1 h.0 parts.0, weights-fit items parts.1 h.1)

module _ (Fits : ℕ → Type 0) (atom : (a : ℕ) → Fits a → IsAtom a) where
  level-fits : (level : Level) → IsShort level.items → LevelFits Fits level → list_all (λ item. int_le (pos 0) item.1) level.items ≡ true → ItemsInOrder (items_negatives_first level.items)
  level-fits level short h e =
      items-in_order level.items short
      (each-weaker (λ item. Fits (atom_of item.0) × FitsWeight item.1) (λ item. IsAtom (atom_of item.0)) (λ item f. atom (atom_of item.0) f.0) level.items h)
      (weights-fit level.items e (each-weaker (λ item. Fits (atom_of item.0) × FitsWeight item.1) (λ item. FitsWeight item.1) (λ item f. f.1) level.items h))

  levels-fit : (levels : List Level) → AllByRecursion (λ level. IsShort level.items) levels → AllByRecursion (LevelFits Fits) levels
      → list_all (λ level. list_all (λ item. int_le (pos 0) item.1) level.items) levels ≡ true → AllByRecursion (λ level. ItemsInOrder (items_negatives_first level.items)) levels
  levels-fit [] short h e = tt
  levels-fit (level ∷ levels) short h e =
      let parts : (list_all (λ item. int_le (pos 0) item.1) level.items ≡ true) × (list_all (λ level. list_all (λ item. int_le (pos 0) item.1) level.items) levels ≡ true) = and_parts _ _ e in
      (level-fits level short.0 h.0 parts.0, levels-fit levels short.1 h.1 parts.1)

each-reversed : {X : Type 0} (P : X → Type 0) (xs ys : List X) → AllByRecursion P xs → AllByRecursion P ys → AllByRecursion P (reverse_aux xs ys)
each-reversed P [] ys h k = k
each-reversed P (x ∷ xs) ys h k = each-reversed P xs (x ∷ ys) h.1 (h.0, k)

-- ---- the whole program

module _ (P : Ground) (f : IsProgram P) (small : size P ≤ 2 ^ 28) where
  -- new atoms are drawn for one atom, the rules and the shows
  abbrev most : ℕ
  most = 1 + length P.rules + length P.shows

  new-fits : (k : ℕ) → k < most → IsAtom (new_atom P.atoms k)
  new-fits k l = let low : new_atom P.atoms k ≤ length P.atoms + k + 1 = new_atom-most P.atoms k in ((new_atom-least P.atoms k).positive, omega (arith, size-many P))

  abbrev behind : ℕ
  behind = after_rules (first_index P) P.rules

  behind-most : behind + length P.shows ≤ most
  behind-most =
      let first : first_index P ≤ 1 = first-most (has_headless P) in
      let rules : after_rules (first_index P) P.rules ≤ first_index P + length P.rules = after_rules-few (first_index P) P.rules in
      omega arith

  atom : (a : ℕ) → Among P.atoms a → IsAtom a
  atom = atom-from_among P f

  refuted-fits : IsAtom (new_atom P.atoms 0)
  refuted-fits = new-fits 0 (omega arith)

  required-fit : (test : Literal → Bool) → AllByRecursion IsAtom (map atom_of (filter test P.required))
  required-fit test = atoms-fit test P.required (each-weaker (λ l. Among P.atoms (atom_of l)) (λ l. IsAtom (atom_of l)) (λ l k. atom (atom_of l) k) P.required f.required)

  one-at_most : (b : Bool) (a : ℕ) → IsAtom a → AllByRecursion IsAtom (cond b (a ∷ []) [])
  one-at_most true a h = (h, tt)
  one-at_most false a h = tt

  parts-fit : is_writable P ≡ true → AllByRecursion (λ level. IsShort level.items) P.levels → PartsFit (parts_of P)
  parts-fit w short =
      let new : ℕ → ℕ = new_atom P.atoms in
      let F : ℕ → Type 0 = Among P.atoms in
      let told : (list_all (λ level. list_all (λ item. int_le (pos 0) item.1) level.items) P.levels ≡ true) × (list_all (λ show. is_writable_name show.name) P.shows ≡ true) =
      and_parts _ _ ((and_parts (has_none P.edges) _ w).1) in
      let Sums : Level → Type 0 = λ level. ItemsInOrder (items_negatives_first level.items) in
      record {
        rules = each-append Line (rules_lowered new (new 0) (first_index P) P.rules) (show_rules new behind P.shows)
            (rules-lines new most new-fits F atom (first_index P) P.rules refuted-fits (omega (arith, behind-most)) f.rules)
            (shows-lines new most new-fits F atom behind P.shows behind-most f.shows);
        sums = each-map ItemsInOrder (λ level. items_negatives_first level.items) (reverse P.levels)
            (each-reversed Sums P.levels [] (levels-fit F atom P.levels short f.levels told.0) tt);
        symbols = symbols-fit new most new-fits F atom behind P.shows behind-most told.1 f.shows;
        plus = required-fit is_positive;
        minus = each-append IsAtom (map atom_of (filter (λ l. not (is_positive l)) P.required)) (cond (has_headless P) (new 0 ∷ []) [])
            (required-fit (λ l. not (is_positive l))) (one-at_most (has_headless P) (new 0) refuted-fits);
      }

-- a program that can be written is read back as its lowered form
pub smodels-read : (P : Ground) → IsProgram P → is_writable P ≡ true → AllByRecursion (λ level. IsShort level.items) P.levels → size P ≤ 2 ^ 28 → smodels_of (smodels_text P) ≡ Ok (lowered P)
smodels-read P f w short small = parts-read (parts_of P) (parts-fit P f small w short)
