-- Lists that are written entry by entry, with the numbers that are drawn on the way.
use Rattle.std.proofs.Common.{◌≡◌, refl, sym, ◌∙◌, ap, ℕ, zero, suc, ◌+◌, ◌-◌, ◌≤◌, ◌^◌, ◌==◌, Bool, true, false, cond, if◌then◌else◌, List, [], ◌∷◌, ◌++◌, length, slice_get, Some, append_assoc, arith}
use Rattle.std.specs.List.{flat_map, list_any, sum_by}
use Rattle.std.proofs.lemmas.Bool.{or_parts, true≢false}
use Rattle.std.proofs.lemmas.Grind.{flat_map-append}
use Rattle.std.proofs.lemmas.List.Sums.{sum_by-cons}
use Rattle.asp_scan.specs.Words.{ends_with_return}
use Rattle.ground_program.specs.Ground.{Ground}
use Rattle.ground_program.specs.Size.{size, rule_size}
use Rattle.ground_program.specs.Stable.{is_headless}
use Rattle.ground_program.specs.declared.program.Head.{Head}
use Rattle.ground_program.specs.declared.program.Head.TheVariants.{Nothing, One, Choice}
use Rattle.ground_program.specs.declared.program.Body.{Body}
use Rattle.ground_program.specs.declared.program.Body.TheVariants.{All, Sum}
use Rattle.ground_program.specs.declared.program.Rule.{Rule}
use Rattle.ground_program.specs.declared.program.Show.{Show}
use Rattle.smodels_format.specs.Lowering.{is_single, single_atom, body_in_order, rule_draws, after_rules, rule_lowered, rules_lowered, symbols_from, show_rules}
use Rattle.smodels_format.specs.Written.{rule_line}
use Rattle.smodels_format.specs.private.Writing.{Drawing, after_refuted, symbol_atoms, with_names, condition_rules}

-- ---- a carriage return at the end

ends-last : (bytes : List ℕ) (k x : ℕ) → suc k ≡ length bytes → Some x ≡ slice_get bytes k → (x == 13) ≡ ends_with_return bytes
ends-last [] k x l e = absurd (omega arith)
ends-last (byte ∷ []) zero x l e = let same : x ≡ byte = cc in ap (λ y. y == 13) same
ends-last (byte ∷ []) (suc k) x l e = absurd (omega arith)
ends-last (byte ∷ next ∷ bytes) zero x l e = absurd (omega arith)
ends-last (byte ∷ next ∷ bytes) (suc k) x l e = ends-last (next ∷ bytes) k x (omega arith) e

pub ends-some : (bytes : List ℕ) (x : ℕ) → Some x ≡ slice_get bytes (length bytes - 1) → (x == 13) ≡ ends_with_return bytes
ends-some [] x e = absurd (cc)
ends-some (byte ∷ bytes) x e = ends-last (byte ∷ bytes) (length (byte ∷ bytes) - 1) x (omega arith) e

-- ---- rules

draws-few : (h : Head) (b : Body) → rule_draws h b ≤ 1
draws-few Nothing b = omega arith
draws-few (One a) b = omega arith
draws-few (Choice as_) (All lits) = omega arith
draws-few (Choice as_) (Sum bound items) = omega arith

pub after_rules-few : (n : ℕ) (rules : List Rule) → after_rules n rules ≤ n + length rules
after_rules-few n [] = omega arith
after_rules-few n (rule ∷ rules) =
    let d : ℕ = rule_draws rule.head rule.body in
    let few : d ≤ 1 = draws-few rule.head rule.body in
    let k : after_rules (n + d) rules ≤ n + d + length rules = after_rules-few (n + d) rules in
    omega arith

pub rules-step : (new : ℕ → ℕ) (refuted n : ℕ) (old now : List ℕ) (rule : Rule) (rest all : List Rule) → all ≡ rule ∷ rest
    → now ≡ old ++ flat_map rule_line (rule_lowered new refuted n rule.head rule.body)
    → now ++ flat_map rule_line (rules_lowered new refuted (n + rule_draws rule.head rule.body) rest) ≡ old ++ flat_map rule_line (rules_lowered new refuted n all)
rules-step new refuted n old now rule rest all e p =
    let here : List Rule = rule_lowered new refuted n rule.head rule.body in
    let there : List Rule = rules_lowered new refuted (n + rule_draws rule.head rule.body) rest in
    ap (λ bytes. bytes ++ flat_map rule_line there) p
    ∙ (append_assoc old (flat_map rule_line here) (flat_map rule_line there)
    ∙ (ap (λ bytes. old ++ bytes) (sym (flat_map-append rule_line here there)) ∙ ap (λ rules. old ++ flat_map rule_line (rules_lowered new refuted n rules)) (sym e)))

pub after_rules-step : (n : ℕ) (rule : Rule) (rest all : List Rule) → all ≡ rule ∷ rest → after_rules (n + rule_draws rule.head rule.body) rest ≡ after_rules n all
after_rules-step n rule rest all e = ap (after_rules n) (sym e)

-- where every rule has a head, the atom of those without one is not read
module _ (new : ℕ → ℕ) (a b : ℕ) where
  unread-step : (head : Head) (body : Body) (n : ℕ) (xs ys : List Rule) → is_headless head ≡ false → xs ≡ ys → rule_lowered new a n head body ++ xs ≡ rule_lowered new b n head body ++ ys
  unread-step Nothing body n xs ys h e = absurd (true≢false h)
  unread-step (One x) body n xs ys h e = ap (λ zs. rule_lowered new a n (One x) body ++ zs) e
  unread-step (Choice as_) (All lits) n xs ys h e = ap (λ zs. rule_lowered new a n (Choice as_) (All lits) ++ zs) e
  unread-step (Choice as_) (Sum bound items) n xs ys h e = ap (λ zs. rule_lowered new a n (Choice as_) (Sum bound items) ++ zs) e

  pub refuted-unread : (n : ℕ) (rules : List Rule) → list_any (λ rule. is_headless rule.head) rules ≡ false → rules_lowered new a n rules ≡ rules_lowered new b n rules
  refuted-unread n [] h = refl
  refuted-unread n (rule ∷ rules) h =
      let parts : (is_headless rule.head ≡ false) × (list_any (λ rule. is_headless rule.head) rules ≡ false) = or_parts _ _ h in
      let d : ℕ = rule_draws rule.head rule.body in
      unread-step rule.head rule.body n (rules_lowered new a (n + d) rules) (rules_lowered new b (n + d) rules) parts.0 (refuted-unread (n + d) rules parts.1)

-- ---- shows

named-step : (b : Bool) (s n : ℕ) (xs ys : List ℕ) (show : Show) (shows : List Show) (zs ws : List (ℕ × List ℕ)) → with_names xs shows ≡ zs → with_names ys shows ≡ ws
    → with_names (if b then (s ∷ xs) else (n ∷ ys)) (show ∷ shows) ≡ (if b then ((s, show.name) ∷ zs) else ((n, show.name) ∷ ws))
named-step true s n xs ys show shows zs ws p q = ap (λ more. (s, show.name) ∷ more) p
named-step false s n xs ys show shows zs ws p q = ap (λ more. (n, show.name) ∷ more) q

pub symbols-are : (new : ℕ → ℕ) (n : ℕ) (shows : List Show) → with_names (symbol_atoms new n shows) shows ≡ symbols_from new n shows
symbols-are new n [] = refl
symbols-are new n (show ∷ shows) =
    named-step (is_single show.condition) (single_atom show.condition) (new n) (symbol_atoms new n shows) (symbol_atoms new (suc n) shows) show shows
    (symbols_from new n shows) (symbols_from new (suc n) shows) (symbols-are new n shows) (symbols-are new (suc n) shows)

ruled-step : (b : Bool) (s n : ℕ) (xs ys : List ℕ) (show : Show) (shows : List Show) (zs ws : List Rule) → is_single show.condition ≡ b → condition_rules xs shows ≡ zs → condition_rules ys shows ≡ ws
    → condition_rules (if b then (s ∷ xs) else (n ∷ ys)) (show ∷ shows) ≡ (if b then zs else (record { head = One n; body = body_in_order (All show.condition) } ∷ ws))
ruled-step true s n xs ys show shows zs ws e p q = ap (λ t. cond t [] (record { head = One s; body = body_in_order (All show.condition) } ∷ []) ++ condition_rules xs shows) e ∙ p
ruled-step false s n xs ys show shows zs ws e p q =
    let rule : Rule = record { head = One n; body = body_in_order (All show.condition) } in
    ap (λ t. cond t [] (rule ∷ []) ++ condition_rules ys shows) e ∙ ap (λ more. rule ∷ more) q

pub show_rules-are : (new : ℕ → ℕ) (n : ℕ) (shows : List Show) → condition_rules (symbol_atoms new n shows) shows ≡ show_rules new n shows
show_rules-are new n [] = refl
show_rules-are new n (show ∷ shows) =
    ruled-step (is_single show.condition) (single_atom show.condition) (new n) (symbol_atoms new n shows) (symbol_atoms new (suc n) shows) show shows
    (show_rules new n shows) (show_rules new (suc n) shows) refl (show_rules-are new n shows) (show_rules-are new (suc n) shows)

length-step : (b : Bool) (s n m : ℕ) (xs ys : List ℕ) → length xs ≡ m → length ys ≡ m → length (if b then (s ∷ xs) else (n ∷ ys)) ≡ suc m
length-step true s n m xs ys p q = ap suc p
length-step false s n m xs ys p q = ap suc q

pub length-symbol_atoms : (new : ℕ → ℕ) (n : ℕ) (shows : List Show) → length (symbol_atoms new n shows) ≡ length shows
length-symbol_atoms new n [] = refl
length-symbol_atoms new n (show ∷ shows) =
    length-step (is_single show.condition) (single_atom show.condition) (new n) (length shows) (symbol_atoms new n shows) (symbol_atoms new (suc n) shows)
    (length-symbol_atoms new n shows) (length-symbol_atoms new (suc n) shows)

-- ---- sizes

sum_by-most : {A : Type 0} (f : A → ℕ) → ((x : A) → 1 ≤ f x) → (xs : List A) → length xs ≤ sum_by f xs
sum_by-most f h [] = omega arith
sum_by-most f h (x ∷ xs) = let here : 1 ≤ f x = h x in let rest : length xs ≤ sum_by f xs = sum_by-most f h xs in omega (arith, sum_by-cons f x xs)

pub size-many : (P : Ground) → length P.atoms + length P.rules + length P.shows ≤ size P
size-many P =
    let rules : length P.rules ≤ sum_by rule_size P.rules = sum_by-most rule_size (λ rule. omega arith) P.rules in
    let shows : length P.shows ≤ sum_by (λ show. 1 + length show.condition) P.shows = sum_by-most (λ show. 1 + length show.condition) (λ show. omega arith) P.shows in
    omega arith

after_refuted-few : (n : ℕ) (rules : List Rule) → after_refuted n rules ≤ n + 1
after_refuted-few n rules = by (list_any (λ rule. is_headless rule.head) rules)
  where
    by : (b : Bool) → cond b (suc n) n ≤ n + 1
    by true = omega arith
    by false = omega arith

-- the first draw leaves room for one number for each rule and each show
pub room-left : (P : Ground) (start after : Drawing) (rules : List Rule) → start ≡ record { atoms = P.atoms; drawn = 0 } → after ≡ record start { drawn = after_refuted start.drawn rules }
    → size P ≤ 2 ^ 28 → length after.atoms + after.drawn + length P.rules + length P.shows ≤ 2 ^ 30
room-left P start after rules s a small =
    let many : length P.atoms + length P.rules + length P.shows ≤ size P = size-many P in
    let few : after_refuted start.drawn rules ≤ start.drawn + 1 = after_refuted-few start.drawn rules in
    let none : start.drawn ≡ 0 = ap (λ d. d.drawn) s in
    let atoms : length after.atoms ≡ length P.atoms = ap (λ d. length d.atoms) a ∙ ap (λ d. length d.atoms) s in
    let drawn : after.drawn ≡ after_refuted start.drawn rules = ap (λ d. d.drawn) a in
    omega arith

-- the rules leave room for one number for each show
pub room-behind : (P : Ground) (before after : Drawing) (rules : List Rule) (shows : List Show) → rules ≡ P.rules → shows ≡ P.shows
    → after ≡ record before { drawn = after_rules before.drawn rules }
    → length before.atoms + before.drawn + length P.rules + length P.shows ≤ 2 ^ 30 → length after.atoms + after.drawn + length shows ≤ 2 ^ 30
room-behind P before after rules shows r s a room =
    let few : after_rules before.drawn rules ≤ before.drawn + length rules = after_rules-few before.drawn rules in
    let many : length rules ≡ length P.rules = ap length r in
    let more : length shows ≡ length P.shows = ap length s in
    let atoms : length after.atoms ≡ length before.atoms = ap (λ d. length d.atoms) a in
    let drawn : after.drawn ≡ after_rules before.drawn rules = ap (λ d. d.drawn) a in
    omega arith
