-- Numbers that meet the conditions on all cyclic components, for a supported set: there are some just where the set is
-- founded, and they are the ranks.
use Rattle.std.proofs.Common.{◌≡◌, refl, sym, ◌∙◌, ap, ap₂, subst, ℕ, ◌≤◌, ◌<◌, ◌^◌, ◌==◌, Bool, true, false, cond, not, ◌&&◌, ◌||◌, ltb, leb, List, [], ◌∷◌, length, ⊎_elim, inl, inr, ◌⊎◌, arith}
use Rattle.std.specs.List.{list_any, list_all, AllByRecursion}
use Rattle.std.proofs.lemmas.Bool.{and_parts, and_from, or_cases, true≢false, cases_Bool, cases_lt, eqb-true, eq-eqb, cond-false}
use Rattle.asp_base.specs.Literal.{Literal, Pos, Neg}
use Rattle.asp_base.specs.Sets.{Set, members, Within}
use Rattle.asp_base.specs.Walks.{Reaches}
use Rattle.ground_program.specs.Facts.{IsProgram, Among, RuleFits}
use Rattle.ground_program.specs.Ground.{Ground}
use Rattle.ground_program.specs.Occurrences.{atoms_of_head}
use Rattle.ground_program.specs.Stable.{holds, head_has, step, Founded, Supported, least}
use Rattle.ground_program.specs.declared.program.Body.{Body}
use Rattle.ground_program.specs.declared.program.Body.TheVariants.{All, Sum}
use Rattle.ground_program.specs.declared.program.Rule.{Rule}
use Rattle.ground_program.proofs.FactLaws.{step-among}
use Rattle.ground_program.proofs.Negative.{Supported-from_Founded}
use Rattle.ground_program.proofs.Plain.{members-filter}
use Rattle.ground_program.specs.Normal.{AreNormal}
use Rattle.digit_gates.specs.Digits.{predecessor}
use Rattle.ground_program.specs.Dependencies.{positives_of_body, depends}
use Rattle.graph_parts.specs.Parts.{Together}
use Rattle.components.proofs.AtomLaws.{heads-fit, positives-fit}
use Rattle.asp_base.proofs.Each.{each-member}
use Rattle.level_ranking.specs.Components.{AreParts, atoms_of_part, component}
use Rattle.level_ranking.specs.Encoding.{positive_in, body_in, inside}
use Rattle.level_ranking.specs.Ranking.{rank}
use Rattle.level_ranking.proofs.Conditions.{supports, near_one_of, Meets, MeetsAll, AreWide}
use Rattle.level_ranking.specs.Ranked.{rank_in_part}
use Rattle.level_ranking.proofs.ConditionLaws.{list_all-once, list_all-same, list_any-same, ranking-from_conditions, conditions-from_ranking}
use Rattle.level_ranking.proofs.RankLaws.{rankings-same}
use Rattle.level_ranking.proofs.RankExists.{rank-bound, rank-is_ranking}
use Rattle.level_ranking.proofs.FoundedByRanks.{Founded-from_rankings}

-- ---- numbers that agree on the component meet the same conditions

in_component : (S : Set) (lits : List Literal) → list_all S (positive_in S lits) ≡ true
in_component S [] = refl
in_component S (Neg b ∷ lits) = in_component S lits
in_component S (Pos b ∷ lits) = go (S b) refl (in_component S lits)
  where
    go : (t : Bool) → S b ≡ t → list_all S (positive_in S lits) ≡ true → list_all S (cond t (b ∷ positive_in S lits) (positive_in S lits)) ≡ true
    go true e h = and_from _ _ e h
    go false e h = h

body-in_component : (S : Set) (body : Body) → list_all S (body_in S body) ≡ true
body-in_component S (All lits) = in_component S lits
body-in_component S (Sum bound items) = refl

pub inside-in_component : (S : Set) (rule : Rule) → list_all S (inside S rule) ≡ true
inside-in_component S rule = list_all-once S (body_in S rule.body) ∙ body-in_component S rule.body

all-same_on : (S p q : ℕ → Bool) → ((x : ℕ) → S x ≡ true → p x ≡ q x) → (xs : List ℕ) → list_all S xs ≡ true → list_all p xs ≡ list_all q xs
all-same_on S p q h [] s = refl
all-same_on S p q h (x ∷ xs) s = let k : (S x ≡ true) × (list_all S xs ≡ true) = and_parts _ _ s in ap₂ ◌&&◌ (h x k.0) (all-same_on S p q h xs k.1)

any-same_on : (S p q : ℕ → Bool) → ((x : ℕ) → S x ≡ true → p x ≡ q x) → (xs : List ℕ) → list_all S xs ≡ true → list_any p xs ≡ list_any q xs
any-same_on S p q h [] s = refl
any-same_on S p q h (x ∷ xs) s = let k : (S x ≡ true) × (list_all S xs ≡ true) = and_parts _ _ s in ap₂ ◌||◌ (h x k.0) (any-same_on S p q h xs k.1)

module _ (S : Set) (w : ℕ) (rules : List Rule) (M : Set) (r q : ℕ → ℕ) (same : (a : ℕ) → S a ≡ true → r a ≡ q a) where
  supports-same : (a : ℕ) → S a ≡ true → (rule : Rule) → supports S w M r a rule ≡ supports S w M q a rule
  supports-same a s rule = ap (λ b. holds rule.body M M && b)
      (all-same_on S _ _ (λ b t. ap₂ (λ m n. not (ltb (predecessor w m) n)) (same a s) (same b t)) (inside S rule) (inside-in_component S rule))

  near_one-same : (a : ℕ) → S a ≡ true → (bs : List ℕ) → list_all S bs ≡ true → near_one_of w r a bs ≡ near_one_of w q a bs
  near_one-same a s [] h = ap (λ m. leb m 1) (same a s)
  near_one-same a s (b ∷ bs) h = any-same_on S _ _ (λ c t. ap₂ (λ m n. not (ltb n (predecessor w m))) (same a s) (same c t)) (b ∷ bs) h

  pub Meets-same : Meets S w rules M r → Meets S w rules M q
  Meets-same m = record {
    fits = λ a s. subst (λ n. n < 2 ^ w) (same a s) (m.fits a s);
    zero_outside = λ a s h. sym (same a s) ∙ m.zero_outside a s h;
    from_one = λ a s h. subst (λ n. 0 < n) (same a s) (m.from_one a s h);
    supported = λ a s g h. sym (list_any-same _ _ (λ rule. ap (λ b. head_has rule.head M a && b) (supports-same a s rule)) rules) ∙ m.supported a s g h;
    near = λ a s. sym (list_all-same _ _ (λ rule. ap (λ b. not (head_has rule.head M a) || (not (holds rule.body M M) || b)) (near_one-same a s (inside S rule) (inside-in_component S rule))) rules) ∙ m.near a s;
  }

-- ---- the atoms of a component

depends-among : (atoms : List ℕ) (rules : List Rule) (a b : ℕ) → AllByRecursion (RuleFits (Among atoms)) rules → depends rules a b ≡ true → (members atoms a ≡ true) × (members atoms b ≡ true)
depends-among atoms [] a b h d = absurd (true≢false (sym d))
depends-among atoms (rule ∷ rules) a b h d =
    ⊎_elim
    (λ e. let k : (members (atoms_of_head rule.head) a ≡ true) × (members (positives_of_body rule.body) b ≡ true) = and_parts _ _ e in
    (each-member (Among atoms) (atoms_of_head rule.head) a (heads-fit (Among atoms) rule.head h.0.0) k.0, each-member (Among atoms) (positives_of_body rule.body) b (positives-fit (Among atoms) rule.body h.0.1) k.1))
    (λ e. depends-among atoms rules a b h.1 e) (or_cases _ _ d)

module _ (P : Ground) (program : IsProgram P) (normal : AreNormal P.rules) (part : ℕ → ℕ) (cyclic : ℕ → Bool) (parts : AreParts P.rules P.atoms part cyclic) where
  reaches-back : (a b : ℕ) → depends P.rules a b ≡ true → Together (depends P.rules) a b → Reaches (depends P.rules) a a
  reaches-back a b d t = ⊎_elim (λ e. ([], subst (λ c. depends P.rules a c ≡ true) (sym e) d)) (λ k. (b ∷ k.1.0, (d, k.1.1))) t

  order : (a b : ℕ) → depends P.rules a b ≡ true → (part b < part a) ⊎ ((part b ≡ part a) × (cyclic (part a) ≡ true))
  order a b d =
      let among : (members P.atoms a ≡ true) × (members P.atoms b ≡ true) = depends-among P.atoms P.rules a b program.rules d in
      ⊎_elim (λ l. inl l)
      (λ m. let l : part b ≤ part a = parts.lower a b d in
      let e : part b ≡ part a = omega arith in
      inr (e, (parts.cycles a among.0).1 (reaches-back a b d ((parts.together a b among.0 among.1).0 (sym e)))))
      (cases_lt (part b) (part a))

  -- what is supported stands among the atoms
  supported-among : (M : Set) → Supported P M → Within M (members P.atoms)
  supported-among M s a m = step-among P.atoms P.rules M M program.rules a (s.step_is a ∙ m)

  in_part : (a : ℕ) → members P.atoms a ≡ true → component P part (part a) a ≡ true
  in_part a m = members-filter (λ b. part b == part a) P.atoms a ∙ and_from _ _ m (eq-eqb (part a) (part a) refl)

  part-of : (c a : ℕ) → component P part c a ≡ true → part a ≡ c
  part-of c a h = eqb-true (part a) c ((and_parts _ _ (sym (members-filter (λ b. part b == c) P.atoms a) ∙ h)).1)

  module _ (width : ℕ → ℕ) (M : Set) where
    -- numbers that meet the conditions are there for founded sets only
    pub Founded-from_conditions : (r : ℕ → ℕ) → Supported P M → MeetsAll P part cyclic width M r → Founded P M
    Founded-from_conditions r s m =
        Founded-from_rankings P M normal s part cyclic (component P part) (λ c a e h. subst (λ d. component P part d a ≡ true) e (in_part a (supported-among M s a h))) order
        (λ c y. (r, ranking-from_conditions (component P part c) (width c) P.rules M r (m c y)))

    closed : Supported P M → Within (step P.rules M M) M
    closed s a e = sym (s.step_is a) ∙ e

    founded-within : Founded P M → Within M (least P M)
    founded-within f a h = f.least_is a ∙ h

    -- and they are the ranks
    pub ranks-from_conditions : (r : ℕ → ℕ) → Supported P M → MeetsAll P part cyclic width M r → (a : ℕ) → members P.atoms a ≡ true → cyclic (part a) ≡ true → r a ≡ rank_in_part P part M a
    ranks-from_conditions r s m a h y =
        let c : ℕ = part a in
        let f : Founded P M = Founded-from_conditions r s m in
        rankings-same (component P part c) P.rules M r (rank (atoms_of_part part c P.atoms) P.rules M) normal (closed s) (ranking-from_conditions (component P part c) (width c) P.rules M r (m c y))
        (rank-is_ranking (atoms_of_part part c P.atoms) P.rules M normal (closed s) (founded-within f)) a (in_part a h)

    -- the ranks of a founded set meet them
    pub conditions-from_Founded : AreWide P part cyclic width → Founded P M → MeetsAll P part cyclic width M (rank_in_part P part M)
    conditions-from_Founded wide f c y =
        let s : Supported P M = Supported-from_Founded P M normal f in
        let atoms : List ℕ = atoms_of_part part c P.atoms in
        let enough : length atoms < 2 ^ width c = wide c y in
        Meets-same (component P part c) (width c) P.rules M (rank atoms P.rules M) (rank_in_part P part M)
        (λ a h. ap (λ d. rank (atoms_of_part part d P.atoms) P.rules M a) (sym (part-of c a h)))
        (conditions-from_ranking (component P part c) (width c) P.rules M (rank atoms P.rules M) (closed s)
        (λ a h. rank-fits atoms a enough f s (cases_Bool (M a)))
        (rank-is_ranking atoms P.rules M normal (closed s) (founded-within f)))
      where
        rank-fits : (atoms : List ℕ) (a : ℕ) → length atoms < 2 ^ width c → Founded P M → Supported P M → (M a ≡ true) ⊎ (M a ≡ false) → rank atoms P.rules M a < 2 ^ width c
        rank-fits atoms a enough f s t = ⊎_elim
            (λ h. let k : rank atoms P.rules M a ≤ length atoms = rank-bound atoms P.rules M normal (λ b e. sym (s.step_is b) ∙ e) (λ b e. f.least_is b ∙ e) a h in omega arith)
            (λ h. let k : rank atoms P.rules M a ≡ 0 = cond-false (M a) _ 0 h in omega arith)
            t
