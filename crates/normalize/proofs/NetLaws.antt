-- A network behind the rules so far: what it answers to a sum of weights.
use Rattle.std.proofs.Common.{◌≡◌, refl, sym, ◌∙◌, ap, subst, subst₂, to_z, of_z, w64, ℕ, ◌+◌, ◌≤◌, ◌^◌, ℤ, pos, ◌+ℤ◌, ◌≤ℤ◌, ◌<ℤ◌, int_le, Bool, true, false, ◌&&◌, ◌||◌, cond, Some, List, [], ◌∷◌, ◌++◌, append-nil, length, ⊎_elim, inl, inr, arith}
use Rattle.std.specs.List.{sum_by, AllByRecursion}
use Rattle.std.proofs.lemmas.Bool.{false_from_ne_true, or_cases, or_left, or_right, true≢false}
use Rattle.std.proofs.lemmas.Int.{ints}
use Rattle.std.proofs.lemmas.List.Sums.{sum_by-append}
use Rattle.asp_base.specs.Literal.{Literal, Pos, Neg, atom_of, literal_holds}
use Rattle.asp_base.specs.Sets.{Set, members}
use Rattle.asp_base.proofs.Each.{each-both, each-member, each-weaker}
use Rattle.rising_numbers.proofs.RisingLaws.{members-append}
use Rattle.ground_program.specs.Dependencies.{positives_of_body, positives_of_literals}
use Rattle.ground_program.specs.Facts.{BodyFits, IsAtom}
use Rattle.ground_program.specs.Size.{rule_size}
use Rattle.ground_program.specs.Stable.{weight_of, holds, head_has, is_headless}
use Rattle.ground_program.specs.declared.program.Head.{Head}
use Rattle.ground_program.specs.declared.program.Head.TheVariants.{Nothing, One, Choice}
use Rattle.ground_program.specs.declared.program.Body.{Body}
use Rattle.ground_program.specs.declared.program.Body.TheVariants.{All, Sum}
use Rattle.ground_program.specs.declared.program.Rule.{Rule}
use Rattle.ground_program.proofs.RoomLaws.{bound-back}
use Rattle.rule_network.specs.Block.{Block, empty_block, IsBlock, IsRead, ReadsInputs, RuleFitsBlock, Known, is_input, is_taken, these_or_all, closure, value, Grew, Adds as NetAdds, HasRoom, drawn, block_size}
use Rattle.rule_network.proofs.GrowthLaws.{Grew-refl, grew-counts, grew-split}
use Rattle.rule_network.proofs.InputLaws.{block-reads, items-known}
use Rattle.weight_rules.specs.Sum.{all_weights, Reaches}
use Rattle.weight_rules.specs.declared.sum.Reach.{Reach}
use Rattle.weight_rules.specs.declared.sum.Reach.TheVariants.{Always, Never, By}
use Rattle.normalize.specs.private.Added.{IsMade, IsLower, Adds, AddsAnswer}
use Rattle.normalize.specs.private.Stage.{Stage, IsStage, atoms_of, known, reach_lits, Turns, Answers, SumAnswers, HasRoomFor, Spends}
use Rattle.normalize.proofs.DistinctLaws.{members-each}
use Rattle.normalize.proofs.StageLaws.{atoms-known, known-wider, begun-closure, Turns-nothing, Answers-same, Answers-block}
use Rattle.normalize.proofs.Stages.{stage, stages-same}

-- ---- sums of weights

out : (p q : Bool) → q ≡ false → ((p && q) || false) ≡ false
out true q h = ap (λ t. t || false) h
out false q h = refl

sum-least : (items : List (Literal × ℤ)) (X N : Set)
    → AllByRecursion (λ item. pos 0 ≤ℤ item.1) items
    → (pos 0 ≤ℤ weight_of items X N) × (weight_of items X N ≤ℤ all_weights items)
sum-least [] X N h = (omega (arith, ints), omega (arith, ints))
sum-least (item ∷ items) X N h =
    go (literal_holds item.0 X N) item.1 (weight_of items X N) (all_weights items) h.0
    (sum-least items X N h.1)
  where
    go : (b : Bool) (w s t : ℤ) → pos 0 ≤ℤ w → (pos 0 ≤ℤ s) × (s ≤ℤ t)
        → (pos 0 ≤ℤ (cond b w (pos 0) +ℤ s)) × ((cond b w (pos 0) +ℤ s) ≤ℤ (w +ℤ t))
    go true w s t h k =
        let l : pos 0 ≤ℤ s = k.0 in
        let m : s ≤ℤ t = k.1 in
        (omega (arith, ints), omega (arith, ints))
    go false w s t h k =
        let l : pos 0 ≤ℤ s = k.0 in
        let m : s ≤ℤ t = k.1 in
        (omega (arith, ints), omega (arith, ints))

reached-always : (bound s : ℤ) → bound ≤ℤ pos 0 → pos 0 ≤ℤ s → int_le bound s ≡ true
reached-always bound s h k = grind (arith, ints)

reached-never : (bound s t : ℤ) → t <ℤ bound → s ≤ℤ t → int_le bound s ≡ false
reached-never bound s t h k = grind (arith, ints)

pub weights-of : (atoms : Set) (bound : ℤ) (items : List (Literal × ℤ))
    → BodyFits (λ a. atoms a ≡ true) (Sum bound items)
    → AllByRecursion (λ item. pos 0 ≤ℤ item.1) items
weights-of atoms bound items h = each-weaker _ _ (λ item k. k.1.0) items h.2

sum-grew : (bound : ℤ) (items : List (Literal × ℤ)) (old new : Block) (reach : Reach)
    → Reaches bound items old new reach → Grew old new
sum-grew bound items old new Always r = subst (Grew old) (sym r.1) (Grew-refl old)
sum-grew bound items old new Never r = subst (Grew old) (sym r.2) (Grew-refl old)
sum-grew bound items old new (By l) r = r.2.grew

-- ---- the parts of a sum, as code reads them

module _ (atoms : Set) (body : Body) (bound : ℤ) (items xs : List (Literal × ℤ))
    (is : body ≡ Sum bound items) (fits : BodyFits (λ a. atoms a ≡ true) body) (e : xs ≡ items)
  where
    sum-fits : BodyFits (λ a. atoms a ≡ true) (Sum bound items)
    sum-fits = subst (BodyFits (λ a. atoms a ≡ true)) is fits

    pub sum-weights : AllByRecursion (λ item. pos 0 ≤ℤ item.1) xs
    sum-weights = subst (AllByRecursion (λ item. pos 0 ≤ℤ item.1)) (sym e)
        (weights-of atoms bound items sum-fits)

    pub sum-short : length xs ≤ 2 ^ 24
    sum-short = subst (λ list. length list ≤ 2 ^ 24) (sym e) sum-fits.1

    pub sum-back : (R : ℤ → List (Literal × ℤ) → Type 0) → R (to_z w64 (of_z w64 bound)) xs
        → R bound items
    sum-back R h = subst₂ R (bound-back bound sum-fits.0) e h

    pub sum-there : (R : ℤ → List (Literal × ℤ) → Type 0) → R bound items
        → R (to_z w64 (of_z w64 bound)) xs
    sum-there R h = subst₂ R (sym (bound-back bound sum-fits.0)) (sym e) h

-- ---- what a network for a body reads

module _ (net : Block) (reads : List ℕ) (inputs : net.inputs ≡ Some reads) where
  is-read : (b : ℕ) → is_input net b ≡ true → members reads b ≡ true
  is-read b h = subst (λ list. these_or_all list b ≡ true) inputs h

  is-lower : (a b : ℕ) → IsRead net a b → IsLower net.made reads a b
  is-lower a b (inl k) = inl k
  is-lower a b (inr k) = inr (is-read b k)

  is-among : (a b : ℕ) → IsRead net a b → (members net.made b || members reads b) ≡ true
  is-among a b (inl k) = or_left _ _ k.0
  is-among a b (inr k) = or_right (members net.made b) _ (is-read b k)

  rule-made : (head : Head) (body : Body) → RuleFitsBlock net head body
      → ReadsInputs net (record { head = head; body = body })
      → IsMade net.made [] reads (record { head = head; body = body })
  rule-made Nothing body k r = absurd k
  rule-made (One a) (All lits) k r = record {
    normal = (tt, tt);
    head = (
      inr (k.0, each-weaker _ _ (λ b l. is-lower a b l) (positives_of_literals lits) r.0.1),
      tt,
    );
    body = each-weaker _ _ (λ b l. is-among a b l) (positives_of_literals lits) r.0.1;
  }
  rule-made (One a) (Sum bound items) k r = absurd k.1
  rule-made (Choice as_) body k r = absurd k

  rules-made : IsBlock net → AllByRecursion (IsMade net.made [] reads) net.rules
  rules-made is =
      each-both _ _ _ (λ rule k r. rule-made rule.head rule.body k r) net.rules is.rules
      (block-reads net is)

  lit-read : (l : Literal) → Known net l
      → AllByRecursion (λ b. (members net.made b || members reads b) ≡ true)
      (positives_of_literals (l ∷ []))
  lit-read (Pos b) k = (
    ⊎_elim
        (λ m. or_left _ _ m)
        (λ i. or_right (members net.made b) _ (is-read b i))
        (or_cases _ _ k.1),
    tt,
  )
  lit-read (Neg b) k = tt

-- ---- a network behind a stage

module _ (s v : Stage) (e : v ≡ s) (is : IsStage v) (inputs : List ℕ) (b : Block)
    (begins : b ≡ empty_block v.supply (Some inputs)) where
  -- a stage's room is the block's
  pub block-room : (n : ℕ) → HasRoomFor n s → HasRoom n b
  block-room n h =
      subst (HasRoom n) (sym begins)
      (count (length v.supply.atoms) (length v.supply.given) (sum_by rule_size v.rules) n
      (subst (HasRoomFor n) (sym e) h))
    where
      count : (a g r n : ℕ) → a + (g + r) + n ≤ 2 ^ 30 → a + g + n ≤ 2 ^ 30
      count a g r n h = omega arith

  -- its literals may stand in the block's rules
  pub block-known : (body : Body) (bound : ℤ) (items : List (Literal × ℤ)) → body ≡ Sum bound items
      → inputs ≡ positives_of_body body → BodyFits (λ a. atoms_of s a ≡ true) body
      → AllByRecursion (λ item. Known b item.0) items
  block-known body bound items same i f =
      subst (λ net. AllByRecursion (λ item. Known net item.0) items)
      (sym (begins ∙ ap (λ list. empty_block v.supply (Some list))
      (i ∙ ap positives_of_body same)))
      (items-known v.supply bound items
      (each-weaker _ _
      (λ item k. atoms-known v (atom_of item.0)
      (subst (λ w. atoms_of w (atom_of item.0) ≡ true) (sym e) k.0))
      items ((subst (BodyFits (λ a. atoms_of s a ≡ true)) same f).2)))

  module _ (net : Block) (bound : ℤ) (items : List (Literal × ℤ)) (reach : Reach)
      (reaches : Reaches bound items b net reach) where
    grew : Grew (empty_block v.supply (Some inputs)) net
    grew = subst (λ w. Grew w net) begins (sum-grew bound items b net reach reaches)

    made-drawn : net.made ≡ grew.drew.0
    made-drawn = grew.drew.1

    given-is : net.supply.given ≡ v.supply.given ++ net.made
    given-is = grew.drew.2 ∙ ap (λ xs. v.supply.given ++ xs) (sym made-drawn)

    -- what was new is a number of an atom
    pub block-stage : (rules : List Rule) → IsBlock net
        → IsStage (record { rules = rules; supply = net.supply; pairs = v.pairs })
    block-stage rules block = record {
      pairs = known-wider (known v) (is_taken net) grew.taken v.pairs is.pairs;
      once = is.once;
      atoms = λ a h. ⊎_elim
          (λ k. is.atoms a k)
          (λ m. each-member IsAtom net.made a block.atoms m)
          (or_cases (known v a) (members net.made a)
          (grew-split (empty_block v.supply (Some inputs)) net grew a h));
      dense = λ a c m low l. ⊎_elim
          (λ k. grew.taken a (is.dense a c k low l))
          (λ k. block.dense c a k low l)
          (or_cases _ _
          (sym (members-append v.supply.given net.made c)
          ∙ (ap (λ xs. members xs c) (sym given-is) ∙ m)));
    }

    module _ (t : Stage) (is-t : t ≡ stage (v.rules ++ net.rules) net.supply v.pairs) where
      pub block-spends : (atoms cost : ℕ) → NetAdds atoms cost b net → Spends cost s t
      block-spends atoms cost adds =
          subst (λ w. Spends cost w t) e (subst (λ w. Spends cost v w) (sym is-t)
          (count (length v.supply.given) (length net.made) (sum_by rule_size v.rules)
          (sum_by rule_size net.rules) (drawn net) _ cost
          (sum_by-append rule_size v.rules net.rules)
          (grew-counts (empty_block v.supply (Some inputs)) net grew)
          (subst (λ w. length net.made + sum_by rule_size net.rules ≤ block_size w + cost) begins
          adds.size)))
        where
          count : (g m s n d r c : ℕ) → r ≡ s + n → d + 0 ≡ g + m → m + n ≤ 0 + 0 + c
              → d + r ≤ g + s + c
          count g m s n d r c h k l = omega arith

      module _ (block : IsBlock net) where
        block-answers : (body : Body) (l : Literal) → Known net l
            → ((X M : Set) → value net X M l ≡ holds body X M) → Answers body (l ∷ []) s t
        block-answers body l known_l says =
            subst (λ w. Answers body (l ∷ []) w t) e
            (subst (λ w. Answers body (l ∷ []) v w) (sym is-t)
            (Answers-block v is.pairs (Some inputs) net block grew body l known_l says))

        unchanged : net ≡ b → t ≡ s
        unchanged h =
            is-t ∙ (stages-same _ _ _ _ _ _
            (ap (λ rules. v.rules ++ rules) (ap (λ w. w.rules) (h ∙ begins))
            ∙ append-nil v.rules)
            (ap (λ w. w.supply) (h ∙ begins)) refl ∙ e)

        sum-answers : (reach : Reach) → BodyFits (λ a. atoms_of s a ≡ true) (Sum bound items)
            → Reaches bound items b net reach → SumAnswers (Sum bound items) s t reach
        sum-answers Always f r =
            subst (λ w. Answers (Sum bound items) [] s w) (sym (unchanged r.1))
            (subst (λ w. Answers (Sum bound items) [] w w) e
            (Answers-same v is.pairs (Sum bound items) [] tt
            (λ X N. sym (reached-always bound _ r.0
            ((sum-least items X N (weights-of (atoms_of s) bound items f)).0)))))
        sum-answers Never f r =
            let never : (X N : Set) → holds (Sum bound items) X N ≡ false =
            λ X N. reached-never bound _ _ r.1
            ((sum-least items X N (weights-of (atoms_of s) bound items f)).1) in
            let rule : Head → Rule = λ head. record { head = head; body = Sum bound items } in (
              unchanged r.2,
              λ head. subst (λ w. Turns (rule head ∷ []) s w) (sym (unchanged r.2))
                  (subst (λ w. Turns (rule head ∷ []) w w) e
                  (Turns-nothing v is.pairs (rule head ∷ [])
                  (λ X N a. out (head_has head N a) _ (never X N))
                  (λ X N. out (is_headless head) _ (never X N)))),
            )
        sum-answers (By l) f r =
            block-answers (Sum bound items) l r.2.known
            (λ X M. r.2.says X M
            ∙ ap (λ Y. int_le bound (weight_of items Y M))
            (ap (λ w. closure w X M) begins ∙ begun-closure v.supply (Some inputs) X M))

        pub body-answers : (body : Body) → body ≡ Sum bound items
            → BodyFits (λ a. atoms_of s a ≡ true) body → SumAnswers body s t reach
        body-answers body same f =
            subst (λ w. SumAnswers w s t reach) (sym same)
            (sum-answers reach (subst (BodyFits (λ a. atoms_of s a ≡ true)) same f) reaches)

        -- the rules go from the new atoms to the inputs
        net-adds : Adds [] inputs v (stage (v.rules ++ net.rules) net.supply v.pairs)
        net-adds = record {
          drawn = net.made;
          new = net.rules;
          rules = refl;
          given = given-is;
          apart = members-each net.made _
              (λ a m. ((each-member IsAtom net.made a block.atoms m).0, fresh a m));
          made = rules-made net inputs grew.inputs block;
        }
          where
            fresh : (a : ℕ) → members net.made a ≡ true → known v a ≡ false
            fresh a m =
                false_from_ne_true (known v a) (λ h. true≢false (sym (grew.apart a h m)))

        lits-read : (reach : Reach) → Reaches bound items b net reach
            → AllByRecursion (λ a. (members net.made a || members inputs a) ≡ true)
            (positives_of_literals (reach_lits reach))
        lits-read Always r = tt
        lits-read Never r = tt
        lits-read (By l) r = lit-read net inputs grew.inputs l r.2.known

        pub sum-adds : AddsAnswer inputs (reach_lits reach) s t
        unfolding net-adds
        sum-adds =
            subst (λ w. AddsAnswer inputs (reach_lits reach) w t) e
            (subst (λ w. AddsAnswer inputs (reach_lits reach) v w) (sym is-t)
            (record { adds = net-adds; read = lits-read reach reaches }))
