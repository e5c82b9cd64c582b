-- Lookups in the tables.
use Rattle.std.proofs.Common.{◌≡◌, refl, sym, ◌∙◌, ap, subst, ℕ, zero, suc, ◌+◌, ◌<◌, ◌≤◌, Bool, true, false, cond, ◌==◌, List, [], ◌∷◌, ◌++◌, map, filter, take, length, slice_index_or, ⊎_elim, inl, inr, length-append, arith}
use Rattle.std.specs.List.{flat_map, range_with_len, AllByRecursion}
use Rattle.std.proofs.lemmas.Bool.{eqb-true, eq-eqb, cond-true, cond-false}
use Rattle.std.proofs.lemmas.List.{length-map, append-nil}
use Rattle.asp_base.specs.Sets.{members, once, In}
use Rattle.graph_parts.specs.Groups.{pair_at, values_of}
use Rattle.components.specs.Components as links
use Rattle.components.proofs.AtomLaws.{node-differ, node-below}
use Rattle.ground_program.specs.Facts.{Among, HeadFits, RuleFits, IsProgram}
use Rattle.rising_numbers.specs.Rising.{RisesFrom}
use Rattle.ground_program.specs.Ground.{Ground}
use Rattle.ground_program.specs.declared.program.Head.{Head}
use Rattle.ground_program.specs.declared.program.Head.TheVariants.{Nothing, One, Choice}
use Rattle.ground_program.specs.declared.program.Rule.{Rule}
use Rattle.ground_program.specs.Dependencies.{positives_of_body}
use Rattle.ground_program.proofs.GapLaws.{range-more}
use Rattle.acyc_edges.specs.Encoding.{counted, rule_at, is_head, head_atom, rules_of, inner_at}
use Rattle.acyc_edges.specs.private.Tables.{with_owner, owner_at, owners_of, inner_by, inner_head}
use Rattle.acyc_edges.proofs.Inside.{each-in, in-each, in-member, flat-in, filter-in, false-from, not-both}
use Rattle.acyc_edges.proofs.Numbering.{filter-append, flat-append}
use Rattle.acyc_edges.proofs.Sources.{counted-rule}

pub counted-length : {A : Type 0} (n : ℕ) (xs : List A) → length (counted n xs) ≡ length xs
counted-length n [] = refl
counted-length n (x ∷ xs) = ap suc (counted-length (suc n) xs)

pub counted-at : {A : Type 0} (n : ℕ) (xs : List A) (i d : ℕ) → i < length xs → slice_index_or (counted n xs) i d ≡ n + i
counted-at n [] i d h = absurd (omega arith)
counted-at n (x ∷ xs) zero d h = omega arith
counted-at n (x ∷ xs) (suc i) d h = counted-at (suc n) xs i d (omega arith) ∙ (let e : suc n + i ≡ n + suc i = omega arith in e)

pub counted-below : {A : Type 0} (n : ℕ) (xs : List A) (i : ℕ) → In i (counted n xs) → i < n + length xs
counted-below n [] i h = absurd h
counted-below n (x ∷ xs) i h = ⊎_elim (λ e. omega arith) (λ k. let r : i < suc n + length xs = counted-below (suc n) xs i k in omega arith) h

module _ (P : Ground) (rise : RisesFrom 0 P.atoms) (a : ℕ) (member : members P.atoms a ≡ true) where
  same-key : (b : ℕ) → members P.atoms b ≡ true → (links.node_of P.atoms b == links.node_of P.atoms a) ≡ (b == a)
  same-key b mb = go (b == a) refl
    where
      go : (x : Bool) → (b == a) ≡ x → (links.node_of P.atoms b == links.node_of P.atoms a) ≡ x
      go true e = eq-eqb _ _ (ap (links.node_of P.atoms) (eqb-true b a e))
      go false e = false-from _ (λ t. not-both (b == a) (eq-eqb b a (node-differ P.atoms rise b a mb member (eqb-true _ _ t))) e)

  picked : (b : Bool) (n i : ℕ) (rest : List (ℕ × ℕ)) (others : List ℕ) → map (λ p. p.1) rest ≡ others → map (λ p. p.1) (cond b ((n, i) ∷ rest) rest) ≡ cond b (i ∷ others) others
  picked true n i rest others same = ap (λ l. i ∷ l) same
  picked false n i rest others same = same

  one-owner : (head : Head) (i : ℕ) (rest : List (ℕ × ℕ)) (others : List ℕ) → HeadFits (Among P.atoms) head → values_of (links.node_of P.atoms a) rest ≡ others
      → values_of (links.node_of P.atoms a) (with_owner P.atoms i head ++ rest) ≡ cond (is_head head a) (i ∷ others) others
  one-owner Nothing i rest others fits e = e
  one-owner (Choice as_) i rest others fits e = e
  one-owner (One b) i rest others fits e =
      picked (links.node_of P.atoms b == links.node_of P.atoms a) (links.node_of P.atoms b) i (filter (λ p. p.0 == links.node_of P.atoms a) rest) others e
      ∙ ap (λ x. cond x (i ∷ others) others) (same-key b fits)

  values-rules : (xs : List ℕ) → ((i : ℕ) → In i xs → HeadFits (Among P.atoms) (rule_at P.rules i).head) → values_of (links.node_of P.atoms a) (flat_map (owner_at P) xs) ≡ filter (λ i. is_head (rule_at P.rules i).head a) xs
  values-rules [] fits = refl
  values-rules (i ∷ xs) fits = one-owner (rule_at P.rules i).head i (flat_map (owner_at P) xs) _ (fits i (inl refl)) (values-rules xs (λ j k. fits j (inr k)))

head-fits : (P : Ground) → IsProgram P → (i : ℕ) → In i (counted 0 P.rules) → HeadFits (Among P.atoms) (rule_at P.rules i).head
head-fits P program i h = (each-in (RuleFits (Among P.atoms)) P.rules (rule_at P.rules i) program.rules (counted-rule P.rules i h)).0

pub owned-rules : (P : Ground) → IsProgram P → (part : ℕ → ℕ) (parts : List ℕ) (a : ℕ) → members P.atoms a ≡ true → values_of (links.node_of P.atoms a) (owners_of P) ≡ rules_of P part parts a
owned-rules P program part parts a member = values-rules P program.atoms_rise a member (counted 0 P.rules) (head-fits P program)

pair-in : (pairs : List (ℕ × ℕ)) (j : ℕ) → j < length pairs → In (pair_at pairs j) pairs
pair-in [] j h = absurd (omega arith)
pair-in (p ∷ pairs) zero h = inl refl
pair-in (p ∷ pairs) (suc j) h = inr (pair-in pairs j (omega arith))

owner-below : (P : Ground) (head : Head) (i : ℕ) (p : ℕ × ℕ) → HeadFits (Among P.atoms) head → In p (with_owner P.atoms i head) → p.0 < length P.atoms
owner-below P Nothing i p fits h = absurd h
owner-below P (Choice as_) i p fits h = absurd h
owner-below P (One a) i p fits h = ⊎_elim (λ e. subst (λ (q : ℕ × ℕ). q.0 < length P.atoms) e (node-below P.atoms a fits)) (λ k. absurd k) h

pub owners-below : (P : Ground) → IsProgram P → (j : ℕ) → j < length (owners_of P) → (pair_at (owners_of P) j).0 < length P.atoms
owners-below P program j h =
    let k : (i : ℕ) × In i (counted 0 P.rules) × In (pair_at (owners_of P) j) (owner_at P i) = flat-in (owner_at P) (counted 0 P.rules) (pair_at (owners_of P) j) (pair-in (owners_of P) j h) in
    owner-below P (rule_at P.rules k.0).head k.0 (pair_at (owners_of P) j) (head-fits P program k.0 k.1) k.2

-- no more owners than rules
pub owners-few : (P : Ground) → length (owners_of P) ≤ length P.rules
owners-few P = subst (λ n. length (owners_of P) ≤ n) (counted-length 0 P.rules) (few (counted 0 P.rules))
  where
    one : (i : ℕ) (head : Head) → length (with_owner P.atoms i head) ≤ 1
    one i Nothing = omega arith
    one i (One a) = omega arith
    one i (Choice as_) = omega arith

    few : (is : List ℕ) → length (flat_map (owner_at P) is) ≤ length is
    few [] = omega arith
    few (i ∷ is) = omega (arith, length-append (owner_at P i) (flat_map (owner_at P) is), one i (rule_at P.rules i).head, few is)

-- the atoms of a rule's body in the component of its head
inner-map : (part : ℕ → ℕ) (rules : List Rule) (i : ℕ) → i < length rules → slice_index_or (map (inner_by part) rules) i [] ≡ inner_by part (rule_at rules i)
inner-map part [] i h = absurd (omega arith)
inner-map part (r ∷ rules) zero h = refl
inner-map part (r ∷ rules) (suc i) h = inner-map part rules i (omega arith)

pub take-past : {A : Type 0} (i : ℕ) (xs : List A) → length xs ≤ i → take i xs ≡ xs
take-past zero [] h = refl
take-past zero (x ∷ xs) h = absurd (omega arith)
take-past (suc i) [] h = refl
take-past (suc i) (x ∷ xs) h = ap (λ ys. x ∷ ys) (take-past i xs (omega arith))

-- for a rule with a head
inner-head : (part : ℕ → ℕ) (head : Head) (bs : List ℕ) (a : ℕ) → is_head head a ≡ true → inner_head part head bs ≡ once (filter (λ b. part b == part (head_atom head)) bs)
inner-head part Nothing bs a h = absurd (not-both true refl (sym h))
inner-head part (One b) bs a h = refl
inner-head part (Choice as_) bs a h = absurd (not-both true refl (sym h))

module _ (P : Ground) (part : ℕ → ℕ) (parts : List ℕ) where
  pub inner-is : (inner : List (List ℕ)) (i a : ℕ) → inner ≡ map (inner_by part) P.rules → In i (rules_of P part parts a) → slice_index_or inner i [] ≡ inner_at P part parts i
  inner-is inner i a e h =
      let k : In i (counted 0 P.rules) × (is_head (rule_at P.rules i).head a ≡ true) = filter-in (λ j. is_head (rule_at P.rules j).head a) (counted 0 P.rules) i h in
      let below : i < 0 + length P.rules = counted-below 0 P.rules i k.0 in
      ap (λ ls. slice_index_or ls i []) e ∙ (inner-map part P.rules i (omega arith) ∙ inner-head part (rule_at P.rules i).head (positives_of_body (rule_at P.rules i).body) a k.1)

  pub rule-below : (i a : ℕ) → In i (rules_of P part parts a) → i < length P.rules
  rule-below i a h = let below : i < 0 + length P.rules = counted-below 0 P.rules i ((filter-in (λ j. is_head (rule_at P.rules j).head a) (counted 0 P.rules) i h).0) in omega arith

pub inner-length : (P : Ground) (part : ℕ → ℕ) (inner : List (List ℕ)) → inner ≡ map (inner_by part) P.rules → length inner ≡ length P.rules
inner-length P part inner is = ap length is ∙ length-map P.rules (inner_by part)

pub part-among : (p : ℕ → Bool) (atoms : List ℕ) → AllByRecursion (Among atoms) (filter p atoms)
part-among p atoms = in-each (Among atoms) (filter p atoms) (λ a h. in-member atoms a ((filter-in p atoms a h).0))

-- one component more
pub part-more : {B : Type 0} (f : ℕ → List B) (p : ℕ → Bool) (n : ℕ) → flat_map f (filter p (range_with_len 1 (n + 1))) ≡ flat_map f (filter p (range_with_len 1 n)) ++ flat_map f (cond (p (n + 1)) ((n + 1) ∷ []) [])
part-more f p n =
    ap (λ k. flat_map f (filter p (range_with_len 1 k))) (let e : n + 1 ≡ suc n = omega arith in e)
    ∙ (ap (λ xs. flat_map f (filter p xs)) (range-more n 1 ∙ ap (λ k. range_with_len 1 n ++ (k ∷ [])) (let e : 1 + n ≡ n + 1 = omega arith in e))
    ∙ (ap (flat_map f) (filter-append p (range_with_len 1 n) ((n + 1) ∷ [])) ∙ flat-append f (filter p (range_with_len 1 n)) (filter p ((n + 1) ∷ []))))

pub part-taken : {B : Type 0} (f : ℕ → List B) (p : ℕ → Bool) (n : ℕ) → p (n + 1) ≡ true → flat_map f (filter p (range_with_len 1 n)) ++ f (n + 1) ≡ flat_map f (filter p (range_with_len 1 (n + 1)))
part-taken f p n h = ap (λ xs. flat_map f (filter p (range_with_len 1 n)) ++ xs) (sym (ap (flat_map f) (cond-true (p (n + 1)) _ _ h) ∙ append-nil (f (n + 1)))) ∙ sym (part-more f p n)

pub part-left : {B : Type 0} (f : ℕ → List B) (p : ℕ → Bool) (n : ℕ) → p (n + 1) ≡ false → flat_map f (filter p (range_with_len 1 n)) ≡ flat_map f (filter p (range_with_len 1 (n + 1)))
part-left f p n h = sym (append-nil (flat_map f (filter p (range_with_len 1 n)))) ∙ (ap (λ xs. flat_map f (filter p (range_with_len 1 n)) ++ xs) (sym (ap (flat_map f) (cond-false (p (n + 1)) _ _ h))) ∙ sym (part-more f p n))
