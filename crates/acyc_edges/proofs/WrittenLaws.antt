-- Rules that are written with the tables are those of the names.
use Rattle.std.proofs.Common.{◌≡◌, refl, sym, ◌∙◌, ap, ap₂, ℕ, Bool, true, false, cond, ◌==◌, List, [], ◌∷◌, ◌++◌, map}
use Rattle.std.proofs.lemmas.Bool.{true≢false, eqb-true, eq-eqb}
use Rattle.std.proofs.lemmas.List.{append-nil}
use Rattle.asp_base.specs.Literal.{Literal, Pos, Neg}
use Rattle.ground_program.specs.Ground.{Ground}
use Rattle.ground_program.specs.declared.program.Rule.{Rule}
use Rattle.ground_program.proofs.Rows.{normal, constraint}
use Rattle.acyc_edges.specs.declared.name.Name.{Name}
use Rattle.acyc_edges.specs.declared.name.Name.TheVariants.{Fires, Chosen, Backed, NoLater, Backs}
use Rattle.acyc_edges.specs.Encoding.{rules_of, inner_at, rules_of_name}
use Rattle.acyc_edges.specs.private.Numbers.{number_of}
use Rattle.acyc_edges.specs.private.Written.{backing_rule, later_rule, self_rule}
use Rattle.acyc_edges.proofs.Inside.{false-from}

map-twice : {A B C : Type 0} (f : A → C) (g : B → C) (h : A → B) (xs : List A) → ((x : A) → f x ≡ g (h x)) → map f xs ≡ map g (map h xs)
map-twice f g h [] e = refl
map-twice f g h (x ∷ xs) e = ap₂ (λ y ys. y ∷ ys) (e x) (map-twice f g h xs e)

-- ---- the rules of a name

abbrev pub limit : ℕ → ℕ → Rule
limit a n = constraint (Pos a ∷ Neg n ∷ [])

first-split : (b : Bool) (n : ℕ) (bs cs : List (List Literal)) (l : List Literal) → b ≡ true → map (normal n) bs ++ (constraint l ∷ []) ≡ map (normal n) (cond b bs cs) ++ map constraint (cond b (l ∷ []) [])
first-split true n bs cs l e = refl
first-split false n bs cs l e = absurd (true≢false (sym e))

second-split : (b : Bool) (n : ℕ) (bs cs : List (List Literal)) (l : List Literal) → b ≡ false → map (normal n) cs ≡ map (normal n) (cond b bs cs) ++ map constraint (cond b (l ∷ []) [])
second-split true n bs cs l e = absurd (true≢false e)
second-split false n bs cs l e = sym (append-nil (map (normal n) cs))

module _ (P : Ground) (part : ℕ → ℕ) (pairs : List (Name × ℕ)) where
  pub backed-name : (a : ℕ) → map (backing_rule pairs (inner_at P part []) a) (rules_of P part [] a) ++ (limit a (number_of pairs (Backed a)) ∷ []) ≡ rules_of_name P part [] (number_of pairs) (Backed a)
  backed-name a = ap (λ rs. rs ++ (limit a (number_of pairs (Backed a)) ∷ [])) (map-twice (backing_rule pairs (inner_at P part []) a) (normal (number_of pairs (Backed a))) (λ i. Pos (number_of pairs (Fires i)) ∷ map (λ b. Pos (number_of pairs (Chosen a b))) (inner_at P part [] i)) (rules_of P part [] a) (λ i. refl))

  pub same-name : (a : ℕ) → map (self_rule pairs a) (rules_of P part [] a) ++ (limit a (number_of pairs (NoLater a a)) ∷ []) ≡ rules_of_name P part [] (number_of pairs) (NoLater a a)
  same-name a =
      ap (λ rs. rs ++ (limit a (number_of pairs (NoLater a a)) ∷ [])) (map-twice (self_rule pairs a) (normal (number_of pairs (NoLater a a))) (λ i. Pos (number_of pairs (Backs i)) ∷ []) (rules_of P part [] a) (λ i. refl))
      ∙ first-split (a == a) (number_of pairs (NoLater a a)) _ _ (Pos a ∷ Neg (number_of pairs (NoLater a a)) ∷ []) (eq-eqb a a refl)

  pub other-name : (a c : ℕ) → (a ≡ c → ⊥) → map (later_rule pairs (inner_at P part []) a c) (rules_of P part [] a) ≡ rules_of_name P part [] (number_of pairs) (NoLater a c)
  other-name a c d =
      map-twice (later_rule pairs (inner_at P part []) a c) (normal (number_of pairs (NoLater a c))) (λ i. Pos (number_of pairs (Fires i)) ∷ map (λ b. Neg (number_of pairs (NoLater c b))) (inner_at P part [] i)) (rules_of P part [] a) (λ i. refl)
      ∙ second-split (a == c) (number_of pairs (NoLater a c)) _ _ (Pos a ∷ Neg (number_of pairs (NoLater a c)) ∷ []) (false-from (a == c) (λ t. d (eqb-true a c t)))
