-- Rules and edges of names are the same with numbers that agree on the names of the encoding.
use Rattle.std.proofs.Common.{◌≡◌, refl, ap, ap₂, ℕ, cond, ◌==◌, List, [], ◌∷◌, ◌++◌, map, inl, inr}
use Rattle.std.specs.List.{flat_map}
use Rattle.asp_base.specs.Literal.{Pos, Neg}
use Rattle.asp_base.specs.Sets.{In}
use Rattle.ground_program.specs.Ground.{Ground}
use Rattle.ground_program.specs.declared.program.Head.TheVariants.{Nothing, One}
use Rattle.ground_program.specs.declared.program.Body.TheVariants.{All}
use Rattle.acyc_edges.specs.declared.name.Name.{Name}
use Rattle.acyc_edges.specs.declared.name.Name.TheVariants.{Atom, Complement, Fires, Chosen, Left, Backed, NoLater, Backs}
use Rattle.acyc_edges.specs.Encoding.{rules_of, head_at, inner_at, node_of_atom, bodies_of, limits_of, edges_of, rules_of_name}
use Rattle.acyc_edges.specs.Names.{atom_of_name, same_name}
use Rattle.acyc_edges.specs.private.Numbers.{number_of, numbered}
use Rattle.acyc_edges.proofs.Inside.{in-any}
use Rattle.acyc_edges.proofs.NameLaws.{is-same_name}
use Rattle.acyc_edges.proofs.Numbering.{number-is}
use Rattle.acyc_edges.specs.private.Sources.{Source, AreNames}

map-same : {A B : Type 0} (f g : A → B) (xs : List A) → ((x : A) → In x xs → f x ≡ g x) → map f xs ≡ map g xs
map-same f g [] h = refl
map-same f g (x ∷ xs) h = ap₂ ◌∷◌ (h x (inl refl)) (map-same f g xs (λ y i. h y (inr i)))

flat-same : {A B : Type 0} (f g : A → List B) (xs : List A) → ((x : A) → In x xs → f x ≡ g x) → flat_map f xs ≡ flat_map g xs
flat-same f g [] h = refl
flat-same f g (x ∷ xs) h = ap₂ ◌++◌ (h x (inl refl)) (flat-same f g xs (λ y i. h y (inr i)))

module _ (P : Ground) (part : ℕ → ℕ) (parts : List ℕ) (names : List Name) (are : AreNames P part parts names) (f g : Name → ℕ) (same : (n : Name) → In n names → f n ≡ g n) where
  bodies-same : (n : Name) → In n names → bodies_of P part parts f n ≡ bodies_of P part parts g n
  bodies-same (Atom a) i = ap (λ x. (Neg x ∷ []) ∷ []) (same (Complement a) (are.complement a (are.source (Atom a) i)))
  bodies-same (Complement a) i = refl
  bodies-same (Fires x) i = refl
  bodies-same (Chosen a b) i = ap (λ x. (Pos a ∷ Pos b ∷ Neg x ∷ []) ∷ []) (same (Left a b) ((are.source (Chosen a b) i).3))
  bodies-same (Left a b) i = ap (λ x. (Neg x ∷ []) ∷ []) (same (Chosen a b) (are.source (Left a b) i))
  bodies-same (Backed a) i =
      let s : Source P part parts names (Backed a) = are.source (Backed a) i in
      map-same (λ x. Pos (f (Fires x)) ∷ map (λ b. Pos (f (Chosen a b))) (inner_at P part parts x)) (λ x. Pos (g (Fires x)) ∷ map (λ b. Pos (g (Chosen a b))) (inner_at P part parts x)) (rules_of P part parts a)
      (λ x h. ap₂ (λ y ys. Pos y ∷ ys) (same (Fires x) ((s.1 x h).0))
      (map-same (λ b. Pos (f (Chosen a b))) (λ b. Pos (g (Chosen a b))) (inner_at P part parts x) (λ b k. ap Pos (same (Chosen a b) ((s.1 x h).1 b k)))))
  bodies-same (NoLater a c) i =
      let s : Source P part parts names (NoLater a c) = are.source (NoLater a c) i in
      ap₂ (cond (a == c))
      (map-same (λ x. Pos (f (Backs x)) ∷ []) (λ x. Pos (g (Backs x)) ∷ []) (rules_of P part parts a) (λ x h. ap (λ y. Pos y ∷ []) (same (Backs x) ((s.3 x h).0))))
      (map-same (λ x. Pos (f (Fires x)) ∷ map (λ b. Neg (f (NoLater c b))) (inner_at P part parts x)) (λ x. Pos (g (Fires x)) ∷ map (λ b. Neg (g (NoLater c b))) (inner_at P part parts x)) (rules_of P part parts a)
      (λ x h. ap₂ (λ y ys. Pos y ∷ ys) (same (Fires x) ((s.3 x h).1))
      (map-same (λ b. Neg (f (NoLater c b))) (λ b. Neg (g (NoLater c b))) (inner_at P part parts x) (λ b k. ap Neg (same (NoLater c b) ((s.3 x h).2 b k))))))
  bodies-same (Backs x) i =
      let s : Source P part parts names (Backs x) = are.source (Backs x) i in
      ap (λ body. body ∷ []) (ap₂ (λ y ys. Pos y ∷ ys) (same (Fires x) s.2)
      (map-same (λ b. Neg (f (NoLater (head_at P part parts x) b))) (λ b. Neg (g (NoLater (head_at P part parts x) b))) (inner_at P part parts x) (λ b k. ap Neg (same (NoLater (head_at P part parts x) b) (s.3 b k)))))

  limits-same : (n : Name) → In n names → limits_of P part parts f n ≡ limits_of P part parts g n
  limits-same (Atom a) i = refl
  limits-same (Complement a) i = refl
  limits-same (Fires x) i = ap (λ y. (Pos y ∷ Neg (head_at P part parts x) ∷ []) ∷ []) (same (Fires x) i)
  limits-same (Chosen a b) i = refl
  limits-same (Left a b) i = refl
  limits-same (Backed a) i = ap (λ y. (Pos a ∷ Neg y ∷ []) ∷ []) (same (Backed a) i)
  limits-same (NoLater a c) i = ap (λ y. cond (a == c) ((Pos a ∷ Neg y ∷ []) ∷ []) []) (same (NoLater a c) i)
  limits-same (Backs x) i = refl

  edges-same : (n : Name) → In n names → edges_of P part parts f n ≡ edges_of P part parts g n
  edges-same (Atom a) i = refl
  edges-same (Complement a) i = refl
  edges-same (Fires x) i = refl
  edges-same (Chosen a b) i = ap (λ y. record { from = node_of_atom P part parts a; to = node_of_atom P part parts b; condition = Pos y ∷ [] } ∷ []) (same (Chosen a b) i)
  edges-same (Left a b) i = refl
  edges-same (Backed a) i = refl
  edges-same (NoLater a c) i = refl
  edges-same (Backs x) i =
      ap (λ y. map (λ b. record { from = node_of_atom P part parts (head_at P part parts x); to = node_of_atom P part parts b; condition = Pos y ∷ [] }) (inner_at P part parts x)) (same (Backs x) i)

  rules-same : (n : Name) → In n names → rules_of_name P part parts f n ≡ rules_of_name P part parts g n
  rules-same n i = ap₂ ◌++◌
      (ap₂ (λ h bs. map (λ lits. record { head = One h; body = All lits }) bs) (same n i) (bodies-same n i))
      (ap (map (λ lits. record { head = Nothing; body = All lits })) (limits-same n i))

  pub all-rules_same : flat_map (rules_of_name P part parts f) names ≡ flat_map (rules_of_name P part parts g) names
  all-rules_same = flat-same (rules_of_name P part parts f) (rules_of_name P part parts g) names rules-same

  pub all-edges_same : flat_map (edges_of P part parts f) names ≡ flat_map (edges_of P part parts g) names
  all-edges_same = flat-same (edges_of P part parts f) (edges_of P part parts g) names edges-same

-- what is written with the numbers that were given is the encoding
module _ (P : Ground) (part : ℕ → ℕ) (parts : List ℕ) (names : List Name) (are : AreNames P part parts names) where
  found : (n : Name) → In n names → number_of (numbered P.atoms names) n ≡ atom_of_name P.atoms names n
  found n i = number-is P.atoms names n (in-any (λ m. same_name m n) names n i (is-same_name n))

  pub written-rules : flat_map (rules_of_name P part parts (number_of (numbered P.atoms names))) names ≡ flat_map (rules_of_name P part parts (atom_of_name P.atoms names)) names
  written-rules = all-rules_same P part parts names are (number_of (numbered P.atoms names)) (atom_of_name P.atoms names) found

  pub written-edges : flat_map (edges_of P part parts (number_of (numbered P.atoms names))) names ≡ flat_map (edges_of P part parts (atom_of_name P.atoms names)) names
  written-edges = all-edges_same P part parts names are (number_of (numbered P.atoms names)) (atom_of_name P.atoms names) found
