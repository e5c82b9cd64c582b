-- The first encoding covers the program.
use Rattle.std.proofs.Common.{◌≡◌, refl, ◌∙◌, ap, subst, ℕ, true, not, List, [], ◌∷◌, map, ⊎_elim, inl}
use Rattle.std.specs.List.{flat_map}
use Rattle.std.proofs.lemmas.Bool.{and_parts, and_from, cases_Bool}
use Rattle.asp_base.specs.Literal.{Pos, Neg, all_hold}
use Rattle.asp_base.specs.Sets.{Set, In}
use Rattle.asp_base.specs.Walks.{Acyclic}
use Rattle.ground_program.specs.Facts.{IsProgram}
use Rattle.ground_program.specs.Faithful.{Covers}
use Rattle.ground_program.specs.Ground.{Ground}
use Rattle.ground_program.specs.Stable.{edge_joins, Supported}
use Rattle.ground_program.specs.Dependencies.{depends}
use Rattle.acyc_edges.specs.Encoding.{rules_of, inner_at, node_of_atom, edges_of, plain_names, plain}
use Rattle.acyc_edges.specs.declared.name.Name.{Name}
use Rattle.acyc_edges.specs.declared.name.Name.TheVariants.{Fires, Chosen, Backed}
use Rattle.acyc_edges.specs.Names.{atom_of_name}
use Rattle.ground_program.specs.Normal.{AreNormal}
use Rattle.acyc_edges.specs.private.Parts.{AreParts}
use Rattle.acyc_edges.proofs.Covered.{Backing, int_eq-again}
use Rattle.acyc_edges.proofs.Covering.{made-covers}
use Rattle.acyc_edges.proofs.Encoded.{HoldsName, says, limit, fires-says}
use Rattle.acyc_edges.proofs.Inside.{in-any, in-flat, map-in}
use Rattle.acyc_edges.proofs.SourceLaws.{plain-are, plain-backed}
use Rattle.acyc_edges.specs.private.Sources.{Cyc, Source, AreNames}
use Rattle.acyc_edges.proofs.Tight.{made-tight}

module _ (P : Ground) (program : IsProgram P) (normal : AreNormal P.rules) (part : ℕ → ℕ) (parts : List ℕ) (areparts : AreParts P.rules part parts) where
  abbrev names : List Name
  names = flat_map (plain_names P part parts) parts

  abbrev num : Name → ℕ
  num = atom_of_name P.atoms names

  are : AreNames P part parts names
  are = plain-are P program normal part parts

  module _ (M : Set) (supported : Supported (plain P part parts) M) where
    hold-positives : (f : ℕ → Name) (xs : List ℕ) → all_hold (map (λ b. Pos (num (f b))) xs) M M ≡ true → (b : ℕ) → In b xs → M (num (f b)) ≡ true
    hold-positives f [] h b i = absurd i
    hold-positives f (x ∷ xs) h b i =
        let k : (M (num (f x)) ≡ true) × (all_hold (map (λ c. Pos (num (f c))) xs) M M ≡ true) = and_parts _ _ h in
        ⊎_elim (λ e. subst (λ c. M (num (f c)) ≡ true) e k.0) (λ e. hold-positives f xs k.1 b e) i

    -- an atom that holds is backed, so one of its rules has all its edges chosen
    backing : (a : ℕ) → Cyc P part parts a → M a ≡ true → Backing P part parts names M a
    backing a s m = ⊎_elim by
        (λ t. absurd (limit P program normal part parts names are M supported (Backed a) (Pos a ∷ Neg (num (Backed a)) ∷ []) (plain-backed P program normal part parts a s) (inl refl) (and_from _ _ m (and_from _ _ (ap not t) refl))))
        (cases_Bool (M (num (Backed a))))
      where
        by : M (num (Backed a)) ≡ true → Backing P part parts names M a
        by t =
            let source : Source P part parts names (Backed a) = are.source (Backed a) (plain-backed P program normal part parts a s) in
            let d : HoldsName P part parts names (Backed a) M M = says P program normal part parts names are M supported (Backed a) (plain-backed P program normal part parts a s) t in
            let j : (x : ℕ) × In x (rules_of P part parts a) × ((Pos (num (Fires x)) ∷ map (λ z. Pos (num (Chosen a z))) (inner_at P part parts x)) ≡ d.lits) =
            map-in (λ x. Pos (num (Fires x)) ∷ map (λ z. Pos (num (Chosen a z))) (inner_at P part parts x)) (rules_of P part parts a) d.lits d.there in
            let k : (M (num (Fires j.0)) ≡ true) × (all_hold (map (λ z. Pos (num (Chosen a z))) (inner_at P part parts j.0)) M M ≡ true) = and_parts _ _ (ap (λ l. all_hold l M M) j.2 ∙ d.holds) in
            record {
              index = j.0;
              there = j.1;
              body = fires-says P program normal part parts names are M supported j.0 ((source.1 j.0 j.1).0) k.0;
              edges = λ b i. in-any (λ edge. edge_joins edge M (node_of_atom P part parts a) (node_of_atom P part parts b)) (flat_map (edges_of P part parts num) names)
                  (record { from = node_of_atom P part parts a; to = node_of_atom P part parts b; condition = Pos (num (Chosen a b)) ∷ [] })
                  (in-flat (edges_of P part parts num) names (Chosen a b) _ ((source.1 j.0 j.1).1 b i) (inl refl))
                  (and_from _ _ (int_eq-again (node_of_atom P part parts a)) (and_from _ _ (int_eq-again (node_of_atom P part parts b)) (and_from _ _ (hold-positives (λ z. Chosen a z) (inner_at P part parts j.0) k.1 b i) refl)));
            }

  pub plain-tight : Acyclic (depends (plain P part parts).rules)
  plain-tight = made-tight P program normal part parts areparts names are

  pub plain-covers : Covers P (plain P part parts)
  plain-covers = made-covers P program normal part parts areparts names are backing
