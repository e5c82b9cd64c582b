-- The rules that are put behind a stage one by one: between which atoms they go.
use Rattle.std.proofs.Common.{◌≡◌, refl, sym, ap, subst, ℕ, ◌<◌, ◌||◌, true, false, List, [], ◌∷◌, ◌++◌, append-nil, inl, inr}
use Rattle.std.specs.List.{AllByRecursion}
use Rattle.std.proofs.lemmas.Bool.{or_left, or_right, eq-eqb}
use Rattle.asp_base.specs.Literal.{Literal, Pos, Neg}
use Rattle.asp_base.specs.Sets.{members}
use Rattle.ground_program.specs.Dependencies.{positives_of_literals}
use Rattle.normalize.specs.private.Added.{IsMade, Adds}
use Rattle.normalize.specs.private.Stage.{Stage, known, choosing, complement_rule}
use Rattle.normalize.proofs.DistinctLaws.{members-each}

-- a negative literal adds nothing
positives-neg : (lits : List Literal) (x : ℕ)
    → positives_of_literals (lits ++ (Neg x ∷ [])) ≡ positives_of_literals lits
positives-neg [] x = refl
positives-neg (Pos a ∷ lits) x = ap (λ atoms. a ∷ atoms) (positives-neg lits x)
positives-neg (Neg a ∷ lits) x = positives-neg lits x

choosing-made : (drawn : List ℕ) (a x : ℕ) (lits : List Literal)
    → IsMade drawn (a ∷ []) (positives_of_literals lits) (choosing a x lits)
choosing-made drawn a x lits = record {
  normal = (tt, tt);
  head = (inl (or_left _ _ (eq-eqb a a refl)), tt);
  body =
      subst (AllByRecursion (λ b. (members drawn b || members (positives_of_literals lits) b) ≡
      true))
      (sym (positives-neg lits x))
      (members-each (positives_of_literals lits) _ (λ b m. or_right (members drawn b) _ m));
}

complement-made : (heads reads : List ℕ) (a x : ℕ)
    → IsMade (x ∷ []) heads reads (complement_rule a x)
complement-made heads reads a x = record {
  normal = (tt, tt);
  head = (inr (or_left _ _ (eq-eqb x x refl), tt), tt);
  body = tt;
}

module _ (v : Stage) (a x : ℕ) (lits : List Literal) where
  pub Adds-chosen : Adds (a ∷ []) (positives_of_literals lits) v
      (record v { rules = v.rules ++ (choosing a x lits ∷ []) })
  Adds-chosen = record {
    drawn = [];
    new = choosing a x lits ∷ [];
    rules = refl;
    given = sym (append-nil v.supply.given);
    apart = tt;
    made = (choosing-made [] a x lits, tt);
  }

  pub Adds-complement : 0 < x → known v x ≡ false → Adds (a ∷ []) (positives_of_literals lits) v
      (record {
        rules = v.rules ++ (choosing a x lits ∷ complement_rule a x ∷ []);
        supply = record { atoms = v.supply.atoms; given = v.supply.given ++ (x ∷ []) };
        pairs = v.pairs ++ ((a, x) ∷ []);
      })
  Adds-complement low free = record {
    drawn = x ∷ [];
    new = choosing a x lits ∷ complement_rule a x ∷ [];
    rules = refl;
    given = refl;
    apart = ((low, free), tt);
    made = (
      choosing-made (x ∷ []) a x lits,
      (complement-made (a ∷ []) (positives_of_literals lits) a x, tt),
    );
  }
