-- The program that is written as smodels text is faithful to the given one.
use Rattle.std.proofs.Common.{◌≡◌, refl, sym, ◌∙◌, ap, ℕ, true, false, List, [], ◌∷◌, append-nil}
use Rattle.std.proofs.lemmas.Bool.{and_parts, true≢false}
use Rattle.asp_base.specs.Sets.{members, cut}
use Rattle.ground_program.specs.Facts.{IsProgram}
use Rattle.ground_program.specs.Faithful.{Faithful}
use Rattle.ground_program.specs.Fresh.{new_atom}
use Rattle.ground_program.specs.Ground.{Ground}
use Rattle.ground_program.specs.Stable.{costs_of, names_of}
use Rattle.ground_program.specs.declared.program.Edge.{Edge}
use Rattle.smodels_format.specs.Lowering.{after_rules, first_index, lowered}
use Rattle.smodels_format.specs.Writable.{has_none, is_writable}
use Rattle.smodels_format.proofs.LoweredCosts.{costs-same}
use Rattle.smodels_format.proofs.LoweredFresh.{Rises}
use Rattle.smodels_format.proofs.LoweredKeeps.{IsLowered}
use Rattle.smodels_format.proofs.LoweredLeast.{extension}
use Rattle.smodels_format.proofs.LoweredNames.{names-same}
use Rattle.smodels_format.proofs.LoweredRules.{Extends, all_rules, all-shows-named}
use Rattle.smodels_format.proofs.LoweredStable.{extends-cut, cut-stable, cuts-settle, extended-stable, extended-cut}

none-is : (edges : List Edge) → has_none edges ≡ true → edges ≡ []
none-is [] e = refl
none-is (edge ∷ edges) e = absurd (true≢false (sym e))

lowered-is : (P : Ground) → IsLowered (new_atom P.atoms) P (lowered P)
lowered-is P = record { rules = append-nil (all_rules (new_atom P.atoms) P); required = refl; edges = refl; shows = refl; levels = refl }

-- whatever the new atoms are, as long as they rise and are none of the program's
module _ (new : ℕ → ℕ) (rises : Rises new) (P : Ground) (fresh : (k : ℕ) → members P.atoms (new k) ≡ false) (f : IsProgram P)
    (Q : Ground) (q : IsLowered new P Q) (no_edges : P.edges ≡ []) where
  Faithful-from_new : Faithful P Q
  Faithful-from_new = record {
    covers = record {
      stable = λ N s. cut-stable new rises P fresh f Q q no_edges N s;
      names = λ N s.
          let x : Extends new P N (cut P.atoms N) (cut P.atoms N) = extends-cut new rises P fresh f Q q no_edges N s in
          ap (λ shows. names_of shows N) q.shows
          ∙ names-same new P.atoms N (cut P.atoms N) x.near (after_rules (first_index P) P.rules) P.shows f.shows
          (all-shows-named new rises P fresh f N (cut P.atoms N) (cut P.atoms N) x.outside);
      costs = λ N s.
          let x : Extends new P N (cut P.atoms N) (cut P.atoms N) = extends-cut new rises P fresh f Q q no_edges N s in
          ap (λ levels. costs_of levels N) q.levels ∙ costs-same P.atoms N (cut P.atoms N) x.near P.levels f.levels;
      onto = λ M s. (extension new P M M, extended-stable new rises P fresh f Q q no_edges M s, extended-cut new rises P fresh f Q q no_edges M s);
    };
    one = λ N W s t e. cuts-settle new rises P fresh f Q q no_edges N W s t e;
  }

pub lowered-faithful : (P : Ground) → Rises (new_atom P.atoms) → ((k : ℕ) → members P.atoms (new_atom P.atoms k) ≡ false) → IsProgram P → is_writable P ≡ true → Faithful P (lowered P)
lowered-faithful P rises fresh f w = Faithful-from_new (new_atom P.atoms) rises P fresh f (lowered P) (lowered-is P) (none-is P.edges ((and_parts _ _ w).0))
