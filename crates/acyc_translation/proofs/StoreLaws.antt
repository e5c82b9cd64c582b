-- What the completion of a program without positive recursion leaves in a store, with its edges.
use Rattle.std.proofs.Common.{◌≡◌, refl, sym, ◌∙◌, ap, subst, ◌+◌, ◌-◌, ◌*◌, ◌≤◌, ◌<◌, ◌^◌, List, [], ◌∷◌, length, arith}
use Rattle.std.specs.List.{sum_by}
use Rattle.std.proofs.lemmas.List.Sums.{sum_by-cons}
use Rattle.ground_program.specs.Facts.{IsProgram}
use Rattle.ground_program.specs.Ground.{Ground}
use Rattle.ground_program.specs.Size.{size}
use Rattle.ground_program.specs.declared.program.Edge.{Edge}
use Rattle.clause_store.specs.Stored.{Stored, formula_of_store}
use Rattle.completion.specs.Completion.{completed}
use Rattle.completion.specs.Supported.{IsSmall}
use Rattle.completion.proofs.CompletionLaws.{completed-edges, completed-soft, completed-has_atoms}
use Rattle.acyc_translation.specs.Encoded.{IsEcnf}
use Rattle.acyc_translation.specs.private.Linked.{Linked}
use Rattle.acyc_translation.specs.private.Made.{FitsSize}

-- there are no more edges than they are large
edges-few : (edges : List Edge) → length edges ≤ sum_by (λ edge. 1 + length edge.condition) edges
edges-few [] = omega arith
edges-few (edge ∷ edges) =
    let one : sum_by (λ e. 1 + length e.condition) (edge ∷ edges) ≡ 1 + length edge.condition + sum_by (λ e. 1 + length e.condition) edges = sum_by-cons _ edge edges in
    let rest : length edges ≤ sum_by (λ e. 1 + length e.condition) edges = edges-few edges in
    omega arith

module _ (P : Ground) (program : IsProgram P) (s : Stored) (before : s ≡ completed P) where
  pub atoms-up : length P.atoms ≤ s.vars
  atoms-up = subst (λ (k : Stored). length P.atoms ≤ k.vars) (sym before) (completed-has_atoms P program)

  pub edges-none : s.edges ≡ []
  edges-none = ap (λ (k : Stored). k.edges) before ∙ completed-edges P program

  pub edges-room : IsSmall P (formula_of_store s 1) → size P ≤ 2 ^ 28 → s.vars + length P.edges < 2 ^ 31 - 1
  edges-room small few =
      let vars : s.vars ≤ size P = small.vars in
      let each : length P.edges ≤ sum_by (λ edge. 1 + length edge.condition) P.edges = edges-few P.edges in
      omega arith

  module _ (t : Stored) (links : Linked P.atoms P.edges s t) where
    pub store-ecnf : IsEcnf (formula_of_store t 1)
    store-ecnf = record { soft = links.defines.soft ∙ (ap (λ (k : Stored). k.soft) before ∙ completed-soft P program); top = refl }

    pub store-fits : IsSmall P (formula_of_store s 1) → t.vars < 2 ^ 31 → FitsSize P (formula_of_store t 1)
    store-fits small numbers =
        let up : length P.atoms ≤ s.vars = atoms-up in
        let grows : s.vars ≤ t.vars = links.defines.grows in
        let vars : s.vars ≤ size P = small.vars in
        let hard : length s.hard ≤ 2 * size P = small.hard in
        let each : length P.edges ≤ sum_by (λ edge. 1 + length edge.condition) P.edges = edges-few P.edges in
        let more : t.vars ≤ s.vars + length P.edges = links.defines.vars in
        let clauses : length t.hard ≤ length s.hard + sum_by (λ edge. 1 + length edge.condition) P.edges = links.defines.hard in
        record { atoms = omega arith; numbers = numbers; vars = omega arith; hard = omega arith }
