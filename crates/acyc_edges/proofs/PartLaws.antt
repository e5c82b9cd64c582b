-- The components of a program are parts as the encodings need them.
use Rattle.std.proofs.Common.{◌≡◌, ◌∙◌, sym, subst, ℕ, Bool, true, List, filter}
use Rattle.std.specs.List.{range_with_len}
use Rattle.asp_base.specs.Sets.{members}
use Rattle.graph_parts.specs.Divided.{is_cyclic_at}
use Rattle.components.specs.Components.{AreComponents, number_of}
use Rattle.components.specs.Divided.{Divided, cyclic_numbers, part_of}
use Rattle.components.specs.Parts.{ArePartsOf}
use Rattle.components.proofs.AtomLaws.{heads-among}
use Rattle.components.proofs.LinkLaws.{depends-found}
use Rattle.ground_program.specs.Dependencies.{depends}
use Rattle.ground_program.specs.Facts.{IsProgram}
use Rattle.ground_program.specs.Ground.{Ground}
use Rattle.acyc_edges.specs.private.Parts.{AreParts}
use Rattle.acyc_edges.proofs.CyclicLaws.{member-test}
use Rattle.acyc_edges.proofs.Walking.{first-step}

module _ (P : Ground) (program : IsProgram P) (numbers : List ℕ) (count : ℕ) (cyclic : List Bool) (are : AreComponents P numbers count cyclic) where
  among : (a b : ℕ) → depends P.rules a b ≡ true → members P.atoms a ≡ true
  among a b h = let f = depends-found P.rules a b h in heads-among P.atoms P.rules program.rules f.place f.rule a f.at f.head

  pub are-parts : AreParts P.rules (number_of P.atoms numbers) (filter (is_cyclic_at cyclic) (range_with_len 1 count))
  are-parts = record {
    lower = are.lower;
    cycles = λ a r.
        let f : (x : ℕ) × (depends P.rules a x ≡ true) = first-step (depends P.rules) a r.0 a r.1 in
        let m : members P.atoms a ≡ true = among a f.0 f.1 in
        member-test (is_cyclic_at cyclic) count (number_of P.atoms numbers a) (are.least a m) (are.most a m) ∙ (are.cycles a m).1 r;
  }

pub are-parts_of : (P : Ground) → IsProgram P → (d : Divided) → ArePartsOf P d → AreParts P.rules (part_of d) (cyclic_numbers d)
are-parts_of P program d are = subst (λ as_. AreParts P.rules (number_of as_ d.numbers) (cyclic_numbers d)) (sym are.atoms) (are-parts P program d.numbers d.count d.cyclic are.components)
