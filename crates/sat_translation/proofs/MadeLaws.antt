-- What stands for the normal program stands for the given one, and is as small as its room allows.
use Rattle.std.proofs.Common.{◌≡◌, refl, sym, ◌∙◌, ap, subst, ℕ, ◌+◌, ◌*◌, ◌≤◌, ◌<◌, ◌^◌, [], ◌++◌, map, length, mul-add, arith}
use Rattle.std.proofs.Math.Nat.{mul_comm}
use Rattle.std.proofs.lemmas.Nat.{mul-le}
use Rattle.asp_base.specs.Sets.{members, Within}
use Rattle.asp_base.specs.Walks.{Acyclic, Reaches}
use Rattle.ground_program.specs.Dependencies.{depends}
use Rattle.ground_program.specs.Digits.{digits}
use Rattle.ground_program.specs.Facts.{IsProgram}
use Rattle.ground_program.specs.Faithful.{Faithful}
use Rattle.ground_program.specs.Ground.{Ground}
use Rattle.ground_program.specs.Room.{room}
use Rattle.ground_program.specs.Size.{size}
use Rattle.ground_program.specs.Stable.{joined, Founded}
use Rattle.ground_program.proofs.DigitLaws.{digits-mono}
use Rattle.ground_program.proofs.Negative.{Acyclic-no_edges}
use Rattle.clause_store.specs.Clauses.{Clauses}
use Rattle.clause_store.specs.Stored.{Stored, formula_of_store}
use Rattle.completion.specs.Completion.{atoms_at, completed}
use Rattle.completion.proofs.CompletionLaws.{completed-edges, completed-soft, completed-has_atoms}
use Rattle.completion.specs.Supported.{HasStable, IsSmall}
use Rattle.components.specs.Divided.{Divided, cyclic_numbers, part_of}
use Rattle.components.specs.Parts.{ArePartsOf}
use Rattle.level_ranking.specs.Encoding.{with_rankings}
use Rattle.level_ranking.specs.Ranked.{HasFounded, DigitsComeFirst, AddsFew}
use Rattle.normalize.specs.Kept.{SameRest}
use Rattle.symbol_map.specs.CutMap.{KeepsAtoms, cut_map}
use Rattle.symbol_map.specs.FaithfulMap.{FaithfulMap}
use Rattle.symbol_map.proofs.ComposeMap.{FaithfulMap-compose, cut-places}
use Rattle.sat_translation.specs.InputMap.{input_map, placed}
use Rattle.sat_translation.specs.Ranked.{IsRanked}
use Rattle.sat_translation.specs.Translated.{FitsRoom, IsCnf}
use Rattle.sat_translation.specs.private.Sizes.{FitsSize}
use Rattle.sat_translation.proofs.InputMapLaws.{over_atoms-faithful, cnf_is_not}

-- ---- what the rankings leave in the store

module _ (P : Ground) (d : Divided) (old new : Stored) (before : old ≡ completed P) (few : AddsFew P old new) where
  pub store-ranked : ArePartsOf P d → new ≡ with_rankings P (part_of d) (cyclic_numbers d) → HasFounded P (part_of d) (cyclic_numbers d) (formula_of_store new 1)
      → DigitsComeFirst P (part_of d) (cyclic_numbers d) → (((a : ℕ) → Reaches (depends P.rules) a a → ⊥) → new ≡ old)
      → IsRanked P (formula_of_store new 1)
  store-ranked parts is founded digits unchanged = record {
    divided = d;
    parts = parts;
    formula = ap (λ s. formula_of_store s 1) is;
    completion_first = (few.behind.0, few.behind.1 ∙ ap (λ s. s.hard ++ few.behind.0) before);
    tight = λ h. ap (λ s. formula_of_store s 1) (unchanged h ∙ before);
    digits_first = digits;
    founded = founded;
  }

  pub store-cnf : IsProgram P → IsCnf (formula_of_store new 1)
  store-cnf f = record {
    edges = few.edges ∙ (ap (λ s. s.edges) before ∙ completed-edges P f);
    soft = few.soft ∙ (ap (λ s. s.soft) before ∙ completed-soft P f);
    top = refl;
  }

  pub store-fits : IsProgram P → IsSmall P (formula_of_store old 1) → new.vars < 2 ^ 31 → FitsSize P (formula_of_store new 1)
  store-fits f small numbers =
      let atoms : length P.atoms ≤ (completed P).vars = completed-has_atoms P f in
      let same : old.vars ≡ (completed P).vars = ap (λ s. s.vars) before in
      let grows : old.vars ≤ new.vars = few.grows in
      let vars : old.vars ≤ size P = small.vars in
      let hard : length old.hard ≤ 2 * size P = small.hard in
      let more : new.vars ≤ old.vars + 3 * (digits (size P) * size P) = few.vars in
      let clauses : length new.hard ≤ length old.hard + 30 * (digits (size P) * size P) = few.clauses in
      record { atoms = omega arith; numbers = numbers; vars = omega arith; hard = omega arith; each = few.each }

-- ---- founded sets without edges are stable models

ranked-has_stable : (P : Ground) (F : Clauses) → P.edges ≡ [] → IsRanked P F → HasStable P F
ranked-has_stable P F e r = record {
  stable = λ A m.
      let f : Founded P (atoms_at P.atoms A) = r.founded.founded A m in
      record {
        least_is = f.least_is;
        keeps = f.keeps;
        acyclic = subst (λ edges. Acyclic (joined edges (atoms_at P.atoms A))) (sym e) (Acyclic-no_edges (atoms_at P.atoms A));
      };
  one = r.founded.one;
  onto = λ M s. r.founded.onto M (record { least_is = s.least_is; keeps = s.keeps });
}

-- ---- from the normal program to the given one

keeps-atoms : (P N : Ground) → IsProgram P → IsProgram N → Within (members P.atoms) (members N.atoms) → SameRest P N → KeepsAtoms P N
keeps-atoms P N p n w r = record {
  rise = p.atoms_rise;
  rise_too = n.atoms_rise;
  atoms = w;
  priorities = ap (map (λ level. level.priority)) r.levels;
}

pub cut-is : (P N : Ground) (vars : ℕ) → IsProgram P → IsProgram N → Within (members P.atoms) (members N.atoms)
    → cut_map P.atoms (input_map N N.atoms vars) ≡ input_map N P.atoms vars
cut-is P N vars p n w =
    ap (λ places. record (input_map N P.atoms vars) { atoms = places })
    (cut-places (placed N.atoms) P.atoms N.atoms (λ a. refl) p.atoms_rise n.atoms_rise w)

pub made-faithful : (P N : Ground) (F : Clauses) → IsProgram P → IsProgram N → P.edges ≡ [] → Faithful P N → SameRest P N
    → Within (members P.atoms) (members N.atoms) → IsRanked N F → FaithfulMap P F (input_map N P.atoms F.vars)
made-faithful P N F p n e f r w k =
    subst (FaithfulMap P F) (cut-is P N F.vars p n w)
    (FaithfulMap-compose P N F (input_map N N.atoms F.vars) (keeps-atoms P N p n w r) (λ wcnf. absurd (cnf_is_not wcnf)) f
    (over_atoms-faithful N F (ranked-has_stable N F (r.edges ∙ e) k)))

-- ---- sizes

pub made-fits : (P N : Ground) (F : Clauses) → size N ≤ room P → FitsSize N F → FitsRoom P F
made-fits P N F s f =
    let more : digits (size N) * size N ≤ digits (room P) * room P = mul-le (digits (size N)) (size N) (digits (room P)) (room P) (digits-mono (size N) (room P) s) s in
    let times : room P * (digits (room P) + 1) ≡ digits (room P) * room P + room P * 1 =
    mul-add (room P) (digits (room P)) 1 ∙ ap (λ n. n + room P * 1) (mul_comm (room P) (digits (room P))) in
    let vars : F.vars ≤ size N + 3 * (digits (size N) * size N) = f.vars in
    let hard : length F.hard ≤ 2 * size N + 30 * (digits (size N) * size N) = f.hard in
    record { vars = omega arith; hard = omega arith; each = f.each }
