-- There are variables enough for the rankings of a program whose size is at most 2^24.
use Rattle.std.proofs.Common.{ℕ, ◌+◌, ◌*◌, ◌^◌, ◌≤◌, ◌<◌, length, arith, lit<}
use Rattle.ground_program.specs.Facts.{IsProgram}
use Rattle.ground_program.specs.Ground.{Ground}
use Rattle.rising_numbers.specs.Rising.{place}
use Rattle.ground_program.specs.Size.{size}
use Rattle.components.specs.Divided.{Divided, cyclic_numbers, part_of}
use Rattle.completion.specs.Completion.{completed, with_bodies}
use Rattle.ground_program.specs.Normal.{AreNormal}
use Rattle.completion.proofs.BodyLaws.{rules-below, length-le_size}
use Rattle.level_ranking.specs.private.Counts.{parts_vars}
use Rattle.ground_program.specs.Digits.{digits}
use Rattle.level_ranking.specs.Encoding.{width_of, ranked_atoms, with_digits}
use Rattle.components.specs.Parts.{ArePartsOf}
use Rattle.level_ranking.proofs.CountLaws.{mul-mono}
use Rattle.level_ranking.proofs.NewDigits.{digits_vars}
use Rattle.ground_program.proofs.DigitLaws.{digits-below}
use Rattle.level_ranking.proofs.RankedStore.{made}
use Rattle.level_ranking.proofs.ReadyLaws.{parts-are}
use Rattle.level_ranking.proofs.SourceLaws.{cyclic-rises}
use Rattle.level_ranking.proofs.SizeOfRankings.{few}

few_digits : (n : ℕ) → n ≤ 2 ^ 24 → digits n ≤ 25
few_digits n h = digits-below 25 n (let k : 2 ^ 24 < 2 ^ 25 = lit< tt in omega arith)

pub rules-few : (P : Ground) → length P.rules ≤ size P
rules-few P = let h = length-le_size P.rules in omega arith

module _ (P : Ground) (program : IsProgram P) (normal : AreNormal P.rules) (d : Divided) (p : ArePartsOf P d) (small : size P ≤ 2 ^ 24) where
  pub first-vars : (completed P).vars ≤ size P
  first-vars = let h = rules-below P.atoms P.rules (Rattle.completion.specs.Completion.atoms_only P) in let k = length-le_size P.rules in omega arith

  pub all-vars : (with_digits P (part_of d) (cyclic_numbers d)).vars + parts_vars P (part_of d) (cyclic_numbers d) (cyclic_numbers d) < 2 ^ 31
  all-vars =
      let m : (with_digits P (part_of d) (cyclic_numbers d)).vars ≤ (completed P).vars + digits_vars (place P.atoms) (width_of P (part_of d) (cyclic_numbers d)) (ranked_atoms P (part_of d) (cyclic_numbers d)) =
      (made P program normal (part_of d) (cyclic_numbers d) (parts-are P program d p)).grows.vars in
      let f : parts_vars P (part_of d) (cyclic_numbers d) (cyclic_numbers d) + digits_vars (place P.atoms) (width_of P (part_of d) (cyclic_numbers d)) (ranked_atoms P (part_of d) (cyclic_numbers d)) ≤ 3 * (digits (size P) * size P) =
      (few P program normal (part_of d) (cyclic_numbers d) (cyclic-rises d) (parts-are P program d p)).0 in
      let b : digits (size P) * size P ≤ 25 * size P = mul-mono (digits (size P)) 25 (size P) (few_digits (size P) small) in
      let v : (completed P).vars ≤ size P = first-vars in
      let s : size P ≤ 16777216 = small in
      let r : (with_digits P (part_of d) (cyclic_numbers d)).vars + parts_vars P (part_of d) (cyclic_numbers d) (cyclic_numbers d) < 2147483648 = omega arith in
      r
