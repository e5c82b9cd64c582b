-- The rankings are small.
use Rattle.std.proofs.Common.{◌≡◌, sym, ◌∙◌, ap, subst, ℕ, ◌+◌, ◌*◌, ◌≤◌, true, List, length, ⊎_elim, arith}
use Rattle.std.proofs.lemmas.Bool.{cases_lt}
use Rattle.asp_base.specs.Sets.{members}
use Rattle.ground_program.specs.Facts.{IsProgram}
use Rattle.rising_numbers.specs.Rising.{RisesFrom, place}
use Rattle.ground_program.specs.Ground.{Ground}
use Rattle.ground_program.specs.Size.{size}
use Rattle.clause_store.specs.Additions.{stands_in}
use Rattle.completion.specs.Completion.{completed}
use Rattle.ground_program.specs.Normal.{AreNormal}
use Rattle.completion.proofs.SizeLaws.{completed-stands}
use Rattle.level_ranking.specs.Components.{AreParts}
use Rattle.ground_program.specs.Digits.{digits}
use Rattle.level_ranking.specs.Encoding.{width_of, ranked_atoms, with_digits, with_rankings, part_width}
use Rattle.level_ranking.specs.Ranked.{AddsFew}
use Rattle.clause_store.proofs.AddLaws.{stands-front}
use Rattle.level_ranking.proofs.Grows.{Grows, grows-compose}
use Rattle.level_ranking.proofs.NewDigits.{digits_vars, digits_clauses}
use Rattle.level_ranking.proofs.RankedStore.{made, limits}
use Rattle.ground_program.proofs.DigitLaws.{digits-zero}
use Rattle.level_ranking.proofs.WidthLaws.{some_digit}
use Rattle.level_ranking.proofs.CountLaws.{part-le, vars-bound, clauses-bound}
use Rattle.level_ranking.specs.private.Counts.{parts_vars, parts_clauses}

module _ (P : Ground) (program : IsProgram P) (normal : AreNormal P.rules) (part : ℕ → ℕ) (parts : List ℕ) (rise : RisesFrom 0 parts) (are : AreParts P.rules P.atoms part (members parts)) where
  g : Grows (digits_vars (place P.atoms) (width_of P part parts) (ranked_atoms P part parts) + parts_vars P part parts parts)
      (digits_clauses (place P.atoms) (width_of P part parts) (ranked_atoms P part parts) + parts_clauses P part parts parts) (completed P) (with_rankings P part parts)
  g = grows-compose _ _ _ _ (completed P) (with_digits P part parts) (with_rankings P part parts) (made P program normal part parts are).grows (limits P program normal part parts are).grows

  abbrev d : ℕ
  d = digits (size P)

  pub few : (parts_vars P part parts parts + digits_vars (place P.atoms) (width_of P part parts) (ranked_atoms P part parts) ≤ 3 * (d * size P))
      × (parts_clauses P part parts parts + digits_clauses (place P.atoms) (width_of P part parts) (ranked_atoms P part parts) ≤ 30 * (d * size P))
  few = ⊎_elim
      (λ some. (vars-bound P program part parts rise d (some_digit (size P) some) (part-le P program part parts rise), clauses-bound P program part parts rise d (some_digit (size P) some) (part-le P program part parts rise)))
      (λ none.
      let z : size P ≡ 0 = omega arith in
      let one : (c : ℕ) → part_width P part parts c ≤ 1 = λ c. (let k : part_width P part parts c ≤ digits (size P) = part-le P program part parts rise c in
      let e : digits (size P) ≡ 0 = ap digits z ∙ digits-zero in omega arith) in
      let v : parts_vars P part parts parts + digits_vars (place P.atoms) (width_of P part parts) (ranked_atoms P part parts) ≤ 3 * (1 * size P) = vars-bound P program part parts rise 1 (omega arith) one in
      let c : parts_clauses P part parts parts + digits_clauses (place P.atoms) (width_of P part parts) (ranked_atoms P part parts) ≤ 30 * (1 * size P) = clauses-bound P program part parts rise 1 (omega arith) one in
      (omega arith, omega arith))
      (cases_lt 0 (size P))

  pub rankings-few : AddsFew P (completed P) (with_rankings P part parts)
  rankings-few = record {
    behind = g.behind;
    grows = g.up;
    edges = g.edges;
    soft = g.soft;
    vars =
        let a : (with_rankings P part parts).vars ≤ (completed P).vars + (digits_vars (place P.atoms) (width_of P part parts) (ranked_atoms P part parts) + parts_vars P part parts parts) = g.vars in
        let c : parts_vars P part parts parts + digits_vars (place P.atoms) (width_of P part parts) (ranked_atoms P part parts) ≤ 3 * (d * size P) = few.0 in
        omega arith;
    clauses =
        let a : length (with_rankings P part parts).hard ≤ length (completed P).hard + (digits_clauses (place P.atoms) (width_of P part parts) (ranked_atoms P part parts) + parts_clauses P part parts parts) = g.clauses in
        let c : parts_clauses P part parts parts + digits_clauses (place P.atoms) (width_of P part parts) (ranked_atoms P part parts) ≤ 30 * (d * size P) = few.1 in
        omega arith;
    each = λ v low high. ⊎_elim
        (λ k. g.stand v k high)
        (λ k. subst (λ cs. stands_in v cs ≡ true) (sym g.behind.1) (stands-front v (completed P).hard g.behind.0 (completed-stands P program v low k)))
        (cases_lt (completed P).vars v);
  }
