-- There are at most as many pairs as the square of the size.
use Rattle.std.proofs.Common.{◌≡◌, ℕ, ◌+◌, ◌*◌, ◌≤◌, ◌==◌, List, filter, length, arith}
use Rattle.std.specs.List.{sum_by}
use Rattle.ground_program.specs.Facts.{IsProgram}
use Rattle.rising_numbers.specs.Rising.{RisesFrom}
use Rattle.ground_program.specs.Ground.{Ground}
use Rattle.ground_program.specs.Size.{entries, rule_size, size}
use Rattle.ground_program.specs.declared.program.Body.{Body}
use Rattle.ground_program.specs.declared.program.Body.TheVariants.{All, Sum}
use Rattle.ground_program.specs.declared.program.Rule.{Rule}
use Rattle.ground_program.specs.Dependencies.{positives_of_literals, positives_of_body}
use Rattle.tangle_laws.proofs.PartSums.{total, total-le, total-both}
use Rattle.acyc_edges.specs.Encoding.{has_head_in, atoms_in}
use Rattle.ground_program.specs.Normal.{IsNormalHead, IsNormalBody, AreNormal}
use Rattle.acyc_edges.specs.private.Pairs.{rules_in, occurrences_in, pairs_in, pairs}
use Rattle.acyc_edges.proofs.Inside.{each-in, filter-in}
use Rattle.acyc_edges.proofs.SizeLaws.{length-positives, mul-mono, total-times, total-atoms}
use Rattle.acyc_edges.proofs.Totals.{total-sum_by, total-same, total-one, total-part, length-part}

turn : (m n : ℕ) → m * n ≡ n * m
turn m n = grind arith

module _ (P : Ground) (program : IsProgram P) (normal : AreNormal P.rules) (part : ℕ → ℕ) (parts : List ℕ) (rise : RisesFrom 0 parts) where
  abbrev o : ℕ → Rule → ℕ
  o c rule = length (filter (λ b. part b == c) (positives_of_body rule.body))

  occurs : (c : ℕ) (body : Body) → IsNormalBody body → length (filter (λ b. part b == c) (positives_of_body body)) ≤ entries body
  occurs c (All lits) n =
      let x : length (filter (λ b. part b == c) (positives_of_literals lits)) ≤ length (positives_of_literals lits) = length-part (λ b. part b == c) (positives_of_literals lits) in
      let y : length (positives_of_literals lits) ≤ length lits = length-positives lits in
      omega arith
  occurs c (Sum bound items) n = absurd n

  few : (c : ℕ) → length (atoms_in P part parts c) + length (rules_in P part parts c) + occurrences_in P part parts c ≤ size P
  few c =
      let a : length (atoms_in P part parts c) ≤ length P.atoms = length-part (λ x. part x == c) P.atoms in
      let x : total (λ rule. 1 + o c rule) (rules_in P part parts c) ≡ total (λ rule. 1) (rules_in P part parts c) + total (o c) (rules_in P part parts c) = total-both (λ rule. 1) (o c) (rules_in P part parts c) in
      let y : total (λ rule. 1) (rules_in P part parts c) ≡ length (rules_in P part parts c) = total-one (rules_in P part parts c) in
      let z : total (o c) (rules_in P part parts c) ≡ occurrences_in P part parts c = total-sum_by (o c) (rules_in P part parts c) in
      let w : total (λ rule. 1 + o c rule) (rules_in P part parts c) ≤ total rule_size (rules_in P part parts c) = total-le (λ rule. 1 + o c rule) rule_size (rules_in P part parts c)
      (λ rule i.
      let n : IsNormalHead rule.head × IsNormalBody rule.body = each-in (λ r. IsNormalHead r.head × IsNormalBody r.body) P.rules rule normal ((filter-in (λ r. has_head_in (λ b. part b == c) r.head) P.rules rule i).0) in
      let l : length (filter (λ b. part b == c) (positives_of_body rule.body)) ≤ entries rule.body = occurs c rule.body n.1 in
      omega arith) in
      let u : total rule_size (rules_in P part parts c) ≤ total rule_size P.rules = total-part rule_size (λ rule. has_head_in (λ b. part b == c) rule.head) P.rules in
      let v : total rule_size P.rules ≡ sum_by rule_size P.rules = total-sum_by rule_size P.rules in
      omega arith

  pub pairs-most : pairs P part parts ≤ size P * size P
  pairs-most =
      let x : total (pairs_in P part parts) parts ≡ pairs P part parts = total-sum_by (pairs_in P part parts) parts in
      let y : total (pairs_in P part parts) parts ≤ total (λ c. size P * length (atoms_in P part parts c)) parts = total-le (pairs_in P part parts) (λ c. size P * length (atoms_in P part parts c)) parts
      (λ c i.
      let m : length (atoms_in P part parts c) * (length (atoms_in P part parts c) + length (rules_in P part parts c) + occurrences_in P part parts c) ≤ length (atoms_in P part parts c) * size P =
      mul-mono (length (atoms_in P part parts c)) (length (atoms_in P part parts c) + length (rules_in P part parts c) + occurrences_in P part parts c) (size P) (few c) in
      let t : length (atoms_in P part parts c) * size P ≡ size P * length (atoms_in P part parts c) = turn (length (atoms_in P part parts c)) (size P) in
      omega arith) in
      let z : total (λ c. size P * length (atoms_in P part parts c)) parts ≡ size P * total (λ c. length (atoms_in P part parts c)) parts = total-times (size P) (λ c. length (atoms_in P part parts c)) parts in
      let w : total (λ c. total (λ a. 1) (atoms_in P part parts c)) parts ≤ total (λ a. 1) P.atoms = total-atoms P program normal part parts rise 1 in
      let s : total (λ c. total (λ a. 1) (atoms_in P part parts c)) parts ≡ total (λ c. length (atoms_in P part parts c)) parts = total-same (λ c. total (λ a. 1) (atoms_in P part parts c)) (λ c. length (atoms_in P part parts c)) parts (λ c i. total-one (atoms_in P part parts c)) in
      let r : total (λ a. 1) P.atoms ≡ length P.atoms = total-one P.atoms in
      let q : size P * total (λ c. length (atoms_in P part parts c)) parts ≤ size P * size P = mul-mono (size P) (total (λ c. length (atoms_in P part parts c)) parts) (size P) (omega arith) in
      omega arith
