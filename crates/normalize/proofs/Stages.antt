-- Stages by their parts.
use Rattle.std.proofs.Common.{◌≡◌, ◌∙◌, ap, ℕ, List}
use Rattle.ground_program.specs.Fresh.{Supply}
use Rattle.ground_program.specs.declared.program.Rule.{Rule}
use Rattle.normalize.specs.private.Stage.{Stage}

abbrev pub stage : List Rule → Supply → List (ℕ × ℕ) → Stage
stage rules supply pairs = record { rules = rules; supply = supply; pairs = pairs }

pub stages-same : (r1 r2 : List Rule) (s1 s2 : Supply) (p1 p2 : List (ℕ × ℕ))
    → r1 ≡ r2 → s1 ≡ s2 → p1 ≡ p2 → stage r1 s1 p1 ≡ stage r2 s2 p2
stages-same r1 r2 s1 s2 p1 p2 a b c =
    ap (λ r. stage r s1 p1) a ∙ (ap (λ s. stage r2 s p1) b ∙ ap (λ p. stage r2 s2 p) c)
