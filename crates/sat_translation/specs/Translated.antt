-- The form and the size of a translation's formula, and why a program is not translated.
use Rattle.std.specs.Prelude.{◌≡◌, ◌≢◌, ◌<◌, ◌≤◌, ◌+◌, ◌*◌, ⊤, ℕ, ◌^◌, min, true, [], length, Some}
use Rattle.clause_store.specs.Additions.{stands_in}
use Rattle.clause_store.specs.Clauses.{Clauses}
use Rattle.clause_store.specs.Soft.{weights_of}
use Rattle.ground_program.specs.Digits.{digits}
use Rattle.ground_program.specs.Ground.{Ground}
use Rattle.ground_program.specs.Room.{room}
use Rattle.normalize.specs.Kept.{room_limit}
use Rattle.soft_costs.specs.Softening.{too_large_at}
use Rattle.sat_translation.specs.declared.softened.SoftRefusal.{SoftRefusal}
use Rattle.sat_translation.specs.declared.softened.SoftRefusal.TheVariants as soft_refusals
use Rattle.sat_translation.specs.declared.translation.TranslateRefusal.{TranslateRefusal}
use Rattle.sat_translation.specs.declared.translation.TranslateRefusal.TheVariants.{Edges, TooLarge, Memory}

-- hard clauses alone
pub record IsCnf (F : Clauses) : Type 0 where
  pub edges : F.edges ≡ []
  pub soft : F.soft ≡ []
  pub top : F.top ≡ 1

-- hard and soft clauses: the top weight is one more than the weights of these together
pub record IsWcnf (F : Clauses) : Type 0 where
  pub edges : F.edges ≡ []
  pub top : weights_of F.soft + 1 ≡ F.top
  pub below : F.top < 2 ^ 63

-- As large as the program's room and its number of binary digits allow; each variable stands in a
-- clause.
pub record FitsRoom (P : Ground) (F : Clauses) : Type 0 where
  pub vars : F.vars ≤ 3 * (room P * (digits (room P) + 1))
  pub hard : length F.hard ≤ 40 * (room P * (digits (room P) + 1))
  pub each : (v : ℕ) → 0 < v → v ≤ F.vars → stands_in v F.hard ≡ true

-- The program has edges, or its room, which is told up to 2^63, is above the limit, or memory ran
-- out.
abbrev pub RefusedAs : Ground → TranslateRefusal → Type 0
RefusedAs P Edges = P.edges ≢ []
RefusedAs P (TooLarge number) =
    (P.edges ≡ []) × (room_limit < room P) × (number ≡ min (room P) (2 ^ 63))
RefusedAs P Memory = ⊤

-- The same, or the scale of the program's levels passes 63 bits at the level that is told.
abbrev pub SoftRefusedAs : Ground → SoftRefusal → Type 0
SoftRefusedAs P soft_refusals.Edges = P.edges ≢ []
SoftRefusedAs P (soft_refusals.TooLarge number) =
    (P.edges ≡ []) × (room_limit < room P) × (number ≡ min (room P) (2 ^ 63))
SoftRefusedAs P (soft_refusals.SumTooLarge priority) =
    (P.edges ≡ []) × (room P ≤ room_limit) × (too_large_at P.levels ≡ Some priority)
SoftRefusedAs P soft_refusals.Memory = ⊤
