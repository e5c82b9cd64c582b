-- Of two rising lists, one within the other, the inner one is what it keeps of the outer one.
use Rattle.std.proofs.Common.{◌≡◌, sym, ◌∙◌, ℕ, List, filter}
use Rattle.std.proofs.lemmas.Bool.{and_parts, and_from}
use Rattle.asp_base.specs.Sets.{members, Within}
use Rattle.rising_numbers.specs.Rising.{RisesFrom}
use Rattle.rising_numbers.proofs.RisingLaws.{rises-filter, Ascends-from_rises, same_rising}
use Rattle.ground_program.proofs.Plain.{members-filtered}

pub filter-members : (xs ys : List ℕ) → RisesFrom 0 xs → RisesFrom 0 ys → Within (members xs) (members ys) → filter (members xs) ys ≡ xs
filter-members xs ys r s within =
    same_rising (filter (members xs) ys) xs (Ascends-from_rises 0 _ (rises-filter (members xs) 0 ys s)) (Ascends-from_rises 0 xs r)
    (λ a m. (and_parts _ _ (sym (members-filtered (members xs) ys a) ∙ m)).0)
    (λ a m. members-filtered (members xs) ys a ∙ and_from _ _ m (within a m))
