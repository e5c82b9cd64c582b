-- Falling priority as an order of levels.
use Rattle.std.proofs.Common.{Bool, is_lt}
use Rattle.std.specs.Cmp.{IsStrictWeakOrder}
use Rattle.std.specs.Ordering.{int_cmp}
use Rattle.std.proofs.lemmas.Cmp.{int_cmp_total}
use Rattle.std.proofs.lemmas.List.Sorted.{IsStrictWeakOrder-flip, ranks_by}
use Rattle.ground_program.specs.declared.program.Level.{Level}

abbrev pub falling_order : Level → Level → Bool
falling_order x y = is_lt (int_cmp y.priority x.priority)

pub falls_weakly : IsStrictWeakOrder falling_order
falls_weakly = IsStrictWeakOrder-flip (λ (x y : Level). is_lt (int_cmp x.priority y.priority)) (ranks_by int_cmp_total (λ (level : Level). level.priority))
