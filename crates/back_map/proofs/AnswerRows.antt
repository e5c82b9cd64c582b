-- Small answers, read by computation.
use Rattle.std.proofs.Common.{◌≡◌, refl, [], ◌∷◌, codes, Ok}
use Rattle.asp_base.specs.Faults.{fault}
use Rattle.asp_base.specs.Literal.{Pos, Neg}
use Rattle.back_map.specs.Read.{answer_of}
use Rattle.back_map.specs.declared.answer.AnswerKind.TheVariants as kinds
use Rattle.back_map.specs.declared.answer.Status.TheVariants.{Satisfied, Unsatisfiable, Unknown}

values : answer_of (codes "s SATISFIABLE\nv 1 3 0\n") 3 ≡ Ok (record { status = Satisfied; lits = Pos 1 ∷ Pos 3 ∷ [] })
values = refl

optimum : answer_of (codes "c x\no 7\ns OPTIMUM FOUND\nv 1 -2\n") 2 ≡ Ok (record { status = Satisfied; lits = Pos 1 ∷ Neg 2 ∷ [] })
optimum = refl

bare_literals : answer_of (codes "SAT\n1 2 3 0\n") 3 ≡ Ok (record { status = Satisfied; lits = Pos 1 ∷ Pos 2 ∷ Pos 3 ∷ [] })
bare_literals = refl

no_model : answer_of (codes "UNSAT\n") 3 ≡ Ok (record { status = Unsatisfiable; lits = [] })
no_model = refl

unknown : answer_of (codes "s UNKNOWN\n") 3 ≡ Ok (record { status = Unknown; lits = [] })
unknown = refl

both_signs : answer_of (codes "s SATISFIABLE\nv 1 -1 0\n") 3 ≡ fault 2 kinds.BothSigns
both_signs = refl

no_status : answer_of (codes "v 1 0\n") 3 ≡ fault 1 kinds.NoStatus
no_status = refl

out_of_range : answer_of (codes "SAT\n4 0\n") 3 ≡ fault 2 kinds.LiteralOutOfRange
out_of_range = refl

numbers_before_sat : answer_of (codes "1 0\nSAT\n") 3 ≡ fault 1 kinds.BadLine
numbers_before_sat = refl

behind_the_end : answer_of (codes "SAT\n1 0 2\n") 3 ≡ fault 2 kinds.BadLine
behind_the_end = refl
