-- The fields of a literal, from what contracts see.
use Rattle.std.specs.Prelude.{◌≡◌}
use Rattle.std.proofs.Common.{ap}
use Rattle.asp_base.specs.Literal.{integer_of, literal_of, integer_of-literal_of}
use Rattle.asp_base.specs.declared.lit.Lit.TheInside.{Inside}

pub inside_back : (a : Inside) → record { value = integer_of (literal_of a.value) } ≡ a
inside_back a = ap (λ z. record { value = z }) (integer_of-literal_of a.value)
