-- What the fields of a program's components stand for.
use Rattle.components.specs.Divided.{Divided}
use Rattle.components.specs.private.Kept.{IsDivided, divided}
use Rattle.components.specs.declared.parts.Parts.TheInside.{Inside}

abbrev pub divided_of : Inside → Divided
divided_of p =
    divided p.atoms p.parts p.sums.weights.items p.sums.terms.items p.sums.odd.items

abbrev pub KeepsDivided : Inside → Type 0
KeepsDivided p =
    IsDivided p.atoms p.parts p.members p.sums.weights.items p.sums.terms.items p.sums.odd.items
