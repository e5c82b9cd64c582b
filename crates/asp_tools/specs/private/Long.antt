-- The kind of a text that is too long.
use Rattle.std.specs.Prelude.{Bool, true, false}
use Rattle.asp_tools.specs.declared.outcome.Kind.{Kind}
use Rattle.asp_tools.specs.declared.outcome.Kind.TheVariants.{TextTooLong}

abbrev pub is_long_kind : Kind → Bool
is_long_kind TextTooLong = true
is_long_kind kind = false
